-- A line: one load, and what follows of what it found.
use Rattle.std.proofs.Common.{◌≡◌, refl, sym, subst, ℕ, Bool, List, [], Option, Result, Err}
use Rattle.fts_disk.specs.Disk.{DiskState}
use Rattle.fts_wire.specs.Outside.{Side, IsLine}
use Rattle.fts_wire.specs.RequestData.{RequestData}
use Rattle.fts_wire.specs.RoomData.{RoomData}
use Rattle.fts_wire.specs.Answered.{IsLoaded}
use Rattle.fts_wire.specs.declared.fault.WireFault.{WireFault}
use Rattle.fts_wire.specs.declared.fault.WireFault.TheVariants.{BadHead, HeadTooLarge, BadLength, Chunked, BodyTooLarge, ForeignOrigin, EndsInside, SourceFailed}
use Rattle.fts_panel.specs.declared.asked.Asked.{Asked}
use Rattle.fts_panel.specs.Responses.{asked_by, response_for, Says, IsRefused}
use Rattle.fts_panel.specs.Lines.{Seen, LooksFor, IsAnswered, Follows, IsLineServed, line_at}
use Rattle.fts_panel.proofs.Sides.{written_stays, write_faults_stay, left_stays, reads_stay}

-- a request was answered, by what it asks for
pub answered_for : {D : Type 0} (state : D → DiskState) (faults : D → ℕ) (before after : Seen D) (request : RequestData) (held now : Option (List ℕ)) (old new : ℕ)
    (asked : Asked) (moment : ℕ) → asked ≡ asked_by request → LooksFor state faults asked moment before after
    → Says held now old new (response_for asked request moment after.view) → IsAnswered state faults before after request held now old new
answered_for state faults before after request held now old new asked moment is looks says = record {
  moment = moment;
  looks = subst (λ (a : Asked). LooksFor state faults a moment before after) is looks;
  says = subst (λ (a : Asked). Says held now old new (response_for a request moment after.view)) is says;
}

-- what came was refused: its fault is answered
pub refused : {D : Type 0} (state : D → DiskState) (faults : D → ℕ) (view : Seen D) (room : RoomData) (fault : WireFault) (held now : Option (List ℕ)) (old new : ℕ)
    → IsRefused fault held now old new → Follows state faults room (Err fault) view view held now old new
refused state faults view room EndsInside held now old new is = absurd (let none = is.has_status in cc)
refused state faults view room SourceFailed held now old new is = absurd (let none = is.has_status in cc)
refused state faults view room _ held now old new is = (refl, is)

module _ {D L : Type 0} (state : D → DiskState) (faults : D → ℕ) (read written : Side L) (law : IsLine read written) (line : L) where
  -- one load from an empty room, and what follows of it without another one
  pub served_by : (kept : List ℕ) → kept ≡ [] → (loaded last : L) → read.beside loaded ≡ read.beside line → written.beside last ≡ written.beside loaded
      → (room : RoomData) (found : Result Bool WireFault) (before after : Seen D)
      → IsLoaded kept (read.bytes line) (read.bytes loaded) (read.reads line) (read.reads loaded) room found
      → Follows state faults room found before after (written.bytes loaded) (written.bytes last) (written.faults loaded) (written.faults last)
      → IsLineServed state faults before after (line_at read written line) (line_at read written last)
  served_by kept none loaded last alone beside room found before after loads follows = record {
    room = room;
    found = found;
    loads = subst (λ (k : List ℕ). IsLoaded k (read.bytes line) (read.bytes last) (read.reads line) (read.reads last) room found) none
        (subst (λ (n : ℕ). IsLoaded kept (read.bytes line) (read.bytes last) (read.reads line) n room found) (sym (reads_stay read written law loaded last beside))
        (subst (λ (b : Option (List ℕ)). IsLoaded kept (read.bytes line) b (read.reads line) (read.reads loaded) room found)
        (sym (left_stays read written law loaded last beside)) loads));
    follows = subst (λ (h : Option (List ℕ)). Follows state faults room found before after h (written.bytes last) (written.faults line) (written.faults last))
        (written_stays read written law line loaded alone)
        (subst (λ (n : ℕ). Follows state faults room found before after (written.bytes loaded) (written.bytes last) n (written.faults last))
        (write_faults_stay read written law line loaded alone) follows);
  }
