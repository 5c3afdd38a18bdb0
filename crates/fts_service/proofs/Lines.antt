-- The loop over the requests of a line, which is read and written: reading leaves what was written, and writing leaves what is to be read.
use Rattle.std.proofs.Common.{◌≡◌, inl, inr, refl, ap, sym, ◌∙◌, subst, ℕ, ◌+◌, ◌<◌, ◌≤◌, true, false, List, [], Option, Ok, Err, Result, arith}
use Rattle.fts_tables.specs.Counts.{Rose}
use Rattle.fts_tables.specs.declared.commands.Entry.{Entry}
use Rattle.fts_tables.specs.declared.limits.TheConstants.{MAX_REQUESTS}
use Rattle.fts_turnstile.specs.Passes.{PassView, IsSame}
use Rattle.fts_wire.specs.Outside.{Side, Beside, IsLine}
use Rattle.fts_wire.specs.RoomData.{RoomData}
use Rattle.fts_wire.specs.Response.{Sends}
use Rattle.fts_wire.specs.declared.fault.WireFault.{WireFault}
use Rattle.fts_wire.specs.declared.fault.WireFault.TheVariants.{EndsInside, SourceFailed}
use Rattle.fts_wire.specs.declared.outside.SinkFailed.{SinkFailed}
use Rattle.fts_wire.specs.declared.response.Reply.{Reply}
use Rattle.fts_session.specs.Connections.{Reading, reading_of, Loads, IsRefused, response_to}
use Rattle.fts_service.specs.Lanes.{Standing, AnswersInTurn, Stays, IsLineServed}
use Rattle.fts_session.specs.declared.ends.LineEnd.{LineEnd}
use Rattle.fts_session.specs.declared.ends.LineEnd.TheVariants as line_ends
use Rattle.fts_session.proofs.Turns.{InProgress, begun, turn, cut, closed, closed_by, ended_inside, read_failed, many, refused}

-- the same pass, and the same again
pub same_still : (one two three : PassView Entry) → IsSame one two → IsSame two three → IsSame one three
same_still one two three first second = (second.0 ∙ first.0, second.1 ∙ first.1, second.2 ∙ first.2, second.3 ∙ first.3, second.4 ∙ first.4, second.5 ∙ first.5)

-- a count that rose, from an earlier one
pub rose_from : (first count later : ℕ) → first ≤ count → Rose count later → Rose first later
rose_from first count later few (inl less) = inl (omega (arith, few, less))
rose_from first count later few (inr full) = inr full

module _ {L : Type 0} (read written : Side L) where
  -- how far a line was read
  abbrev pub reading_on : L → Reading
  reading_on line = reading_of (read.bytes line) (read.reads line)

  module _ (start : Standing) (line : L) where
    -- so many requests of the line were answered
    abbrev pub SoFar : ℕ → List ℕ → L → Standing → Type 0
    SoFar n behind here at = InProgress AnswersInTurn Stays [] start (reading_on line) (written.bytes line) n behind (reading_on here) (written.bytes here) at

    -- the line was served, up to this end
    abbrev pub Served : LineEnd → L → Standing → Type 0
    Served end here at = IsLineServed start at (reading_on line) (reading_on here) (written.bytes line) (written.bytes here) end

module _ {L : Type 0} (read written : Side L) (law : IsLine read written) where
  -- a read leaves what was written, and the count of failed writes
  pub written_stays : (before after : L) → read.beside after ≡ read.beside before → written.bytes after ≡ written.bytes before
  written_stays before after alone = ap (λ (b : Beside). b.bytes) (sym (law.as_source after) ∙ alone ∙ law.as_source before)

  pub write_faults_stay : (before after : L) → read.beside after ≡ read.beside before → written.faults after ≡ written.faults before
  write_faults_stay before after alone = ap (λ (b : Beside). b.faults) (sym (law.as_source after) ∙ alone ∙ law.as_source before)

  -- a write leaves how far the line was read, and the count of failed reads
  pub reading_stays : (before after : L) → written.beside after ≡ written.beside before → reading_on read written after ≡ reading_on read written before
  reading_stays before after alone = ap (λ (b : Beside). reading_of b.bytes b.reads) (sym (law.as_sink after) ∙ alone ∙ law.as_sink before)

  pub read_faults_stay : (before after : L) → written.beside after ≡ written.beside before → read.faults after ≡ read.faults before
  read_faults_stay before after alone = ap (λ (b : Beside). b.faults) (sym (law.as_sink after) ∙ alone ∙ law.as_sink before)

  module _ (start : Standing) (line : L) where
    -- none was answered yet, and nothing is kept
    pub nothing_yet : (kept : List ℕ) → kept ≡ [] → SoFar read written start line 0 kept line start
    nothing_yet kept none = subst (λ (k : List ℕ). SoFar read written start line 0 k line start) (sym none)
        (begun AnswersInTurn Stays [] start (reading_on read written line) (written.bytes line) start refl)

    module _ (n : ℕ) (behind : List ℕ) (here : L) (at : Standing) (so_far : SoFar read written start line n behind here at) where
      -- as many were answered as there may be
      pub ends_by_many : n ≡ MAX_REQUESTS → Served read written start line line_ends.Many here at
      ends_by_many all = many AnswersInTurn Stays [] start (reading_on read written line) (written.bytes line) n behind (reading_on read written here) (written.bytes here) at so_far all

      module _ (loaded : L) (alone : read.beside loaded ≡ read.beside here) (room : RoomData) (few : n < MAX_REQUESTS) where
        -- one load left what was written
        held_on : written.bytes here ≡ written.bytes loaded
        held_on = sym (written_stays here loaded alone)

        -- an end that leaves what was written
        kept_held : (end : LineEnd) → IsLineServed start at (reading_on read written line) (reading_on read written loaded) (written.bytes line) (written.bytes here) end → Served read written start line end loaded at
        kept_held end served = subst (λ (h : Option (List ℕ)). IsLineServed start at (reading_on read written line) (reading_on read written loaded) (written.bytes line) h end) held_on served

        pub ends_closed : Loads behind (reading_on read written here) (reading_on read written loaded) room (Ok false) → Served read written start line line_ends.Closed loaded at
        ends_closed load = kept_held line_ends.Closed
            (closed AnswersInTurn Stays [] start (reading_on read written line) (written.bytes line) n behind (reading_on read written here) (written.bytes here) at so_far (reading_on read written loaded) room few load)

        pub ends_inside : Loads behind (reading_on read written here) (reading_on read written loaded) room (Err EndsInside) → Served read written start line line_ends.EndsInside loaded at
        ends_inside load = kept_held line_ends.EndsInside
            (ended_inside AnswersInTurn Stays [] start (reading_on read written line) (written.bytes line) n behind (reading_on read written here) (written.bytes here) at so_far (reading_on read written loaded) room few load)

        pub ends_by_read : Loads behind (reading_on read written here) (reading_on read written loaded) room (Err SourceFailed) → Served read written start line line_ends.SourceFailed loaded at
        ends_by_read load = kept_held line_ends.SourceFailed
            (read_failed AnswersInTurn Stays [] start (reading_on read written line) (written.bytes line) n behind (reading_on read written here) (written.bytes here) at so_far (reading_on read written loaded) room few load)

        module _ (last : L) (beside : written.beside last ≡ written.beside loaded) where
          -- one write left how far the line was read
          read_on : reading_on read written loaded ≡ reading_on read written last
          read_on = sym (reading_stays loaded last beside)

          kept_read : (end : LineEnd) (next : Standing) → IsLineServed start next (reading_on read written line) (reading_on read written loaded) (written.bytes line) (written.bytes last) end → Served read written start line end last next
          kept_read end next served = subst (λ (r : Reading). IsLineServed start next (reading_on read written line) r (written.bytes line) (written.bytes last) end) read_on served

          -- what came was refused
          pub ends_refused : (fault : WireFault) (end : LineEnd) → Loads behind (reading_on read written here) (reading_on read written loaded) room (Err fault)
              → IsRefused (written.bytes loaded) (written.bytes last) fault end → Served read written start line end last at
          ends_refused fault end load is = kept_read end at
              (refused AnswersInTurn Stays [] start (reading_on read written line) (written.bytes line) n behind (reading_on read written here) (written.bytes here) at so_far
              (reading_on read written loaded) (written.bytes last) room fault end few load
              (subst (λ (h : Option (List ℕ)). IsRefused h (written.bytes last) fault end) (sym held_on) is))

          module _ (reply : Reply) (next : Standing) (load : Loads behind (reading_on read written here) (reading_on read written loaded) room (Ok true))
              (answers : AnswersInTurn at room.request reply next) where
            -- its response
            abbrev pub response : List ℕ
            response = response_to n (record { request = room.request; reply = reply })

            sent_on : (result : Result (Unit {0}) SinkFailed) → Sends (written.bytes loaded) (written.bytes last) response result → Sends (written.bytes here) (written.bytes last) response result
            sent_on result sent = subst (λ (h : Option (List ℕ)). Sends h (written.bytes last) response result) (sym held_on) sent

            -- one request more; the connection goes on
            pub one_more : Sends {E = SinkFailed} (written.bytes loaded) (written.bytes last) response (Ok tt) → room.request.close ≡ false → SoFar read written start line (n + 1) room.kept last next
            one_more sent goes = subst (λ (r : Reading). InProgress AnswersInTurn Stays [] start (reading_on read written line) (written.bytes line) (n + 1) room.kept r (written.bytes last) next) read_on
                (turn AnswersInTurn Stays [] start (reading_on read written line) (written.bytes line) n behind (reading_on read written here) (written.bytes here) at so_far
                (reading_on read written loaded) (written.bytes last) room reply next next load answers refl (sent_on (Ok tt) sent) goes)

            -- one that says close
            pub ends_by_close : Sends {E = SinkFailed} (written.bytes loaded) (written.bytes last) response (Ok tt) → room.request.close ≡ true → Served read written start line line_ends.Closed last next
            ends_by_close sent closes = kept_read line_ends.Closed next
                (closed_by AnswersInTurn Stays [] start (reading_on read written line) (written.bytes line) n behind (reading_on read written here) (written.bytes here) at so_far
                (reading_on read written loaded) (written.bytes last) room reply next next few load answers refl (sent_on (Ok tt) sent) closes)

            -- its response was cut short
            pub ends_cut : (e : SinkFailed) → Sends (written.bytes loaded) (written.bytes last) response (Err e) → Served read written start line line_ends.SinkFailed last next
            ends_cut e sent = kept_read line_ends.SinkFailed next
                (cut AnswersInTurn Stays [] start (reading_on read written line) (written.bytes line) n behind (reading_on read written here) (written.bytes here) at so_far
                (reading_on read written loaded) (written.bytes last) room reply next e few load answers (sent_on (Err e) sent))
