-- Where the bytes of a journal are damaged: they are no journal, or cut, or hold a body that is no entry, or an entry that is refused.
use Rattle.std.specs.Prelude.{◌≡◌, ◌⊎◌, ℕ, ◌+◌, Option, Some, None, List, [], ◌∷◌, length, Result, Ok, Err, All}
use Rattle.fts_tables.specs.Tables.{Tables, empty_tables}
use Rattle.fts_tables.specs.Step.{Outcomes, step}
use Rattle.fts_tables.specs.History.{IsLegal}
use Rattle.fts_tables.specs.declared.commands.Entry.{Entry}
use Rattle.fts_record.specs.Reading.{entry_in}
use Rattle.fts_record.specs.Proper.{IsProper}
use Rattle.fts_journal.specs.Format.{Stands}
use Rattle.fts_journal.specs.Loading.{IsNotJournal, IsCut}
use Rattle.fts_keep.specs.Keeps.{StandsFor}

-- the gate of an entry that was refused; of one that was accepted, what comes of the later ones
abbrev pub fault_behind : ℕ → Outcomes → (Tables → Option ℕ) → Option ℕ
fault_behind gate (Ok done) later = later done.0
fault_behind gate (Err refusal) later = Some gate

-- the place in a body that is no entry, else what comes of its entry
abbrev pub fault_at : Tables → ℕ → Result Entry ℕ → (Tables → Option ℕ) → Option ℕ
fault_at tables gate (Ok entry) later = fault_behind gate (step tables entry.command) later
fault_at tables gate (Err place) later = Some (gate + 5 + place)

-- the offset of the first body that is no entry, or whose entry is refused by the tables before it, where the first gate is at this offset
abbrev pub fault_from : Tables → ℕ → List (List ℕ) → Option ℕ
fault_from tables gate [] = None
fault_from tables gate (body ∷ bodies) = fault_at tables gate (entry_in body) (λ next. fault_from next (gate + 5 + length body) bodies)

-- the same of a whole journal, whose first gate is behind its header
abbrev pub fault_in : List (List ℕ) → Option ℕ
fault_in bodies = fault_from empty_tables 8 bodies

-- the bytes stand for bodies of which one is no entry, or is refused: the first such one has this offset
pub record HasFault (content : List ℕ) (offset : ℕ) : Type 0 where
  pub bodies : List (List ℕ)
  pub stands : Stands content bodies
  pub fault : fault_in bodies ≡ Some offset

-- the bytes are damaged at this offset; of these three one at most can be
abbrev pub IsDamaged : List ℕ → ℕ → Type 0
IsDamaged content offset = (IsNotJournal content × (offset ≡ 0)) ⊎ (IsCut content offset ⊎ HasFault content offset)

-- the bytes aren't damaged: they stand for these entries, each of which is accepted
pub record IsWhole (content : List ℕ) (entries : List Entry) : Type 0 where
  pub stands : StandsFor content entries
  pub proper : All IsProper entries
  pub legal : IsLegal entries

-- a content is damaged at one offset at most, or whole for one list at most, and never both
pub record DamageIsOne (content : List ℕ) : Type 0 where
  pub offset : (one other : ℕ) → IsDamaged content one → IsDamaged content other → one ≡ other
  pub apart : (offset : ℕ) (entries : List Entry) → IsDamaged content offset → IsWhole content entries → ⊥
  pub list : (one other : List Entry) → IsWhole content one → IsWhole content other → one ≡ other
