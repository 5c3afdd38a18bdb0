-- What an answer adds: nothing, or one command that is accepted where it stands, and that a request may ask for. For the crates above.
use Rattle.std.proofs.Common.{◌≡◌, ◌⊎◌, inl, inr, ℕ, Bool, true, false, List, [], ◌∷◌, Ok, Err, refl, subst, sym}
use Rattle.std.specs.Prelude.{if◌then◌else◌}
use Rattle.serde_json.specs.Data.{Data}
use Rattle.fts_tables.specs.Tables.{Tables}
use Rattle.fts_tables.specs.Step.{Outcomes, step}
use Rattle.fts_tables.specs.History.{IsAccepted}
use Rattle.fts_tables.specs.declared.commands.Answer.{Answer}
use Rattle.fts_tables.specs.declared.commands.Entry.{Entry}
use Rattle.fts_wire.specs.RequestData.{RequestData}
use Rattle.fts_keep.specs.Applied.{applied_by, entry_by, fits}
use Rattle.fts_keep.specs.declared.fault.KeepFault.TheVariants.{JournalFull}
use Rattle.fts_routes.specs.Replies.{Plan, Replies, Looks, Tries, plan_of, said, said_by, said_to, said_so, Way, AsDefined, WithoutMemory, WithoutDisk}
use Rattle.fts_routes.specs.Planned.{IsAsked}
use Rattle.fts_routes.proofs.Sendable.{IsGoodPlan, planned}

-- nothing, or one command that is accepted where it stands, and that a request may ask for
abbrev pub AddsWell : Tables → List Entry → Type 0
AddsWell tables added = (added ≡ []) ⊎ ((entry : Entry) × ((added ≡ entry ∷ []) × (IsAccepted (step tables entry.command) × IsAsked entry.command)))

-- by whether it fits, and by what its step came to
fitting : (tables : Tables) (shown : Tables → Data) (used : ℕ) (entry : Entry) (done : Tables × Answer) (fit : Bool) → IsAccepted (step tables entry.command)
    → IsAsked entry.command → AddsWell tables (said_by tables shown entry (if fit then Ok done else Err (JournalFull used))).added
fitting tables shown used entry done true accepted asked = inr (entry, (refl, (accepted, asked)))
fitting tables shown used entry done false accepted asked = inl refl

stepping : (tables : Tables) (shown : Tables → Data) (used : ℕ) (entry : Entry) (outcome : Outcomes) → step tables entry.command ≡ outcome → IsAsked entry.command
    → AddsWell tables (said_by tables shown entry (applied_by used entry outcome)).added
stepping tables shown used entry (Ok done) is asked =
    fitting tables shown used entry done (fits used entry) (subst (λ (outcome : Outcomes). IsAccepted outcome) (sym is) tt) asked
stepping tables shown used entry (Err refusal) is asked = inl refl

planning : (tables : Tables) (bodies : List (List ℕ)) (used writer : ℕ) (plan : Plan) → IsGoodPlan plan
    → AddsWell tables (said_to tables bodies used writer plan).added
planning tables bodies used writer (Replies reply) good = inl refl
planning tables bodies used writer (Looks number) good = inl refl
planning tables bodies used writer (Tries command shown) asked =
    stepping tables shown used (entry_by writer command) (step tables command) refl asked

-- whatever is said
pub adds_well : (tables : Tables) (bodies : List (List ℕ)) (used writer : ℕ) (request : RequestData) (now : ℕ) (way : Way)
    → AddsWell tables (said_so way (said tables bodies used writer request now)).added
adds_well tables bodies used writer request now AsDefined = planning tables bodies used writer (plan_of tables now request) (planned tables now request)
adds_well tables bodies used writer request now WithoutMemory = inl refl
adds_well tables bodies used writer request now WithoutDisk = inl refl
