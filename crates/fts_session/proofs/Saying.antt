-- What is said to a request adds nothing, or one entry of a request that is accepted where it stands.
use Rattle.std.proofs.Common.{◌≡◌, ◌⊎◌, inl, inr, ℕ, List, [], ◌∷◌}
use Rattle.fts_tables.specs.Tables.{Tables}
use Rattle.fts_tables.specs.Step.{step}
use Rattle.fts_tables.specs.History.{IsAccepted}
use Rattle.fts_tables.specs.declared.commands.Command.{Command}
use Rattle.fts_tables.specs.declared.commands.Command.TheVariants.{Restart, Submit, CancelJob, CancelFile, SetPriority, Claim, Report, Ban, Unban, Expire}
use Rattle.fts_tables.specs.declared.commands.Entry.{Entry}
use Rattle.fts_wire.specs.RequestData.{RequestData}
use Rattle.fts_workers.specs.Requests.{IsOfRequest}
use Rattle.fts_routes.specs.Replies.{Way, said, said_so}
use Rattle.fts_routes.specs.Planned.{IsAsked}
use Rattle.fts_routes.proofs.Adding.{AddsWell as AddsAsked, adds_well}

-- what is said adds nothing, or one entry of a request that is accepted where it stands
abbrev pub AddsWell : Tables → List Entry → Type 0
AddsWell tables added = (added ≡ []) ⊎ ((entry : Entry) × ((added ≡ entry ∷ []) × (IsAccepted (step tables entry.command) × IsOfRequest entry.command)))

-- what a request may ask for is a command of requests
is_of_request : (command : Command) → IsAsked command → IsOfRequest command
is_of_request (Restart now settings) asked = asked
is_of_request (Claim now word) asked = asked
is_of_request (Report now file attempt outcome) asked = asked
is_of_request (Expire now) asked = asked
is_of_request _ asked = tt

adds : (tables : Tables) (added : List Entry) → AddsAsked tables added → AddsWell tables added
adds tables added (inl none) = inl none
adds tables added (inr one) = inr (one.0, (one.1.0, (one.1.1.0, is_of_request one.0.command one.1.1.1)))

-- whatever is said to a request
pub said_well : (tables : Tables) (bodies : List (List ℕ)) (used writer : ℕ) (request : RequestData) (now : ℕ) (way : Way)
    → AddsWell tables (said_so way (said tables bodies used writer request now)).added
said_well tables bodies used writer request now way =
    adds tables (said_so way (said tables bodies used writer request now)).added (adds_well tables bodies used writer request now way)
