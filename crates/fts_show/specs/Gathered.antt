-- Text that waits to be sent: what gathering a text does to what a sink holds, and to what waits.
use Rattle.std.specs.Prelude.{◌≡◌, ℕ, List, ◌++◌, Option, Result, Ok, Err}
use Rattle.fts_wire.specs.Response.{Sends}
use Rattle.fts_wire.specs.declared.outside.SinkFailed.{SinkFailed}

-- of what waited before and a text behind it a first part was sent, and the rest waits
pub record IsGathered (held now : Option (List ℕ)) (before after text : List ℕ) : Type 0 where
  pub sent : List ℕ
  pub parts : before ++ text ≡ sent ++ after
  pub written : Sends {E = SinkFailed} held now sent (Ok tt)

-- what gathering a text does: a first part of what waited and of the text is sent, and the rest waits; or, where a write failed, they were cut short
abbrev pub Gathers : Option (List ℕ) → Option (List ℕ) → List ℕ → List ℕ → List ℕ → Result (Unit {0}) SinkFailed → Type 0
Gathers held now before after text (Ok done) = IsGathered held now before after text
Gathers held now before after text (Err fault) = Sends held now (before ++ text) (Err fault)
