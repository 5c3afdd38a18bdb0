-- How the requests of an input stand in its bytes, and what its end says of them and of the bytes behind them.
use Rattle.std.specs.Prelude.{◌≡◌, ℕ, ◌<◌, ◌≤◌, true, false, List, [], ◌∷◌, length}
use Rattle.fts_wire.specs.RequestData.{RequestData}
use Rattle.fts_wire.specs.Requests.{Closed as NextClosed, EndsInside as NextInside, Refuses, next_of, AreRequests}
use Rattle.fts_laws.specs.Inputs.{Input, InputEnd, Closed, EndsInside, Refused, SaysClose, Many}

-- none of these requests says close
abbrev pub GoOn : List RequestData → Type 0
GoOn [] = Unit {0}
GoOn (request ∷ requests) = (request.close ≡ false) × GoOn requests

-- the last of these requests says close, and no other
abbrev pub LastCloses : List RequestData → Type 0
LastCloses [] = ⊥
LastCloses (request ∷ []) = request.close ≡ true
LastCloses (request ∷ next ∷ requests) = (request.close ≡ false) × LastCloses (next ∷ requests)

-- behind these requests one more is looked for: none says close, and they are fewer than are read
abbrev pub LooksFurther : ℕ → List RequestData → Type 0
LooksFurther most requests = GoOn requests × (length requests < most)

-- an end behind these requests, with these bytes left, where at most so many requests are read
abbrev pub EndsBehind : ℕ → List RequestData → List ℕ → InputEnd → Type 0
EndsBehind most requests rest Closed = LooksFurther most requests × (next_of rest ≡ NextClosed)
EndsBehind most requests rest EndsInside = LooksFurther most requests × (next_of rest ≡ NextInside)
EndsBehind most requests rest (Refused fault) = LooksFurther most requests × (next_of rest ≡ Refuses fault)
EndsBehind most requests rest SaysClose = LastCloses requests × (length requests ≤ most)
EndsBehind most requests rest Many = GoOn requests × (length requests ≡ most)

-- bytes are these requests one after another, and then a rest, with this end
pub record Stands (most : ℕ) (bytes : List ℕ) (input : Input) : Type 0 where
  pub rest : List ℕ
  pub requests : AreRequests bytes input.requests rest
  pub ends : EndsBehind most input.requests rest input.end
