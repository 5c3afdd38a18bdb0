-- An opening that is made again where too many files are open.
use Rattle.std.proofs.Common.{◌≡◌, ℕ, zero, suc, Option, List, subst, arith}
use Rattle.fts_files.specs.declared.files.Way.{Way}
use Rattle.fts_files.specs.Calls.{Call, Answer, Open, Rest, with_call}
use Rattle.fts_files.specs.Script.{Script, Does, LeadsTo, unless_failed, fails}
use Rattle.fts_files.specs.Opening.{unless_too_many, opens_within}
use Rattle.fts_files.proofs.Playing.{does_leads}

-- one opening, with rests left
pub opening_leads : (path : List ℕ) (way : Way) (next : Answer → Script) (rests rest : ℕ) (old new : Option (List Call)) (answer : Answer) → rests ≡ suc rest
    → new ≡ with_call old (Open path way) answer
    → LeadsTo (opens_within path way next rests) old (unless_too_many next (Does Rest (unless_failed (opens_within path way next rest) fails)) answer) new
unfolding opens_within
opening_leads path way next zero rest old new answer more is = absurd (omega arith)
opening_leads path way next (suc rests) rest old new answer more is =
    let same : rests ≡ rest = omega arith in
    subst (λ n. LeadsTo (opens_within path way next (suc rests)) old (unless_too_many next (Does Rest (unless_failed (opens_within path way next n) fails)) answer) new) same
    (does_leads (Open path way) (unless_too_many next (Does Rest (unless_failed (opens_within path way next rests) fails))) old new answer is)

-- the last one
pub last_leads : (path : List ℕ) (way : Way) (next : Answer → Script) (rests : ℕ) (old new : Option (List Call)) (answer : Answer) → rests ≡ 0
    → new ≡ with_call old (Open path way) answer → LeadsTo (opens_within path way next rests) old (next answer) new
unfolding opens_within
last_leads path way next zero old new answer none is = does_leads (Open path way) next old new answer is
last_leads path way next (suc rests) old new answer none is = absurd (omega arith)
