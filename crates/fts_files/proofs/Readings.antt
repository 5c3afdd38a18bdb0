-- A read that is made again where it was interrupted.
use Rattle.std.proofs.Common.{◌≡◌, ℕ, zero, suc, Option, List, refl, subst, arith}
use Rattle.fts_files.specs.Calls.{Call, Answer, ReadAt, with_call}
use Rattle.fts_files.specs.Script.{Script, LeadsTo}
use Rattle.fts_files.specs.Reading.{reads_once, by_read}
use Rattle.fts_files.proofs.Playing.{does_leads}

-- one of so many tries
pub try_leads : (file offset wanted : ℕ) (next : List ℕ → Script) (times rest : ℕ) (old new : Option (List Call)) (answer : Answer) → times ≡ suc rest
    → new ≡ with_call old (ReadAt file offset wanted) answer
    → LeadsTo (reads_once file offset wanted next times) old (by_read next (reads_once file offset wanted next rest) answer) new
unfolding reads_once
try_leads file offset wanted next zero rest old new answer more is = absurd (omega arith)
try_leads file offset wanted next (suc times) rest old new answer more is =
    let same : times ≡ rest = omega arith in
    subst (λ n. LeadsTo (reads_once file offset wanted next (suc times)) old (by_read next (reads_once file offset wanted next n) answer) new) same
    (does_leads (ReadAt file offset wanted) (by_read next (reads_once file offset wanted next times)) old new answer is)

-- no more tries
pub no_try : (file offset wanted : ℕ) (next : List ℕ → Script) (times : ℕ) → times ≡ 0 → reads_once file offset wanted next times ≡ reads_once file offset wanted next 0
no_try file offset wanted next zero is = refl
no_try file offset wanted next (suc times) is = absurd (omega arith)
