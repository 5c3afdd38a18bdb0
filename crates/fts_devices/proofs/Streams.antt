-- Words of one place more, and what a push that was not refused leaves.
use Rattle.std.proofs.Common.{◌≡◌, ap, ◌∙◌, ℕ, ◌+◌, false, List, [], ◌∷◌, ◌++◌, map, length, Result, Ok, Err, arith}
use Rattle.std.specs.Prelude.{if◌then◌else◌}
use Rattle.std.specs.Result.{is_ok, is_err}
use Rattle.rand_pcg.specs.Lcg.{increment_of, started}
use Rattle.rand_pcg.specs.Pcg.{multiplier_64}
use Rattle.fts_devices.specs.declared.outside.PcgWords.{PcgWords}
use Rattle.fts_devices.specs.Hands.{AreOnStreams}

-- behind words on the streams of their places, words on the stream of the next place
pub on_streams_more : {X : Type 0} (words : X → PcgWords) (moment place : ℕ) (xs : List X) (x : X) → AreOnStreams moment place (map words xs)
    → (words x).random ≡ started 64 multiplier_64 moment (increment_of 64 (place + length xs)) → AreOnStreams moment place (map words (xs ++ x ∷ []))
on_streams_more words moment place [] x on is = (is ∙ ap (λ n. started 64 multiplier_64 moment (increment_of 64 n)) (omega arith), tt)
on_streams_more words moment place (first ∷ others) x on is =
    (on.0, on_streams_more words moment (place + 1) others x on.1 (is ∙ ap (λ n. started 64 multiplier_64 moment (increment_of 64 n)) (omega arith)))

-- a push that was not refused put its value behind the others
pub behind_push : {A B X : Type 0} (pushed : Result A B) (new old : List X) (x : X) → false ≡ is_err pushed
    → new ≡ (if is_ok pushed then old ++ x ∷ [] else old) → new ≡ old ++ x ∷ []
behind_push (Ok done) new old x taken is = is
behind_push (Err failed) new old x taken is = absurd (let e = taken in cc)
