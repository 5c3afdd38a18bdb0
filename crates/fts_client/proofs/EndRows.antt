-- How tries end, on tries that are written out; and ends that are refused.
use Rattle.std.proofs.Common.{◌≡◌, ℕ, true, false, [], ◌∷◌, Ok, Err, refl, arith}
use Rattle.std.specs.Str.{is_utf8, chars}
use Rattle.json.specs.Json.{value}
use Rattle.serde_json.proofs.OnLiterals.{serde_json_on_literals}
use Rattle.fts_client.specs.Worlds.{Done, Refused, CannotServe, NoAnswer}
use Rattle.fts_client.specs.Tries.{Try, NoLine, NotSent, Sent}
use Rattle.fts_client.specs.Ends.{IsSubmitEnd, IsQueryEnd}
use Rattle.fts_wire.specs.declared.answers.AnswerFault.TheVariants.{EndsInside}
use Rattle.fts_client.specs.declared.ends.SubmitEnd.TheVariants.{Done as SubmitDone, Refused as SubmitRefused, LinkFailed as SubmitLinkFailed, CannotServe as SubmitCannotServe, NoAnswer as SubmitNoAnswer}
use Rattle.fts_client.specs.declared.ends.QueryEnd.TheVariants.{Found, Refused as QueryRefused}

abbrev of_status : ℕ → Try
of_status status = Sent (Ok (record { status = status; body = [] }))

-- a response that was cut, and then a refusal; and the same where the disk failed first
refused_at_last : IsSubmitEnd 3 (Sent (Err EndsInside) ∷ of_status 400 ∷ []) (SubmitRefused 400)
refused_at_last = ((refl, refl), omega arith)

refused_behind_503 : IsSubmitEnd 3 (of_status 503 ∷ of_status 507 ∷ []) (SubmitRefused 507)
refused_behind_503 = ((refl, refl), omega arith)

-- two tries without a line, and then none is left
link_failed : IsSubmitEnd 2 (NoLine ∷ NoLine ∷ []) SubmitLinkFailed
link_failed = ((refl, tt), refl)

-- the last try decides
cannot_serve_at_last : IsSubmitEnd 2 (NoLine ∷ of_status 503 ∷ []) (SubmitCannotServe 503)
cannot_serve_at_last = ((refl, refl), refl)

nothing_said : IsSubmitEnd 1 (of_status 200 ∷ []) SubmitNoAnswer
unfolding serde_json_on_literals is_utf8 chars value
nothing_said = (refl, refl)

not_found : IsQueryEnd 3 (of_status 404 ∷ []) (QueryRefused 404)
not_found = (refl, omega arith)

found : IsQueryEnd 3 (NotSent ∷ of_status 200 ∷ []) Found
found = ((refl, refl), omega arith)

-- refused: a refusal on 503
no_refusal_on_503 : IsSubmitEnd 3 (of_status 503 ∷ []) (SubmitRefused 503) → ⊥
no_refusal_on_503 ends = let clash : CannotServe 503 ≡ Refused 503 = ends.0 in cc

-- no answer where tries are left
no_early_end : IsSubmitEnd 3 (Sent (Err EndsInside) ∷ []) SubmitNoAnswer → ⊥
no_early_end ends = absurd (omega (arith, ends.1))

-- what the first try met in the place of what the last one met
not_the_first : IsSubmitEnd 2 (NoLine ∷ Sent (Err EndsInside) ∷ []) SubmitLinkFailed → ⊥
not_the_first ends = ends.0.1

-- done without an id, on 200 and on 409
no_done_without_id : (job : ℕ) → IsSubmitEnd 1 (of_status 200 ∷ []) (SubmitDone job false) → ⊥
unfolding serde_json_on_literals is_utf8 chars value
no_done_without_id job ends = let clash : NoAnswer ≡ Done job false = ends.0 in cc

no_done_on_409_without_id : (job : ℕ) → IsSubmitEnd 1 (of_status 409 ∷ []) (SubmitDone job true) → ⊥
unfolding serde_json_on_literals is_utf8 chars value
no_done_on_409_without_id job ends = let clash : NoAnswer ≡ Done job true = ends.0 in cc

-- a try behind a refusal
no_try_behind_a_refusal : IsSubmitEnd 2 (of_status 404 ∷ NoLine ∷ []) SubmitLinkFailed → ⊥
no_try_behind_a_refusal ends = let clash : false ≡ true = ends.0.0 in cc

-- no try at all
no_end_without_a_try : IsSubmitEnd 3 [] SubmitLinkFailed → ⊥
no_end_without_a_try ends = ends.0
