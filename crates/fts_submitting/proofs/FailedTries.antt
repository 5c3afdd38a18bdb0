-- Where the last of some tries was ended by the link, the link's count of faults rose in them.
use Rattle.std.proofs.Common.{◌≡◌, inl, inr, ℕ, ◌≤◌, Bool, true, false, List, [], ◌∷◌, refl, ap, sym, ◌∙◌, subst, arith, true≢false}
use Rattle.std.specs.Prelude.{◌==◌}
use Rattle.fts_tables.specs.Counts.{Rose}
use Rattle.fts_wire.specs.Outside.{Side}
use Rattle.fts_wire.specs.NextAnswers.{AnswerData}
use Rattle.fts_client.specs.Worlds.{Heard}
use Rattle.fts_client.specs.Links.{LinkData}
use Rattle.fts_client.specs.Tries.{Try, IsByLink, AreTried}
use Rattle.fts_client.specs.Ends.{EndsWith, IsSubmitEnd, IsQueryEnd, says_to_submission, says_to_query}
use Rattle.fts_client.specs.declared.ends.SubmitEnd.{SubmitEnd}
use Rattle.fts_client.specs.declared.ends.SubmitEnd.TheVariants as submit_ends
use Rattle.fts_client.specs.declared.ends.QueryEnd.{QueryEnd}
use Rattle.fts_client.specs.declared.ends.QueryEnd.TheVariants as query_ends
use Rattle.fts_submitting.specs.Ends.{client_status, end_of_submission, end_of_query}

-- a count rose, where it rose behind another call
rose_behind : (first old new : ℕ) → first ≤ old → Rose old new → Rose first new
rose_behind first old new keeps (inl less) = inl (omega (arith, keeps, less))
rose_behind first old new keeps (inr end) = inr end

pub link_rose : {L : Type 0} (says : AnswerData → Heard) (read written : Side L) (port : ℕ) (request : List ℕ) (tries : List Try) (old new : LinkData L) (faults_old faults_new : ℕ)
    → AreTried read written port request old new faults_old faults_new tries → EndsWith says IsByLink tries → Rose faults_old faults_new
link_rose says read written port request [] old new faults_old faults_new tried ends = absurd ends
link_rose says read written port request (try ∷ []) old new faults_old faults_new tried ends =
    subst (λ count. Rose faults_old count) (sym tried.3.1) (tried.2.cause ends)
link_rose says read written port request (try ∷ next ∷ tries) old new faults_old faults_new tried ends =
    rose_behind faults_old tried.1 faults_new tried.2.keeps
    (link_rose says read written port request (next ∷ tries) tried.0 new tried.1 faults_new tried.3 ends.1)

-- only a link that failed gives status 16
not_sixteen : (status : ℕ) → (status == 16) ≡ false → status ≡ 16 → ⊥
not_sixteen status differs is = true≢false (sym (ap (λ number. number == 16) is) ∙ differs)

sixteen_submission : (end : SubmitEnd) (whole : Bool) → client_status (end_of_submission end whole) ≡ 16 → end ≡ submit_ends.LinkFailed
sixteen_submission (submit_ends.Done job again) true is = absurd (not_sixteen 0 refl is)
sixteen_submission (submit_ends.Done job again) false is = absurd (not_sixteen 6 refl is)
sixteen_submission (submit_ends.Refused status) whole is = absurd (not_sixteen 15 refl is)
sixteen_submission submit_ends.LinkFailed whole is = refl
sixteen_submission (submit_ends.CannotServe status) whole is = absurd (not_sixteen 18 refl is)
sixteen_submission submit_ends.NoAnswer whole is = absurd (not_sixteen 17 refl is)
sixteen_submission submit_ends.Memory whole is = absurd (not_sixteen 1 refl is)

sixteen_query : (end : QueryEnd) (whole : Bool) → client_status (end_of_query end whole) ≡ 16 → end ≡ query_ends.LinkFailed
sixteen_query query_ends.Found true is = absurd (not_sixteen 0 refl is)
sixteen_query query_ends.Found false is = absurd (not_sixteen 6 refl is)
sixteen_query (query_ends.Refused status) whole is = absurd (not_sixteen 15 refl is)
sixteen_query query_ends.LinkFailed whole is = refl
sixteen_query (query_ends.CannotServe status) whole is = absurd (not_sixteen 18 refl is)
sixteen_query query_ends.NoAnswer whole is = absurd (not_sixteen 17 refl is)
sixteen_query query_ends.Memory whole is = absurd (not_sixteen 1 refl is)

module _ {L : Type 0} (read written : Side L) (port : ℕ) (request : List ℕ) (tries : List Try) (old new : LinkData L) (faults_old faults_new : ℕ)
    (tried : AreTried read written port request old new faults_old faults_new tries) (most : ℕ) where
  pub submission_sixteen : (end : SubmitEnd) (whole : Bool) → IsSubmitEnd most tries end → client_status (end_of_submission end whole) ≡ 16
      → Rose faults_old faults_new
  submission_sixteen end whole ends is =
      let by_link : IsSubmitEnd most tries submit_ends.LinkFailed = subst (λ one. IsSubmitEnd most tries one) (sixteen_submission end whole is) ends in
      link_rose says_to_submission read written port request tries old new faults_old faults_new tried by_link.0

  pub query_sixteen : (end : QueryEnd) (whole : Bool) → IsQueryEnd most tries end → client_status (end_of_query end whole) ≡ 16
      → Rose faults_old faults_new
  query_sixteen end whole ends is =
      let by_link : IsQueryEnd most tries query_ends.LinkFailed = subst (λ one. IsQueryEnd most tries one) (sixteen_query end whole is) ends in
      link_rose says_to_query read written port request tries old new faults_old faults_new tried by_link.0
