-- Lists of entries that are cut and joined, what holds of each report in them, and files among others.
use Rattle.std.proofs.Common.{◌≡◌, ◌≢◌, refl, sym, ap, ◌∙◌, subst, inl, inr, ⊎_elim, ℕ, ◌≤◌, Bool, true, false, cond, List, [], ◌∷◌, ◌++◌, append-nil, append_assoc, arith, eq-eqb}
use Rattle.std.specs.Prelude.{◌⊎◌, ◌==◌, not, count_by}
use Rattle.std.proofs.lemmas.Bool.{eqb-true}
use Rattle.std.proofs.lemmas.List.Sums.{sum_by-cons}
use Rattle.fts_tables.specs.Tables.{Tables, empty_tables}
use Rattle.fts_tables.specs.Step.{step}
use Rattle.fts_tables.specs.History.{IsAccepted, IsLegal, IsLegalFrom, tables_after, tables_from, tables_of, without}
use Rattle.fts_tables.specs.declared.rows.Outcome.{Outcome}
use Rattle.fts_tables.specs.declared.commands.Entry.{Entry}
use Rattle.fts_tables.specs.declared.commands.Command.{Command}
use Rattle.fts_tables.specs.declared.commands.Command.TheVariants.{Claim, Report, Expire}
use Rattle.fts_turnstile.specs.History.{Among}
use Rattle.fts_keep.specs.Applied.{entry_by}
use Rattle.fts_shop.specs.Looking.{NoneOf}
use Rattle.fts_ledger.specs.Reports.{AddsWork, EachReport}

-- an entry that stands in two lists, one behind the other, stands in the first
abbrev pub InFirst : List Entry → List Entry → Entry → Type 0
InFirst first earlier entry = (more : List Entry) × (first ≡ earlier ++ entry ∷ more)

-- or in the second
abbrev pub InSecond : List Entry → List Entry → List Entry → Entry → List Entry → Type 0
InSecond first second earlier entry later = (more : List Entry) × ((earlier ≡ first ++ more) × (second ≡ more ++ entry ∷ later))

pub split_append : (first second earlier : List Entry) (entry : Entry) (later : List Entry) → first ++ second ≡ earlier ++ entry ∷ later
    → InFirst first earlier entry ⊎ InSecond first second earlier entry later
split_append [] second earlier entry later is = inr (earlier, (refl, is))
split_append (one ∷ first) second [] entry later is =
    let head : one ≡ entry = cc in
    inl (first, ap (λ (e : Entry). e ∷ first) head)
split_append (one ∷ first) second (other ∷ earlier) entry later is =
    let head : one ≡ other = cc in
    let tail : first ++ second ≡ earlier ++ entry ∷ later = cc in
    ⊎_elim
    (λ there. inl (there.0, (λ i. head i ∷ there.1 i)))
    (λ there. inr (there.0, ((λ i. sym head i ∷ there.1.0 i), there.1.1)))
    (split_append first second earlier entry later tail)

-- no entry stands in an empty list
pub none_split : (earlier : List Entry) (entry : Entry) (later : List Entry) → ◌≡◌ {A = List Entry} [] (earlier ++ entry ∷ later) → ⊥
none_split [] entry later is = absurd cc
none_split (one ∷ earlier) entry later is = absurd cc

-- and in a list of one that one does
pub one_split : (one : Entry) (earlier : List Entry) (entry : Entry) (later : List Entry) → one ∷ [] ≡ earlier ++ entry ∷ later
    → (one ≡ entry) × (earlier ≡ [])
one_split one [] entry later is = let head : one ≡ entry = cc in (head, refl)
one_split one (other ∷ earlier) entry later is =
    let tail : ◌≡◌ {A = List Entry} [] (earlier ++ entry ∷ later) = cc in
    absurd (none_split earlier entry later tail)

-- one of entries of which none is a writer's isn't
none_in : (writer : ℕ) (earlier : List Entry) (entry : Entry) (later : List Entry) → NoneOf writer (earlier ++ entry ∷ later) → entry.writer ≢ writer
none_in writer [] entry later none = none.0
none_in writer (one ∷ earlier) entry later none = none_in writer earlier entry later none.1

pub none_at : (writer : ℕ) (entries earlier : List Entry) (entry : Entry) (later : List Entry) → entries ≡ earlier ++ entry ∷ later
    → NoneOf writer entries → entry.writer ≢ writer
none_at writer entries earlier entry later is none = none_in writer earlier entry later (subst (NoneOf writer) is none)

-- what holds of no entry and passes on from entry to entry holds of all
walk_from : (P : List Entry → Type 0) (whole : List Entry)
    → ((earlier later : List Entry) (entry : Entry) → whole ≡ earlier ++ entry ∷ later → P earlier → P (earlier ++ entry ∷ []))
    → (gone rest : List Entry) → whole ≡ gone ++ rest → P gone → P whole
walk_from P whole on gone [] is holds = subst P (sym (is ∙ append-nil gone)) holds
walk_from P whole on gone (entry ∷ rest) is holds =
    walk_from P whole on (gone ++ entry ∷ []) rest (is ∙ sym (append_assoc gone (entry ∷ []) rest)) (on gone rest entry is holds)

pub walk : (P : List Entry → Type 0) (whole : List Entry) → P []
    → ((earlier later : List Entry) (entry : Entry) → whole ≡ earlier ++ entry ∷ later → P earlier → P (earlier ++ entry ∷ [])) → P whole
walk P whole start on = walk_from P whole on [] whole refl start

-- what holds of each report of two lists
pub each_append : (writer : ℕ) (first second : List Entry) (Holds : List Entry → ℕ → Outcome → Type 0) → EachReport writer first Holds
    → EachReport writer second (λ earlier. Holds (first ++ earlier)) → EachReport writer (first ++ second) Holds
each_append writer first second Holds one two earlier later now file attempt outcome is = ⊎_elim
    (λ there. one earlier there.0 now file attempt outcome there.1)
    (λ there. subst (λ list. Holds list file outcome) (sym there.1.0) (two there.0 later now file attempt outcome there.1.1))
    (split_append first second earlier (entry_by writer (Report now file attempt outcome)) later is)

-- it holds where none is the writer's
pub each_none : (writer : ℕ) (entries : List Entry) (Holds : List Entry → ℕ → Outcome → Type 0) → NoneOf writer entries → EachReport writer entries Holds
each_none writer entries Holds none earlier later now file attempt outcome is =
    absurd (none_at writer entries earlier (entry_by writer (Report now file attempt outcome)) later is none refl)

-- a claim is no report, and no more is an expiry
claim_unlike : (now word at file attempt : ℕ) (outcome : Outcome) → ◌≡◌ {A = Command} (Claim now word) (Report at file attempt outcome) → ⊥
claim_unlike now word at file attempt outcome is = absurd cc

expiry_unlike : (now at file attempt : ℕ) (outcome : Outcome) → ◌≡◌ {A = Command} (Expire now) (Report at file attempt outcome) → ⊥
expiry_unlike now at file attempt outcome is = absurd cc

-- it holds of an entry that is none
each_unlike : (writer : ℕ) (command : Command) (Holds : List Entry → ℕ → Outcome → Type 0)
    → ((at file attempt : ℕ) (outcome : Outcome) → command ≡ Report at file attempt outcome → ⊥) → EachReport writer (entry_by writer command ∷ []) Holds
each_unlike writer command Holds unlike earlier later at file attempt outcome is =
    let same = (one_split (entry_by writer command) earlier (entry_by writer (Report at file attempt outcome)) later is).0 in
    absurd (unlike at file attempt outcome (ap (λ (e : Entry). e.command) same))

pub each_claim : (writer now word : ℕ) (Holds : List Entry → ℕ → Outcome → Type 0) → EachReport writer (entry_by writer (Claim now word) ∷ []) Holds
each_claim writer now word Holds = each_unlike writer (Claim now word) Holds (claim_unlike now word)

pub each_expiry : (writer now : ℕ) (Holds : List Entry → ℕ → Outcome → Type 0) → EachReport writer (entry_by writer (Expire now) ∷ []) Holds
each_expiry writer now Holds = each_unlike writer (Expire now) Holds (expiry_unlike now)

-- and of one report
report_alike : (now file attempt at other again : ℕ) (outcome seen : Outcome)
    → ◌≡◌ {A = Command} (Report now file attempt outcome) (Report at other again seen) → (file ≡ other) × (outcome ≡ seen)
report_alike now file attempt at other again outcome seen is = let a : file ≡ other = cc in let b : outcome ≡ seen = cc in (a, b)

pub each_one : (writer now file attempt : ℕ) (outcome : Outcome) (Holds : List Entry → ℕ → Outcome → Type 0) → Holds [] file outcome
    → EachReport writer (entry_by writer (Report now file attempt outcome) ∷ []) Holds
each_one writer now file attempt outcome Holds holds earlier later at other again seen is =
    let same = one_split (entry_by writer (Report now file attempt outcome)) earlier (entry_by writer (Report at other again seen)) later is in
    let alike = report_alike now file attempt at other again outcome seen (ap (λ (e : Entry). e.command) same.0) in
    subst (λ list. Holds list other seen) (sym same.1)
    (subst (λ f. Holds [] f seen) alike.0 (subst (λ o. Holds [] file o) alike.1 holds))

-- what a writer adds in two lists
pub work_append : (writer : ℕ) (first second : List Entry) → AddsWork writer first → AddsWork writer second → AddsWork writer (first ++ second)
work_append writer [] second one two = two
work_append writer (entry ∷ first) second one two = (one.0, work_append writer first second one.1 two)

-- and in one of others
pub work_none : (writer : ℕ) (entries : List Entry) → NoneOf writer entries → AddsWork writer entries
work_none writer [] none = tt
work_none writer (entry ∷ entries) none = ((λ is. absurd (none.0 is)), work_none writer entries none.1)

-- the last entry of a legal list was accepted
accepted_from : (tables : Tables) (entries : List Entry) (entry : Entry) → IsLegalFrom tables (entries ++ entry ∷ [])
    → IsAccepted (step (tables_from tables entries) entry.command)
accepted_from tables [] entry legal = legal.0
accepted_from tables (first ∷ entries) entry legal = accepted_from (tables_after tables (step tables first.command)) entries entry legal.1

pub accepted_last : (entries : List Entry) (entry : Entry) → IsLegal (entries ++ entry ∷ []) → IsAccepted (step (tables_of entries) entry.command)
accepted_last entries entry legal = accepted_from empty_tables entries entry legal

-- no test has two answers
pub no_test : (test : Bool) → test ≡ true → test ≡ false → ⊥
no_test test holds fails = let clash : true ≡ false = sym holds ∙ fails in absurd cc

-- a file among others but one
pub among_without : (file one : ℕ) (files : List ℕ) → Among file (without one files) → Among file files × (file ≢ one)
among_without file one [] among = absurd among
among_without file one (first ∷ files) among = by_head (among_without file one files) (first == one) refl among
  where
    by_head : (Among file (without one files) → Among file files × (file ≢ one)) → (same : Bool) → (first == one) ≡ same
        → Among file (cond (not same) (first ∷ without one files) (without one files)) → Among file (first ∷ files) × (file ≢ one)
    by_head behind true is there = let found = behind there in (inr found.0, found.1)
    by_head behind false is (inl here) = (inl here, λ same. no_test (first == one) (eq-eqb first one (sym here ∙ same)) is)
    by_head behind false is (inr there) = let found = behind there in (inr found.0, found.1)

-- it is still among them
pub among_still : (file one : ℕ) (files : List ℕ) → Among file files → file ≢ one → Among file (without one files)
among_still file one [] among other = absurd among
among_still file one (first ∷ files) among other = by_head (λ there. among_still file one files there other) (first == one) refl among
  where
    by_head : (Among file files → Among file (without one files)) → (same : Bool) → (first == one) ≡ same → Among file (first ∷ files)
        → Among file (cond (not same) (first ∷ without one files) (without one files))
    by_head behind true is (inl here) = absurd (other (here ∙ eqb-true first one is))
    by_head behind true is (inr there) = behind there
    by_head behind false is (inl here) = inl here
    by_head behind false is (inr there) = inr (behind there)

-- a file among others, with one behind them
pub among_last : (file one : ℕ) (files : List ℕ) → Among file (files ++ one ∷ []) → Among file files ⊎ (file ≡ one)
among_last file one [] (inl here) = inr here
among_last file one [] (inr none) = absurd none
among_last file one (first ∷ files) (inl here) = inl (inl here)
among_last file one (first ∷ files) (inr there) = ⊎_elim (λ found. inl (inr found)) (λ is. inr is) (among_last file one files there)

pub among_front : (file one : ℕ) (files : List ℕ) → Among file files → Among file (files ++ one ∷ [])
among_front file one [] among = absurd among
among_front file one (first ∷ files) (inl here) = inl here
among_front file one (first ∷ files) (inr there) = inr (among_front file one files there)

pub among_end : (one : ℕ) (files : List ℕ) → Among one (files ++ one ∷ [])
among_end one [] = inl refl
among_end one (first ∷ files) = inr (among_end one files)

-- what is among them is counted
pub among_counted : (file : ℕ) (files : List ℕ) → Among file files → 1 ≤ count_by (λ other. other == file) files
among_counted file [] among = absurd among
among_counted file (first ∷ files) (inl here) =
    let head = sum_by-cons (λ other. cond {A = ℕ} (other == file) 1 0) first files in
    let one : cond {A = ℕ} (first == file) 1 0 ≡ 1 = ap (λ b. cond {A = ℕ} b 1 0) (eq-eqb first file (sym here)) in
    omega (arith, head, one)
among_counted file (first ∷ files) (inr there) =
    let head = sum_by-cons (λ other. cond {A = ℕ} (other == file) 1 0) first files in
    omega (arith, head, among_counted file files there)
