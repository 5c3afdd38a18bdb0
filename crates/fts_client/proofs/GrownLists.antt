-- Lists that grow: what holds of each item, legal lists, and the VO's name of a list with more behind it.
use Rattle.std.proofs.Common.{◌≡◌, ℕ, zero, suc, Bool, true, false, cond, List, [], ◌∷◌, ◌++◌, slice_get, Option, Some, None, Ok, Err, refl, ap, sym, ◌∙◌, append-nil, true≢false, eqb-true}
use Rattle.std.specs.Prelude.{◌==◌, bytes_eq}
use Rattle.std.proofs.lemmas.Bool.{and_parts}
use Rattle.fts_tables.specs.Tables.{Tables, empty_tables}
use Rattle.fts_tables.specs.Step.{Outcomes, step}
use Rattle.fts_tables.specs.History.{IsAccepted, IsLegal, IsLegalFrom, tables_after, tables_from, tables_of}
use Rattle.fts_tables.specs.declared.commands.Entry.{Entry}
use Rattle.fts_tables.specs.declared.commands.Command.{Command}
use Rattle.fts_tables.specs.declared.commands.Command.TheVariants.{Restart, Submit, CancelJob, CancelFile, SetPriority, Claim, Report, Ban, Unban, Expire}
use Rattle.fts_laws.specs.Submissions.{is_restart, vo_after, vo_from, vo_of}
use Rattle.fts_client.specs.Worlds.{is_accepted, may_follow, with_doubt}

-- ---- lists

-- each item of a list
abbrev pub Each : {A : Type 0} → (A → Type 0) → List A → Type 0
Each Holds [] = Unit {0}
Each Holds (item ∷ items) = Holds item × Each Holds items

pub each-append : {A : Type 0} (Holds : A → Type 0) (items more : List A) → Each Holds items → Each Holds more → Each Holds (items ++ more)
each-append Holds [] more first second = second
each-append Holds (item ∷ items) more first second = (first.0, each-append Holds items more first.1 second)

pub each-on : {A : Type 0} (Holds Holds2 : A → Type 0) → ((item : A) → Holds item → Holds2 item) → (items : List A) → Each Holds items → Each Holds2 items
each-on Holds Holds2 on [] each = tt
each-on Holds Holds2 on (item ∷ items) each = (on item each.0, each-on Holds Holds2 on items each.1)

-- what holds of each item holds of the one at a place, where there is one
abbrev pub IfThere : {A : Type 0} → (A → Type 0) → Option A → Type 0
IfThere Holds None = Unit {0}
IfThere Holds (Some item) = Holds item

pub each-get : {A : Type 0} (Holds : A → Type 0) (items : List A) (which : ℕ) → Each Holds items → IfThere Holds (slice_get items which)
each-get Holds [] which each = tt
each-get Holds (item ∷ items) zero each = each.0
each-get Holds (item ∷ items) (suc which) each = each-get Holds items which each.1

-- texts that are equal by the test are equal
pub bytes_same : (one other : List ℕ) → bytes_eq one other ≡ true → one ≡ other
bytes_same [] [] is = refl
bytes_same [] (byte ∷ other) is = cc
bytes_same (byte ∷ one) [] is = cc
bytes_same (byte ∷ one) (next ∷ other) is =
    let both = and_parts (byte == next) (bytes_eq one other) is in
    ap (λ number. number ∷ one) (eqb-true byte next both.0) ∙ ap (λ numbers. next ∷ numbers) (bytes_same one other both.1)

-- ---- legal lists that grow

tables_joined : (entries more : List Entry) (tables : Tables) → tables_from tables (entries ++ more) ≡ tables_from (tables_from tables entries) more
tables_joined [] more tables = refl
tables_joined (entry ∷ entries) more tables = tables_joined entries more (tables_after tables (step tables entry.command))

pub legal_joined : (entries more : List Entry) (tables : Tables) → IsLegalFrom tables entries → IsLegalFrom (tables_from tables entries) more
    → IsLegalFrom tables (entries ++ more)
legal_joined [] more tables first second = second
legal_joined (entry ∷ entries) more tables first second =
    (first.0, legal_joined entries more (tables_after tables (step tables entry.command)) first.1 second)

vo_joined : (entries more : List Entry) (vo : Option (List ℕ)) → vo_from vo (entries ++ more) ≡ vo_from (vo_from vo entries) more
vo_joined [] more vo = refl
vo_joined (entry ∷ entries) more vo = vo_joined entries more (vo_after vo entry.command)

accepted_from_test : (outcome : Outcomes) → is_accepted outcome ≡ true → IsAccepted outcome
accepted_from_test (Ok done) is = tt
accepted_from_test (Err refusal) is = absurd (true≢false (sym is))

-- an entry that may follow
pub legal_with : (entries : List Entry) (entry : Entry) → IsLegal entries → may_follow entries entry ≡ true → IsLegal (entries ++ entry ∷ [])
legal_with entries entry legal may =
    legal_joined entries (entry ∷ []) empty_tables legal (accepted_from_test (step (tables_of entries) entry.command) may, tt)

-- another command than a restart leaves the VO's name
pub vo_kept : (vo : Option (List ℕ)) (command : Command) → is_restart command ≡ false → vo_after vo command ≡ vo
vo_kept vo (Restart now settings) is = absurd (true≢false is)
vo_kept vo _ is = refl

pub vo_with : (entries : List Entry) (entry : Entry) → vo_of (entries ++ entry ∷ []) ≡ vo_after (vo_of entries) entry.command
vo_with entries entry = vo_joined entries (entry ∷ []) None

-- the list with the entry that was in doubt, or not
pub record Grown (before after : List Entry) : Type 0 where
  pub more : List Entry
  pub parts : after ≡ before ++ more
  pub legal : IsLegal after

grown_none : (entries : List Entry) → IsLegal entries → Grown entries entries
grown_none entries legal = record { more = []; parts = sym (append-nil entries); legal = legal }

grown_doubt : (entries : List Entry) (doubt : Option Entry) → IsLegal entries → Grown entries (with_doubt entries doubt)
grown_doubt entries None legal = grown_none entries legal
grown_doubt entries (Some entry) legal = by_test (may_follow entries entry) refl
  where
    by_test : (answer : Bool) → may_follow entries entry ≡ answer → Grown entries (cond answer (entries ++ entry ∷ []) entries)
    by_test true is = record { more = entry ∷ []; parts = refl; legal = legal_with entries entry legal is }
    by_test false is = grown_none entries legal

pub grown_if : (is_kept : Bool) (entries : List Entry) (doubt : Option Entry) → IsLegal entries
    → Grown entries (cond is_kept (with_doubt entries doubt) entries)
grown_if true entries doubt legal = grown_doubt entries doubt legal
grown_if false entries doubt legal = grown_none entries legal
