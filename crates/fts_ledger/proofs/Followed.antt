-- A store behind entries: the copies made, and those that a writer's reports among the entries stand for.
use Rattle.std.proofs.Common.{◌≡◌, refl, sym, ap, ◌∙◌, subst, ℕ, Bool, true, false, cond, List, [], ◌∷◌, ◌++◌, Option, Some, None, IsSome, Result, Ok, Err, append-nil, append_assoc, eq-eqb}
use Rattle.std.specs.Prelude.{◌==◌, option_map, option_to_list, IsTrue}
use Rattle.std.specs.Option.{option_map_or}
use Rattle.std.proofs.lemmas.Bool.{ne_eqb}
use Rattle.fts_tables.specs.Tables.{Tables, empty_tables, is_active, row_at}
use Rattle.fts_tables.specs.Step.{step}
use Rattle.fts_tables.specs.History.{IsLegal, tables_after, tables_from, tables_of}
use Rattle.fts_tables.specs.Laws.{CopyOrder, IsOrderKept, order_of as order_asked}
use Rattle.fts_tables.specs.declared.rows.FileRow.{FileRow}
use Rattle.fts_tables.specs.declared.rows.Outcome.{Outcome}
use Rattle.fts_tables.specs.declared.commands.Entry.{Entry}
use Rattle.fts_tables.specs.declared.commands.Command.TheVariants.{Claim, Report, Expire}
use Rattle.fts_tables.specs.declared.commands.Answer.{Answer}
use Rattle.fts_copy.specs.Copy.{Order}
use Rattle.fts_keep.specs.Applied.{entry_by}
use Rattle.fts_keep.specs.declared.fault.KeepFault.{KeepFault}
use Rattle.fts_workers.specs.Copies.{Copy, FollowsReports, IsCopied, copies_from, copies_in, copies_kept, copies_of_file, order_in}
use Rattle.fts_workers.specs.declared.held.Held.{Held}
use Rattle.fts_workers.proofs.Copied.{copies_from-append, follows_more, follows_none, tables_from-append}
use Rattle.fts_workers.proofs.Numbered.{IsActiveAt, row_at-id}
use Rattle.fts_shop.specs.Shops.{added_by}
use Rattle.fts_shop.specs.Looking.{NoneOf}
use Rattle.fts_shop.specs.Turns.{held_with}
use Rattle.fts_ledger.specs.Reports.{IsUndisturbed}
use Rattle.fts_ledger.specs.Fitting.{Fits, IsLastOwn}
use Rattle.fts_ledger.proofs.Fresh.{undisturbed_out}
use Rattle.fts_ledger.specs.Machine.{Machine}
use Rattle.fts_ledger.proofs.Turned.{last_own_more, legal_back}
use Rattle.fts_ledger.proofs.Walks.{out_active, own_or_later, stands_at}
use Rattle.fts_store.specs.declared.store.Store as store

-- what a copy is asked for stays while its file is ACTIVE
abbrev pub OrdersStay : Type 0
OrdersStay = (entries more : List Entry) (id : ℕ) (row kept : FileRow) → IsLegal (entries ++ more)
    → row_at (tables_of entries).rows id ≡ Some row → row_at (tables_of (entries ++ more)).rows id ≡ Some kept → IsTrue (is_active kept.state)
    → IsOrderKept (tables_of entries) (tables_of (entries ++ more)) row kept

-- what a copy is asked for, by what is asked of its row
order_from : CopyOrder → ℕ → Order
order_from asked file = record {
  source = asked.source;
  dest = asked.dest;
  file = file;
  size = asked.size;
  wanted = asked.wanted;
  overwrite = asked.overwrite;
}

-- a row that is there
some_row : (found : Option FileRow) → IsSome found → (row : FileRow) × (found ≡ Some row)
some_row None there = absurd cc
some_row (Some row) there = (row, refl)

-- the copy of a file that is ACTIVE is asked for what it was asked for
copy_still : OrdersStay → (entries more : List Entry) (file : ℕ) (outcome : Outcome) → IsLegal (entries ++ more)
    → IsSome (row_at (tables_of entries).rows file) → IsActiveAt (tables_of (entries ++ more)).rows file
    → copies_of_file (tables_of entries) file outcome ≡ copies_of_file (tables_of (entries ++ more)) file outcome
unfolding order_from
copy_still orders entries more file outcome legal there is =
    let before = tables_of entries in
    let after = tables_of (entries ++ more) in
    let was = some_row (row_at before.rows file) there in
    let asked = (orders entries more file was.0 is.row legal was.1 is.at is.active).order in
    let copy : Order → Copy = λ order. record { order = order; outcome = outcome } in
    sym (ap (λ row. option_to_list (option_map (λ r. copy (order_in after r)) row)) is.at
    ∙ ap (λ order. copy order ∷ []) (ap (λ a. order_from a is.row.id) asked
    ∙ ap (order_from (order_asked before.jobs was.0)) (row_at-id after.rows file is.row is.at ∙ sym (row_at-id before.rows file was.0 was.1)))
    ∙ sym (ap (λ row. option_to_list (option_map (λ r. copy (order_in before r)) row)) was.1))

-- what is held was claimed by a writer, whose last entry the claim is; at most one file is
abbrev pub HoldsOwn : ℕ → List Entry → List Entry → List Held → Type 0
HoldsOwn writer opening entries [] = Unit {0}
HoldsOwn writer opening entries (held ∷ []) = IsLastOwn writer opening entries held.file held.attempt
HoldsOwn writer opening entries (held ∷ next ∷ others) = ⊥

pub holds_own : (writer : ℕ) (opening entries : List Entry) (held : List Held) → Fits writer opening entries held → HoldsOwn writer opening entries held
holds_own writer opening entries [] fits = tt
holds_own writer opening entries (held ∷ []) fits = fits.each.0.claimed
holds_own writer opening entries (held ∷ next ∷ others) fits = absurd fits.ready

-- others' reports stand for no copies of a writer's
pub copies_none : (writer : ℕ) (tables : Tables) (entries : List Entry) → NoneOf writer entries → copies_from (λ by. by == writer) tables entries ≡ []
copies_none writer tables [] none = refl
copies_none writer tables (entry ∷ entries) none =
    ap (λ own. cond own (copies_in tables entry.command) [] ++ copies_from (λ by. by == writer) (tables_after tables (step tables entry.command)) entries)
    (ne_eqb entry.writer writer none.0)
    ∙ copies_none writer (tables_after tables (step tables entry.command)) entries none.1

module _ {E : Type 0} (stores : store.Ghosts E) (opening : List Entry) (writer : ℕ) where
  -- behind entries a store follows from the writer's reports among them
  pub record Followed (before after : List Entry) (held left : List Held) (old new : E) : Type 0 where
    pub since : List Entry
    pub after_is : after ≡ before ++ since
    pub follows : FollowsReports stores.state stores.calls stores.faults (copies_kept (tables_of (opening ++ before)) held)
        (copies_from (λ by. by == writer) (tables_of (opening ++ before)) since) (copies_kept (tables_of (opening ++ after)) left) old new

  -- the tables behind entries are those behind the list with them
  tables_on : (before after since : List Entry) → after ≡ before ++ since → tables_from (tables_of (opening ++ before)) since ≡ tables_of (opening ++ after)
  tables_on before after since is = sym (tables_from-append empty_tables (opening ++ before) since)
      ∙ ap tables_of (append_assoc opening before since ∙ ap (λ list. opening ++ list) (sym is))

  pub followed_on : (before middle after : List Entry) (held kept left : List Held) (old mid new : E) → Followed before middle held kept old mid
      → Followed middle after kept left mid new → Followed before after held left old new
  followed_on before middle after held kept left old mid new one two =
      let by : ℕ → Bool = λ other. other == writer in
      let start = tables_of (opening ++ before) in
      record {
        since = one.since ++ two.since;
        after_is = two.after_is ∙ ap (λ list. list ++ two.since) one.after_is ∙ append_assoc before one.since two.since;
        follows = subst (λ reported. FollowsReports stores.state stores.calls stores.faults (copies_kept start held) reported (copies_kept (tables_of (opening ++ after)) left) old new)
            (sym (copies_from-append by start one.since two.since
            ∙ ap (λ t. copies_from by start one.since ++ copies_from by t two.since) (tables_on before middle one.since one.after_is)))
            (follows_more stores.state stores.calls stores.faults (copies_kept start held) (copies_from by start one.since) (copies_kept (tables_of (opening ++ middle)) kept)
            (copies_from by (tables_of (opening ++ middle)) two.since) (copies_kept (tables_of (opening ++ after)) left) old mid new one.follows two.follows);
      }

  pub followed_as : (before after other : List Entry) (held left : List Held) (old new : E) → other ≡ after → Followed before after held left old new
      → Followed before other held left old new
  followed_as before after other held left old new is one = subst (λ list. Followed before list held left old new) (sym is) one

  -- a store stays behind entries that report no copy of the writer's
  followed_same : (before since : List Entry) (held left : List Held) (store : E)
      → copies_from (λ by. by == writer) (tables_of (opening ++ before)) since ≡ []
      → copies_kept (tables_of (opening ++ before)) held ≡ copies_kept (tables_of (opening ++ (before ++ since))) left
      → Followed before (before ++ since) held left store store
  followed_same before since held left store none same = record {
    since = since;
    after_is = refl;
    follows = subst (λ reported. FollowsReports stores.state stores.calls stores.faults (copies_kept (tables_of (opening ++ before)) held) reported
        (copies_kept (tables_of (opening ++ (before ++ since))) left) store store) (sym none)
        (subst (λ kept. FollowsReports stores.state stores.calls stores.faults (copies_kept (tables_of (opening ++ before)) held) [] kept store store) same
        (follows_none stores.state stores.calls stores.faults (copies_kept (tables_of (opening ++ before)) held) store));
  }

  -- an expiry reports no copy, however it is answered
  no_copies_expired : (tables : Tables) (now : ℕ) (result : Result Answer KeepFault)
      → copies_from (λ by. by == writer) tables (added_by (entry_by writer (Expire now)) result) ≡ []
  no_copies_expired tables now (Ok answer) = either_none (writer == writer)
    where
      either_none : (own : Bool) → cond {A = List Copy} own [] [] ++ [] ≡ []
      either_none true = refl
      either_none false = refl
  no_copies_expired tables now (Err fault) = refl

  -- so a store stays behind entries of others and the writer's expiry
  pub followed_expiry : (before others : List Entry) (now : ℕ) (result : Result Answer KeepFault) (store : E) → NoneOf writer others
      → Followed before ((before ++ others) ++ added_by (entry_by writer (Expire now)) result) [] [] store store
  followed_expiry before others now result store none =
      let by : ℕ → Bool = λ other. other == writer in
      let start = tables_of (opening ++ before) in
      let added = added_by (entry_by writer (Expire now)) result in
      let reported : copies_from by start (others ++ added) ≡ [] =
      copies_from-append by start others added
      ∙ ap (λ copies. copies ++ copies_from by (tables_from start others) added) (copies_none writer start others none)
      ∙ no_copies_expired (tables_from start others) now result in
      followed_as before (before ++ (others ++ added)) ((before ++ others) ++ added) [] [] store store (append_assoc before others added)
      (followed_same before (others ++ added) [] [] store reported refl)

  module _ (machine : Machine) (orders : OrdersStay) where
    -- entries of others leave a store, and the copy that is kept
    pub followed_others : (before others : List Entry) (held : List Held) (store : E) → IsLegal (opening ++ (before ++ others)) → NoneOf writer others
        → HoldsOwn writer opening before held → IsUndisturbed writer opening (before ++ others) → Followed before (before ++ others) held held store store
    followed_others before others [] store legal none own free =
        followed_same before others [] [] store (copies_none writer (tables_of (opening ++ before)) others none) refl
    followed_others before others (held ∷ []) store legal none own free =
        followed_same before others (held ∷ []) (held ∷ []) store (copies_none writer (tables_of (opening ++ before)) others none)
        (ap (λ copies. copies ++ []) (by held.outcome))
      where
        legal_first : IsLegal (opening ++ before)
        legal_first = legal_back opening before (before ++ others) others refl legal

        there : IsSome (row_at (tables_of (opening ++ before)).rows held.file)
        there =
            let last = own_or_later machine opening writer before legal_first held.file held.attempt own in
            (stands_at machine opening held.file before legal_first last.0 last.1.0).0

        active : IsActiveAt (tables_of (opening ++ (before ++ others))).rows held.file
        active = out_active machine (opening ++ (before ++ others)) legal held.file
            (undisturbed_out machine opening writer (before ++ others) held.file held.attempt legal
            (last_own_more writer opening before others held.file held.attempt none own) free).0

        cut : opening ++ (before ++ others) ≡ (opening ++ before) ++ others
        cut = sym (append_assoc opening before others)

        by : (outcome : Option Outcome) → option_map_or (copies_of_file (tables_of (opening ++ before)) held.file) outcome []
            ≡ option_map_or (copies_of_file (tables_of (opening ++ (before ++ others))) held.file) outcome []
        by None = refl
        by (Some outcome) =
            copy_still orders (opening ++ before) others held.file outcome (subst IsLegal cut legal) there
            (subst (λ list. IsActiveAt (tables_of list).rows held.file) cut active)
            ∙ ap (λ list. copies_of_file (tables_of list) held.file outcome) (sym cut)
    followed_others before others (held ∷ next ∷ more) store legal none own free = absurd own

    -- an accepted report stands for the copy that was kept
    pub followed_report : (before : List Entry) (held : Held) (outcome : Outcome) (now : ℕ) (store : E) → held.outcome ≡ Some outcome
        → Followed before (before ++ entry_by writer (Report now held.file held.attempt outcome) ∷ []) (held ∷ []) [] store store
    followed_report before held outcome now store kept =
        let tables = tables_of (opening ++ before) in
        let copies = copies_of_file tables held.file outcome in
        record {
          since = entry_by writer (Report now held.file held.attempt outcome) ∷ [];
          after_is = refl;
          follows = record {
            made = [];
            balance = append-nil (copies_kept tables (held ∷ []))
                ∙ ap (λ ended. option_map_or (copies_of_file tables held.file) ended [] ++ []) kept
                ∙ sym (append-nil (copies ++ [])
                ∙ refl)
                ∙ ap (λ own. (cond own copies [] ++ []) ++ []) (sym (own_test writer));
            copied = refl;
          };
        }
      where
        own_test : (n : ℕ) → (n == n) ≡ true
        own_test n = eq-eqb n n refl

    -- a claim behind entries of others, and the copy of its file
    pub followed_claim : (before others : List Entry) (now word file attempt : ℕ) (outcome : Outcome) (order : Order) (old new : E) → NoneOf writer others
        → copies_of_file (tables_of (opening ++ ((before ++ others) ++ entry_by writer (Claim now word) ∷ []))) file outcome
        ≡ record { order = order; outcome = outcome } ∷ []
        → IsCopied (stores.state old) (stores.state new) (stores.calls old) (stores.calls new) (stores.faults old) (stores.faults new) (record { order = order; outcome = outcome })
        → Followed before ((before ++ others) ++ entry_by writer (Claim now word) ∷ []) [] (held_with file attempt outcome ∷ []) old new
    followed_claim before others now word file attempt outcome order old new none is made =
        let claim = entry_by writer (Claim now word) in
        let start = tables_of (opening ++ before) in
        let all = (before ++ others) ++ claim ∷ [] in
        let copy : Copy = record { order = order; outcome = outcome } in
        let reported : copies_from (λ by. by == writer) start (others ++ claim ∷ []) ≡ [] =
        copies_from-append (λ by. by == writer) start others (claim ∷ [])
        ∙ ap (λ copies. copies ++ copies_from (λ by. by == writer) (tables_from start others) (claim ∷ [])) (copies_none writer start others none)
        ∙ no_copies (writer == writer) in
        record {
          since = others ++ claim ∷ [];
          after_is = append_assoc before others (claim ∷ []);
          follows = record {
            made = copy ∷ [];
            balance = sym (ap (λ copies. copies ++ (copies_of_file (tables_of (opening ++ all)) file outcome ++ [])) reported ∙ ap (λ copies. copies ++ []) is);
            copied = (new, (made, refl));
          };
        }
      where
        no_copies : (own : Bool) → cond {A = List Copy} own [] [] ++ [] ≡ []
        no_copies true = refl
        no_copies false = refl
