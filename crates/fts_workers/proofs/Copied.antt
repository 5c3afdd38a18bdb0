-- Copies after copies: what a store keeps over them, and how what follows from reports grows.
use Rattle.std.proofs.Common.{◌≡◌, refl, sym, ap, ◌∙◌, subst, ℕ, ◌≤◌, Bool, cond, List, [], ◌∷◌, ◌++◌, Option, None, arith}
use Rattle.std.proofs.lemmas.List.{append_assoc}
use Rattle.fts_tables.specs.Tables.{Tables}
use Rattle.fts_tables.specs.Step.{step}
use Rattle.fts_tables.specs.History.{tables_from, tables_after}
use Rattle.fts_tables.specs.declared.commands.Entry.{Entry}
use Rattle.fts_store.specs.Calls.{Call}
use Rattle.fts_store.specs.Store.{StoreState, Stays}
use Rattle.fts_workers.specs.Benches.{held_as}
use Rattle.fts_workers.specs.Copies.{Copy, AreCopied, FollowsReports, copies_in, copies_from, copies_kept}

-- nothing more
pub none_more : {A : Type 0} (items : List A) → items ++ [] ≡ items
none_more [] = refl
none_more (item ∷ items) = ap (λ rest. item ∷ rest) (none_more items)

-- what entries made of tables, and those behind them
pub tables_from-append : (tables : Tables) (entries more : List Entry) → tables_from tables (entries ++ more) ≡ tables_from (tables_from tables entries) more
tables_from-append tables [] more = refl
tables_from-append tables (entry ∷ entries) more = tables_from-append (tables_after tables (step tables entry.command)) entries more

-- the copies that entries stand for, and those behind them
pub copies_from-append : (by : ℕ → Bool) (tables : Tables) (entries more : List Entry)
    → copies_from by tables (entries ++ more) ≡ copies_from by tables entries ++ copies_from by (tables_from tables entries) more
copies_from-append by tables [] more = refl
copies_from-append by tables (entry ∷ entries) more =
    ap (λ rest. cond (by entry.writer) (copies_in tables entry.command) [] ++ rest)
    (copies_from-append by (tables_after tables (step tables entry.command)) entries more)
    ∙ sym (append_assoc (cond (by entry.writer) (copies_in tables entry.command) [])
    (copies_from by (tables_after tables (step tables entry.command)) entries)
    (copies_from by (tables_from (tables_after tables (step tables entry.command)) entries) more))

-- of files of which no outcome is kept no copy is
pub copies_kept-none : (tables after : Tables) (files : List ℕ) → copies_kept tables (held_as after None files) ≡ []
copies_kept-none tables after [] = refl
copies_kept-none tables after (file ∷ files) = copies_kept-none tables after files

module _ {E : Type 0} (state : E → StoreState) (calls : E → Option (List Call)) (faults : E → ℕ) where
  -- copies, and copies behind them
  pub copied_more : (start middle after : E) (first second : List Copy) → AreCopied state calls faults start first middle
      → AreCopied state calls faults middle second after
      → AreCopied state calls faults start (first ++ second) after
  copied_more start middle after [] second one two = subst (λ s. AreCopied state calls faults s second after) one two
  copied_more start middle after (copy ∷ first) second one two = (one.0, (one.1.0, copied_more one.0 middle after first second one.1.1 two))

  -- the count never falls
  pub copied_counts : (start after : E) (copies : List Copy) → AreCopied state calls faults start copies after → faults start ≤ faults after
  copied_counts start after [] copied = subst (λ s. faults start ≤ faults s) (sym copied) (omega arith)
  copied_counts start after (copy ∷ copies) copied = omega (arith, copied.1.0.counts, copied_counts copied.0 after copies copied.1.1)

  -- what a store tells stays
  pub copied_stays : (start after : E) (copies : List Copy) → AreCopied state calls faults start copies after → Stays (state start) (state after)
  copied_stays start after [] copied = subst (λ s. Stays (state start) (state s)) (sym copied) (record { told = refl; faithful = refl })
  copied_stays start after (copy ∷ copies) copied =
      let behind = copied_stays copied.0 after copies copied.1.1 in
      record { told = behind.told ∙ copied.1.0.stays.told; faithful = behind.faithful ∙ copied.1.0.stays.faithful }

  -- reports, and reports behind them
  pub follows_more : (kept reported kept_then more kept_now : List Copy) (start middle after : E)
      → FollowsReports state calls faults kept reported kept_then start middle
      → FollowsReports state calls faults kept_then more kept_now middle after
      → FollowsReports state calls faults kept (reported ++ more) kept_now start after
  follows_more kept reported kept_then more kept_now start middle after one two = record {
    made = one.made ++ two.made;
    balance = sym (append_assoc kept one.made two.made)
        ∙ ap (λ all. all ++ two.made) one.balance
        ∙ append_assoc reported kept_then two.made
        ∙ ap (λ all. reported ++ all) two.balance
        ∙ sym (append_assoc reported more kept_now);
    copied = copied_more start middle after one.made two.made one.copied two.copied;
  }

  -- no command that reports leaves copies and store as they are
  pub follows_none : (kept : List Copy) (store : E) → FollowsReports state calls faults kept [] kept store store
  follows_none kept store = record { made = []; balance = none_more kept; copied = refl }
