-- Parts of a round, one behind the other.
use Rattle.std.proofs.Common.{◌≡◌, refl, ap, sym, ◌∙◌, subst, ℕ, zero, suc, ◌-◌, ◌≤◌, Bool, true, false, List, [], ◌∷◌, ◌++◌, length, Option, Result, Ok, Err, arith}
use Rattle.std.proofs.lemmas.List.{append_assoc}
use Rattle.fts_tables.specs.History.{tables_of, tables_from, out_of_list}
use Rattle.fts_tables.specs.declared.commands.Entry.{Entry}
use Rattle.fts_disk.specs.Disk.{DiskState}
use Rattle.fts_store.specs.Calls.{Call}
use Rattle.fts_store.specs.Store.{StoreState}
use Rattle.fts_workers.specs.Benches.{calm_end, kept_of}
use Rattle.fts_workers.specs.Copies.{FollowsReports, copies_from}
use Rattle.fts_workers.specs.Rounds.{Walk, IsRound, ExpiresAndClaims, FillsUp, WorksOff}
use Rattle.fts_workers.specs.Steps.{Stand, walk_of, IsOver, Walks, MakesNoCopy, MakesCopies, WorksOn, Fills, FillsOn, ExpiresOn, ExpiresAndFills, kept_at}
use Rattle.fts_workers.specs.declared.ends.RoundEnd.{RoundEnd}
use Rattle.fts_workers.proofs.Copied.{none_more, tables_from-append, copies_from-append, follows_more}
use Rattle.fts_workers.proofs.OutFiles.{length-held_as}

module _ {D : Type 0} (state : D → DiskState) (faults : D → ℕ) where
  module _ (First Second Both : Walk → Walk → Type 0) (one two three : Stand D)
      (joins : (walk after : Walk) (entries : List Entry) → IsOver two entries → First walk (walk_of faults entries two)
      → Second (walk_of faults entries two) after → Both walk after) where
    -- two parts
    pub walks_then : Walks state faults First one two → Walks state faults Second two three → Walks state faults Both one three
    walks_then first second = record {
      added = first.added ++ second.added;
      walked = λ entries over.
          subst (λ all. Both (walk_of faults entries one) (walk_of faults all three)) (append_assoc entries first.added second.added)
          (joins (walk_of faults entries one) (walk_of faults ((entries ++ first.added) ++ second.added) three) (entries ++ first.added)
          (first.over entries over) (first.walked entries over) (second.walked (entries ++ first.added) (first.over entries over)));
      over = λ entries over. subst (λ all. IsOver three all) (append_assoc entries first.added second.added)
          (second.over (entries ++ first.added) (first.over entries over));
      tables = second.tables ∙ ap (λ t. tables_from t second.added) first.tables ∙ sym (tables_from-append one.keep.tables first.added second.added);
      told = second.told ∙ first.told;
      listed = second.listed ∙ ap (λ all. all ++ second.added) first.listed
          ∙ append_assoc one.keep.entries first.added second.added;
    }

    -- the copies that both report
    reported_then : (first : Walks state faults First one two) (second : Walks state faults Second two three)
        → copies_from (λ writer. true) one.keep.tables (first.added ++ second.added)
        ≡ copies_from (λ writer. true) one.keep.tables first.added ++ copies_from (λ writer. true) two.keep.tables second.added
    reported_then first second =
        copies_from-append (λ writer. true) one.keep.tables first.added second.added
        ∙ ap (λ t. copies_from (λ writer. true) one.keep.tables first.added ++ copies_from (λ writer. true) t second.added) (sym first.tables)

    -- of which none makes a copy
    pub no_copy_then : MakesNoCopy state faults First one two → MakesNoCopy state faults Second two three → MakesNoCopy state faults Both one three
    unfolding walks_then
    no_copy_then first second = record {
      walks = walks_then first.walks second.walks;
      balance = first.balance
          ∙ ap (λ rest. copies_from (λ writer. true) one.keep.tables first.walks.added ++ rest) second.balance
          ∙ sym (append_assoc (copies_from (λ writer. true) one.keep.tables first.walks.added)
          (copies_from (λ writer. true) two.keep.tables second.walks.added) (kept_at three))
          ∙ ap (λ all. all ++ kept_at three) (sym (reported_then first.walks second.walks));
    }

    module _ {E : Type 0} (store_state : E → StoreState) (calls : E → Option (List Call)) (store_faults : E → ℕ) (store between after : E) where
      -- or each may
      pub copies_then : MakesCopies state faults store_state calls store_faults First one two store between
          → MakesCopies state faults store_state calls store_faults Second two three between after
          → MakesCopies state faults store_state calls store_faults Both one three store after
      unfolding walks_then
      copies_then first second = record {
        walks = walks_then first.walks second.walks;
        follows = subst (λ all. FollowsReports store_state calls store_faults (kept_at one) all (kept_at three) store after)
            (sym (reported_then first.walks second.walks))
            (follows_more store_state calls store_faults (kept_at one) (copies_from (λ writer. true) one.keep.tables first.walks.added) (kept_at two)
            (copies_from (λ writer. true) two.keep.tables second.walks.added) (kept_at three) store between after first.follows second.follows);
      }

  -- a part that makes no copy leaves the store
  pub copies_none : {E : Type 0} (store_state : E → StoreState) (calls : E → Option (List Call)) (store_faults : E → ℕ) (Goes : Walk → Walk → Type 0)
      (old new : Stand D) (store : E) → MakesNoCopy state faults Goes old new
      → MakesCopies state faults store_state calls store_faults Goes old new store store
  copies_none store_state calls store_faults Goes old new store part = record {
    walks = part.walks;
    follows = record { made = []; balance = none_more (kept_at old) ∙ part.balance; copied = refl };
  }

  -- nothing at all was done
  pub nothing_done : (Goes : Walk → Walk → Type 0) (at : Stand D)
      → ((entries : List Entry) → Goes (walk_of faults entries at) (walk_of faults entries at))
      → MakesNoCopy state faults Goes at at
  nothing_done Goes at goes = record {
    walks = record {
      added = [];
      walked = λ entries over. subst (λ all. Goes (walk_of faults entries at) (walk_of faults all at)) (sym (none_more entries)) (goes entries);
      over = λ entries over. subst (λ all. IsOver at all) (sym (none_more entries)) over;
      tables = refl;
      told = refl;
      listed = sym (none_more at.keep.entries);
    };
    balance = refl;
  }

  -- the files that are out are as many as are held
  pub out-held : (at : Stand D) (entries : List Entry) → IsOver at entries → length (out_of_list entries) ≡ length at.bench.held
  out-held at entries over = sym (ap length over.held ∙ length-held_as (tables_of entries) (kept_of at.bench.held) (out_of_list entries))

-- an expiry, and then claims
pub expires_then : {D : Type 0} (state : D → DiskState) (faults : D → ℕ) (workers : ℕ) (end : RoundEnd) (one two three : Stand D)
    → MakesNoCopy state faults (ExpiresOn workers (Ok tt)) one two → MakesNoCopy state faults (Fills workers end) two three
    → MakesNoCopy state faults (ExpiresAndFills workers end) one three
expires_then state faults workers end one two three first second =
    no_copy_then state faults (ExpiresOn workers (Ok tt)) (Fills workers end) (ExpiresAndFills workers end) one two three
    (λ walk last entries over expires fills. expires end last fills) first second

-- whatever is done from here
pub works_then : (workers : ℕ) (result : Result (Unit {0}) RoundEnd) (walk now after : Walk) → WorksOn workers (Ok tt) walk now
    → WorksOn workers result now after → WorksOn workers result walk after
works_then workers (Ok done) walk now after first second = λ end last rest. first end last (second end last rest)
works_then workers (Err end) walk now after first second = first end after second

pub fills_then : (workers : ℕ) (result : Result Bool RoundEnd) (walk now after : Walk) → FillsOn workers (Ok true) walk now
    → FillsOn workers result now after → FillsOn workers result walk after
fills_then workers (Ok true) walk now after first second = λ end last rest. first end last (second end last rest)
fills_then workers (Ok false) walk now after first second = first (calm_end (length (out_of_list after.entries))) after second
fills_then workers (Err end) walk now after first second = first end after second

-- claims behind claims that go on
pub fills_end : (workers : ℕ) (end : RoundEnd) (walk now after : Walk) → FillsOn workers (Ok true) walk now → Fills workers end now after
    → Fills workers end walk after
fills_end workers end walk now after first second = first end after second

-- where nothing is out, a round is its expiry and its claims
pub round_expires : (workers : ℕ) (end : RoundEnd) (now after : Walk) → length (out_of_list now.entries) ≡ 0 → ExpiresAndClaims workers now end after
    → IsRound workers now end after
round_expires workers end now after none expires = by (out_of_list now.entries) none
  where
    by : (files : List ℕ) → length files ≡ 0 → WorksOff workers files now end after
    by [] none = expires
    by (file ∷ files) none = absurd (omega (arith, none))

-- where no worker is free, no claim is made
pub full_fills : (workers : ℕ) (now : Walk) → workers ≤ length (out_of_list now.entries)
    → Fills workers (calm_end (length (out_of_list now.entries))) now now
full_fills workers now full = by (workers - length (out_of_list now.entries)) (omega arith)
  where
    by : (free : ℕ) → free ≡ 0 → FillsUp free now (calm_end (length (out_of_list now.entries))) now
    by zero none = (refl, refl)
    by (suc free) none = absurd (omega (arith, none))
