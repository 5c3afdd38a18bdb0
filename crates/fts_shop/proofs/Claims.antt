-- What a worker's step came to: a claimed file has its row, so the order of its copy comes with it.
use Rattle.std.proofs.Common.{◌≡◌, ◌⊎◌, refl, sym, ap, subst, ℕ, ◌+◌, ◌==◌, max, Bool, true, false, cond, List, [], ◌∷◌, map, Option, Some, None, option_map, IsSome, IsTrue, Result, Ok, Err}
use Rattle.fts_tables.specs.Counts.{Rose}
use Rattle.fts_tables.specs.Tables.{Tables, AreWellFormed, is_submitted, row_at}
use Rattle.fts_tables.specs.Choice.{pick}
use Rattle.fts_tables.specs.Moves.{change_row, claimed}
use Rattle.fts_tables.specs.Step.{step, claim, with_rows}
use Rattle.fts_tables.specs.History.{tables_of, IsLegal, claimed_file}
use Rattle.fts_tables.specs.declared.rows.FileRow.{FileRow}
use Rattle.fts_tables.specs.declared.commands.Entry.{Entry}
use Rattle.fts_tables.specs.declared.commands.Command.TheVariants.{Claim, Expire}
use Rattle.fts_tables.specs.declared.commands.Answer.{Answer}
use Rattle.fts_tables.specs.declared.commands.Answer.TheVariants.{Restarted, Submitted, Cancelled, PrioritySet, Claimed, Reported, Banned, Unbanned, Expired}
use Rattle.fts_keep.specs.Keeps.{KeepData, IsKeep}
use Rattle.fts_keep.specs.Applied.{Applied, entry_by}
use Rattle.fts_keep.specs.declared.fault.KeepFault.{KeepFault}
use Rattle.fts_keep.specs.declared.fault.KeepFault.TheVariants.{Rule, DiskFailed, JournalFull, Damaged, Memory}
use Rattle.fts_workers.specs.Copies.{order_in}
use Rattle.fts_workers.specs.ClaimSteps.{AnswersClaim, AnswersExpiry, FollowsExpiry, IsClaimStep, goes_on}
use Rattle.fts_keep.proofs.Applying.{doubt_of}
use Rattle.fts_shop.specs.Shops.{IsDoubtOf, step_answer}
use Rattle.fts_shop.specs.Within.{HasOrder, order_claimed}
use Rattle.fts_shop.proofs.Answered.{step_of, same_done}
use Rattle.fts_shop.proofs.Took.{doubt_moved, doubt_twice}
use Rattle.fts_disk.specs.declared.disk.Disk as disk

-- a row of an id is there still once rows were changed that keep their ids
there_still : (change : FileRow → FileRow) → ((row : FileRow) → (change row).id ≡ row.id) → (rows : List FileRow) (id : ℕ) → IsSome (row_at rows id)
    → IsSome (row_at (map change rows) id)
there_still change same [] id there = there
there_still change same (row ∷ rows) id there =
    subst (λ other. IsSome (cond (other == id) (Some (change row)) (row_at (map change rows) id))) (sym (same row))
    (by_head (there_still change same rows id) (row.id == id) there)
  where
    by_head : (IsSome (row_at rows id) → IsSome (row_at (map change rows) id)) → (here : Bool) → IsSome (cond here (Some row) (row_at rows id))
        → IsSome (cond here (Some (change row)) (row_at (map change rows) id))
    by_head behind true there_here = refl
    by_head behind false there_behind = behind there_behind

-- one of two rows with an id
either_id : (first : Bool) (row one : FileRow) → one.id ≡ row.id → (cond first one row).id ≡ row.id
either_id true row one same = same
either_id false row one same = refl

-- behind a claim each row is there that was there before
claim_there : (tables : Tables) (now : ℕ) (found : Option FileRow) (after : Tables) (answer : Answer) (file : ℕ)
    → claim tables now found ≡ Ok (after, answer) → IsSome (row_at tables.rows file) → IsSome (row_at after.rows file)
claim_there tables now None after answer file is there = absurd cc
claim_there tables now (Some row) after answer file is there =
    let rows = change_row row.id claimed tables.rows in
    let after_is : with_rows tables now rows ≡ after =
    ap (λ (d : Tables × Answer). d.0) (same_done (with_rows tables now rows, Claimed row.id (row.attempt + 1)) (after, answer) is) in
    subst (λ (t : Tables). IsSome (row_at t.rows file)) after_is
    (there_still (λ other. cond (other.id == row.id) (claimed other) other) (λ other. either_id (other.id == row.id) other (claimed other) refl)
    tables.rows file there)

-- what is there maps to what is there
some_map : {A B : Type 0} (f : A → B) (found : Option A) → IsSome found → IsSome (option_map f found)
some_map f (Some x) there = refl
some_map f None there = there

module _ {D : Type 0} (disks : disk.Ghosts D) (old new : KeepData D) (writer now word : ℕ)
    (formed : (entries : List Entry) → IsLegal entries → AreWellFormed (tables_of entries))
    (waited : (tables : Tables) (now word file : ℕ) → AreWellFormed tables → claimed_file (step tables (Claim now word)) ≡ Some file
    → (row : FileRow) × (row_at tables.rows file ≡ Some row) × IsTrue (is_submitted row.state))
    (kept : IsKeep disks.state old) where
  pub has_order : (answer : Result Answer KeepFault) → Applied disks.state disks.faults old new (entry_by writer (Claim now word)) answer
      → HasOrder answer (order_claimed new.tables answer)
  has_order (Ok (Claimed file attempt)) applied =
      let list = kept.fold.filled.list in
      let fine = subst (λ t. AreWellFormed t) (sym list.folded) (formed old.entries list.legal) in
      let stepped = step_of old.used (entry_by writer (Claim now word)) (step old.tables (Claim now word)) (new.tables, Claimed file attempt) applied.done in
      let row = waited old.tables now word file fine (ap claimed_file stepped) in
      some_map (order_in new.tables) (row_at new.tables.rows file)
      (claim_there old.tables (max now old.tables.moment) (pick old.tables (max now old.tables.moment) word) new.tables (Claimed file attempt) file stepped
      (subst IsSome (sym row.1) refl))
  has_order (Ok (Restarted released)) applied = tt
  has_order (Ok (Submitted job id)) applied = tt
  has_order (Ok (Cancelled job)) applied = tt
  has_order (Ok (PrioritySet job)) applied = tt
  has_order (Ok (Reported file left)) applied = tt
  has_order (Ok (Banned cancelled)) applied = tt
  has_order (Ok Unbanned) applied = tt
  has_order (Ok (Expired cancelled)) applied = tt
  has_order (Err fault) applied = tt

-- what an expiry is answered is no claimed file, and its fault one that a claim may meet
expiry_order : (tables : Tables) (answer : Result Answer KeepFault) → AnswersExpiry answer → HasOrder answer (order_claimed tables answer)
expiry_order tables (Ok (Expired cancelled)) answers = tt
expiry_order tables (Err fault) answers = tt
expiry_order tables _ answers = absurd answers

expiry_answers : (answer : Result Answer KeepFault) → AnswersExpiry answer → goes_on answer ≡ false → AnswersClaim answer
expiry_answers (Ok answer) answers stops = absurd cc
expiry_answers (Err (Rule refusal)) answers stops = answers
expiry_answers (Err (Damaged offset)) answers stops = answers
expiry_answers _ answers stops = tt

module _ {D : Type 0} (disks : disk.Ghosts D) (old new : KeepData D) (writer now word : ℕ) (expiry : Result Answer KeepFault)
    (claim : Option (Result Answer KeepFault)) (stepped : IsClaimStep disks.state disks.faults writer old new now word expiry claim) where
  -- what a step came to is what a claim may be answered
  pub answers_of_step : AnswersClaim (step_answer expiry claim)
  answers_of_step = by claim stepped.follows
    where
      by : (tried : Option (Result Answer KeepFault)) → FollowsExpiry disks.state disks.faults writer stepped.between new now word expiry tried
          → AnswersClaim (step_answer expiry tried)
      by None follows = expiry_answers expiry stepped.expired.answers follows.0
      by (Some result) follows = follows.1.claim.answers

  -- and the entry in doubt behind it is none, or the one from before, or the writer's
  pub doubt_of_step : (new.doubt ≡ None) ⊎ ((new.doubt ≡ old.doubt) ⊎ (IsDoubtOf writer new.doubt × Rose (disks.faults old.disk) (disks.faults new.disk)))
  doubt_of_step = by claim stepped.follows
    where
      first : (stepped.between.doubt ≡ None) ⊎ ((stepped.between.doubt ≡ old.doubt)
          ⊎ (IsDoubtOf writer stepped.between.doubt × Rose (disks.faults old.disk) (disks.faults stepped.between.disk)))
      first = doubt_moved (disks.faults old.disk) (disks.faults stepped.between.disk) old.doubt stepped.between.doubt (entry_by writer (Expire now))
          (doubt_of disks.state disks.faults old stepped.between (entry_by writer (Expire now)) expiry stepped.expired.tried.applied)

      by : (tried : Option (Result Answer KeepFault)) → FollowsExpiry disks.state disks.faults writer stepped.between new now word expiry tried
          → (new.doubt ≡ None) ⊎ ((new.doubt ≡ old.doubt) ⊎ (IsDoubtOf writer new.doubt × Rose (disks.faults old.disk) (disks.faults new.disk)))
      by None follows = subst (λ (k : KeepData D). (k.doubt ≡ None) ⊎ ((k.doubt ≡ old.doubt)
          ⊎ (IsDoubtOf writer k.doubt × Rose (disks.faults old.disk) (disks.faults k.disk)))) (sym follows.1) first
      by (Some result) follows = doubt_twice writer (disks.faults old.disk) (disks.faults stepped.between.disk) (disks.faults new.disk)
          old.doubt stepped.between.doubt new.doubt stepped.expired.tried.keeps.grows.counts follows.1.claim.tried.keeps.grows.counts first
          (doubt_moved (disks.faults stepped.between.disk) (disks.faults new.disk) stepped.between.doubt new.doubt (entry_by writer (Claim now word))
          (doubt_of disks.state disks.faults stepped.between new (entry_by writer (Claim now word)) result follows.1.claim.tried.applied))

  -- and where that is a file, its order comes with it
  pub order_of_step : ((entries : List Entry) → IsLegal entries → AreWellFormed (tables_of entries))
      → ((tables : Tables) (now word file : ℕ) → AreWellFormed tables → claimed_file (step tables (Claim now word)) ≡ Some file
      → (row : FileRow) × (row_at tables.rows file ≡ Some row) × IsTrue (is_submitted row.state))
      → HasOrder (step_answer expiry claim) (order_claimed new.tables (step_answer expiry claim))
  order_of_step formed waited = by claim stepped.follows
    where
      by : (tried : Option (Result Answer KeepFault)) → FollowsExpiry disks.state disks.faults writer stepped.between new now word expiry tried
          → HasOrder (step_answer expiry tried) (order_claimed new.tables (step_answer expiry tried))
      by None follows = expiry_order new.tables expiry stepped.expired.answers
      by (Some result) follows = has_order disks stepped.between new writer now word formed waited stepped.kept result follows.1.claim.tried.applied
