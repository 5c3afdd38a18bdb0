-- A turn of the lock, as the turnstile says it, is a turn as workers and lanes say it; and what was tried in it is what they say of a command.
use Rattle.std.proofs.Common.{◌≡◌, ◌⊎◌, refl, sym, ap, ◌∙◌, subst, inl, inr, ⊎_elim, ℕ, ◌≤◌, arith, Bool, true, false, List, [], ◌∷◌, ◌++◌, append-nil, append_assoc, Option, Some, None, Result, Ok, Err, IsOk}
use Rattle.std.proofs.lemmas.List.{append_cancel_left}
use Rattle.fts_tables.specs.Counts.{Rose}
use Rattle.fts_tables.specs.Tables.{Tables}
use Rattle.fts_tables.specs.History.{tables_of}
use Rattle.fts_tables.specs.declared.commands.Entry.{Entry}
use Rattle.fts_tables.specs.declared.commands.Command.{Command}
use Rattle.fts_tables.specs.declared.commands.Command.TheVariants.{Claim, Expire}
use Rattle.fts_tables.specs.declared.commands.Answer.{Answer}
use Rattle.fts_turnstile.specs.declared.turn.LoggedTurn.{LoggedTurn}
use Rattle.fts_turnstile.specs.History.{items_of, turn_of, AllName, AllNamed}
use Rattle.fts_turnstile.specs.Passes.{PassView, IsSame, TookTurn, seen_list}
use Rattle.fts_keep.specs.Keeps.{KeepData, IsKeep, IsFilledBy}
use Rattle.fts_keep.specs.Applied.{Applied, DoubtMoves, applied_to, entry_by}
use Rattle.fts_keep.specs.declared.fault.KeepFault.{KeepFault}
use Rattle.fts_keep.specs.declared.fault.KeepFault.TheVariants.{Rule, DiskFailed, JournalFull, Damaged, Memory}
use Rattle.fts_workers.specs.Rounds.{applied_over}
use Rattle.fts_workers.specs.ClaimSteps.{FollowsExpiry, HasNoneOverdue}
use Rattle.fts_shop.specs.Shops.{ShopData, shop_entries, writer_of, shop_shows, faults_shown, lanes_shown, flag, ShowsOn, KeepsDisk, TakesTurn, point, HasFault, CameTo, added_by, TriedInTurn}
use Rattle.fts_shop.specs.Shops.{doubt_bytes, doubt_shown, shown_before, IsDoubtOf, IsShownOf, DoubtLeft, DoubtLeftIfTried}
use Rattle.fts_shop.specs.Shops.{ClaimsIfTried, IsTriedBehind, StepInTurn, added_by_claim}
use Rattle.fts_shop.specs.Within.{StepsIn, TriesIn}
use Rattle.fts_shop.specs.Looked.{items_on}
use Rattle.fts_shop.proofs.Answered.{answers_to}
use Rattle.fts_disk.specs.declared.disk.Disk as disk

-- one turn more, whose entries are of its writer
pub named_more : (turns : List (LoggedTurn Entry)) (turn : LoggedTurn Entry) → AllNamed writer_of turns → AllName writer_of turn.number turn.items
    → AllNamed writer_of (turns ++ turn ∷ [])
named_more [] turn named last = (last, tt)
named_more (first ∷ turns) turn named last = (named.0, named_more turns turn named.1 last)

-- a rise is one within what is around it
pub rose_wider : (low first last high : ℕ) → low ≤ first → last ≤ high → Rose first last → Rose low high
rose_wider low first last high before behind (inl more) = inl (omega (arith, more, before, behind))
rose_wider low first last high before behind (inr most) = inr (omega (arith, most, before, behind))

-- the entry in doubt behind the try of a writer's entry is none, or the one from before, or the writer's
pub doubt_moved : (before after : ℕ) (old new : Option Entry) (entry : Entry) → DoubtMoves before after old new entry
    → (new ≡ None) ⊎ ((new ≡ old) ⊎ (IsDoubtOf entry.writer new × Rose before after))
doubt_moved before after old new entry (inl same) = inr (inl same)
doubt_moved before after old new entry (inr (inl none)) = inl none
doubt_moved before after old new entry (inr (inr own)) = inr (inr (subst (IsDoubtOf entry.writer) (sym own.0) refl, own.1))

-- so it is behind two tries
pub doubt_twice : (writer before middle after : ℕ) (old between new : Option Entry) → before ≤ middle → middle ≤ after
    → (between ≡ None) ⊎ ((between ≡ old) ⊎ (IsDoubtOf writer between × Rose before middle))
    → (new ≡ None) ⊎ ((new ≡ between) ⊎ (IsDoubtOf writer new × Rose middle after))
    → (new ≡ None) ⊎ ((new ≡ old) ⊎ (IsDoubtOf writer new × Rose before after))
doubt_twice writer before middle after old between new low high first (inl none) = inl none
doubt_twice writer before middle after old between new low high first (inr (inr own)) =
    inr (inr (own.0, rose_wider before middle after after low (omega arith) own.1))
doubt_twice writer before middle after old between new low high (inl none) (inr (inl same)) = inl (same ∙ none)
doubt_twice writer before middle after old between new low high (inr (inl still)) (inr (inl same)) = inr (inl (same ∙ still))
doubt_twice writer before middle after old between new low high (inr (inr own)) (inr (inl same)) =
    inr (inr (subst (IsDoubtOf writer) (sym same) own.0, rose_wider before before middle after (omega arith) high own.1))

-- a writer's entry in doubt is shown as one
shown_of : (writer : ℕ) (doubt : Option Entry) → IsDoubtOf writer doubt → IsShownOf writer (doubt_bytes doubt)
shown_of writer None own = own
shown_of writer (Some entry) own = own

-- what is shown of a disk that was kept so
pub shows_on : {D : Type 0} (disks : disk.Ghosts D) (writer : ℕ) (old new : ShopData D) → KeepsDisk disks writer old.keep new.keep
    → ShowsOn writer (shop_shows disks old) (shop_shows disks new)
shows_on disks writer old new kept = record {
  tells = ap flag kept.told;
  counts = kept.counts;
  doubt = ⊎_elim
      (λ none. inl (ap doubt_bytes none))
      (λ some. inr (⊎_elim (λ same. inl (ap doubt_bytes same)) (λ own. inr (shown_of writer new.keep.doubt own.0, own.1)) some))
      kept.doubt;
}

-- a keep keeps its own disk so
pub same_disk : {D : Type 0} (disks : disk.Ghosts D) (writer : ℕ) (keep : KeepData D) → KeepsDisk disks writer keep keep
same_disk disks writer keep = record { told = refl; counts = omega arith; doubt = inr (inl refl) }

-- and what is shown goes on from itself
pub shows_same : (number : ℕ) (shown : List ℕ) → ShowsOn number shown shown
shows_same number shown = record { tells = refl; counts = omega arith; doubt = inr (inl refl) }

module _ {D : Type 0} (disks : disk.Ghosts D) (old new : KeepData D) (entry : Entry) where
  -- what a command came to over a keep is what it came to over a list that the keep is of
  came_over : (entries : List Entry) (rose : Type 0) → applied_to old.tables old.used entry ≡ applied_over entries entry
      → (Rose (disks.faults old.disk) (disks.faults new.disk) → rose) → (result : Result Answer KeepFault)
      → Applied disks.state disks.faults old new entry result → CameTo (applied_over entries entry) rose result
  came_over entries rose would rises (Ok found) applied = (new.tables, sym would ∙ applied.done)
  came_over entries rose would rises (Err (Rule refusal)) applied = sym would ∙ applied.0
  came_over entries rose would rises (Err (JournalFull used)) applied = sym would ∙ applied.0
  came_over entries rose would rises (Err DiskFailed) applied = (subst IsOk would applied.would, rises applied.rose)
  came_over entries rose would rises (Err Memory) applied = tt
  came_over entries rose would rises (Err (Damaged offset)) applied = absurd applied

  -- so is what it left in doubt, as it is shown
  doubt_over : (before : List ℕ) (rose : Type 0) → doubt_bytes old.doubt ≡ before → (Rose (disks.faults old.disk) (disks.faults new.disk) → rose)
      → (result : Result Answer KeepFault) → Applied disks.state disks.faults old new entry result
      → DoubtLeft rose before (doubt_bytes new.doubt) entry result
  doubt_over before rose was rises (Ok found) applied = ap doubt_bytes applied.cleared
  doubt_over before rose was rises (Err (Rule refusal)) applied = ap (λ (k : KeepData D). doubt_bytes k.doubt) applied.1 ∙ was
  doubt_over before rose was rises (Err (JournalFull used)) applied = ap (λ (k : KeepData D). doubt_bytes k.doubt) applied.1 ∙ was
  doubt_over before rose was rises (Err DiskFailed) applied = ⊎_elim
      (λ same. inl (ap doubt_bytes same ∙ was))
      (λ other. inr (⊎_elim (λ none. inl (ap doubt_bytes none)) (λ own. inr (ap doubt_bytes own, rises applied.rose)) other))
      applied.doubt
  doubt_over before rose was rises (Err Memory) applied = ⊎_elim
      (λ same. inl (ap doubt_bytes same ∙ was))
      (λ none. inr (ap doubt_bytes none))
      applied.doubt
  doubt_over before rose was rises (Err (Damaged offset)) applied = absurd applied

  -- and what it added to a keep's own list
  added_over : (result : Result Answer KeepFault) → Applied disks.state disks.faults old new entry result
      → new.entries ≡ old.entries ++ added_by entry result
  added_over (Ok found) applied = applied.listed
  added_over (Err (Rule refusal)) applied = ap (λ (k : KeepData D). k.entries) applied.1 ∙ sym (append-nil old.entries)
  added_over (Err (JournalFull used)) applied = ap (λ (k : KeepData D). k.entries) applied.1 ∙ sym (append-nil old.entries)
  added_over (Err DiskFailed) applied = applied.keeps.entries ∙ sym (append-nil old.entries)
  added_over (Err Memory) applied = applied.keeps.entries ∙ sym (append-nil old.entries)
  added_over (Err (Damaged offset)) applied = absurd applied

module _ {D : Type 0} (disks : disk.Ghosts D) (work : ShopData D → ShopData D → Type 0) (old new : PassView Entry) (same : IsSame old new)
    (took : TookTurn shop_entries writer_of (shop_shows disks) work old new) where
  -- the list that the turn left is what the pass has then seen
  pub list_left : took.after.keep.entries ≡ seen_list new
  list_left =
      took.appended ∙ ap (λ list. list ++ took.added) took.began
      ∙ append_assoc old.opening (items_of (old.seen ++ took.between)) took.added
      ∙ ap (λ list. old.opening ++ list)
      (ap (λ list. items_of (old.seen ++ took.between) ++ list) (sym (append-nil took.added))
      ∙ sym (items_on (old.seen ++ took.between) (turn_of old.number took.added (shop_shows disks took.after) ∷ [])))
      ∙ (λ i. sym same.1 i ++ items_of (sym took.seen i))

  -- where nothing was added to the list, no items were
  pub nothing_added : took.after.keep.entries ≡ took.before.keep.entries → took.added ≡ []
  nothing_added is = append_cancel_left took.before.keep.entries took.added []
      (sym took.appended ∙ is ∙ sym (append-nil took.before.keep.entries))

  -- the tables that the turn left are those of the list that the pass has then seen
  pub tables_left : IsKeep disks.state took.after.keep → took.after.keep.tables ≡ tables_of (seen_list new)
  tables_left kept = kept.fold.filled.list.folded ∙ ap tables_of list_left

  module _ (disk_kept : KeepsDisk disks old.number took.before.keep took.after.keep) where
    -- the turn
    abbrev pub taken_of : TakesTurn old new
    taken_of = record {
      between = took.between;
      turn = turn_of old.number took.added (shop_shows disks took.after);
      others = took.others;
      mine = refl;
      seen = took.seen;
      same = same;
      named = subst (λ turns. AllNamed writer_of turns) (sym took.seen)
          (named_more (old.seen ++ took.between) (turn_of old.number took.added (shop_shows disks took.after)) took.all_named took.named);
      on = subst (λ shown. ShowsOn old.number shown (shop_shows disks took.after)) took.showed (shows_on disks old.number took.before took.after disk_kept);
    }

    -- a rise of the disk's count is one that is shown
    rose_shown : Rose (disks.faults took.before.keep.disk) (disks.faults took.after.keep.disk) → HasFault taken_of
    rose_shown rose = subst (λ n. Rose n (disks.faults took.after.keep.disk)) (ap faults_shown took.showed) rose

    -- what a command would come to over the keep that the turn met is what it would over the list
    would_met : IsKeep disks.state took.before.keep → (entry : Entry)
        → applied_to took.before.keep.tables took.before.keep.used entry ≡ applied_over (point taken_of) entry
    would_met kept entry =
        (λ i. applied_to (kept.fold.filled.list.folded i) (kept.fold.filled.fills i) entry) ∙ ap (λ list. applied_over list entry) took.began

    module _ (command : Command) (answer : Result Answer KeepFault) (lanes : ℕ)
        (tries : TriesIn disks old.number command took.before took.after answer lanes) where
      abbrev entry : Entry
      entry = entry_by old.number command

      -- what the command would come to over the keep is what it would over the list
      would_is : applied_to took.before.keep.tables took.before.keep.used entry ≡ applied_over (point taken_of) entry
      would_is = would_met tries.kept entry

      added_is : took.added ≡ added_by entry answer
      added_is = append_cancel_left took.before.keep.entries took.added (added_by entry answer)
          (sym took.appended ∙ added_over disks took.before.keep took.after.keep entry answer tries.applied)

      -- a command that was tried in the turn
      pub tried_of : TriedInTurn old new command answer lanes
      tried_of = record {
        taken = taken_of;
        came = came_over disks took.before.keep took.after.keep entry (point taken_of) (HasFault taken_of) would_is rose_shown answer tries.applied;
        added = added_is;
        answers = answers_to disks took.before.keep took.after.keep old.number command answer tries.applied;
        cause = λ failed. rose_shown (subst (λ result. Applied disks.state disks.faults took.before.keep took.after.keep entry result) failed tries.applied).rose;
        left = tries.left ∙ ap lanes_shown took.showed;
        stay = tries.stay ∙ ap lanes_shown took.showed;
        doubt = doubt_over disks took.before.keep took.after.keep entry (doubt_shown (shown_before taken_of)) (HasFault taken_of)
            (ap doubt_shown took.showed) rose_shown answer tries.applied;
      }

    -- an expiry and a claim as one step
    module _ (now word : ℕ) (expiry : Result Answer KeepFault) (claim : Option (Result Answer KeepFault)) (lanes : ℕ)
        (steps : StepsIn disks old.number now word took.before took.after expiry claim lanes) where
      -- the entries, and the keep between the two
      abbrev expires : Entry
      expires = entry_by old.number (Expire now)

      abbrev claims : Entry
      claims = entry_by old.number (Claim now word)

      abbrev between : KeepData D
      between = steps.stepped.between

      -- the list that the claim meets
      abbrev met : List Entry
      met = point taken_of ++ added_by expires expiry

      listed_between : between.entries ≡ took.before.keep.entries ++ added_by expires expiry
      listed_between = added_over disks took.before.keep between expires expiry steps.stepped.expired.tried.applied

      -- the keep between is of that list
      filled_between : IsFilledBy between between.entries
      filled_between = steps.stepped.kept.fold.filled

      list_between : between.entries ≡ met
      list_between = listed_between ∙ ap (λ list. list ++ added_by expires expiry) took.began

      tables_between : between.tables ≡ tables_of met
      tables_between = filled_between.list.folded ∙ ap tables_of list_between

      would_between : applied_to between.tables between.used claims ≡ applied_over met claims
      would_between =
          (λ i. applied_to (filled_between.list.folded i) (filled_between.fills i) claims) ∙ ap (λ list. applied_over list claims) list_between

      -- what follows the expiry
      abbrev Follows : Option (Result Answer KeepFault) → Type 0
      Follows tried = FollowsExpiry disks.state disks.faults old.number between took.after.keep now word expiry tried

      -- the disk's count never falls in it
      counts_on : (tried : Option (Result Answer KeepFault)) → Follows tried → disks.faults between.disk ≤ disks.faults took.after.keep.disk
      counts_on None follows = omega (arith, ap (λ (k : KeepData D). disks.faults k.disk) follows.1)
      counts_on (Some result) follows = follows.1.claim.tried.keeps.grows.counts

      -- so a rise in either is shown
      rose_first : Rose (disks.faults took.before.keep.disk) (disks.faults between.disk) → HasFault taken_of
      rose_first rose = rose_shown
          (⊎_elim (λ more. inl (omega (arith, more, counts_on claim steps.stepped.follows))) (λ most. inr (omega (arith, most, counts_on claim steps.stepped.follows))) rose)

      rose_later : Rose (disks.faults between.disk) (disks.faults took.after.keep.disk) → HasFault taken_of
      rose_later rose = rose_shown
          (⊎_elim (λ more. inl (omega (arith, more, steps.stepped.expired.tried.keeps.grows.counts))) (λ most. inr most) rose)

      claims_if : (tried : Option (Result Answer KeepFault)) → Follows tried → ClaimsIfTried met old.number now word (HasFault taken_of) tried
      claims_if None follows = tt
      claims_if (Some result) follows = record {
        none_overdue = subst (λ (tables : Tables). HasNoneOverdue tables now) tables_between follows.1.none_overdue;
        came = came_over disks between took.after.keep claims met (HasFault taken_of) would_between rose_later result follows.1.claim.tried.applied;
      }

      listed_behind : (tried : Option (Result Answer KeepFault)) → Follows tried → took.after.keep.entries ≡ between.entries ++ added_by_claim claims tried
      listed_behind None follows = ap (λ (k : KeepData D). k.entries) follows.1 ∙ sym (append-nil between.entries)
      listed_behind (Some result) follows = added_over disks between took.after.keep claims result follows.1.claim.tried.applied

      both_added : took.added ≡ added_by expires expiry ++ added_by_claim claims claim
      both_added =
          let before = took.before.keep.entries in
          append_cancel_left before took.added (added_by expires expiry ++ added_by_claim claims claim)
          (sym took.appended ∙ listed_behind claim steps.stepped.follows
          ∙ ap (λ list. list ++ added_by_claim claims claim) listed_between
          ∙ append_assoc before (added_by expires expiry) (added_by_claim claims claim))

      doubt_behind : (tried : Option (Result Answer KeepFault)) → Follows tried
          → DoubtLeftIfTried (HasFault taken_of) (doubt_bytes between.doubt) (doubt_bytes took.after.keep.doubt) claims tried
      doubt_behind None follows = ap (λ (k : KeepData D). doubt_bytes k.doubt) follows.1
      doubt_behind (Some result) follows =
          doubt_over disks between took.after.keep claims (doubt_bytes between.doubt) (HasFault taken_of) refl rose_later result
          follows.1.claim.tried.applied

      tried_behind : (tried : Option (Result Answer KeepFault)) → Follows tried → IsTriedBehind expiry tried
      tried_behind None follows = follows.0
      tried_behind (Some result) follows = (follows.0, follows.1.claim.answers)

      -- a step that was made in the turn
      pub stepped_of : StepInTurn old new now word expiry claim lanes
      stepped_of = record {
        taken = taken_of;
        expired = came_over disks took.before.keep between expires (point taken_of) (HasFault taken_of)
            (would_met steps.kept expires) rose_first expiry steps.stepped.expired.tried.applied;
        claimed = claims_if claim steps.stepped.follows;
        added = both_added;
        answers = steps.stepped.expired.answers;
        follows = tried_behind claim steps.stepped.follows;
        expiry_cause = λ failed. rose_first
            (subst (λ result. Applied disks.state disks.faults took.before.keep between expires result) failed steps.stepped.expired.tried.applied).rose;
        claim_cause = λ failed. rose_later (subst Follows failed steps.stepped.follows).1.claim.tried.applied.rose;
        left = steps.left ∙ ap lanes_shown took.showed;
        stay = steps.stay ∙ ap lanes_shown took.showed;
        doubt = record {
          between = doubt_bytes between.doubt;
          expired = doubt_over disks took.before.keep between expires (doubt_shown (shown_before taken_of)) (HasFault taken_of)
              (ap doubt_shown took.showed) rose_first expiry steps.stepped.expired.tried.applied;
          claimed = doubt_behind claim steps.stepped.follows;
        };
      }
