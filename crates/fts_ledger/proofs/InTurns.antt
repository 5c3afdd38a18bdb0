-- A command that was tried in a turn, and a step of two, as lists see them: behind entries of others, and in the list where they were accepted.
use Rattle.std.proofs.Common.{◌≡◌, ◌≢◌, refl, sym, ap, ◌∙◌, subst, inl, ℕ, false, List, [], ◌∷◌, ◌++◌, Option, Some, None, Result, Ok, Err, append-nil, append_assoc}
use Rattle.fts_tables.specs.Step.{step}
use Rattle.fts_tables.specs.History.{IsLegal, tables_of}
use Rattle.fts_tables.specs.declared.commands.Entry.{Entry}
use Rattle.fts_tables.specs.declared.commands.Command.{Command}
use Rattle.fts_tables.specs.declared.commands.Command.TheVariants.{Claim, Expire}
use Rattle.fts_tables.specs.declared.commands.Answer.{Answer}
use Rattle.fts_turnstile.specs.declared.turn.LoggedTurn.{LoggedTurn}
use Rattle.fts_turnstile.specs.History.{AllName, AllNamed, NoneBy, items_of}
use Rattle.fts_turnstile.specs.Passes.{PassView}
use Rattle.fts_keep.specs.Keeps.{used_of}
use Rattle.fts_keep.specs.Applied.{entry_by}
use Rattle.fts_keep.specs.declared.fault.KeepFault.{KeepFault}
use Rattle.fts_keep.specs.declared.fault.KeepFault.TheVariants.{Rule, DiskFailed, JournalFull, Damaged, Memory}
use Rattle.fts_workers.specs.Rounds.{applied_over}
use Rattle.fts_workers.specs.ClaimSteps.{goes_on}
use Rattle.fts_workers.proofs.Accepted.{refused_of, step_of}
use Rattle.fts_shop.specs.Shops.{CameTo, ClaimsIfTried, HasFault, IsTriedBehind, StepInTurn, TakesTurn, TriedInTurn, added_by, added_by_claim, point, step_answer, writer_of}
use Rattle.fts_shop.specs.Looking.{NoneOf}
use Rattle.fts_shop.specs.Looked.{items_on, none_on}
use Rattle.fts_ledger.proofs.Turned.{Came, Stepped, Tried, legal_back}

-- items that name another number are none of this one's
none_items : (number writer : ℕ) (items : List Entry) → AllName writer_of writer items → writer ≢ number → NoneOf number items
none_items number writer [] named other = tt
none_items number writer (item ∷ items) named other = ((λ is. other (sym named.0 ∙ is)), none_items number writer items named.1 other)

-- nor are those of turns of others
pub none_by : (number : ℕ) (joined : List ℕ) (turns : List (LoggedTurn Entry)) → NoneBy (number ∷ joined) turns → AllNamed writer_of turns → NoneOf number (items_of turns)
none_by number joined [] none named = tt
none_by number joined (turn ∷ turns) none named =
    none_on number turn.items (items_of turns) (none_items number turn.number turn.items named.0 (λ is. none.0 (inl is)))
    (none_by number joined turns none.1 named.1)

-- the turns behind others name their numbers, and those before others
named_behind : (first second : List (LoggedTurn Entry)) → AllNamed writer_of (first ++ second) → AllNamed writer_of second
named_behind [] second named = named
named_behind (turn ∷ first) second named = named_behind first second named.1

named_front : (first second : List (LoggedTurn Entry)) → AllNamed writer_of (first ++ second) → AllNamed writer_of first
named_front [] second named = tt
named_front (turn ∷ first) second named = (named.0, named_front first second named.1)

-- what a command came to behind a list
came_of : (entries : List Entry) (entry : Entry) (rose : Type 0) (result : Result Answer KeepFault) → CameTo (applied_over entries entry) rose result
    → Came entries entry.command result
came_of entries entry rose (Ok answer) came =
    (came.0, step_of (used_of entries) entry (step (tables_of entries) entry.command) (came.0, answer) came.1)
came_of entries entry rose (Err (Rule refusal)) came = refused_of (used_of entries) entry (step (tables_of entries) entry.command) refusal came
came_of entries entry rose _ came = tt

-- the items that a turn adds stand behind those of others, none of which are the pass's
items_taken : (old new : PassView Entry) (taken : TakesTurn old new)
    → items_of new.seen ≡ (items_of old.seen ++ items_of taken.between) ++ taken.turn.items
items_taken old new taken =
    ap items_of taken.seen ∙ items_on (old.seen ++ taken.between) (taken.turn ∷ [])
    ∙ ap (λ list. list ++ (taken.turn.items ++ [])) (items_on old.seen taken.between)
    ∙ ap (λ list. (items_of old.seen ++ items_of taken.between) ++ list) (append-nil taken.turn.items)

none_between : (old new : PassView Entry) (taken : TakesTurn old new) → NoneOf old.number (items_of taken.between)
none_between old new taken =
    let named : AllNamed writer_of ((old.seen ++ taken.between) ++ taken.turn ∷ []) = subst (AllNamed writer_of) taken.seen taken.named in
    none_by old.number old.joined taken.between taken.others
    (named_behind old.seen taken.between (named_front (old.seen ++ taken.between) (taken.turn ∷ []) named))

-- the point of a turn is the list before it
point_is : (old new : PassView Entry) (taken : TakesTurn old new) → point taken ≡ old.opening ++ (items_of old.seen ++ items_of taken.between)
point_is old new taken = ap (λ list. old.opening ++ list) (items_on old.seen taken.between)

-- a command that was tried in a turn
tried_at : (old new : PassView Entry) (command : Command) (result : Result Answer KeepFault) (lanes : ℕ)
    → TriedInTurn old new command result lanes → Tried old.opening old.number (items_of old.seen) (items_of new.seen) command result
tried_at old new command result lanes tried =
    let taken = tried.taken in
    record {
      others = items_of taken.between;
      none = none_between old new taken;
      after_is = items_taken old new taken ∙ ap (λ list. (items_of old.seen ++ items_of taken.between) ++ list) tried.added;
      came = subst (λ list. Came list command result) (point_is old new taken)
          (came_of (point taken) (entry_by old.number command) (HasFault taken) result tried.came);
    }

-- the same, by what the pass was at the beginning
pub tried_for : (old new : PassView Entry) (opening : List Entry) (writer : ℕ) (command : Command) (result : Result Answer KeepFault) (lanes : ℕ)
    → old.opening ≡ opening → old.number ≡ writer → TriedInTurn old new command result lanes
    → Tried opening writer (items_of old.seen) (items_of new.seen) command result
tried_for old new opening writer command result lanes opens number tried =
    subst (λ n. Tried opening n (items_of old.seen) (items_of new.seen) command result) number
    (subst (λ o. Tried o old.number (items_of old.seen) (items_of new.seen) command result) opens
    (tried_at old new command result lanes tried))

-- an expiry that no claim follows added nothing, and came to a fault of the disk, the journal or memory
stopped_adds : (entry : Entry) (expiry : Result Answer KeepFault) → goes_on expiry ≡ false → added_by entry expiry ≡ []
stopped_adds entry (Ok answer) stops = absurd cc
stopped_adds entry (Err fault) stops = refl

stopped_came : (entries : List Entry) (command : Command) (expiry : Result Answer KeepFault) → goes_on expiry ≡ false → Came entries command expiry
stopped_came entries command (Ok answer) stops = absurd cc
stopped_came entries command (Err (Rule refusal)) stops = absurd cc
stopped_came entries command (Err DiskFailed) stops = tt
stopped_came entries command (Err (JournalFull used)) stops = tt
stopped_came entries command (Err Memory) stops = tt
stopped_came entries command (Err (Damaged offset)) stops = tt

-- what a step's claim added is what its answer says
claim_added : (entry : Entry) (expiry : Result Answer KeepFault) (claim : Option (Result Answer KeepFault)) → IsTriedBehind expiry claim
    → added_by_claim entry claim ≡ added_by entry (step_answer expiry claim)
claim_added entry expiry None follows = sym (stopped_adds entry expiry follows)
claim_added entry expiry (Some result) follows = refl

claim_came : (entries : List Entry) (writer now word : ℕ) (rose : Type 0) (expiry : Result Answer KeepFault) (claim : Option (Result Answer KeepFault))
    → IsTriedBehind expiry claim → ClaimsIfTried entries writer now word rose claim → Came entries (Claim now word) (step_answer expiry claim)
claim_came entries writer now word rose expiry None follows claims = stopped_came entries (Claim now word) expiry follows
claim_came entries writer now word rose expiry (Some result) follows claims = came_of entries (entry_by writer (Claim now word)) rose result claims.came

-- an expiry and a claim that were tried in a turn
stepped_at : (old new : PassView Entry) (now word : ℕ) (expiry : Result Answer KeepFault) (claim : Option (Result Answer KeepFault)) (lanes : ℕ)
    → StepInTurn old new now word expiry claim lanes
    → Stepped old.opening old.number (items_of old.seen) (items_of new.seen) now word expiry (step_answer expiry claim)
stepped_at old new now word expiry claim lanes tried =
    let taken = tried.taken in
    let expires = entry_by old.number (Expire now) in
    let claims = entry_by old.number (Claim now word) in
    let before = items_of old.seen ++ items_of taken.between in
    let first = added_by expires expiry in
    let middle = before ++ first in
    let answer = step_answer expiry claim in
    let met : point taken ++ first ≡ old.opening ++ (middle ++ []) =
    ap (λ list. list ++ first) (point_is old new taken) ∙ append_assoc old.opening before first ∙ ap (λ list. old.opening ++ list) (sym (append-nil middle)) in
    record {
      middle = middle;
      expired = record {
        others = items_of taken.between;
        none = none_between old new taken;
        after_is = refl;
        came = subst (λ list. Came list (Expire now) expiry) (point_is old new taken)
            (came_of (point taken) expires (HasFault taken) expiry tried.expired);
      };
      claimed = record {
        others = [];
        none = tt;
        after_is = items_taken old new taken ∙ ap (λ list. before ++ list) tried.added ∙ sym (append_assoc before first (added_by_claim claims claim))
            ∙ (λ i. sym (append-nil middle) i ++ claim_added claims expiry claim tried.follows i);
        came = subst (λ list. Came list (Claim now word) answer) met
            (claim_came (point taken ++ first) old.number now word (HasFault taken) expiry claim tried.follows tried.claimed);
      };
    }

-- the same, by what the pass was at the beginning
pub stepped_for : (old new : PassView Entry) (opening : List Entry) (writer now word : ℕ) (expiry : Result Answer KeepFault)
    (claim : Option (Result Answer KeepFault)) (lanes : ℕ) → old.opening ≡ opening → old.number ≡ writer
    → StepInTurn old new now word expiry claim lanes
    → Stepped opening writer (items_of old.seen) (items_of new.seen) now word expiry (step_answer expiry claim)
stepped_for old new opening writer now word expiry claim lanes opens number tried =
    subst (λ n. Stepped opening n (items_of old.seen) (items_of new.seen) now word expiry (step_answer expiry claim)) number
    (subst (λ o. Stepped o old.number (items_of old.seen) (items_of new.seen) now word expiry (step_answer expiry claim)) opens
    (stepped_at old new now word expiry claim lanes tried))

-- what a command was tried behind is legal, where the list behind it is
pub legal_tried : (opening : List Entry) (writer : ℕ) (before after : List Entry) (command : Command) (result : Result Answer KeepFault)
    → Tried opening writer before after command result → IsLegal (opening ++ after) → IsLegal (opening ++ before)
legal_tried opening writer before after command result tried legal =
    legal_back opening before after (tried.others ++ added_by (entry_by writer command) result)
    (tried.after_is ∙ append_assoc before tried.others (added_by (entry_by writer command) result)) legal
