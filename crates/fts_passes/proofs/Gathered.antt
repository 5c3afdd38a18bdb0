-- Passes that are made one after the other, and taken in one after the other.
use Rattle.std.proofs.Common.{◌≡◌, ◌≢◌, ◌⊎◌, ℕ, zero, suc, ◌+◌, ◌<◌, ◌≤◌, List, [], ◌∷◌, ◌++◌, map, refl, sym, ap, ◌∙◌, subst, inl, inr, ⊎_elim, arith, append_assoc, append-nil}
use Rattle.fts_turnstile.specs.declared.turn.LoggedTurn.{LoggedTurn}
use Rattle.fts_turnstile.specs.History.{Among, NoneBy, OnlyOthersSince}
use Rattle.fts_turnstile.specs.Passes.{TurnstileView, PassView, IsOf, numbers_of, pass_given, pass_after_join, HasAll}
use Rattle.fts_passes.specs.Crews.{numbers_from, passes_given, AreOf, AreTakenIn, AreSeenBy}

-- a number stays among these when others follow
pub among_left : (n : ℕ) (ms ns : List ℕ) → Among n ms → Among n (ms ++ ns)
among_left n [] ns a = absurd a
among_left n (m ∷ ms) ns a = ⊎_elim inl (λ t. inr (among_left n ms ns t)) a

-- and when others come before
pub among_right : (n : ℕ) (ms ns : List ℕ) → Among n ns → Among n (ms ++ ns)
among_right n [] ns a = a
among_right n (m ∷ ms) ns a = inr (among_right n ms ns a)

-- a number that isn't below another is it, or above it
or_more : (a b : ℕ) → a ≤ b → (a ≡ b) ⊎ (suc a ≤ b)
or_more zero zero h = inl refl
or_more zero (suc b) h = inr (omega arith)
or_more (suc a) zero h = absurd (omega arith)
or_more (suc a) (suc b) h = ⊎_elim (λ e. inl (ap suc e)) (λ lt. inr (omega arith)) (or_more a b (omega arith))

-- a number within a range of them is among them
among_range : (first count n : ℕ) → first ≤ n → n < first + count → Among n (numbers_from first count)
among_range first zero n low high = absurd (omega arith)
among_range first (suc more) n low high =
    ⊎_elim (λ e. inl (sym e)) (λ lt. inr (among_range (suc first) more n lt (omega arith))) (or_more first n low)

module _ {I : Type 0} where
  -- one pass more is given behind those that were
  pub given-push : (pass : PassView I) (count : ℕ)
      → passes_given pass (suc count) ≡ passes_given pass count ++ pass_given (record pass { given = pass.given + count }) ∷ []
  given-push pass zero = ap (λ (g : ℕ). pass_given (record pass { given = g }) ∷ []) (omega arith)
  given-push pass (suc count) = ap (λ rest. pass_given pass ∷ rest) (given-push (record pass { given = suc pass.given }) count
      ∙ ap (λ (g : ℕ). passes_given (record pass { given = suc pass.given }) count ++ pass_given (record pass { given = g }) ∷ []) (omega arith))

  -- those that are given are of the lock
  pub given_are_of : (lock : TurnstileView I) (pass : PassView I) (count : ℕ) → IsOf lock pass → AreOf lock (passes_given pass count)
  given_are_of lock pass zero of = tt
  given_are_of lock pass (suc count) of = (of, ((λ e. absurd (omega arith)), (refl, given_are_of lock (record pass { given = suc pass.given }) count of)))

  -- and have the next numbers
  pub given_numbers : (pass : PassView I) (count : ℕ) → map (λ given. given.number) (passes_given pass count) ≡ numbers_from (pass.given + 1) count
  given_numbers pass zero = refl
  given_numbers pass (suc count) = ap (λ rest. (pass.given + 1) ∷ rest) (given_numbers (record pass { given = suc pass.given }) count
      ∙ ap (λ (n : ℕ). numbers_from n count) (omega arith))

  -- passes of a lock, of which the last one is taken off
  pub are_of_left : (lock : TurnstileView I) (xs ys : List (PassView I)) → AreOf lock (xs ++ ys) → AreOf lock xs
  are_of_left lock [] ys of = tt
  are_of_left lock (x ∷ xs) ys of = (of.0, (of.1.0, (of.1.1.0, are_of_left lock xs ys of.1.1.1)))

  pub are_of_last : (lock : TurnstileView I) (xs ys : List (PassView I)) (x : PassView I) → AreOf lock (xs ++ x ∷ ys)
      → IsOf lock x × ((x.number ≢ 0) × (x.joined ≡ []))
  are_of_last lock [] ys x of = (of.0, (of.1.0, of.1.1.0))
  are_of_last lock (y ∷ xs) ys x of = are_of_last lock xs ys x of.1.1.1

  -- none by these numbers is none by one of them
  none_by_one : (n : ℕ) (ns : List ℕ) (turns : List (LoggedTurn I)) → Among n ns → NoneBy ns turns → NoneBy (n ∷ []) turns
  none_by_one n ns [] among none = tt
  none_by_one n ns (turn ∷ turns) among none =
      ((λ a. none.0 (subst (λ m. Among m ns) (sym (is_one turn.number n a)) among)), none_by_one n ns turns among none.1)
    where
      is_one : (m n : ℕ) → Among m (n ∷ []) → m ≡ n
      is_one m n a = ⊎_elim (λ e. e) (λ none. absurd none) a

  pub none_by-append : (ns : List ℕ) (xs ys : List (LoggedTurn I)) → NoneBy ns xs → NoneBy ns ys → NoneBy ns (xs ++ ys)
  none_by-append ns [] ys a b = b
  none_by-append ns (x ∷ xs) ys a b = (a.0, none_by-append ns xs ys a.1 b)

  -- turns of others alone came, and then again
  others_on : (n : ℕ) (ns : List ℕ) (before between now : List (LoggedTurn I)) → Among n ns → OnlyOthersSince (n ∷ []) before between
      → OnlyOthersSince ns between now → OnlyOthersSince (n ∷ []) before now
  others_on n ns before between now among one two = (
    one.0 ++ two.0,
    two.1 ∙ ap (λ turns. turns ++ two.0) one.1 ∙ append_assoc before one.0 two.0,
    none_by-append (n ∷ []) one.0 two.0 one.2 (none_by_one n ns two.0 among two.2),
  )

  -- what was taken in stays so, as pass 0 takes in more
  pub taken_on : (first later : PassView I) (more : List ℕ) (passes : List (PassView I)) → numbers_of later ≡ numbers_of first ++ more
      → OnlyOthersSince (numbers_of first) first.seen later.seen → AreTakenIn first passes → AreTakenIn later passes
  taken_on first later more [] numbers since taken = tt
  taken_on first later more (pass ∷ passes) numbers since taken = (
    record {
      number = subst (Among pass.number) (sym numbers) (among_left pass.number (numbers_of first) more taken.0.number);
      since = others_on pass.number (numbers_of first) pass.seen first.seen later.seen taken.0.number taken.0.since since;
    },
    taken_on first later more passes numbers since taken.1,
  )

  -- a number of a pass that was taken in is pass 0's
  taken_among : (first : PassView I) (passes : List (PassView I)) (n : ℕ) → Among n (map (λ pass. pass.number) passes) → AreTakenIn first passes
      → Among n (numbers_of first)
  taken_among first [] n among taken = absurd among
  taken_among first (pass ∷ passes) n among taken =
      ⊎_elim (λ e. subst (λ m. Among m (numbers_of first)) (sym e) taken.0.number) (λ a. taken_among first passes n a taken.1) among

  -- pass 0 has every number that it gave
  pub has_all : (first : PassView I) (passes : List (PassView I)) (given : ℕ) → first.number ≡ 0 → first.given ≡ given
      → map (λ pass. pass.number) passes ≡ numbers_from 1 given → AreTakenIn first passes → HasAll first
  has_all first passes given number gave numbers taken zero few = inl (sym number)
  has_all first passes given number gave numbers taken (suc n) few =
      taken_among first passes (suc n) (subst (Among (suc n)) (sym numbers) (among_range 1 given (suc n) (omega arith) (omega (arith, gave, few)))) taken

  -- each pass that was taken in has seen a beginning of the turns
  pub seen_of_taken : (first : PassView I) (passes : List (PassView I)) → AreTakenIn first passes → AreSeenBy first.seen passes
  seen_of_taken first [] taken = tt
  seen_of_taken first (pass ∷ passes) taken = (taken.0.since, seen_of_taken first passes taken.1)

-- of these passes, those that are left stand first, and the others were taken in
pub record TakenSoFar {I : Type 0} (first : PassView I) (all left : List (PassView I)) : Type 0 where
  pub done : List (PassView I)
  pub split : all ≡ left ++ done
  pub taken : AreTakenIn first done

-- none was taken in yet
pub taken_none : {I : Type 0} (first : PassView I) (all : List (PassView I)) → TakenSoFar first all all
taken_none first all = record { done = []; split = sym (append-nil all); taken = tt }

-- all were
pub taken_all : {I : Type 0} (first : PassView I) (all left : List (PassView I)) → left ≡ [] → TakenSoFar first all left → AreTakenIn first all
taken_all first all left none so_far = subst (AreTakenIn first) (sym (so_far.split ∙ ap (λ l. l ++ so_far.done) none)) so_far.taken

-- one more was taken in: the last of those that were left
pub taken_more : {I : Type 0} (first later : PassView I) (all left : List (PassView I)) (pass : PassView I) → TakenSoFar first all (left ++ pass ∷ [])
    → later ≡ pass_after_join first pass → OnlyOthersSince (numbers_of first) first.seen later.seen → OnlyOthersSince (numbers_of pass) pass.seen later.seen
    → pass.joined ≡ [] → TakenSoFar later all left
taken_more first later all left pass so_far joined mine theirs alone =
    let numbers : numbers_of later ≡ numbers_of first ++ (pass.number ∷ pass.joined) = ap numbers_of joined in
    record {
      done = pass ∷ so_far.done;
      split = so_far.split ∙ append_assoc left (pass ∷ []) so_far.done;
      taken = (
        record {
          number = subst (Among pass.number) (sym numbers) (among_right pass.number (numbers_of first) (pass.number ∷ pass.joined) (inl refl));
          since = subst (λ ns. OnlyOthersSince (pass.number ∷ ns) pass.seen later.seen) alone theirs;
        },
        taken_on first later (pass.number ∷ pass.joined) so_far.done numbers mine so_far.taken,
      );
    }

-- pass 0 has taken no turn, and takes none as it takes others in
pub none_on : {I : Type 0} (first later : PassView I) → first.number ≡ 0 → NoneBy (0 ∷ []) first.seen
    → OnlyOthersSince (numbers_of first) first.seen later.seen → NoneBy (0 ∷ []) later.seen
none_on first later number none since =
    subst (NoneBy (0 ∷ [])) (sym since.1)
    (none_by-append (0 ∷ []) first.seen since.0 none (none_by_one 0 (numbers_of first) since.0 (inl (sym number)) since.2))
