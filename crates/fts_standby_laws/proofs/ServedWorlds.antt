-- A world in which a primary came to a list, and made all that can be asked of that list and of what it was before.
use Rattle.std.proofs.Common.{◌≡◌, refl, sym, ◌∙◌, ap, subst, ℕ, zero, suc, ◌+◌, true, if◌then◌else◌, Option, Some, None, List, [], ◌∷◌, ◌++◌, length, map, arith, append_assoc, length-append, eq-eqb, ◌-◌, ◌≤◌}
use Rattle.std.specs.Prelude.{slice_get}
use Rattle.std.proofs.lemmas.List.{append-nil, length-map}
use Rattle.fts_tables.specs.declared.commands.Entry.{Entry}
use Rattle.fts_record.specs.Spelling.{spelled}
use Rattle.fts_standby.specs.Worlds.{Response, Refuses, Doubted, Standby, World, Step, Appends, Answers, Fails, Hands, started, spellings, response_by, response_to, with_fate, handed, stepped, reached, IsPrefix, IsPrefixWith, IsCarried, AreCarried, TakingIsSteps}

-- something stands in a list
pub record IsIn {A : Type 0} (x : A) (xs : List A) : Type 0 where
  pub place : ℕ
  pub is : slice_get xs place ≡ Some x

pub in_later : {A : Type 0} (x y : A) (xs : List A) → IsIn x xs → IsIn x (y ∷ xs)
in_later x y xs there = record { place = suc there.place; is = there.is }

get_front : {A : Type 0} (xs ys : List A) (n : ℕ) (x : A) → slice_get xs n ≡ Some x → slice_get (xs ++ ys) n ≡ Some x
get_front [] ys n x is = absurd (cc)
get_front (z ∷ xs) ys zero x is = is
get_front (z ∷ xs) ys (suc n) x is = get_front xs ys n x is

in_front : {A : Type 0} (x : A) (xs ys : List A) → IsIn x xs → IsIn x (xs ++ ys)
in_front x xs ys there = record { place = there.place; is = get_front xs ys there.place x there.is }

in_back : {A : Type 0} (x : A) (xs ys : List A) → IsIn x ys → IsIn x (xs ++ ys)
in_back x [] ys there = there
in_back x (z ∷ xs) ys there = in_later x z (xs ++ ys) (in_back x xs ys there)

get_map : {A B : Type 0} (f : A → B) (xs : List A) (n : ℕ) (x : A) → slice_get xs n ≡ Some x → slice_get (map f xs) n ≡ Some (f x)
get_map f [] n x is = absurd (cc)
get_map f (z ∷ xs) zero x is = let same : z ≡ x = cc in ap (λ y. Some (f y)) same
get_map f (z ∷ xs) (suc n) x is = get_map f xs n x is

pub in_map : {A B : Type 0} (f : A → B) (x : A) (xs : List A) → IsIn x xs → IsIn (f x) (map f xs)
in_map f x xs there = record { place = there.place; is = get_map f xs there.place x there.is }

-- what is answered over a list where these numbers are asked for
abbrev pub answers_over : List ℕ → List Entry → List Response
answers_over numbers entries = map (response_to entries) numbers ++ Refuses 500 ∷ Refuses 503 ∷ []

-- what is answered over a list, and over what it becomes by the entries that are appended one by one
abbrev pub made_over : List ℕ → List Entry → List Entry → List Response
made_over numbers front [] = answers_over numbers front
made_over numbers front (entry ∷ rest) = answers_over numbers front ++ made_over numbers (front ++ entry ∷ []) rest

-- the steps that do that
abbrev asking : List ℕ → List Step
asking numbers = map Answers numbers ++ Fails 500 ∷ Fails 503 ∷ []

abbrev history : List ℕ → List Entry → List Step
history numbers [] = asking numbers
history numbers (entry ∷ rest) = asking numbers ++ Appends entry ∷ history numbers rest

reached-append : (w : World) (xs ys : List Step) → reached w (xs ++ ys) ≡ reached (reached w xs) ys
reached-append w [] ys = refl
reached-append w (x ∷ xs) ys = reached-append (stepped x w) xs ys

-- a world whose primary made more
abbrev with_made : World → List Response → World
with_made w made = record w { made = made }

answered : (w : World) (numbers : List ℕ) → reached w (map Answers numbers) ≡ with_made w (w.made ++ map (response_to w.primary) numbers)
answered w [] = ap (with_made w) (sym (append-nil w.made))
answered w (number ∷ numbers) =
    answered (stepped (Answers number) w) numbers
    ∙ ap (with_made w) (append_assoc w.made (response_to w.primary number ∷ []) (map (response_to w.primary) numbers))

asked : (w : World) (numbers : List ℕ) → reached w (asking numbers) ≡ with_made w (w.made ++ answers_over numbers w.primary)
asked w numbers =
    reached-append w (map Answers numbers) (Fails 500 ∷ Fails 503 ∷ [])
    ∙ (ap (λ v. reached v (Fails 500 ∷ Fails 503 ∷ [])) (answered w numbers)
    ∙ ap (with_made w) (append_assoc (w.made ++ map (response_to w.primary) numbers) (Refuses 500 ∷ []) (Refuses 503 ∷ [])
    ∙ append_assoc w.made (map (response_to w.primary) numbers) (Refuses 500 ∷ Refuses 503 ∷ [])))

-- the world that they lead to
abbrev grown : World → List Entry → List Response → World
grown w primary made = record w { primary = primary; made = made }

lived : (w : World) (numbers : List ℕ) (rest : List Entry) → reached w (history numbers rest) ≡ grown w (w.primary ++ rest) (w.made ++ made_over numbers w.primary rest)
lived w numbers [] = asked w numbers ∙ ap (λ primary. grown w primary (w.made ++ answers_over numbers w.primary)) (sym (append-nil w.primary))
lived w numbers (entry ∷ rest) =
    let next : World = stepped (Appends entry) (with_made w (w.made ++ answers_over numbers w.primary)) in
    reached-append w (asking numbers) (Appends entry ∷ history numbers rest)
    ∙ (ap (λ v. reached (stepped (Appends entry) v) (history numbers rest)) (asked w numbers)
    ∙ (lived next numbers rest
    ∙ (ap (λ primary. grown w primary ((w.made ++ answers_over numbers w.primary) ++ made_over numbers (w.primary ++ entry ∷ []) rest)) (append_assoc w.primary (entry ∷ []) rest)
    ∙ ap (grown w (w.primary ++ entry ∷ rest)) (append_assoc w.made (answers_over numbers w.primary) (made_over numbers (w.primary ++ entry ∷ []) rest)))))

-- what is answered over a beginning is among it
pub made_has : (numbers : List ℕ) (response : Response) (front mid later : List Entry) → IsIn response (answers_over numbers (front ++ mid))
    → IsIn response (made_over numbers front (mid ++ later))
made_has numbers response front [] [] there = subst (λ l. IsIn response (answers_over numbers l)) (append-nil front) there
made_has numbers response front [] (entry ∷ later) there =
    in_front response (answers_over numbers front) (made_over numbers (front ++ entry ∷ []) later)
    (subst (λ l. IsIn response (answers_over numbers l)) (append-nil front) there)
made_has numbers response front (entry ∷ mid) later there =
    in_back response (answers_over numbers front) (made_over numbers (front ++ entry ∷ []) (mid ++ later))
    (made_has numbers response (front ++ entry ∷ []) mid later
    (subst (λ l. IsIn response (answers_over numbers l)) (sym (append_assoc front (entry ∷ []) mid)) there))

-- an answer to a number that is asked for, and the two that refuse
pub over_number : (numbers : List ℕ) (entries : List Entry) (number : ℕ) → IsIn number numbers → IsIn (response_to entries number) (answers_over numbers entries)
over_number numbers entries number there =
    in_front (response_to entries number) (map (response_to entries) numbers) (Refuses 500 ∷ Refuses 503 ∷ [])
    (in_map (response_to entries) number numbers there)

pub over_500 : (numbers : List ℕ) (entries : List Entry) → IsIn (Refuses 500) (answers_over numbers entries)
over_500 numbers entries =
    in_back (Refuses 500) (map (response_to entries) numbers) (Refuses 500 ∷ Refuses 503 ∷ []) (record { place = 0; is = refl })

pub over_503 : (numbers : List ℕ) (entries : List Entry) → IsIn (Refuses 503) (answers_over numbers entries)
over_503 numbers entries =
    in_back (Refuses 503) (map (response_to entries) numbers) (Refuses 500 ∷ Refuses 503 ∷ []) (record { place = 1; is = refl })

-- ---- a standby in that world

-- the numbers from one on, so many
abbrev counted_from : ℕ → ℕ → List ℕ
counted_from number zero = []
counted_from number (suc more) = number ∷ counted_from (suc number) more

-- the place of a number among them
count_in : (number more offset : ℕ) → IsIn (number + offset) (counted_from number (suc (offset + more)))
count_in number more zero = record { place = 0; is = let same : number ≡ number + 0 = omega arith in ap Some same }
count_in number more (suc offset) =
    let there = count_in (suc number) more offset in
    in_later (number + suc offset) number (counted_from (suc number) (suc offset + more))
    (subst (λ n. IsIn n (counted_from (suc number) (suc offset + more))) (let same : suc number + offset ≡ number + suc offset = omega arith in same)
    (subst (λ n. IsIn (suc number + offset) (counted_from (suc number) n)) (let same : suc (offset + more) ≡ suc offset + more = omega arith in same) there))

-- a list has at its beginning what begins it
got_behind : {A : Type 0} (front rest : List A) (x : A) → slice_get (front ++ x ∷ rest) (length front) ≡ Some x
got_behind [] rest x = refl
got_behind (y ∷ front) rest x = got_behind front rest x

-- each number up to the last one
abbrev pub all_numbers : ℕ → List ℕ
all_numbers most = counted_from 0 (suc most)

pub every_number : (most number : ℕ) → number ≤ most → IsIn number (all_numbers most)
every_number most number few =
    subst (λ n. IsIn number (counted_from 0 n)) (let same : suc (number + (most - number)) ≡ suc most = omega (arith, few) in same)
    (subst (λ n. IsIn n (counted_from 0 (suc (number + (most - number))))) (let same : 0 + number ≡ number = omega arith in same) (count_in 0 (most - number) number))

-- what such a primary made in all
abbrev pub all_made : List Entry → List Response
all_made primary = made_over (all_numbers (length primary)) [] primary

-- an answer over a beginning of its list is among that
pub is_made : (primary entries : List Entry) (response : Response) → IsPrefix entries primary
    → IsIn response (answers_over (all_numbers (length primary)) entries) → IsIn response (all_made primary)
is_made primary entries response begins there =
    subst (λ l. IsIn response (made_over (all_numbers (length primary)) [] l)) (sym begins.is)
    (made_has (all_numbers (length primary)) response [] entries begins.rest there)

module _ (primary : List Entry) where
  carried_at : (number : ℕ) (body : List ℕ) → number ≤ length primary → slice_get (spellings primary) number ≡ Some body → IsCarried (all_made primary) number body
  carried_at number body few is =
      let there = is_made primary primary (response_to primary number) (record { rest = []; is = sym (append-nil primary) })
      (over_number (all_numbers (length primary)) primary number (every_number (length primary) number few)) in
      record { place = there.place; count = length primary; is = there.is ∙ ap (λ found. Some (response_by (length primary) number found)) is }

  spelled_many : length (spellings primary) ≡ length primary
  spelled_many = length-map primary spelled

  carried_from : (front bodies rest : List (List ℕ)) → spellings primary ≡ front ++ (bodies ++ rest) → AreCarried (all_made primary) (length front) bodies
  carried_from front [] rest parts = tt
  carried_from front (body ∷ bodies) rest parts = (
    carried_at (length front) body
        (let whole = ap (λ (l : List (List ℕ)). length l) parts in let joined = length-append front (body ∷ (bodies ++ rest)) in omega (arith, whole, joined, spelled_many))
        (ap (λ (l : List (List ℕ)). slice_get l (length front)) parts ∙ got_behind front (bodies ++ rest) body),
    subst (λ count. AreCarried (all_made primary) count bodies) (let longer = length-append front (body ∷ []) in omega (arith, longer))
        (carried_from (front ++ body ∷ []) bodies rest (parts ∙ sym (append_assoc front (body ∷ []) (bodies ++ rest)))),
  )

  -- the world with this standby
  abbrev pub world_with : Standby → World
  world_with standby = record { primary = primary; made = all_made primary; standby = standby }

  lived_whole : reached (started []) (history (all_numbers (length primary)) primary) ≡ world_with (record { list = []; doubt = None })
  lived_whole = lived (started []) (all_numbers (length primary)) primary

  module _ (taking : TakingIsSteps) where
    sure_steps : (list : List (List ℕ)) → IsPrefix list (spellings primary)
        → (steps : List Step) × (reached (started []) steps ≡ world_with (record { list = list; doubt = None }))
    sure_steps list begins =
        let first = world_with (record { list = []; doubt = None }) in
        let takes = taking first list refl (carried_from [] list begins.rest begins.is) in (
          history (all_numbers (length primary)) primary ++ takes.steps,
          reached-append (started []) (history (all_numbers (length primary)) primary) takes.steps
              ∙ (ap (λ v. reached v takes.steps) lived_whole ∙ takes.reaches),
        )

    -- the steps that lead to it
    pub steps_to : (list : List (List ℕ)) (doubt : Option (List ℕ)) → IsPrefix list (spellings primary) → IsPrefixWith list doubt (spellings primary)
        → (steps : List Step) × (reached (started []) steps ≡ world_with (record { list = list; doubt = doubt }))
    steps_to list None begins with_doubt = sure_steps list begins
    steps_to list (Some body) begins with_doubt =
        let first = sure_steps list begins in
        let behind = world_with (record { list = list; doubt = None }) in
        let there = carried_at (length list) body
        (let whole = ap (λ (l : List (List ℕ)). length l) with_doubt.is in
        let joined = length-append (list ++ body ∷ []) with_doubt.rest in
        let inner = length-append list (body ∷ []) in
        omega (arith, whole, joined, inner, spelled_many))
        (ap (λ (l : List (List ℕ)). slice_get l (length list)) (with_doubt.is ∙ append_assoc list (body ∷ []) with_doubt.rest) ∙ got_behind list with_doubt.rest body) in
        let step = Hands there.place true Doubted in (
          first.0 ++ step ∷ [],
          reached-append (started []) first.0 (step ∷ []) ∙ (ap (λ v. stepped step v) first.1
              ∙ ap (λ standby. record behind { standby = standby })
              (ap (λ response. handed Doubted true response behind.standby) there.is
              ∙ ap (λ b. if b then with_fate Doubted body behind.standby else behind.standby) (eq-eqb (length list) (length list) refl))),
        )
