-- What an id added to ids in order leaves of the order.
use Rattle.std.proofs.Common.{◌≡◌, ◌≢◌, ◌⊎◌, inl, inr, ℕ, ◌+◌, ◌-◌, ◌<◌, ◌≤◌, ◌^◌, Bool, true, false, cond, List, [], ◌∷◌, ◌++◌, length, get_or, Option, Some, None, refl, ap, sym, ◌∙◌, subst, arith, vec_capacity}
use Rattle.std.specs.Prelude.{◌==◌, insert, IfSome}
use Rattle.std.specs.List.{position_from}
use Rattle.std.proofs.lemmas.List.Edits.{length-insert, get_or-insert_below, get_or-insert_at, get_or-insert_above}
use Rattle.std.proofs.lemmas.Bool.{eq-eqb, cases_lt}
use Rattle.std.proofs.lemmas.Bool.Decides.{nat_tests}
use Rattle.fts_index.specs.Numbers.{IdList, number_in}
use Rattle.fts_index.specs.IdOrder.{PlacedId, no_id, id_in_order, place_in_order, IsOrderOf, IsInOrderAt, IsPlaceOf, IsGapFor}
use Rattle.fts_index.specs.JobIds.{id_list, AreJobIds}
use Rattle.fts_index.specs.PlaceLists.{PlaceLists, IsGapIn, order_of}
use Rattle.fts_index.specs.declared.job_ids.JobIds.TheInside.{Inside}
use Rattle.fts_index.specs.declared.job_ids.Sought.{Sought}
use Rattle.fts_index.proofs.Found.{found_from}

-- a place that was found stays where items follow
position_from-front : {Item : Type 0} (test : Item → Bool) (start : ℕ) (items more : List Item) (place : ℕ) → position_from test start items ≡ Some place
    → position_from test start (items ++ more) ≡ Some place
position_from-front test start [] more place is = cc
position_from-front test start (item ∷ items) more place is = by_head (position_from-front test (start + 1) items more place) (test item) is
  where
    by_head : (position_from test (start + 1) items ≡ Some place → position_from test (start + 1) (items ++ more) ≡ Some place) → (answer : Bool)
        → cond answer (Some start) (position_from test (start + 1) items) ≡ Some place
        → cond answer (Some start) (position_from test (start + 1) (items ++ more)) ≡ Some place
    by_head behind true at = at
    by_head behind false at = behind at

-- where no place was found, an item that follows is asked
position_from-last : {Item : Type 0} (test : Item → Bool) (start : ℕ) (items : List Item) (last : Item) → position_from test start items ≡ None
    → position_from test start (items ++ last ∷ []) ≡ cond (test last) (Some (start + length items)) None
position_from-last test start [] last none = ap (λ place. cond (test last) (Some place) None) (omega arith)
position_from-last test start (item ∷ items) last none = by_head (position_from-last test (start + 1) items last) (test item) none
  where
    by_head : (position_from test (start + 1) items ≡ None → position_from test (start + 1) (items ++ last ∷ []) ≡ cond (test last) (Some (start + 1 + length items)) None)
        → (answer : Bool) → cond answer (Some start) (position_from test (start + 1) items) ≡ None
        → cond answer (Some start) (position_from test (start + 1) (items ++ last ∷ [])) ≡ cond (test last) (Some (start + length (item ∷ items))) None
    by_head behind true at = cc
    by_head behind false at = behind at ∙ ap (λ place. cond (test last) (Some place) None) (omega arith)

-- one item more
pub length-more : {Item : Type 0} (items : List Item) (last : Item) → length (items ++ last ∷ []) ≡ length items + 1
length-more [] last = refl
length-more (item ∷ items) last = omega (arith, length-more items last)

-- numbers that differ are told apart
not_equal : (one other : ℕ) → one ≢ other → (one == other) ≡ false
not_equal one other apart = grind (arith, nat_tests, apart)

module _ (ids : List ℕ) (order : List PlacedId) (is : IsOrderOf ids order) where
  -- each place of the order is one of the ids
  pub inside_ids : (at : ℕ) → at < length order → place_in_order order at < length ids
  inside_ids at inside =
      let there = found_from (λ other. other == id_in_order order at) 1 ids (place_in_order order at + 1) (is.least at inside) in
      omega (arith, there.is, there.inside)

  -- an id that has a gap has no number
  pub no_number : (id at : ℕ) → IsGapFor order id at → number_in ids id ≡ None
  no_number id at gap = is.whole id (λ some inside same. grind (arith, gap.before some, gap.behind some))

  -- an id that stands in the order is added to the ids alone
  pub added_again : (id at : ℕ) → IsInOrderAt order id at → IsOrderOf (ids ++ id ∷ []) order
  added_again id at there = record {
    rising = is.rising;
    least = λ one inside.
        position_from-front (λ other. other == id_in_order order one) 1 ids (id ∷ []) (place_in_order order one + 1) (is.least one inside);
    whole = λ asked apart.
        position_from-last (λ other. other == asked) 1 ids id (is.whole asked apart)
        ∙ ap (λ answer. cond answer (Some (1 + length ids)) None) (not_equal id asked (λ same. apart at there.inside (there.has ∙ same)));
  }

module _ (ids : List ℕ) (order : List PlacedId) (is : IsOrderOf ids order) (id at : ℕ) (gap : IsGapFor order id at) where
  abbrev new_ids : List ℕ
  new_ids = ids ++ id ∷ []

  abbrev new : PlacedId
  new = record { id = id; place = length ids }

  abbrev new_order : List PlacedId
  new_order = insert order at new

  length_new : length new_order ≡ length order + 1
  length_new = length-insert order at new gap.inside

  -- what stands in the new order: as before in front of the gap, the new id, and what was behind, one further
  before_gap : (one : ℕ) → one < at → get_or new_order one no_id ≡ get_or order one no_id
  before_gap one lt = get_or-insert_below order at new no_id one lt gap.inside

  at_gap : get_or new_order at no_id ≡ new
  at_gap = get_or-insert_at order at new no_id gap.inside

  behind_gap : (one : ℕ) → at ≤ one → get_or new_order (one + 1) no_id ≡ get_or order one no_id
  behind_gap one le = get_or-insert_above order at new no_id one le gap.inside

  -- and its ids
  id_before : (one : ℕ) → one < at → id_in_order new_order one ≡ id_in_order order one
  id_before one lt = ap (λ (some : PlacedId). some.id) (before_gap one lt)

  id_here : id_in_order new_order at ≡ id
  id_here = ap (λ (some : PlacedId). some.id) at_gap

  id_behind : (one : ℕ) → at ≤ one → id_in_order new_order (one + 1) ≡ id_in_order order one
  id_behind one le = ap (λ (some : PlacedId). some.id) (behind_gap one le)

  new_rising : (one other : ℕ) → one < other → other < length new_order → id_in_order new_order one < id_in_order new_order other
  new_rising one other lt inside =
      let behind : (some : ℕ) → at < some → id_in_order new_order some ≡ id_in_order order (some - 1) =
      λ some above. subst (λ (next : ℕ). id_in_order new_order next ≡ id_in_order order (some - 1)) {x = some - 1 + 1} (omega (arith, above))
      (id_behind (some - 1) (omega (arith, above))) in
      let here : (some : ℕ) → some ≡ at → id_in_order new_order some ≡ id = λ some same. rw same id_here in
      grind (
        arith,
        length_new,
        id_before one,
        here one,
        behind one,
        id_before other,
        here other,
        behind other,
        is.rising one other,
        is.rising one (other - 1),
        is.rising (one - 1) (other - 1),
        gap.before one,
        gap.behind (other - 1),
      )

  -- an id that was there is still at the least of its places
  still_least : (one some : ℕ) → one < length order → get_or new_order some no_id ≡ get_or order one no_id
      → number_in new_ids (id_in_order new_order some) ≡ Some (place_in_order new_order some + 1)
  still_least one some inside same =
      ap (λ (entry : PlacedId). number_in new_ids entry.id) same
      ∙ (position_from-front (λ other. other == id_in_order order one) 1 ids (id ∷ []) (place_in_order order one + 1) (is.least one inside)
      ∙ ap (λ (entry : PlacedId). Some (entry.place + 1)) (sym same))

  least_here : number_in new_ids (id_in_order new_order at) ≡ Some (place_in_order new_order at + 1)
  least_here =
      ap (number_in new_ids) id_here
      ∙ (position_from-last (λ other. other == id) 1 ids id (no_number ids order is id at gap)
      ∙ (ap (λ answer. cond answer (Some (1 + length ids)) None) (eq-eqb id id refl)
      ∙ ap (λ place. Some place) (omega (arith, ap (λ (some : PlacedId). some.place) at_gap))))

  new_least : (some : ℕ) → some < length new_order → number_in new_ids (id_in_order new_order some) ≡ Some (place_in_order new_order some + 1)
  new_least some inside = by_side (cases_lt some at) (cases_lt at some)
    where
      by_side : (some < at) ⊎ (at ≤ some) → (at < some) ⊎ (some ≤ at) → number_in new_ids (id_in_order new_order some) ≡ Some (place_in_order new_order some + 1)
      by_side (inl lt) other = still_least some some (omega (arith, lt, gap.inside)) (before_gap some lt)
      by_side (inr le) (inl lt) =
          let next : some - 1 + 1 ≡ some = omega (arith, lt) in
          subst (λ (place : ℕ). number_in new_ids (id_in_order new_order place) ≡ Some (place_in_order new_order place + 1)) next
          (still_least (some - 1) (some - 1 + 1) (omega (arith, lt, inside, length_new)) (behind_gap (some - 1) (omega (arith, lt))))
      by_side (inr le) (inr ge) =
          let same : at ≡ some = omega (arith, le, ge) in
          subst (λ (place : ℕ). number_in new_ids (id_in_order new_order place) ≡ Some (place_in_order new_order place + 1)) same least_here

  new_whole : (asked : ℕ) → ((some : ℕ) → some < length new_order → id_in_order new_order some ≢ asked) → number_in new_ids asked ≡ None
  new_whole asked apart =
      position_from-last (λ other. other == asked) 1 ids id (is.whole asked (λ one inside same. by_side one inside same (cases_lt one at)))
      ∙ ap (λ answer. cond answer (Some (1 + length ids)) None) (not_equal id asked (λ same. apart at (omega (arith, length_new, gap.inside)) (id_here ∙ same)))
    where
      by_side : (one : ℕ) → one < length order → id_in_order order one ≡ asked → (one < at) ⊎ (at ≤ one) → ⊥
      by_side one inside same (inl lt) = apart one (omega (arith, length_new, inside)) (id_before one lt ∙ same)
      by_side one inside same (inr le) = apart (one + 1) (omega (arith, length_new, inside)) (id_behind one le ∙ same)

  -- a new id takes its place in the gap
  pub added_new : IsOrderOf new_ids new_order
  added_new = record { rising = new_rising; least = new_least; whole = new_whole }

-- the number of an id that was found is one that a number of jobs can be
pub place_fits : (index : Inside) → AreJobIds index → (id place : ℕ) → IsPlaceOf (order_of index.order.chunks) id place → place + 1 < 2 ^ 32
place_fits index are id place found =
    omega (arith, inside_ids index.ids.items (order_of index.order.chunks) are.order found.at found.there.inside, found.is, are.inside, are.few)

-- one id more, in room that was there, with an order that has it; nothing is remembered then
pub with_id : (was then now : Inside) (order : PlaceLists) (sought : Option Sought) (seen : IdList) (id : ℕ) → AreJobIds was → id_list was ≡ seen
    → length seen.ids < seen.room → then ≡ record was { order = order; sought = sought } → sought ≡ None → now ≡ record then { ids = now.ids }
    → now.ids.items ≡ then.ids.items ++ id ∷ [] → vec_capacity then.ids ≤ vec_capacity now.ids → IsOrderOf (was.ids.items ++ id ∷ []) (order_of order.chunks)
    → AreJobIds now
with_id was then now order sought seen id are same fewer before none is pushed memory ordered =
    let items : now.ids.items ≡ was.ids.items ++ id ∷ [] = pushed ∙ ap (λ (some : Inside). some.ids.items ++ id ∷ []) before in
    let count = ap length items ∙ length-more was.ids.items id in
    let less : length was.ids.items < was.room =
    omega (arith, fewer, ap (λ (list : IdList). length list.ids) same, ap (λ (list : IdList). list.room) same) in
    let room : now.room ≡ was.room = ap (λ (some : Inside). some.room) is ∙ ap (λ (some : Inside). some.room) before in
    let new_order : now.order ≡ order = ap (λ (some : Inside). some.order) is ∙ ap (λ (some : Inside). some.order) before in
    let forgotten : now.sought ≡ None = ap (λ (some : Inside). some.sought) is ∙ (ap (λ (some : Inside). some.sought) before ∙ none) in
    record {
      inside = omega (arith, count, room, less);
      near = omega (arith, count, room, are.near);
      room = omega (arith, room, memory, ap (λ (some : Inside). vec_capacity some.ids) before, are.room);
      few = omega (arith, room, are.few);
      ready = λ more. absurd (omega (arith, more, count, room, are.near));
      order = subst (λ (lists : PlaceLists). IsOrderOf now.ids.items (order_of lists.chunks)) (sym new_order)
          (subst (λ some. IsOrderOf some (order_of order.chunks)) (sym items) ordered);
      sought = subst (λ (some : Option Sought). IfSome some (λ sought. IsGapIn now.order sought.id sought.spot.chunk sought.spot.at)) (sym forgotten) tt;
    }
