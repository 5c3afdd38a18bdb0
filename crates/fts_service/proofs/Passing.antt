-- The lines that pass through a lane's doors, one after another.
use Rattle.std.proofs.Common.{◌≡◌, refl, ap, sym, ◌∙◌, subst, ℕ, zero, suc, ◌+◌, ◌-◌, ◌<◌, ◌≤◌, ◌==◌, true, false, List, [], ◌∷◌, ◌++◌, map, length, Option, Some, None, append_assoc, append-nil, length-append, eqb-true, eq-eqb, arith}
use Rattle.std.proofs.lemmas.List.{map-append}
use Rattle.std.specs.Prelude.{IfSome, option_map}
use Rattle.fts_service.specs.Doors.{DoorsData, GivesFirst, with_one_back, Came, Went, PassThrough}
use Rattle.fts_service.specs.Lanes.{Standing, Sides, IsServed, AreLinesServed, ServesLines, MayServeMore, is_none_left, less_one}

module _ {L : Type 0} where
  came_none : (coming : Option (List L)) → Came coming coming []
  came_none None = refl
  came_none (Some lines) = refl

  went_none : (back : Option (List L)) → Went back back []
  went_none None = refl
  went_none (Some lines) = ap (λ (l : List L). Some l) (sym (append-nil lines))

  came_more : (first between last : Option (List L)) (one two : List L) → Came first between one → Came between last two → Came first last (one ++ two)
  came_more None between last one two a b = subst (λ (c : Option (List L)). Came c last two) a b
  came_more (Some coming) None last one two a b = absurd a
  came_more (Some coming) (Some rest) None one two a b = absurd b
  came_more (Some coming) (Some rest) (Some left) one two a b = a ∙ ap (λ (l : List L). one ++ l) b ∙ sym (append_assoc one two left)

  went_more : (first between last : Option (List L)) (one two : List L) → Went first between one → Went between last two → Went first last (one ++ two)
  went_more None between last one two a b = subst (λ (c : Option (List L)). Went c last two) a b
  went_more (Some back) between last one two a b =
      subst (λ (c : Option (List L)). Went c last two) a b ∙ ap (λ (l : List L). Some l) (append_assoc back one two)

  -- no line
  pub through_none : (doors : DoorsData L) → PassThrough doors doors []
  through_none doors = record { came = came_none doors.coming; went = went_none doors.back; out = refl }

  -- lines, and then others
  pub through_more : (first between last : DoorsData L) (one two : List (L × L)) → PassThrough first between one → PassThrough between last two
      → PassThrough first last (one ++ two)
  through_more first between last one two a b = record {
    came = subst (λ (l : List L). Came first.coming last.coming l) (sym (map-append (λ (line : L × L). line.0) one two))
        (came_more first.coming between.coming last.coming (map (λ line. line.0) one) (map (λ line. line.0) two) a.came b.came);
    went = subst (λ (l : List L). Went first.back last.back l) (sym (map-append (λ (line : L × L). line.1) one two))
        (went_more first.back between.back last.back (map (λ line. line.1) one) (map (λ line. line.1) two) a.went b.went);
    out = b.out ∙ a.out;
  }

  -- a line that was given and came back
  given_by : (coming : Option (List L)) (old between : DoorsData L) (line served : L) → coming ≡ old.coming → GivesFirst old between line coming
      → PassThrough old (with_one_back between served) ((line, served) ∷ [])
  given_by None old between line served is gives = record {
    came = subst (λ (c : Option (List L)). Came c between.coming (line ∷ [])) is (ap (λ (d : DoorsData L). d.coming) gives);
    went = went_back old.back between.back (ap (λ (d : DoorsData L). d.back) gives);
    out = ap (λ (d : DoorsData L). d.out - 1) gives ∙ omega arith;
  }
    where
      went_back : (first now : Option (List L)) → now ≡ first → Went first (option_map (λ lines. lines ++ served ∷ []) now) (served ∷ [])
      went_back None now e = ap (option_map (λ (lines : List L). lines ++ served ∷ [])) e
      went_back (Some back) now e = ap (option_map (λ (lines : List L). lines ++ served ∷ [])) e
  given_by (Some []) old between line served is gives = absurd gives
  given_by (Some (first ∷ others)) old between line served is gives = record {
    came = subst (λ (c : Option (List L)). Came c between.coming (line ∷ [])) is
        (subst (λ (c : Option (List L)). Came (Some (first ∷ others)) c (line ∷ [])) (sym (ap (λ (d : DoorsData L). d.coming) gives.1))
        (ap (λ (l : L). l ∷ others) (sym gives.0)));
    went = went_back old.back between.back (ap (λ (d : DoorsData L). d.back) gives.1);
    out = ap (λ (d : DoorsData L). d.out - 1) gives.1 ∙ omega arith;
  }
    where
      went_back : (first now : Option (List L)) → now ≡ first → Went first (option_map (λ lines. lines ++ served ∷ []) now) (served ∷ [])
      went_back None now e = ap (option_map (λ (lines : List L). lines ++ served ∷ [])) e
      went_back (Some back) now e = ap (option_map (λ (lines : List L). lines ++ served ∷ [])) e

  pub given_and_back : (old between : DoorsData L) (line served : L) → GivesFirst old between line old.coming
      → PassThrough old (with_one_back between served) ((line, served) ∷ [])
  given_and_back old between line served gives = given_by old.coming old between line served refl gives

  -- one more is out
  out_by : (coming : Option (List L)) (old between : DoorsData L) (line : L) → GivesFirst old between line coming → between.out ≡ old.out + 1
  out_by None old between line gives = ap (λ (d : DoorsData L). d.out) gives
  out_by (Some []) old between line gives = absurd gives
  out_by (Some (first ∷ others)) old between line gives = ap (λ (d : DoorsData L). d.out) gives.1

  pub one_out : (old between : DoorsData L) (line : L) → GivesFirst old between line old.coming → 0 < between.out
  one_out old between line gives = omega (arith, out_by old.coming old between line gives)

-- how many lines may still be served, once so many were
abbrev pub LeftAfter : Option ℕ → Option ℕ → ℕ → Type 0
LeftAfter None left served = left ≡ None
LeftAfter (Some most) left served = (left ≡ Some (most - served)) × (served ≤ most)

pub left_at_first : (connections : Option ℕ) → LeftAfter connections connections 0
left_at_first None = refl
left_at_first (Some most) = (ap (λ (n : ℕ). Some n) (omega arith), omega arith)

-- there are enough exactly where as many were served as may be
enough_by : (most served : ℕ) → served ≤ most → (most - served == 0) ≡ true → most ≡ served
enough_by most served few none =
    let left : most - served ≡ 0 = eqb-true (most - served) 0 none in
    omega (arith, left, few)

true_is_not_false : true ≡ false → ⊥
true_is_not_false e = cc

fewer_by : (most served k : ℕ) → most - served ≡ k → (k == 0) ≡ false → served < most
fewer_by most served zero e some = absurd (true_is_not_false (sym (eq-eqb 0 0 refl) ∙ some))
fewer_by most served (suc k) e some = omega (arith, e)

pub is_enough : (connections left : Option ℕ) (served : ℕ) → LeftAfter connections left served → is_none_left left ≡ true → connections ≡ Some served
is_enough None left served after none = absurd (not_told (sym (ap is_none_left after) ∙ none))
  where
    not_told : is_none_left None ≡ true → ⊥
    not_told e = cc
is_enough (Some most) left served after none =
    ap (λ (n : ℕ). Some n) (enough_by most served after.1 (sym (ap is_none_left after.0) ∙ none))

pub may_more : (connections left : Option ℕ) (served : ℕ) → LeftAfter connections left served → is_none_left left ≡ false → MayServeMore connections served
may_more None left served after some = tt
may_more (Some most) left served after some = fewer_by most served (most - served) refl (sym (ap is_none_left after.0) ∙ some)

pub left_more : (connections left : Option ℕ) (served : ℕ) → LeftAfter connections left served → is_none_left left ≡ false
    → LeftAfter connections (less_one left) (served + 1)
left_more None left served after some = ap less_one after
left_more (Some most) left served after some =
    let fewer : served < most = fewer_by most served (most - served) refl (sym (ap is_none_left after.0) ∙ some) in
    let less : most - served - 1 ≡ most - (served + 1) = omega arith in
    (ap less_one after.0 ∙ ap (λ (n : ℕ). Some n) less, omega (arith, fewer))

-- no more were served than may be
pub few_by : (connections left : Option ℕ) (served : ℕ) → LeftAfter connections left served → IfSome connections (λ most. served ≤ most)
few_by None left served after = tt
few_by (Some most) left served after = after.1

module _ {L : Type 0} (sides : Sides L) where
  -- one line more was served
  pub lines_more : (start at next : Standing) (lines : List (L × L)) (line : L × L) → AreLinesServed sides start lines at → IsServed sides at line next
      → AreLinesServed sides start (lines ++ line ∷ []) next
  lines_more start at next [] line served one = (next, (subst (λ (s : Standing). IsServed sides s line next) served one, refl))
  lines_more start at next (first ∷ lines) line served one = (served.0, (served.1.0, lines_more served.0 at next lines line served.1.1 one))

  -- what a lane has done so far: these lines were served, and so many may still be
  pub record Serving (connections left : Option ℕ) (start at : Standing) (doors doors_now : DoorsData L) : Type 0 where
    pub lines : List (L × L)
    pub served : AreLinesServed sides start lines at
    pub through : PassThrough doors doors_now lines
    pub left_is : LeftAfter connections left (length lines)

  pub none_served : (connections : Option ℕ) (start : Standing) (doors : DoorsData L) → Serving connections connections start start doors doors
  none_served connections start doors = record { lines = []; served = refl; through = through_none doors; left_is = left_at_first connections }

  module _ (connections left : Option ℕ) (start at : Standing) (doors doors_now : DoorsData L) (so_far : Serving connections left start at doors doors_now) where
    -- what it served
    pub serves_of : ServesLines sides connections start at doors doors_now so_far.lines
    serves_of = record { served = so_far.served; few = few_by connections left (length so_far.lines) so_far.left_is; through = so_far.through }

    -- one line more
    pub serves_more : (next : Standing) (doors_next : DoorsData L) (line : L × L) → is_none_left left ≡ false → IsServed sides at line next
        → PassThrough doors_now doors_next (line ∷ []) → Serving connections (less_one left) start next doors doors_next
    serves_more next doors_next line some one through = record {
      lines = so_far.lines ++ line ∷ [];
      served = lines_more start at next so_far.lines line so_far.served one;
      through = through_more doors doors_now doors_next so_far.lines (line ∷ []) so_far.through through;
      left_is = subst (λ (n : ℕ). LeftAfter connections (less_one left) n) (sym (length-append so_far.lines (line ∷ [])))
          (left_more connections left (length so_far.lines) so_far.left_is some);
    }
