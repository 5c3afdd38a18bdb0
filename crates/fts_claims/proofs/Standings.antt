-- Links go as what they are compared by does, since names go as their ranks do.
use Rattle.std.proofs.Common.{◌≡◌, ℕ, ◌<◌, Bool, true, false, cond, Option, Some, None, refl, ap, sym, ◌∙◌, arith}
use Rattle.std.specs.Prelude.{◌==◌, option_map, IfSome}
use Rattle.std.specs.declared.cmp.Ordering.{Ordering}
use Rattle.std.specs.declared.cmp.Ordering.TheVariants.{Less, Equal, Greater}
use Rattle.std.specs.Ordering.{nat_cmp, ordering_then, is_lt}
use Rattle.std.specs.Cmp.Lexicographic.{slice_cmp}
use Rattle.std.proofs.lemmas.Bool.{le-ltb, ne_eqb}
use Rattle.fts_tables.specs.Limits.{held}
use Rattle.fts_tables.specs.declared.settings.LinkAt.{LinkAt}
use Rattle.fts_slots.specs.SlotsData.{name_at}
use Rattle.fts_slots.specs.Ranks.{rank_at}
use Rattle.fts_slots.proofs.Ranked.{ranks_go}
use Rattle.fts_claims.specs.declared.links.Standing.{Standing}
use Rattle.fts_claims.specs.Ties.{ClaimData}
use Rattle.fts_claims.specs.Claims.{is_inside, is_link_before, standing_of, stands_before}
use Rattle.fts_claims.proofs.TiedSlots.{within}

pub as_links : (view : ClaimData) (one other : LinkAt) → is_inside view.settings one ≡ true → is_inside view.settings other ≡ true
    → stands_before (standing_of view one) (standing_of view other) ≡ is_link_before view one other
as_links view one other one_inside other_inside =
    let one_ends = within view.settings one one_inside in
    let other_ends = within view.settings other other_inside in
    ap (λ order. is_lt (ordering_then
    (nat_cmp (held view.rows (name_at view.settings one.source) (name_at view.settings one.dest))
    (held view.rows (name_at view.settings other.source) (name_at view.settings other.dest)))
    (ordering_then order (nat_cmp (rank_at view.settings one.dest) (rank_at view.settings other.dest)))))
    (ranks_go view.settings one.source other.source one_ends.0 other_ends.0)
    ∙ ap (λ order. is_lt (ordering_then
    (nat_cmp (held view.rows (name_at view.settings one.source) (name_at view.settings one.dest))
    (held view.rows (name_at view.settings other.source) (name_at view.settings other.dest)))
    (ordering_then (slice_cmp nat_cmp (name_at view.settings one.source) (name_at view.settings other.source)) order)))
    (ranks_go view.settings one.dest other.dest one_ends.1 other_ends.1)

-- one that holds as much or more and whose source ranks later doesn't go before the other
pub not_before : (one other : Standing) → other.held ≡ 0 → other.source < one.source → false ≡ stands_before one other
not_before one other none later =
    sym (ap (λ order. is_lt (ordering_then order by_ranks)) (not_less one.held other.held none)
    ∙ by_held (one.held == other.held))
  where
    by_ranks : Ordering
    by_ranks = ordering_then (nat_cmp one.source other.source) (nat_cmp one.dest other.dest)

    not_less : (held none : ℕ) → none ≡ 0 → nat_cmp held none ≡ cond (held == none) Equal Greater
    not_less held none is = ap (λ answer. cond answer Less (cond (held == none) Equal Greater)) (le-ltb held none (omega (arith, is)))

    greater : nat_cmp one.source other.source ≡ Greater
    greater =
        ap (λ answer. cond answer Less (cond (one.source == other.source) Equal Greater)) (le-ltb one.source other.source (omega (arith, later)))
        ∙ ap (λ answer. cond answer Equal Greater) (ne_eqb one.source other.source (λ same. omega (arith, same, later)))

    by_held : (same : Bool) → is_lt (ordering_then (cond same Equal Greater) by_ranks) ≡ false
    by_held true = ap (λ order. is_lt (ordering_then order (nat_cmp one.dest other.dest))) greater
    by_held false = refl

-- what holds of what is made of an item that is there
pub of_mapped : {A B : Type 0} (f : A → B) (P : B → Type 0) (some : Option A) → IfSome (option_map f some) P → IfSome some (λ item. P (f item))
of_mapped f P None holds = holds
of_mapped f P (Some item) holds = holds

pub to_mapped : {A B : Type 0} (f : A → B) (P : B → Type 0) (some : Option A) → IfSome some (λ item. P (f item)) → IfSome (option_map f some) P
to_mapped f P None holds = holds
to_mapped f P (Some item) holds = holds
