use Rattle.std.proofs.Common.{◌≡◌, ℕ, ◌<◌, ◌≤◌, ◌⊎◌, inl, inr, Bool, true, false, ap, sym, ◌∙◌, arith}
use Rattle.std.specs.Prelude.{not, nat_lt, ◌&&◌}
use Rattle.std.proofs.lemmas.Bool.{and_parts, and_from, cases_eq}
use Rattle.std.proofs.lemmas.Bool.Decides.{nat_tests}
use Rattle.ordered.specs.ByNumbers.{is_first_by}
use Rattle.fts_heads.specs.declared.ripe_file.RipeFile.{RipeFile}
use Rattle.fts_heads.specs.RipeFiles.{goes_by_group, by_group}
use Rattle.fts_heads.specs.Crowd.{is_own}
use Rattle.fts_heads.proofs.Leasts.{own_found, own_none, below_least, less_behind}
use Rattle.fts_heads.proofs.crowd.next_own.Goals as goal
use Rattle.fts_heads.proofs.crowd.next_own.Goals.{in-Some+else-is_before, in_default}

pub returns-then-is_before : goal.returns-then-is_before
returns-then-is_before c =
    let found = own_found c.args.own.now c.args.file.now.dest c.in-Some.found (sym c.own_at.ensures.file ∙ c.in-Some.is) in
    record {
      least = (
        found.is,
        (
          both (sym c.is_before.ensures.answer ∙ c.if-is_before.true) found.same,
          λ other is passed. alone other is (cases_eq other.dest c.args.file.now.dest)
              (and_parts (goes_by_group c.args.file.now other) (not (nat_lt other.dest c.args.least)) passed).0,
        ),
      );
    }
  where
    both : goes_by_group c.args.file.now c.in-Some.found ≡ true → c.in-Some.found.dest ≡ c.args.file.now.dest
        → (goes_by_group c.args.file.now c.in-Some.found && not (nat_lt c.in-Some.found.dest c.args.least)) ≡ true
    both goes same =
        and_from (goes_by_group c.args.file.now c.in-Some.found) (not (nat_lt c.in-Some.found.dest c.args.least)) goes
        (not_less c.in-Some.found.dest c.args.least (omega (arith, same, c.requires.most)))
      where
        not_less : (n m : ℕ) → m ≤ n → not (nat_lt n m) ≡ true
        not_less n m most = grind (arith, nat_tests)

    alone : (other : RipeFile) → is_own c.args.own.now other ≡ true
        → (other.dest ≡ c.args.file.now.dest) ⊎ (other.dest ≡ c.args.file.now.dest → ⊥) → goes_by_group c.args.file.now other ≡ true
        → goes_by_group other c.in-Some.found ≡ false
    alone other is (inl same) goes =
        let found = own_found c.args.own.now c.args.file.now.dest c.in-Some.found (sym c.own_at.ensures.file ∙ c.in-Some.is) in
        ap (λ (some : RipeFile). goes_by_group some c.in-Some.found) (found.alone other is same) ∙ by_group.irreflexive c.in-Some.found
    alone other is (inr differ) goes =
        let found = own_found c.args.own.now c.args.file.now.dest c.in-Some.found (sym c.own_at.ensures.file ∙ c.in-Some.is) in
        let most : other.dest ≤ c.args.file.now.dest = no_greater c.args.file.now.dest other.dest c.args.file.now.queue other.queue _ goes in
        less_behind other.dest c.in-Some.found.dest other.queue c.in-Some.found.queue _ (less other.dest c.in-Some.found.dest c.args.file.now.dest most
        differ found.same)
      where
        no_greater : (dest other queue other_queue : ℕ) (rest : Bool) → is_first_by other dest (is_first_by queue other_queue rest) ≡ true → other ≤ dest
        no_greater dest other queue other_queue rest goes = grind (arith, nat_tests)

        less : (n m dest : ℕ) → n ≤ dest → (n ≡ dest → ⊥) → m ≡ dest → n < m
        less n m dest most differ same = grind (arith)

pub returns : goal.returns
returns c = record { least = below_least c.args.own.now c.args.file.now c.args.least c.own_below.result none c.own_below.ensures.least }
  where
    none : (other : RipeFile) → is_own c.args.own.now other ≡ true → other.dest ≡ c.args.file.now.dest → goes_by_group c.args.file.now other ≡ false
    none other is same = elim c.match-own_at.branch [
      | in-Some+else-is_before w ↦
          ap (goes_by_group c.args.file.now)
          ((own_found c.args.own.now c.args.file.now.dest w.in-Some.found (sym c.own_at.ensures.file ∙ w.in-Some.is)).alone other is same)
          ∙ (sym w.is_before.ensures.answer ∙ w.if-is_before.false)
      | in_default w ↦ absurd (own_none c.args.own.now c.args.file.now.dest (sym c.own_at.ensures.file ∙ w.in_default.is) other is same)
    ]
