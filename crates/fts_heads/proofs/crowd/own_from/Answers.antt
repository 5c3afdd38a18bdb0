use Rattle.std.proofs.Common.{◌≡◌, ℕ, Bool, true, false, ap, sym, ◌∙◌, arith}
use Rattle.std.specs.Prelude.{not, ◌==◌, ◌&&◌}
use Rattle.std.proofs.lemmas.Bool.{eqb-true, and_parts}
use Rattle.std.proofs.lemmas.Bool.Decides.{nat_tests}
use Rattle.fts_heads.specs.declared.ripe_file.RipeFile.{RipeFile}
use Rattle.fts_heads.specs.RipeFiles.{goes_by_group, by_group}
use Rattle.fts_heads.proofs.Leasts.{own_found}
use Rattle.fts_heads.proofs.crowd.own_from.Goals as goal

pub returns-else-is_before : goal.returns-else-is_before
returns-else-is_before c =
    let found = own_found c.args.own.now c.args.start.now.dest c.in-Some.found (sym c.own_at.ensures.file ∙ c.in-Some.is) in
    record {
      least = (
        found.is,
        (
          both found.same (sym c.is_before.ensures.answer ∙ c.if-is_before.false),
          λ file is passed. alone file (found.alone file is (eqb-true file.dest c.args.start.now.dest
              (and_parts (file.dest == c.args.start.now.dest) (not (goes_by_group file c.args.start.now)) passed).0)),
        ),
      );
    }
  where
    both : c.in-Some.found.dest ≡ c.args.start.now.dest → goes_by_group c.in-Some.found c.args.start.now ≡ false
        → ((c.in-Some.found.dest == c.args.start.now.dest) && not (goes_by_group c.in-Some.found c.args.start.now)) ≡ true
    both same behind = tests c.in-Some.found.dest c.args.start.now.dest (goes_by_group c.in-Some.found c.args.start.now) same behind
      where
        tests : (n m : ℕ) (goes : Bool) → n ≡ m → goes ≡ false → ((n == m) && not goes) ≡ true
        tests n m goes same is = grind (arith, nat_tests)

    alone : (file : RipeFile) → file ≡ c.in-Some.found → goes_by_group file c.in-Some.found ≡ false
    alone file same = ap (λ (some : RipeFile). goes_by_group some c.in-Some.found) same ∙ by_group.irreflexive c.in-Some.found
