use Rattle.std.proofs.Common.{◌≡◌, ℕ, true, cond, length, refl, ap, sym, ◌∙◌, subst, arith}
use Rattle.std.specs.Prelude.{is_some}
use Rattle.std.proofs.lemmas.List.Sums.{count_by-le-length}
use Rattle.fts_tables.specs.Dues.{AreInOrder}
use Rattle.fts_index.specs.DueLists.{DueList}
use Rattle.fts_index.specs.RowDues.{comes_in}
use Rattle.fts_index.proofs.CountedDues.{in_order, count_all}
use Rattle.fts_index.proofs.RowsComing.{none_come}
use Rattle.fts_index.proofs.dues.Dues.add_rows.Goals as goal

pub invariant_of-self : goal.invariant_of-self
invariant_of-self c =
    let room = c.requires.may.room (sym c.is_some.ensures ∙ c.if-is_some.true) in
    let files = ap (λ (list : DueList). list.files) c.self.view_is in
    let rooms = ap (λ (list : DueList). list.room) c.self.view_is in
    record {
      order = in_order c.put_rows.new.dues.keys c.put_rows.ensures.order;
      few = omega (
        arith,
        c.put_rows.ensures.counts (λ due. true),
        count_all c.put_rows.new.dues.keys,
        count_all c.self.inside.dues.keys,
        count_by-le-length (comes_in (λ due. true) c.args.moment) c.args.rows.now,
        c.self.invariant.few,
      );
      inside = omega (arith, room, files, rooms, c.put_rows.ensures.room);
      small = omega (arith, c.self.invariant.small, c.put_rows.ensures.room);
    }

pub returns-else-is_some : goal.returns-else-is_some
returns-else-is_some c =
    let none = sym c.is_some.ensures ∙ c.if-is_some.false in
    let same : ◌≡◌ {A = ℕ} (cond (is_some c.args.moment) (length c.args.rows.now) 0) 0 = ap (λ answer. cond answer (length c.args.rows.now) 0) none in
    record {
      added = record {
        counts = λ test. omega (arith, none_come test c.args.moment c.args.rows.now none);
        order = subst (λ (list : DueList). AreInOrder list.dues) c.self.view_is c.self.invariant.order;
        files = omega (arith, same);
        room = refl;
      };
    }
