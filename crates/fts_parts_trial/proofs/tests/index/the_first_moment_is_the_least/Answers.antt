use Rattle.std.proofs.Common.{◌≡◌, ◌+◌, [], length, ap, ◌∙◌, arith}
use Rattle.std.specs.Prelude.{nat_le, max, count_by}
use Rattle.fts_tables.specs.Dues.{Due}
use Rattle.fts_index.specs.DueLists.{DueList}
use Rattle.fts_parts_trial.proofs.tests.index.the_first_moment_is_the_least.Goals as goal

pub add_rows-requires : goal.add_rows-requires
add_rows-requires g c =
    let made : c.make_room.new.self ≡ record { dues = []; files = 0; room = 3 } =
    c.in_ok-make_room.ensures.ok ∙ ap (λ (list : DueList). record list { room = max list.room (list.files + 3) }) c.new-dues.ensures.list in
    record {
      may = record {
        first = 1;
        numbered = c.in_ok-rows.ensures.numbered;
        behind = ap (λ (list : DueList). count_by (λ (due : Due). nat_le 1 due.file) list.dues) made;
        room = λ is. omega (arith, ap (λ (list : DueList). list.files) made, ap (λ (list : DueList). list.room) made, c.in_ok-rows.ensures.three);
      };
    }
