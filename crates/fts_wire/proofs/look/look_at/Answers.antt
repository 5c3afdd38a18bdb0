-- Each answer is what is seen in the front of the bytes.
use Rattle.std.proofs.Common.{subst, ap, sym, ◌∙◌, take}
use Rattle.fts_wire.specs.Head.{lines_of, head_lines}
use Rattle.fts_wire.specs.Lines.{EndsAt}
use Rattle.fts_wire.specs.Parsed.{BeginsHead}
use Rattle.fts_wire.proofs.Sights.{front_is, rest_is, sees_too_large, sees_short, sees_many, begins, sees_own}
use Rattle.fts_wire.proofs.look.look_at.Goals as goal

pub returns-then-end-gt-MAX_LINES : goal.returns-then-end-gt-MAX_LINES
returns-then-end-gt-MAX_LINES c =
    let bytes = c.args.bytes.now in
    let few = take c.min.result bytes in
    let before = c.count_blanks-before.result in
    let front = front_is bytes c.min.result before c.min.ensures c.count_blanks-before.ensures.count in
    sees_many bytes few before c.in-Some.end front (subst (λ xs. EndsAt xs c.in-Some.end) (rest_is few before) c.in-Some.ensures) c.if-end-gt-MAX_LINES.true

pub look_at_head-requires : goal.look_at_head-requires
look_at_head-requires c =
    let bytes = c.args.bytes.now in
    let few = take c.min.result bytes in
    let before = c.count_blanks-before.result in
    let front = front_is bytes c.min.result before c.min.ensures c.count_blanks-before.ensures.count in
    let ends = subst (λ xs. EndsAt xs c.in-Some.end) (rest_is few before) c.in-Some.ensures in
    record {
      head = subst (λ xs. BeginsHead (take c.in-Some.end.size xs)) (sym (rest_is few before))
          (begins bytes few before c.in-Some.end front ends c.if-end-gt-MAX_LINES.false);
    }

pub returns-then-few-eq-MAX_HEAD_BYTES : goal.returns-then-few-eq-MAX_HEAD_BYTES
returns-then-few-eq-MAX_HEAD_BYTES c =
    let bytes = c.args.bytes.now in
    let few = take c.min.result bytes in
    let before = c.count_blanks-before.result in
    let front = front_is bytes c.min.result before c.min.ensures c.count_blanks-before.ensures.count in
    sees_too_large bytes few before front (ap (λ xs. head_lines (lines_of xs)) (sym (rest_is few before)) ∙ c.in-None.ensures) c.if-few-eq-MAX_HEAD_BYTES.true

pub returns-else-few-eq-MAX_HEAD_BYTES : goal.returns-else-few-eq-MAX_HEAD_BYTES
returns-else-few-eq-MAX_HEAD_BYTES c =
    let bytes = c.args.bytes.now in
    let few = take c.min.result bytes in
    let before = c.count_blanks-before.result in
    let front = front_is bytes c.min.result before c.min.ensures c.count_blanks-before.ensures.count in
    sees_short bytes few before front (ap (λ xs. head_lines (lines_of xs)) (sym (rest_is few before)) ∙ c.in-None.ensures) c.if-few-eq-MAX_HEAD_BYTES.false

pub returns-else-end-gt-MAX_LINES : goal.returns-else-end-gt-MAX_LINES
returns-else-end-gt-MAX_LINES c =
    let bytes = c.args.bytes.now in
    let few = take c.min.result bytes in
    let before = c.count_blanks-before.result in
    let front = front_is bytes c.min.result before c.min.ensures c.count_blanks-before.ensures.count in
    let ends = subst (λ xs. EndsAt xs c.in-Some.end) (rest_is few before) c.in-Some.ensures in
    sees_own bytes few before c.in-Some.end front ends c.if-end-gt-MAX_LINES.false _ (ap (take c.in-Some.end.size)
    (rest_is few before)) c.look_at_head.result c.look_at_head.ensures
