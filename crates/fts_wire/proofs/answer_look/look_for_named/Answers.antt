-- One of four heads, or another.
use Rattle.std.proofs.Common.{◌∙◌, ap, sym, subst}
use Rattle.fts_wire.specs.AnswerLook.{SeesAnswer, IsNoneNamed, first_found}
use Rattle.fts_wire.specs.declared.answer_look.AnswerLook.{AnswerLook}
use Rattle.fts_wire.proofs.AnswerHeads.{sees_names}
use Rattle.fts_wire.proofs.answer_look.look_for_named.Goals as goal

pub returns : goal.returns
returns c =
    let bytes = c.args.bytes.now in
    let jobs = c.look_for_either-jobs.result in
    let job = c.look_for_either-job.result in
    let get = c.look_for_either-get.result in
    let file = c.look_for_either-file.result in
    let found = c.or-3.ensures ∙ ap (λ (look : AnswerLook). first_found look file)
    (c.or-2.ensures ∙ ap (λ (look : AnswerLook). first_found look get) c.or.ensures) in
    subst (λ (look : AnswerLook). SeesAnswer bytes (IsNoneNamed bytes c.args.body) look) (sym found)
    (sees_names bytes c.args.body jobs job get file c.look_for_either-jobs.ensures c.look_for_either-job.ensures
    c.look_for_either-get.ensures c.look_for_either-file.ensures)
