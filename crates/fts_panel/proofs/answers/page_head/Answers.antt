use Rattle.std.proofs.Common.{refl}
use Rattle.fts_wire.proofs.Sent.{appended}
use Rattle.fts_panel.proofs.answers.page_head.Goals as goal

pub returns : goal.returns
returns c =
    let one = appended _ _ _ _ _ c.push_str.ensures.bytes c.new-head.ensures refl in
    let two = appended _ _ _ _ _ c.push_str-2.ensures.bytes one refl in
    let three = appended _ _ _ _ _ c.push_str-3.ensures.bytes two refl in
    let four = appended _ _ _ _ _ c.push_str-4.ensures.bytes three c.format.ensures.text in
    appended _ _ _ _ _ c.push_str-5.ensures.bytes four refl
