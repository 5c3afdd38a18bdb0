-- The parts of a label, one behind the other.
use Rattle.std.proofs.Common.{◌++◌, codes}
use Rattle.fts_metrics.specs.Form.{label, escaped}
use Rattle.fts_metrics.proofs.Texts.{goes_on}
use Rattle.fts_metrics.proofs.lines.put_label.Goals as goal

pub returns : goal.returns
unfolding label
returns c = (goes_on (c.args.text.now.items) c.put_escaped.new.text.items c.put_closing.new.text.items ((c.args.name.now ++ codes "=\"") ++ (escaped c.args.value.now)) (codes "\"")
    (goes_on (c.args.text.now.items) c.put_opening.new.text.items c.put_escaped.new.text.items (c.args.name.now ++ codes "=\"") (escaped c.args.value.now)
    c.in_ok-put_opening.ensures
    c.in_ok-put_escaped.ensures)
    c.in_ok-put_closing.ensures)
