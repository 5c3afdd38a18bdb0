-- Head and sample, one behind the other.
use Rattle.std.proofs.Common.{codes}
use Rattle.fts_metrics.specs.Form.{head, plain_sample}
use Rattle.fts_metrics.specs.Metrics.{last_entry_text}
use Rattle.fts_metrics.proofs.Texts.{goes_on}
use Rattle.fts_metrics.proofs.text.put_last_entry.Goals as goal

pub returns : goal.returns
unfolding last_entry_text
returns c = goes_on c.args.text.now.items c.put_head.new.text.items c.put_plain.new.text.items
    (head (codes "fts_last_entry_timestamp_seconds") (codes "Moment of the last entry in seconds since 1970.") (codes "gauge"))
    (plain_sample (codes "fts_last_entry_timestamp_seconds") c.args.moment)
    c.in_ok-put_head.ensures c.in_ok-put_plain.ensures
