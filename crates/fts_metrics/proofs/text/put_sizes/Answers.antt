-- Head and sample, one behind the other.
use Rattle.std.proofs.Common.{◌++◌, length, codes}
use Rattle.fts_metrics.specs.Form.{head, plain_sample}
use Rattle.fts_metrics.specs.Metrics.{sizes_text}
use Rattle.fts_metrics.proofs.Texts.{goes_on}
use Rattle.fts_metrics.proofs.text.put_sizes.Goals as goal

pub returns : goal.returns
unfolding sizes_text
returns c =
    (goes_on (c.args.text.now.items) c.put_head-3.new.text.items c.put_plain-3.new.text.items (((((head (codes "fts_rows") (codes "File rows.") (codes "gauge")) ++ (plain_sample (codes "fts_rows") (length c.args.rows.now))) ++ (head (codes "fts_journal_bytes") (codes "Bytes of the journal.") (codes "gauge"))) ++ (plain_sample (codes "fts_journal_bytes") (c.args.used))) ++ (head (codes "fts_journal_limit_bytes") (codes "How many bytes the journal may have.") (codes "gauge"))) (plain_sample (codes "fts_journal_limit_bytes") (1073741824))
    (goes_on (c.args.text.now.items) c.put_plain-2.new.text.items c.put_head-3.new.text.items ((((head (codes "fts_rows") (codes "File rows.") (codes "gauge")) ++ (plain_sample (codes "fts_rows") (length c.args.rows.now))) ++ (head (codes "fts_journal_bytes") (codes "Bytes of the journal.") (codes "gauge"))) ++ (plain_sample (codes "fts_journal_bytes") (c.args.used))) (head (codes "fts_journal_limit_bytes") (codes "How many bytes the journal may have.") (codes "gauge"))
    (goes_on (c.args.text.now.items) c.put_head-2.new.text.items c.put_plain-2.new.text.items (((head (codes "fts_rows") (codes "File rows.") (codes "gauge")) ++ (plain_sample (codes "fts_rows") (length c.args.rows.now))) ++ (head (codes "fts_journal_bytes") (codes "Bytes of the journal.") (codes "gauge"))) (plain_sample (codes "fts_journal_bytes") (c.args.used))
    (goes_on (c.args.text.now.items) c.put_plain.new.text.items c.put_head-2.new.text.items ((head (codes "fts_rows") (codes "File rows.") (codes "gauge")) ++ (plain_sample (codes "fts_rows") (length c.args.rows.now))) (head (codes "fts_journal_bytes") (codes "Bytes of the journal.") (codes "gauge"))
    (goes_on (c.args.text.now.items) c.put_head.new.text.items c.put_plain.new.text.items (head (codes "fts_rows") (codes "File rows.") (codes "gauge")) (plain_sample (codes "fts_rows") (length c.args.rows.now))
    c.in_ok-put_head.ensures
    c.in_ok-put_plain.ensures)
    c.in_ok-put_head-2.ensures)
    c.in_ok-put_plain-2.ensures)
    c.in_ok-put_head-3.ensures)
    c.in_ok-put_plain-3.ensures)
