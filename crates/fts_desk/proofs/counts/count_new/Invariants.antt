-- The loop that counts new rows: the links counted before, and those of the rows so far.
use Rattle.std.proofs.Common.{◌≡◌, ◌+◌, Bool, take}
use Rattle.std.specs.Prelude.{count_by}
use Rattle.fts_index.specs.Links.{Link}
use Rattle.fts_index.specs.LiveLinks.{live_links}
use Rattle.fts_desk.proofs.counts.count_new.Given as goal

abbrev pub invariant-loop-row : goal.invariant-loop-row
invariant-loop-row l = record {
  counts : (test : Link → Bool) → count_by test l.loads.links ≡ count_by test l.fn.loads.links + count_by test (live_links (take l.row-index l.rows));
  known : l.loads.known ≡ l.fn.loads.known;
}
