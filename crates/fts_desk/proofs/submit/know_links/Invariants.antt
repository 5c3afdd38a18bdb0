-- The loop that makes room for the links of files: what is counted stays, what was known stays known, and the links so far are known.
use Rattle.std.proofs.Common.{◌≡◌, List, map, take, true}
use Rattle.fts_index.specs.Links.{Link}
use Rattle.fts_desk.specs.Loaded.{are_known, link_of_file}
use Rattle.fts_desk.proofs.submit.know_links.Given as goal

abbrev pub invariant-loop-file : goal.invariant-loop-file
invariant-loop-file l = record {
  links : l.loads.links ≡ l.fn.loads.links;
  stay : (links : List Link) → are_known l.fn.loads links ≡ true → are_known l.loads links ≡ true;
  known : are_known l.loads (map link_of_file (take l.file-index l.files)) ≡ true;
}
