-- The loads beside the rows: how often each link stands among the rows that wait or run, with room for the link of every row.
use Rattle.std.specs.Prelude.{◌≡◌, ℕ, ◌+◌, ◌<◌, ◌≤◌, Bool, true, ◌&&◌, if◌then◌else◌, List, length, map, count_by}
use Rattle.std.specs.List.{list_all}
use Rattle.fts_tables.specs.Tables.{is_live}
use Rattle.fts_tables.specs.declared.limits.TheConstants.{MAX_ROWS}
use Rattle.fts_tables.specs.declared.rows.NewFile.{NewFile}
use Rattle.fts_tables.specs.declared.rows.FileRow.{FileRow}
use Rattle.fts_index.specs.Links.{Link, LinkLists, count_of, is_among}
use Rattle.fts_index.specs.LiveLinks.{link_of_row, live_links}

-- the link of a file that is submitted
abbrev pub link_of_file : NewFile → Link
link_of_file file = record { source = file.source.endpoint; dest = file.dest.endpoint }

-- what a row adds to a count of links: one where it waits or runs and its link is counted
abbrev pub added_by : (Link → Bool) → FileRow → ℕ
added_by test row = if is_live row.state && test (link_of_row row) then 1 else 0

-- how often a row's link is counted
abbrev pub load_in : LinkLists → FileRow → ℕ
load_in lists row = count_of lists.links (link_of_row row)

-- there is room for each of these links
abbrev pub are_known : LinkLists → List Link → Bool
are_known lists links = list_all (is_among lists.known) links

-- the links counted are those of the rows that wait or run, in any order; there is room for the link of every row
pub record AreLoadsOf (rows : List FileRow) (lists : LinkLists) : Type 0 where
  pub counts : (test : Link → Bool) → count_by test lists.links ≡ count_by test (live_links rows)
  pub all_known : are_known lists (map link_of_row rows) ≡ true
  pub few : length rows ≤ MAX_ROWS

-- a row of this link that was live, or wasn't, may count anew
pub record MayRecount (was_live : Bool) (link : Link) (lists : LinkLists) : Type 0 where
  pub there : was_live ≡ true → 0 < count_of lists.links link
  pub one_known : is_among lists.known link ≡ true
  pub fewer : count_of lists.links link < 4294967295

-- links of which none is counted so often that a number of rows could not be added, and for each of which there is room
pub record MayCount (links : List Link) (lists : LinkLists) : Type 0 where
  pub fewer : (test : Link → Bool) → count_by test lists.links + length links < 4294967295
  pub all_known : are_known lists links ≡ true
