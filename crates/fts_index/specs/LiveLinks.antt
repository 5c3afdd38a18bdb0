-- The links of the machine's rows that are live.
use Rattle.std.specs.Prelude.{List, map, filter}
use Rattle.fts_tables.specs.Tables.{is_live}
use Rattle.fts_tables.specs.declared.rows.FileRow.{FileRow}
use Rattle.fts_index.specs.Links.{Link}

-- the link of a row
abbrev pub link_of_row : FileRow → Link
link_of_row row = record { source = row.source.endpoint; dest = row.dest.endpoint }

-- the link of each row that waits or runs
abbrev pub live_links : List FileRow → List Link
live_links rows = map link_of_row (filter (λ row. is_live row.state) rows)
