-- Links by the names of their ends, the order of these names, and what a claim may hope for of each.
use Rattle.std.specs.Prelude.{◌≡◌, ℕ, List, [], ◌∷◌, IsTrue}
use Rattle.std.specs.List.{list_any, AllByRecursion}
use Rattle.std.specs.declared.cmp.Ordering.{Ordering}
use Rattle.std.specs.declared.cmp.Ordering.TheVariants.{Less}
use Rattle.std.specs.Ordering.{nat_cmp, ordering_then}
use Rattle.std.specs.Cmp.Lexicographic.{slice_cmp}
use Rattle.fts_tables.specs.Tables.{Tables}
use Rattle.fts_tables.specs.Limits.{is_on_link, held, eligible_rows}
use Rattle.fts_tables.specs.declared.rows.FileRow.{FileRow}
use Rattle.fts_choice.specs.declared.links.LinkChance.{LinkChance}

-- the names of a link's ends
pub record LinkNames : Type 0 where
  pub source : List ℕ
  pub dest : List ℕ

-- the link of a row
abbrev pub link_of : FileRow → LinkNames
link_of row = record { source = row.source.endpoint; dest = row.dest.endpoint }

-- the order of links: by the source's name, then by the destination's
abbrev pub name_cmp : LinkNames → LinkNames → Ordering
name_cmp one other = ordering_then (slice_cmp nat_cmp one.source other.source) (slice_cmp nat_cmp one.dest other.dest)

-- links in order of names, each once
abbrev pub AreInOrder : List LinkNames → Type 0
AreInOrder [] = Unit {0}
AreInOrder (link ∷ links) = AllByRecursion (λ later. name_cmp link later ≡ Less) links × AreInOrder links

-- what a link holds, and whether one of its rows may be claimed
abbrev pub chance_of : Tables → ℕ → LinkNames → LinkChance
chance_of tables now link = record {
  held = held tables.rows link.source link.dest;
  eligible =
      list_any (is_on_link link.source link.dest) (eligible_rows tables now);
}

-- each row that may be claimed is on one of these links
abbrev pub AreAllLinks : Tables → ℕ → List LinkNames → Type 0
AreAllLinks tables now links = AllByRecursion (λ row. IsTrue (list_any (λ link. is_on_link link.source link.dest row) links)) (eligible_rows tables now)
