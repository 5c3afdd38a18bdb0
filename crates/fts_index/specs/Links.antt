-- Links by the names of their ends, lists of them, and such a list with one link more or less.
use Rattle.std.specs.Prelude.{◌≡◌, ℕ, Bool, ◌&&◌, if◌then◌else◌, bytes_eq, List, [], ◌∷◌, ◌++◌, count_by, insert, IsTrue}
use Rattle.std.specs.List.{list_any, prefix_len, AllByRecursion}
use Rattle.std.specs.declared.cmp.Ordering.{Ordering}
use Rattle.std.specs.Ordering.{nat_cmp, ordering_then, is_lt}
use Rattle.std.specs.Cmp.Lexicographic.{slice_cmp}

-- a link: the names of its ends
pub record Link : Type 0 where
  pub source : List ℕ
  pub dest : List ℕ

-- the link from one named endpoint to another
abbrev pub link_between : List ℕ → List ℕ → Link
link_between source dest = record { source = source; dest = dest }

-- whether two links are one: one source and one destination
abbrev pub is_link : Link → Link → Bool
is_link one other = bytes_eq one.source other.source && bytes_eq one.dest other.dest

-- how often a link stands in a list
abbrev pub count_of : List Link → Link → ℕ
count_of links link = count_by (is_link link) links

-- whether a link stands in a list
abbrev pub is_among : List Link → Link → Bool
is_among links link = list_any (is_link link) links

-- the order of links: by the source's name, then by the destination's
abbrev pub link_cmp : Link → Link → Ordering
link_cmp one other = ordering_then (slice_cmp nat_cmp one.source other.source) (slice_cmp nat_cmp one.dest other.dest)

-- whether a link goes before another
abbrev pub is_link_before : Link → Link → Bool
is_link_before one other = is_lt (link_cmp one other)

-- links in their order, each once
abbrev pub AreInOrder : List Link → Type 0
AreInOrder [] = Unit {0}
AreInOrder (link ∷ links) = AllByRecursion (λ later. IsTrue (is_link_before link later)) links × AreInOrder links

-- the list with a link behind those that go before it, unless it stands there already
abbrev pub with_link : List Link → Link → List Link
with_link links link = if is_among links link then links else insert links (prefix_len (λ other. is_link_before other link) links) link

-- the new list is the old one with this link once more, at some place
pub record HasOneMore (link : Link) (old new : List Link) : Type 0 where
  pub before : List Link
  pub after : List Link
  pub was : old ≡ before ++ after
  pub is : new ≡ before ++ link ∷ after

-- the links of rows that are live, each as often as it has such rows, and the links that there is room for, each once
pub record LinkLists : Type 0 where
  pub links : List Link
  pub known : List Link
