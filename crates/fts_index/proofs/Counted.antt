-- Entries of links, and the list of links that they count.
use Rattle.std.proofs.Common.{◌≡◌, ℕ, zero, suc, ◌+◌, ◌<◌, Bool, true, false, cond, List, [], ◌∷◌, ◌++◌, length, Some, None, refl, ap, sym, ◌∙◌, arith, subst, append_assoc, get_or}
use Rattle.std.specs.Prelude.{◌&&◌, ◌||◌, bytes_eq, map, replicate, slice_get, insert}
use Rattle.std.specs.List.{position_from}
use Rattle.std.proofs.Math.ListN.{set}
use Rattle.std.proofs.lemmas.Bool.{and_parts, eqb-true, eq-eqb}
use Rattle.fts_index.specs.Links.{Link, HasOneMore, is_link, is_among, count_of}
use Rattle.fts_index.specs.Loads.{link_of_known, links_counted}
use Rattle.fts_index.specs.declared.loads.Known.{Known}
use Rattle.fts_index.proofs.TableLists.{count_by-cons, count_by-append}
use Rattle.fts_index.proofs.Found.{any_at, found_from, none_from, split_at, get_or-at}

-- links that each stand there once
abbrev pub AreApart : List Link → Type 0
AreApart [] = Unit {0}
AreApart (link ∷ links) = (is_among links link ≡ false) × AreApart links

-- the link of an entry stands at the entry's place
pub slice_get-map : {known : Known} → (entries : List Known) (place : ℕ) → slice_get entries place ≡ Some known
    → slice_get (map link_of_known entries) place ≡ Some (link_of_known known)
slice_get-map [] place at = cc
slice_get-map (first ∷ entries) zero at = cc
slice_get-map (first ∷ entries) (suc place) at = slice_get-map entries place at

-- the links of entries in two parts
links_counted-append : (front back : List Known) → links_counted (front ++ back) ≡ links_counted front ++ links_counted back
links_counted-append [] back = refl
links_counted-append (known ∷ front) back =
    ap (λ links. replicate known.count (link_of_known known) ++ links) (links_counted-append front back)
    ∙ sym (append_assoc (replicate known.count (link_of_known known)) (links_counted front) (links_counted back))

-- an entry that counts one more
pub one_more : (front back : List Known) (less more : Known) → link_of_known more ≡ link_of_known less → more.count ≡ suc less.count
    → HasOneMore (link_of_known less) (links_counted (front ++ less ∷ back)) (links_counted (front ++ more ∷ back))
one_more front back less more same counts = record {
  before = links_counted front;
  after = replicate less.count (link_of_known less) ++ links_counted back;
  was = links_counted-append front (less ∷ back);
  is = links_counted-append front (more ∷ back)
      ∙ ap (λ links. links_counted front ++ (links ++ links_counted back))
      (ap (λ count. replicate count (link_of_known more)) counts ∙ ap (λ link. replicate (suc less.count) link) same);
}

-- texts that are equal byte by byte are equal, and a text is equal to itself
bytes_eq-true : (one other : List ℕ) → bytes_eq one other ≡ true → one ≡ other
bytes_eq-true [] [] is = refl
bytes_eq-true [] (byte ∷ other) is = cc
bytes_eq-true (byte ∷ one) [] is = cc
bytes_eq-true (byte ∷ one) (first ∷ other) is =
    let both = and_parts _ _ is in
    ap (λ head. head ∷ one) (eqb-true byte first both.0) ∙ ap (λ tail. first ∷ tail) (bytes_eq-true one other both.1)

bytes_eq-refl : (text : List ℕ) → bytes_eq text text ≡ true
bytes_eq-refl [] = refl
bytes_eq-refl (byte ∷ text) = ap (λ answer. answer && bytes_eq text text) (eq-eqb byte byte refl) ∙ bytes_eq-refl text

-- links that are one by the test are equal
pub same_link : (one other : Link) → is_link one other ≡ true → one ≡ other
same_link one other is =
    let both = and_parts (bytes_eq one.source other.source) (bytes_eq one.dest other.dest) is in
    ap (λ source. record { source = source; dest = one.dest }) (bytes_eq-true one.source other.source both.0)
    ∙ ap (λ dest. record { source = other.source; dest = dest }) (bytes_eq-true one.dest other.dest both.1)

-- a link is itself
pub is_link-refl : (link : Link) → is_link link link ≡ true
is_link-refl link = ap (λ answer. answer && bytes_eq link.dest link.dest) (bytes_eq-refl link.source) ∙ bytes_eq-refl link.dest

-- the test goes both ways
pub is_link-sym : (one other : Link) → is_link one other ≡ true → is_link other one ≡ true
is_link-sym one other is = subst (λ some. is_link some one ≡ true) (same_link one other is) (is_link-refl one)

-- both answers alike
cond_same : (answer : Bool) (count : ℕ) → cond answer count count ≡ count
cond_same true count = refl
cond_same false count = refl

-- copies of a link count for it alone
count_of-replicate : (count : ℕ) (copied link : Link) → count_of (replicate count copied) link ≡ cond (is_link link copied) count 0
count_of-replicate zero copied link = sym (cond_same (is_link link copied) 0)
count_of-replicate (suc count) copied link =
    count_by-cons (is_link link) copied (replicate count copied)
    ∙ (ap (λ behind. cond (is_link link copied) 1 0 + behind) (count_of-replicate count copied link) ∙ by_answer (is_link link copied))
  where
    by_answer : (answer : Bool) → cond answer 1 0 + cond answer count 0 ≡ cond answer (suc count) 0
    by_answer true = omega arith
    by_answer false = omega arith

-- what an entry and the others count
count_of-entries : (known : Known) (others : List Known) (link : Link)
    → count_of (links_counted (known ∷ others)) link ≡ cond (is_link link (link_of_known known)) known.count 0 + count_of (links_counted others) link
count_of-entries known others link =
    count_by-append (is_link link) (replicate known.count (link_of_known known)) (links_counted others)
    ∙ ap (λ count. count + count_of (links_counted others) link) (count_of-replicate known.count (link_of_known known) link)

-- a link without an entry isn't counted
pub uncounted : (entries : List Known) (link : Link) → is_among (map link_of_known entries) link ≡ false → count_of (links_counted entries) link ≡ 0
uncounted [] link absent = refl
uncounted (known ∷ entries) link absent = count_of-entries known entries link ∙ by_answer (uncounted entries link) (is_link link (link_of_known known)) absent
  where
    by_answer : (is_among (map link_of_known entries) link ≡ false → count_of (links_counted entries) link ≡ 0) → (answer : Bool)
        → (answer || is_among (map link_of_known entries) link) ≡ false → cond answer known.count 0 + count_of (links_counted entries) link ≡ 0
    by_answer behind true is = cc
    by_answer behind false is = omega (arith, behind is)

-- a link is counted as its entry counts it
pub counted_at : (entries : List Known) (place : ℕ) (known : Known) → AreApart (map link_of_known entries) → slice_get entries place ≡ Some known
    → count_of (links_counted entries) (link_of_known known) ≡ known.count
counted_at [] place known apart at = cc
counted_at (first ∷ entries) zero known apart at =
    let same : first ≡ known = cc in
    subst (λ (some : Known). count_of (links_counted (first ∷ entries)) (link_of_known some) ≡ some.count) same
    (count_of-entries first entries (link_of_known first)
    ∙ (ap (λ answer. cond answer first.count 0 + count_of (links_counted entries) (link_of_known first)) (is_link-refl (link_of_known first))
    ∙ omega (arith, uncounted entries (link_of_known first) apart.0)))
counted_at (first ∷ entries) (suc place) known apart at =
    count_of-entries first entries (link_of_known known)
    ∙ by_answer (counted_at entries place known apart.1 at) (is_link (link_of_known known) (link_of_known first)) refl
  where
    by_answer : count_of (links_counted entries) (link_of_known known) ≡ known.count → (answer : Bool) → is_link (link_of_known known) (link_of_known first) ≡ answer
        → cond answer first.count 0 + count_of (links_counted entries) (link_of_known known) ≡ known.count
    by_answer behind true is =
        let clash : true ≡ false = sym (any_at (is_link (link_of_known first)) (map link_of_known entries) place (link_of_known known)
        (slice_get-map entries place at) (is_link-sym (link_of_known known) (link_of_known first) is)) ∙ apart.0 in
        cc
    by_answer behind false is = omega (arith, behind)

-- the entry of a link
pub record IsEntryOf (entries : List Known) (link : Link) (place : ℕ) : Type 0 where
  pub known : Known
  pub at : slice_get entries place ≡ Some known
  pub inside : place < length entries
  pub named : link_of_known known ≡ link

-- an entry by its link among the links of entries
entry_at : (entries : List Known) (place : ℕ) (link : Link) → slice_get (map link_of_known entries) place ≡ Some link → IsEntryOf entries link place
entry_at [] place link at = cc
entry_at (first ∷ entries) zero link at = record { known = first; at = refl; inside = omega arith; named = cc }
entry_at (first ∷ entries) (suc place) link at =
    let behind = entry_at entries place link at in
    record { known = behind.known; at = behind.at; inside = omega (arith, behind.inside); named = behind.named }

-- the place that was found is that of the link's entry
pub entry_of : (entries : List Known) (links : List Link) (link : Link) (place : ℕ) → map link_of_known entries ≡ links
    → Some place ≡ position_from (is_link link) 0 links → IsEntryOf entries link place
entry_of entries links link place are found =
    let at = found_from (is_link link) 0 links place (sym found) in
    let here : place ≡ at.behind = omega (arith, at.is) in
    entry_at entries place link
    (ap (λ some. slice_get some place) are ∙ (ap (λ some. slice_get links some) here ∙ (at.at
    ∙ ap (λ some. Some some) (sym (same_link link at.item at.passes)))))

-- what the entry of a link counts is how often the link is counted
pub counted : (entries : List Known) (link : Link) (place : ℕ) → AreApart (map link_of_known entries) → (entry : IsEntryOf entries link place)
    → count_of (links_counted entries) link ≡ entry.known.count
counted entries link place apart entry =
    subst (λ some. count_of (links_counted entries) some ≡ entry.known.count) entry.named (counted_at entries place entry.known apart entry.at)

-- a link that is found at no place isn't counted
pub not_counted : (entries : List Known) (links : List Link) (link : Link) → map link_of_known entries ≡ links
    → None ≡ position_from (is_link link) 0 links → count_of (links_counted entries) link ≡ 0
not_counted entries links link are none =
    uncounted entries link (ap (λ some. is_among some link) are ∙ none_from (is_link link) 0 links (sym none))

-- an entry that counts one more in its place
pub more_at : (entries : List Known) (link : Link) (place : ℕ) (new : Known) → (entry : IsEntryOf entries link place) → link_of_known new ≡ link
    → new.count ≡ entry.known.count + 1 → HasOneMore link (links_counted entries) (links_counted (set entries place new))
more_at entries link place new entry same counts =
    let split = split_at entries place entry.known entry.at in
    let more = one_more split.front split.back entry.known new (same ∙ sym entry.named) (counts ∙ omega arith) in
    record {
      before = more.before;
      after = more.after;
      was = ap links_counted split.is ∙ more.was;
      is = ap links_counted (split.put new) ∙ (more.is ∙ ap (λ some. more.before ++ some ∷ more.after) entry.named);
    }

-- an entry that counts one less in its place
pub less_at : (entries : List Known) (link : Link) (place : ℕ) (new : Known) → (entry : IsEntryOf entries link place) → link_of_known new ≡ link
    → entry.known.count ≡ new.count + 1 → HasOneMore link (links_counted (set entries place new)) (links_counted entries)
less_at entries link place new entry same counts =
    let split = split_at entries place entry.known entry.at in
    let more = one_more split.front split.back new entry.known (entry.named ∙ sym same) (counts ∙ omega arith) in
    record {
      before = more.before;
      after = more.after;
      was = ap links_counted (split.put new) ∙ more.was;
      is = ap links_counted split.is ∙ (more.is ∙ ap (λ some. more.before ++ some ∷ more.after) same);
    }

-- an entry of the same link in its place leaves the links known
pub known_at : (entries : List Known) (link : Link) (place : ℕ) (new : Known) → IsEntryOf entries link place → link_of_known new ≡ link
    → map link_of_known (set entries place new) ≡ map link_of_known entries
known_at [] link place new entry same = refl
known_at (first ∷ entries) link zero new entry same =
    let here : first ≡ entry.known = cc (entry.at) in
    ap (λ head. head ∷ map link_of_known entries) (same ∙ (sym entry.named ∙ ap link_of_known (sym here)))
known_at (first ∷ entries) link (suc place) new entry same =
    ap (λ tail. link_of_known first ∷ tail)
    (known_at entries link place new (record { known = entry.known; at = entry.at; inside = omega (arith, entry.inside); named = entry.named }) same)

-- a new entry that counts nothing, at any place
pub record IsNewEntry (entries : List Known) (number : ℕ) (new : Known) : Type 0 where
  pub links : links_counted (insert entries number new) ≡ links_counted entries
  pub known : map link_of_known (insert entries number new) ≡ insert (map link_of_known entries) number (link_of_known new)

pub new_entry : (entries : List Known) (number : ℕ) (new : Known) → new.count ≡ 0 → IsNewEntry entries number new
new_entry [] zero new none = record { links = ap (λ count. replicate count (link_of_known new) ++ []) none; known = refl }
new_entry [] (suc number) new none = record { links = ap (λ count. replicate count (link_of_known new) ++ []) none; known = refl }
new_entry (first ∷ entries) zero new none = record {
  links = ap (λ count. replicate count (link_of_known new) ++ links_counted (first ∷ entries)) none;
  known = refl;
}
new_entry (first ∷ entries) (suc number) new none =
    let behind = new_entry entries number new none in
    record {
      links = ap (λ tail. replicate first.count (link_of_known first) ++ tail) behind.links;
      known = ap (λ tail. link_of_known first ∷ tail) behind.known;
    }

-- what is read at an entry's place is the entry
pub entry_is : (entries : List Known) (link : Link) (place : ℕ) (read : Known) → (entry : IsEntryOf entries link place) → read ≡ get_or entries place read
    → read ≡ entry.known
entry_is entries link place read entry is = is ∙ get_or-at entries place entry.known read entry.at
