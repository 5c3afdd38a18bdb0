-- The files of a job have the shape of its kind, where the document breaks no rule.
use Rattle.std.proofs.Common.{◌≡◌, ◌&&◌, ◌||◌, ◌==◌, not, ℕ, suc, Bool, true, false, cond, List, [], ◌∷◌, ◌++◌, length, map, codes, Option, Some, None, refl, ap, sym, ◌∙◌, arith, tests, append-nil}
use Rattle.std.specs.Prelude.{nat_lt, bytes_eq}
use Rattle.std.specs.List.{list_any, list_all, flat_map}
use Rattle.std.proofs.lemmas.List.{length-map}
use Rattle.std.proofs.lemmas.Slice.Eq.{bytes_eq-Decides}
use Rattle.std.proofs.Common.{eq-eqb}
use Rattle.serde_json.specs.Data.{Data}
use Rattle.fts_tables.specs.Places.{is_same_place}
use Rattle.fts_tables.specs.SettingsData.{is_within}
use Rattle.fts_tables.specs.JobData.{are_indexed_from, is_chain_from, is_chain, is_same_digest, is_replica_of, are_replicas, has_shape}
use Rattle.fts_tables.specs.declared.places.Place.{Place}
use Rattle.fts_tables.specs.declared.rows.NewFile.{NewFile}
use Rattle.fts_tables.specs.declared.rows.JobKind.{JobKind}
use Rattle.fts_tables.specs.declared.rows.JobKind.TheVariants.{Plain, Replica, Multihop}
use Rattle.fts_jobdoc.specs.Json.{list_under}
use Rattle.fts_jobdoc.specs.Fields.{size_of, wanted_of, activity_of, has_replicas}
use Rattle.fts_jobdoc.specs.Ends.{ends_of, meets, breaks_from, breaks_chain}
use Rattle.fts_jobdoc.specs.Documents.{new_file, new_files, files_from}
use Rattle.fts_jobdoc.specs.declared.ends.FileEnds.{FileEnds}
use Rattle.fts_jobdoc.proofs.EndsLemmas.{ends_made}
use Rattle.fts_jobdoc.proofs.FieldRules.{is_true}
use Rattle.fts_jobdoc.proofs.Ruled.{and_parts, or_parts, and_from}
use Rattle.fts_jobdoc.proofs.JobRules.{FileFits, AllFit, all_map}

-- ---- files of one source

-- the one item of a list of one
one_of : (places : List Place) → length places ≡ 1 → (place : Place) × (places ≡ place ∷ [])
one_of [] one = absurd (omega arith)
one_of (place ∷ []) one = (place, refl)
one_of (place ∷ other ∷ others) one = absurd (omega arith)

-- the ends of a file of one source
pub record Single (ends : FileEnds) : Type 0 where
  pub source : Place
  pub dest : Place
  pub is : ends ≡ ends_made (source ∷ []) (dest ∷ [])

-- a file that fits and has no replicas has one source
single_of : (ends : FileEnds) → length ends.sources ≡ 1 → length ends.dests ≡ 1 → Single ends
single_of ends sources dests =
    let s = one_of ends.sources sources in
    let d = one_of ends.dests dests in
    record { source = s.0; dest = d.0; is = ap (λ xs. ends_made xs ends.dests) s.1 ∙ ap (λ ys. ends_made (s.0 ∷ []) ys) d.1 }

-- from 1 on, and not more than 1
one_value : (n : ℕ) → is_within 1 16 n ≡ true → nat_lt 1 n ≡ false → n ≡ 1
one_value n few single = grind (arith, tests)

-- each of some files has one source
abbrev pub AllSingle : List Data → Type 0
AllSingle [] = Unit {0}
AllSingle (file ∷ files) = Single (ends_of file) × AllSingle files

-- where they fit and none has replicas
all_single : (files : List Data) → AllFit files → list_any has_replicas files ≡ false → AllSingle files
unfolding has_replicas
all_single [] fit none = tt
all_single (file ∷ files) fit none =
    let n = or_parts (nat_lt 1 (length (list_under (codes "sources") file))) (list_any has_replicas files) none in
    (single_of (ends_of file) (fit.0.sources ∙ one_value _ fit.0.few n.0) fit.0.dest, all_single files fit.1 n.1)

-- a file of one source is one file of the job
single_file : (verified : Bool) (index : ℕ) (file : Data) (single : Single (ends_of file)) → new_files verified index file (ends_of file)
    ≡ new_file verified index file single.dest single.source ∷ []
single_file verified index file single = ap (new_files verified index file) single.is

-- so the job has as many
counted : (verified : Bool) (files : List Data) (index : ℕ) → AllSingle files → length (files_from verified index files) ≡ length files
counted verified [] index single = refl
counted verified (file ∷ files) index single =
    ap (λ (made : List NewFile). length (made ++ files_from verified (suc index) files)) (single_file verified index file single.0)
    ∙ ap suc (counted verified files (suc index) single.1)

-- a number is itself
same_number : (n : ℕ) → (n == n) ≡ true
same_number n = eq-eqb n n refl

-- and they are numbered in order
indexed : (verified : Bool) (files : List Data) (index : ℕ) → AllSingle files → are_indexed_from index (files_from verified index files) ≡ true
unfolding new_file
indexed verified [] index single = refl
indexed verified (file ∷ files) index single =
    ap (λ (made : List NewFile). are_indexed_from index (made ++ files_from verified (suc index) files)) (single_file verified index file single.0)
    ∙ and_from (index == index) (are_indexed_from (suc index) (files_from verified (suc index) files)) (same_number index)
    (indexed verified files (suc index) single.1)

-- where one file meets the next, its destination is that one's source
met : (ends next : FileEnds) (one : Single ends) (other : Single next) → meets ends next ≡ true → is_same_place one.dest other.source ≡ true
unfolding meets
met ends next one other meeting =
    let places : meets (ends_made (one.source ∷ []) (one.dest ∷ [])) (ends_made (other.source ∷ []) (other.dest ∷ [])) ≡ true =
    sym (ap (λ e. meets e (ends_made (other.source ∷ []) (other.dest ∷ []))) one.is) ∙ sym (ap (meets ends) other.is) ∙ meeting in
    (and_parts (is_same_place one.dest other.source) true (and_parts (is_same_place one.dest other.source && true) true places).0).0

-- so the files behind one are a chain from its destination
chained_from : (verified : Bool) (before : Data) (one : Single (ends_of before)) (files : List Data) (index : ℕ) → AllSingle files
    → breaks_from (ends_of before) (map ends_of files) ≡ false → is_chain_from one.dest (files_from verified index files) ≡ true
unfolding new_file
chained_from verified before one [] index single whole = refl
chained_from verified before one (file ∷ files) index single whole =
    let w = or_parts (not (meets (ends_of before) (ends_of file))) (breaks_from (ends_of file) (map ends_of files)) whole in
    ap (λ (made : List NewFile). is_chain_from one.dest (made ++ files_from verified (suc index) files)) (single_file verified index file single.0)
    ∙ and_from (is_same_place one.dest single.0.source) _
    (met (ends_of before) (ends_of file) one single.0 (is_true (meets (ends_of before) (ends_of file)) w.0))
    (chained_from verified file single.0 files (suc index) single.1 w.1)

-- and all of them are a chain
chained : (verified : Bool) (files : List Data) → AllSingle files → breaks_chain (map ends_of files) ≡ false → is_chain (files_from verified 0 files) ≡ true
unfolding new_file
chained verified [] single whole = refl
chained verified (file ∷ files) single whole =
    ap (λ (made : List NewFile). is_chain (made ++ files_from verified 1 files)) (single_file verified 0 file single.0)
    ∙ chained_from verified file single.0 files 1 single.1 whole

-- ---- replicas of one file

-- a text is itself
same_text : (text : List ℕ) → bytes_eq text text ≡ true
same_text text = grind (arith, tests, bytes_eq-Decides text text)

-- a digest is itself
same_digest : (digest : Option (List ℕ)) → is_same_digest digest digest ≡ true
same_digest None = refl
same_digest (Some bytes) = same_text bytes

-- files of one document's file are replicas of one another
replica : (verified : Bool) (file : Data) (dest source other : Place)
    → is_replica_of (new_file verified 0 file dest source) (new_file verified 0 file dest other) ≡ true
unfolding new_file
replica verified file dest source other =
    and_from _ (bytes_eq (activity_of file) (activity_of file))
    (and_from _ (is_same_digest (wanted_of verified file) (wanted_of verified file))
    (and_from (is_same_place dest dest) (size_of file == size_of file)
    (and_from (bytes_eq dest.endpoint dest.endpoint) (bytes_eq dest.path dest.path) (same_text dest.endpoint) (same_text dest.path))
    (same_number (size_of file)))
    (same_digest (wanted_of verified file)))
    (same_text (activity_of file))

-- so are they all
replicas : (verified : Bool) (file : Data) (dest : Place) (sources : List Place) → are_replicas (map (new_file verified 0 file dest) sources) ≡ true
unfolding new_file
replicas verified file dest [] = refl
replicas verified file dest (source ∷ sources) =
    and_from (list_all (λ made. made.index == 0) (map (new_file verified 0 file dest) sources))
    (list_all (is_replica_of (new_file verified 0 file dest source)) (map (new_file verified 0 file dest) sources))
    (all_map (λ made. made.index == 0) (new_file verified 0 file dest) (λ place. refl) sources)
    (all_map (is_replica_of (new_file verified 0 file dest source)) (new_file verified 0 file dest) (replica verified file dest source) sources)

-- one file of two sources or more
more_values : (n : ℕ) → is_within 1 16 n ≡ true → nat_lt 1 n ≡ true → (is_within 2 16 n ≡ true) × (is_within 1 200 n ≡ true)
more_values n few more = (grind (arith, tests), grind (arith, tests))

-- the shape that a kind asks for, and a number of files that a job may have
pub record Shaped (kind : JobKind) (files : List NewFile) : Type 0 where
  pub shape : has_shape kind files ≡ true
  pub count : is_within 1 200 (length files) ≡ true

-- the files of a replica job
replicas_shaped : (verified : Bool) (file : Data) (dest : Place) → FileFits file → has_replicas file ≡ true → (ends_of file).dests ≡ dest ∷ []
    → Shaped Replica (files_from verified 0 (file ∷ []))
unfolding has_replicas
replicas_shaped verified file dest fit more one =
    let sources = (ends_of file).sources in
    let made = map (new_file verified 0 file dest) sources in
    let are : files_from verified 0 (file ∷ []) ≡ made =
    ap (λ dests. flat_map (λ place. map (new_file verified 0 file place) sources) dests ++ []) one ∙ append-nil (made ++ []) ∙ append-nil made in
    let number : length made ≡ length (list_under (codes "sources") file) = length-map sources (new_file verified 0 file dest) ∙ fit.sources in
    let counts = more_values (length (list_under (codes "sources") file)) fit.few more in
    record {
      shape = ap (has_shape Replica) are ∙ and_from (is_within 2 16 (length made)) (are_replicas made) (ap (is_within 2 16) number ∙ counts.0)
          (replicas verified file dest sources);
      count = ap (λ (files : List NewFile). is_within 1 200 (length files)) are ∙ ap (is_within 1 200) number ∙ counts.1;
    }

-- ---- all three kinds

-- the kind of a job, by whether it is multihop and whether a file has replicas
abbrev pub kind_by : Bool → Bool → JobKind
kind_by multihop several = cond multihop Multihop (cond several Replica Plain)

-- no more than one item
pub few_files : (n : ℕ) → (n == 0) ≡ false → nat_lt 200 n ≡ false → is_within 1 200 n ≡ true
few_files n some few = grind (arith, tests)

-- the files of a job that has no replicas
singles_shaped : (multihop : Bool) (verified : Bool) (files : List Data) → AllSingle files → is_within 1 200 (length files) ≡ true
    → (multihop && breaks_chain (map ends_of files)) ≡ false → Shaped (kind_by multihop false) (files_from verified 0 files)
singles_shaped true verified files single few whole = record {
  shape = and_from (are_indexed_from 0 (files_from verified 0 files)) (is_chain (files_from verified 0 files)) (indexed verified files 0 single)
      (chained verified files single whole);
  count = ap (is_within 1 200) (counted verified files 0 single) ∙ few;
}
singles_shaped false verified files single few whole = record {
  shape = indexed verified files 0 single;
  count = ap (is_within 1 200) (counted verified files 0 single) ∙ few;
}

-- the files of a job that has some
several_shaped : (verified : Bool) (files : List Data) → AllFit files → list_any has_replicas files ≡ true → nat_lt 1 (length files) ≡ false
    → Shaped Replica (files_from verified 0 files)
several_shaped verified [] fit more one = absurd (cc)
several_shaped verified (file ∷ []) fit more one =
    let dest = one_of (ends_of file).dests fit.0.dest in
    replicas_shaped verified file dest.0 fit.0 (grind (arith, tests)) dest.1
several_shaped verified (file ∷ other ∷ others) fit more one = absurd (grind (arith, tests))

-- the files of a job of any kind
pub files_shaped : (multihop several : Bool) (verified : Bool) (files : List Data) → AllFit files → is_within 1 200 (length files) ≡ true
    → list_any has_replicas files ≡ several → (several && nat_lt 1 (length files)) ≡ false → (multihop && (several || breaks_chain (map ends_of files))) ≡ false
    → Shaped (kind_by multihop several) (files_from verified 0 files)
files_shaped multihop false verified files fit few is one whole = singles_shaped multihop verified files (all_single files fit is) few whole
files_shaped true true verified files fit few is one whole = absurd (cc)
files_shaped false true verified files fit few is one whole = several_shaped verified files fit is one
