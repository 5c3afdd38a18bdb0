-- What a URL without a fault names as its path is the path of a file.
use Rattle.std.proofs.Common.{◌≡◌, ℕ, ◌+◌, ◌-◌, ◌≤◌, Bool, true, false, List, [], ◌∷◌, ◌++◌, length, take, drop, get_or, refl, ap, sym, subst, ◌∙◌, ⊎_elim, length-append, arith}
use Rattle.std.specs.Prelude.{codes, filter, ◌==◌, nat_eq, bytes_eq, All}
use Rattle.std.specs.List.{list_all, join_with_byte, onto_first, starts_with}
use Rattle.std.proofs.lemmas.Bool.{and_from, and_parts, cases_Bool, cond-true, cond-false, le-leb, or_cases, true≢false, false_from_ne_true, not_from_false, not_from_true, and_right, both_ways}
use Rattle.std.proofs.lemmas.List.{take-append-drop}
use Rattle.std.proofs.lemmas.List.Folds.{list_all_at}
use Rattle.std.proofs.lemmas.List.Splits.{slice_split-cons_yes, slice_split-cons_no, slice_split_none, slice_split_at, join_with_byte-slice_split}
use Rattle.std.proofs.lemmas.Slice.Eq.{bytes_eq-Decides}
use Rattle.fts_tables.specs.declared.limits.TheConstants.{MAX_NAME_BYTES}
use Rattle.fts_tables.specs.Names.{is_plain_byte, is_name_byte, is_segment, is_reserved, segments, IsPathKey}
use Rattle.fts_joburl.specs.Urls.{is_kept, kept_segments, begins_reserved, is_none}

-- ---- the bytes of segments

-- one more byte of a name, put before the first part
named_onto_first : (byte : ℕ) (parts : List (List ℕ)) → is_name_byte byte ≡ true → list_all (list_all is_name_byte) parts ≡ true
    → list_all (list_all is_name_byte) (onto_first byte parts) ≡ true
named_onto_first byte [] named others = and_from _ _ (and_from _ _ named refl) refl
named_onto_first byte (part ∷ parts) named others =
    let both = and_parts (list_all is_name_byte part) (list_all (list_all is_name_byte) parts) others in
    and_from _ _ (and_from _ _ named both.0) both.1

-- a plain byte that is no slash is a byte of a name
named_byte : (byte : ℕ) → is_plain_byte byte ≡ true → (byte == 0x2f) ≡ false → is_name_byte byte ≡ true
named_byte byte plain no_slash = and_from _ _ plain (not_from_false _ no_slash)

-- the segments of a plain path are of bytes of a name
segments_are_named : (path : List ℕ) → list_all is_plain_byte path ≡ true → list_all (list_all is_name_byte) (segments path) ≡ true
segments_are_named [] plain = refl
segments_are_named (byte ∷ path) plain =
    let both = and_parts (is_plain_byte byte) (list_all is_plain_byte path) plain in
    let others : list_all (list_all is_name_byte) (segments path) ≡ true = segments_are_named path both.1 in
    ⊎_elim (λ slash. subst (λ parts. list_all (list_all is_name_byte) parts ≡ true) (sym (slice_split-cons_yes (λ b. b == 0x2f) byte path slash)) others)
    (λ no_slash. subst (λ parts. list_all (list_all is_name_byte) parts ≡ true) (sym (slice_split-cons_no (λ b. b == 0x2f) byte path no_slash))
    (named_onto_first byte (segments path) (named_byte byte both.0 no_slash) others))
    (cases_Bool (byte == 0x2f))

-- those that are kept are segments of a path
kept_are_segments : (parts : List (List ℕ)) → list_all (list_all is_name_byte) parts ≡ true → list_all is_segment (filter is_kept parts) ≡ true
kept_are_segments [] named = refl
kept_are_segments (part ∷ parts) named =
    let both = and_parts (list_all is_name_byte part) (list_all (list_all is_name_byte) parts) named in
    let others : list_all is_segment (filter is_kept parts) ≡ true = kept_are_segments parts both.1 in
    ⊎_elim (λ kept. subst (λ left. list_all is_segment left ≡ true) (sym (cond-true _ _ _ kept)) (and_from _ _ (and_from _ _ kept both.0) others))
    (λ left_out. subst (λ left. list_all is_segment left ≡ true) (sym (cond-false _ _ _ left_out)) others)
    (cases_Bool (is_kept part))

-- ---- segments that are joined are split again

-- bytes of a name are no slashes
no_slashes : (bytes : List ℕ) → list_all is_name_byte bytes ≡ true → All (λ b. (b == 0x2f) ≡ false) bytes
no_slashes bytes named = λ k d below. false_from_ne_true _
    (λ slash. both_ways _ (list_all_at is_name_byte bytes k d below (and_right (is_plain_byte (get_or bytes k d)) _ (not_from_true _ slash))) named)

-- a segment is of bytes of a name
segment_is_named : (part : List ℕ) → is_segment part ≡ true → list_all is_name_byte part ≡ true
segment_is_named part good = (and_parts (is_kept part) (list_all is_name_byte part) good).1

-- joined segments have these segments
segments_of_joined : (part : List ℕ) (parts : List (List ℕ)) → list_all is_segment (part ∷ parts) ≡ true → segments (join_with_byte 0x2f (part ∷ parts))
    ≡ part ∷ parts
segments_of_joined part [] good =
    let both = and_parts (is_segment part) true good in
    slice_split_none (λ b. b == 0x2f) part (no_slashes part (segment_is_named part both.0))
segments_of_joined part (next ∷ parts) good =
    let both = and_parts (is_segment part) (list_all is_segment (next ∷ parts)) good in
    slice_split_at (λ b. b == 0x2f) part 0x2f (join_with_byte 0x2f (next ∷ parts)) (no_slashes part (segment_is_named part both.0)) refl
    ∙ ap (λ others. part ∷ others) (segments_of_joined next parts both.1)

-- the same of a list that is not empty
joined_again : (parts : List (List ℕ)) → is_none parts ≡ false → list_all is_segment parts ≡ true → segments (join_with_byte 0x2f parts) ≡ parts
joined_again [] some good = absurd (true≢false some)
joined_again (part ∷ parts) some good = segments_of_joined part parts good

-- ---- lengths

-- the bytes of the parts, with a slash for each
abbrev bytes_of : List (List ℕ) → ℕ
bytes_of [] = 0
bytes_of (part ∷ parts) = length part + 1 + bytes_of parts

length_joined : (parts : List (List ℕ)) → length (join_with_byte 0x2f parts) ≡ bytes_of parts - 1
length_joined [] = refl
length_joined (part ∷ []) = omega arith
length_joined (part ∷ next ∷ parts) = omega (arith, length-append part (0x2f ∷ join_with_byte 0x2f (next ∷ parts)), length_joined (next ∷ parts))

-- some of the parts have no more bytes than all
fewer_bytes : (test : List ℕ → Bool) (parts : List (List ℕ)) → bytes_of (filter test parts) ≤ bytes_of parts
fewer_bytes test [] = omega arith
fewer_bytes test (part ∷ parts) =
    ⊎_elim (λ kept. subst (λ left. bytes_of left ≤ bytes_of (part ∷ parts)) (sym (cond-true _ _ _ kept)) (omega (arith, fewer_bytes test parts)))
    (λ left_out. subst (λ left. bytes_of left ≤ bytes_of (part ∷ parts)) (sym (cond-false _ _ _ left_out)) (omega (arith, fewer_bytes test parts)))
    (cases_Bool (test part))

-- the joined segments that are kept are no longer than the path
kept_within : (path : List ℕ) → length (join_with_byte 0x2f (kept_segments path)) ≤ length path
kept_within path =
    let whole : length (join_with_byte 0x2f (segments path)) ≡ length path = ap length (join_with_byte-slice_split 0x2f path) in
    omega (arith, length_joined (kept_segments path), length_joined (segments path), fewer_bytes is_kept (segments path), whole)

-- ---- the reserved folder

-- a text in the reserved folder has its name as its first segment
reserved_begins : (text : List ℕ) → is_reserved text ≡ true → begins_reserved (segments text) ≡ true
reserved_begins text reserved =
    ⊎_elim (λ whole. subst (λ t. begins_reserved (segments t) ≡ true) (sym ((bytes_eq-Decides text (codes ".fts")).0 whole)) refl)
    (λ front.
    let same : codes ".fts/" ≡ take 5 text = (bytes_eq-Decides (codes ".fts/") (take 5 text)).0 front in
    let split : codes ".fts/" ++ drop 5 text ≡ text = ap (λ t. t ++ drop 5 text) same ∙ take-append-drop 5 text in
    subst (λ t. begins_reserved (segments t) ≡ true) split refl)
    (or_cases (bytes_eq text (codes ".fts")) (starts_with nat_eq text (codes ".fts/")) reserved)

-- the path is one
pub path_is_key : (path : List ℕ) → list_all is_plain_byte path ≡ true → length path ≤ MAX_NAME_BYTES → is_none (kept_segments path) ≡ false
    → begins_reserved (kept_segments path) ≡ false → IsPathKey (join_with_byte 0x2f (kept_segments path))
path_is_key path plain short some free =
    let good : list_all is_segment (kept_segments path) ≡ true = kept_are_segments (segments path) (segments_are_named path plain) in
    let again : segments (join_with_byte 0x2f (kept_segments path)) ≡ kept_segments path = joined_again (kept_segments path) some good in
    let text = join_with_byte 0x2f (kept_segments path) in
    let fits : length text ≤ MAX_NAME_BYTES = omega (arith, kept_within path) in
    let other : is_reserved text ≡ false = false_from_ne_true _ (λ reserved. both_ways _ free (rw again at (reserved_begins text reserved))) in
    and_from _ _ (and_from _ _ (le-leb _ _ fits) (rw again good)) (not_from_false _ other)
