-- Each step of a copy follows its script.
use Rattle.std.proofs.Common.{◌≡◌, ℕ, suc, ◌+◌, ◌-◌, ◌*◌, ◌<◌, ◌≤◌, Bool, true, false, Option, Some, None, Result, Ok, Err, List, [], ◌++◌, length, refl, sym, ◌∙◌, ap, subst, arith, tests}
use Rattle.std.specs.Prelude.{min, nat_lt, is_some, bytes_eq, ◌||◌, if◌then◌else◌}
use Rattle.md5.specs.Md5.{md5}
use Rattle.fts_tables.specs.declared.places.Place.{Place}
use Rattle.fts_tables.specs.declared.rows.Outcome.{Outcome}
use Rattle.fts_tables.specs.declared.rows.Outcome.TheVariants.{Verified, SourceMissing, DestinationExists, SourceSize, SourceDigest, ReadBackDiffers}
use Rattle.fts_store.specs.Calls.{Call, Sized, Created, answer_of, with_call}
use Rattle.fts_copy.specs.declared.pieces.TheConstants.{PIECE_BYTES}
use Rattle.fts_copy.specs.Copy.{Order, part_of, is_other_size, is_other_digest}
use Rattle.fts_copy.specs.Differences.{first_difference}
use Rattle.fts_copy.specs.Watch.{pieces, with_answer}
use Rattle.fts_copy.specs.Script.{Script, Ends, Asks, Appends, Renames, Log, LeadsTo, log_of, unless_failed, unless_no, goes_on, reads_piece, reads_behind, puts_in_place, agrees, ends_there, unless_differs, matches_piece, matches, reads_back, digests, writes_piece, unless_short, writes, writes_part, transfers, fits, is_free, looks_at, looks, copy_of}
use Rattle.fts_copy.proofs.Playing.{leads_same, then_leads, sizes_leads, creates_leads, asks_leads, by_test, by_else}

-- a test that holds, and one that doesn't
chosen : (b : Bool) (one other : Script) → b ≡ true → (if b then one else other) ≡ one
chosen true one other is = refl
chosen false one other is = cc

left : (b : Bool) (one other : Script) → b ≡ false → (if b then one else other) ≡ other
left true one other is = cc
left false one other is = refl

-- the source was looked at
pub look_leads : {E : Type 0} (order : Order) (next : ℕ → Script) (old new : Option (List Call)) (answers : Option (List Bool)) (at : Place) (result : Result (Option ℕ) E)
    → at ≡ order.source → new ≡ with_call old (Sized at (answer_of result)) → LeadsTo (looks order next) (log_of old answers) (unless_failed (looks_at order next) result) (log_of new answers)
unfolding looks
look_leads order next old new answers at result same is = sizes_leads at order.source (looks_at order next) old new answers result same is

-- it isn't there, or it is
pub none_leads : (order : Order) (next : ℕ → Script) (log : Log) (source : Option ℕ) → source ≡ None → LeadsTo (looks_at order next source) log (Ends SourceMissing) log
unfolding looks_at
none_leads order next log source is = subst (λ s. LeadsTo (looks_at order next s) log (Ends SourceMissing) log) (sym is) (leads_same (Ends SourceMissing) log)

pub some_leads : (order : Order) (next : ℕ → Script) (log : Log) (source : Option ℕ) (size : ℕ) → source ≡ Some size → LeadsTo (looks_at order next source) log (is_free order next size) log
unfolding looks_at
some_leads order next log source size is = subst (λ s. LeadsTo (looks_at order next s) log (is_free order next size) log) (sym is) (leads_same (is_free order next size) log)

-- the destination isn't looked at, or it is
pub over_leads : (order : Order) (next : ℕ → Script) (log : Log) (size : ℕ) → order.overwrite ≡ true → LeadsTo (is_free order next size) log (fits order next size) log
unfolding is_free
over_leads order next log size is = by_test (is_free order next size) log log order.overwrite (fits order next size) _ (leads_same (is_free order next size) log) is

pub free_leads : {E : Type 0} (order : Order) (next : ℕ → Script) (size : ℕ) (old new : Option (List Call)) (answers : Option (List Bool)) (at : Place) (result : Result (Option ℕ) E)
    → order.overwrite ≡ false → at ≡ order.dest → new ≡ with_call old (Sized at (answer_of result))
    → LeadsTo (is_free order next size) (log_of old answers) (unless_failed (λ dest. if is_some dest then Ends DestinationExists else fits order next size) result) (log_of new answers)
unfolding is_free
free_leads order next size old new answers at result over same is =
    then_leads (by_else (is_free order next size) (log_of old answers) (log_of old answers) order.overwrite _ _ (leads_same (is_free order next size) (log_of old answers)) over)
    (sizes_leads at order.dest (λ dest. if is_some dest then Ends DestinationExists else fits order next size) old new answers result same is)

-- another size is wanted, or none
pub misfit_leads : (order : Order) (next : ℕ → Script) (log : Log) (size : ℕ) → is_other_size order.size size ≡ true → LeadsTo (fits order next size) log (Ends (SourceSize size)) log
unfolding fits
misfit_leads order next log size is = by_test (fits order next size) log log (is_other_size order.size size) _ _ (leads_same (fits order next size) log) is

pub fit_leads : (order : Order) (next : ℕ → Script) (log : Log) (size : ℕ) → is_other_size order.size size ≡ false → LeadsTo (fits order next size) log (next size) log
unfolding fits
fit_leads order next log size is = by_else (fits order next size) log log (is_other_size order.size size) _ _ (leads_same (fits order next size) log) is

-- before a piece is written
pub piece_writes : (order : Order) (offset wanted : ℕ) (next : List ℕ → Script) (calls : Option (List Call)) (old new : Option (List Bool)) (answer : Bool) → new ≡ with_answer old answer
    → LeadsTo (writes_piece order offset wanted next) (log_of calls old) (unless_no answer (reads_piece order.source offset wanted (λ piece. Appends (part_of order) piece (next piece)))) (log_of calls new)
unfolding writes_piece
piece_writes order offset wanted next calls old new answer is = asks_leads (reads_piece order.source offset wanted (λ piece. Appends (part_of order) piece (next piece))) calls old new answer is

-- before a piece is read back
pub piece_matches : (order : Order) (offset wanted : ℕ) (next : List ℕ → Script) (calls : Option (List Call)) (old new : Option (List Bool)) (answer : Bool) → new ≡ with_answer old answer
    → LeadsTo (matches_piece order offset wanted next) (log_of calls old)
    (unless_no answer (reads_piece order.source offset wanted (λ held. reads_piece (part_of order) offset wanted (λ kept. unless_differs offset (first_difference held kept) (next kept))))) (log_of calls new)
unfolding matches_piece
piece_matches order offset wanted next calls old new answer is =
    asks_leads (reads_piece order.source offset wanted (λ held. reads_piece (part_of order) offset wanted (λ kept. unless_differs offset (first_difference held kept) (next kept)))) calls old new answer is

-- the pieces differ, or they don't
pub differ_leads : (offset at : ℕ) (found : Option ℕ) (same : Script) (log : Log) → found ≡ Some at → LeadsTo (unless_differs offset found same) log (Ends (ReadBackDiffers (offset + at))) log
unfolding unless_differs
differ_leads offset at found same log is =
    subst (λ f. LeadsTo (unless_differs offset f same) log (Ends (ReadBackDiffers (offset + at))) log) (sym is) (leads_same (Ends (ReadBackDiffers (offset + at))) log)

pub match_leads : (offset : ℕ) (found : Option ℕ) (same : Script) (log : Log) → found ≡ None → LeadsTo (unless_differs offset found same) log same log
unfolding unless_differs
match_leads offset found same log is = subst (λ f. LeadsTo (unless_differs offset f same) log same log) (sym is) (leads_same same log)

-- the piece after those that were written
pub more_writes : (order : Order) (size all piece offset wanted : ℕ) (next : List ℕ → Script) (written : List ℕ) (log : Log) → piece < all → offset ≡ piece * PIECE_BYTES
    → wanted ≡ min PIECE_BYTES (size - offset)
    → LeadsTo (writes order size next (all - piece) (piece * PIECE_BYTES) written) log
    (writes_piece order offset wanted (λ bytes. unless_short offset wanted bytes (writes order size next (all - (piece + 1)) ((piece + 1) * PIECE_BYTES) (written ++ bytes)))) log
unfolding writes
more_writes order size all piece offset wanted next written log inside start long =
    let rest : all - piece ≡ suc (all - (piece + 1)) = omega arith in
    let behind : offset + PIECE_BYTES ≡ (piece + 1) * PIECE_BYTES = omega arith in
    subst (λ n. LeadsTo (writes order size next n (piece * PIECE_BYTES) written) log (writes_piece order offset wanted (λ bytes. unless_short offset wanted bytes
    (writes order size next (all - (piece + 1)) ((piece + 1) * PIECE_BYTES) (written ++ bytes)))) log) (sym rest)
    (subst (λ o. LeadsTo (writes order size next (suc (all - (piece + 1))) o written) log (writes_piece order offset wanted (λ bytes. unless_short offset wanted bytes
    (writes order size next (all - (piece + 1)) ((piece + 1) * PIECE_BYTES) (written ++ bytes)))) log) start
    (subst (λ w. LeadsTo (writes order size next (suc (all - (piece + 1))) offset written) log (writes_piece order offset w (λ bytes. unless_short offset w bytes
    (writes order size next (all - (piece + 1)) ((piece + 1) * PIECE_BYTES) (written ++ bytes)))) log) (sym long)
    (subst (λ b. LeadsTo (writes order size next (suc (all - (piece + 1))) offset written) log (writes_piece order offset (min PIECE_BYTES (size - offset)) (λ bytes. unless_short offset (min PIECE_BYTES (size - offset)) bytes
    (writes order size next (all - (piece + 1)) b (written ++ bytes)))) log) behind
    (leads_same (writes order size next (suc (all - (piece + 1))) offset written) log))))

-- all were written
pub all_writes : (order : Order) (size all piece : ℕ) (next : List ℕ → Script) (written digest : List ℕ) (log : Log) → all ≤ piece → digest ≡ md5 written
    → LeadsTo (writes order size next (all - piece) (piece * PIECE_BYTES) written) log (next digest) log
unfolding writes
all_writes order size all piece next written digest log done is =
    let none : all - piece ≡ 0 = omega arith in
    subst (λ n. LeadsTo (writes order size next n (piece * PIECE_BYTES) written) log (next digest) log) (sym none)
    (subst (λ d. LeadsTo (next (md5 written)) log (next d) log) (sym is) (leads_same (next (md5 written)) log))

-- the source ended inside the piece, or it didn't
pub short_leads : (offset wanted count : ℕ) (bytes : List ℕ) (whole : Script) (log : Log) → length bytes ≡ count → count < wanted
    → LeadsTo (unless_short offset wanted bytes whole) log (Ends (SourceSize (offset + count))) log
unfolding unless_short
short_leads offset wanted count bytes whole log long short =
    let test : nat_lt (length bytes) wanted ≡ true = grind (arith, tests, long, short) in
    subst (λ n. LeadsTo (unless_short offset wanted bytes whole) log (Ends (SourceSize (offset + n))) log) long
    (by_test (unless_short offset wanted bytes whole) log log (nat_lt (length bytes) wanted) _ _ (leads_same (unless_short offset wanted bytes whole) log) test)

pub whole_leads : (offset wanted count : ℕ) (bytes : List ℕ) (whole : Script) (log : Log) → length bytes ≡ count → wanted ≤ count
    → LeadsTo (unless_short offset wanted bytes whole) log whole log
unfolding unless_short
whole_leads offset wanted count bytes whole log long enough =
    let test : nat_lt (length bytes) wanted ≡ false = grind (arith, tests, long, enough) in
    by_else (unless_short offset wanted bytes whole) log log (nat_lt (length bytes) wanted) _ _ (leads_same (unless_short offset wanted bytes whole) log) test

-- the piece after those that were read back
pub more_matches : (order : Order) (size all piece offset wanted : ℕ) (next : List ℕ → Script) (read : List ℕ) (log : Log) → piece < all → offset ≡ piece * PIECE_BYTES
    → wanted ≡ min PIECE_BYTES (size - offset)
    → LeadsTo (matches order size next (all - piece) (piece * PIECE_BYTES) read) log
    (matches_piece order offset wanted (λ bytes. matches order size next (all - (piece + 1)) ((piece + 1) * PIECE_BYTES) (read ++ bytes))) log
unfolding matches
more_matches order size all piece offset wanted next read log inside start long =
    let rest : all - piece ≡ suc (all - (piece + 1)) = omega arith in
    let behind : offset + PIECE_BYTES ≡ (piece + 1) * PIECE_BYTES = omega arith in
    subst (λ n. LeadsTo (matches order size next n (piece * PIECE_BYTES) read) log (matches_piece order offset wanted
    (λ bytes. matches order size next (all - (piece + 1)) ((piece + 1) * PIECE_BYTES) (read ++ bytes))) log) (sym rest)
    (subst (λ o. LeadsTo (matches order size next (suc (all - (piece + 1))) o read) log (matches_piece order offset wanted
    (λ bytes. matches order size next (all - (piece + 1)) ((piece + 1) * PIECE_BYTES) (read ++ bytes))) log) start
    (subst (λ w. LeadsTo (matches order size next (suc (all - (piece + 1))) offset read) log (matches_piece order offset w
    (λ bytes. matches order size next (all - (piece + 1)) ((piece + 1) * PIECE_BYTES) (read ++ bytes))) log) (sym long)
    (subst (λ b. LeadsTo (matches order size next (suc (all - (piece + 1))) offset read) log (matches_piece order offset (min PIECE_BYTES (size - offset))
    (λ bytes. matches order size next (all - (piece + 1)) b (read ++ bytes))) log) behind
    (leads_same (matches order size next (suc (all - (piece + 1))) offset read) log))))

-- all were read back
pub all_matches : (order : Order) (size all piece : ℕ) (next : List ℕ → Script) (read digest : List ℕ) (log : Log) → all ≤ piece → digest ≡ md5 read
    → LeadsTo (matches order size next (all - piece) (piece * PIECE_BYTES) read) log (next digest) log
unfolding matches
all_matches order size all piece next read digest log done is =
    let none : all - piece ≡ 0 = omega arith in
    subst (λ n. LeadsTo (matches order size next n (piece * PIECE_BYTES) read) log (next digest) log) (sym none)
    (subst (λ d. LeadsTo (next (md5 read)) log (next d) log) (sym is) (leads_same (next (md5 read)) log))

-- the part is made
pub part_leads : {E : Type 0} (order : Order) (size : ℕ) (next : List ℕ → Script) (old new : Option (List Call)) (answers : Option (List Bool)) (at : Place) (result : Result (Unit {0}) E)
    → at ≡ part_of order → new ≡ with_call old (Created at (answer_of result))
    → LeadsTo (writes_part order size next) (log_of old answers) (unless_failed (λ done. writes order size (digests order next) (pieces size) 0 []) result) (log_of new answers)
unfolding writes_part
part_leads order size next old new answers at result same is = creates_leads at (part_of order) (writes order size (digests order next) (pieces size) 0 []) old new answers result same is

-- another digest is wanted, or none
pub misdigest_leads : (order : Order) (next : List ℕ → Script) (log : Log) (digest : List ℕ) → is_other_digest order.wanted digest ≡ true
    → LeadsTo (digests order next digest) log (Ends (SourceDigest digest)) log
unfolding digests
misdigest_leads order next log digest is = by_test (digests order next digest) log log (is_other_digest order.wanted digest) _ _ (leads_same (digests order next digest) log) is

pub digest_leads : (order : Order) (next : List ℕ → Script) (log : Log) (digest : List ℕ) → is_other_digest order.wanted digest ≡ false
    → LeadsTo (digests order next digest) log (next digest) log
unfolding digests
digest_leads order next log digest is = by_else (digests order next digest) log log (is_other_digest order.wanted digest) _ _ (leads_same (digests order next digest) log) is

-- reading back begins
pub back_leads : (order : Order) (size : ℕ) (next : List ℕ → Script) (log : Log) → LeadsTo (reads_back order size next) log (matches order size (ends_there order size next) (pieces size) 0 []) log
unfolding reads_back
back_leads order size next log = leads_same (reads_back order size next) log

-- behind the pieces
pub behind_both : (order : Order) (size : ℕ) (next : List ℕ → Script) (again : List ℕ) (log : Log)
    → LeadsTo (ends_there order size next again) log
    (reads_behind order.source size (λ source. reads_behind (part_of order) size (λ part. if source || part then Ends (ReadBackDiffers size) else next again))) log
unfolding ends_there
behind_both order size next again log = leads_same (ends_there order size next again) log

-- the digests are compared
pub agree_leads : (order : Order) (size : ℕ) (first second : List ℕ) (log : Log) (result : Result (Unit {0}) Outcome)
    → result ≡ (if bytes_eq first second then Ok tt else Err (ReadBackDiffers size)) → LeadsTo (agrees order size first second) log (goes_on (λ done. puts_in_place order size first) result) log
unfolding agrees
agree_leads order size first second log result is = by_digests (bytes_eq first second) refl
  where
    by_digests : (b : Bool) → bytes_eq first second ≡ b → LeadsTo (agrees order size first second) log (goes_on (λ done. puts_in_place order size first) result) log
    by_digests true same =
        subst (λ r. LeadsTo (agrees order size first second) log (goes_on (λ done. puts_in_place order size first) r) log) (sym (is ∙ ap (λ b. if b then Ok tt else Err (ReadBackDiffers size)) same))
        (by_test (agrees order size first second) log log (bytes_eq first second) _ _ (leads_same (agrees order size first second) log) same)
    by_digests false other =
        subst (λ r. LeadsTo (agrees order size first second) log (goes_on (λ done. puts_in_place order size first) r) log) (sym (is ∙ ap (λ b. if b then Ok tt else Err (ReadBackDiffers size)) other))
        (by_else (agrees order size first second) log log (bytes_eq first second) _ _ (leads_same (agrees order size first second) log) other)

-- the last step
pub last_leads : (order : Order) (size : ℕ) (digest : List ℕ) (log : Log) → LeadsTo (puts_in_place order size digest) log (Asks (Renames (part_of order) order.dest (Ends (Verified size digest)))) log
unfolding puts_in_place
last_leads order size digest log = leads_same (puts_in_place order size digest) log

-- all steps
pub copy_leads : (order : Order) (log : Log) → LeadsTo (copy_of order) log (looks order (transfers order)) log
unfolding copy_of
copy_leads order log = leads_same (copy_of order) log

pub transfer_leads : (order : Order) (size : ℕ) (log : Log) → LeadsTo (transfers order size) log (writes_part order size (λ digest. reads_back order size (agrees order size digest))) log
unfolding transfers
transfer_leads order size log = leads_same (transfers order size) log

-- before the first piece
pub first_writes : (order : Order) (size all : ℕ) (next : List ℕ → Script) (log : Log)
    → LeadsTo (writes order size next all 0 []) log (writes order size next (all - 0) (0 * PIECE_BYTES) []) log
first_writes order size all next log =
    let whole : all ≡ all - 0 = omega arith in
    subst (λ n. LeadsTo (writes order size next all 0 []) log (writes order size next n 0 []) log) whole (leads_same (writes order size next all 0 []) log)

pub first_matches : (order : Order) (size all : ℕ) (next : List ℕ → Script) (log : Log)
    → LeadsTo (matches order size next all 0 []) log (matches order size next (all - 0) (0 * PIECE_BYTES) []) log
first_matches order size all next log =
    let whole : all ≡ all - 0 = omega arith in
    subst (λ n. LeadsTo (matches order size next all 0 []) log (matches order size next n 0 []) log) whole (leads_same (matches order size next all 0 []) log)
