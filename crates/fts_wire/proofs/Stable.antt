-- What is not less than a head stays what it is, whatever comes behind it.
use Rattle.std.proofs.Common.{◌≡◌, ℕ, ◌+◌, ◌-◌, ◌<◌, ◌≤◌, List, ◌++◌, length, take, drop, Option, Some, None, refl, ap, sym, ◌∙◌, arith, subst, length-drop, length-append, ⊎_elim}
use Rattle.std.specs.Prelude.{◌==◌, nat_le}
use Rattle.std.specs.List.{list_all}
use Rattle.std.proofs.lemmas.Bool.{cond_both, cond-false, cond-true, cases_lt, ne_eqb, le-leb, leb-true}
use Rattle.std.proofs.lemmas.List.{drop-append-le, take-append-le, drop_all, take_all}
use Rattle.std.proofs.lemmas.List.Folds.{prefix_len-append}
use Rattle.std.proofs.lemmas.List.Sums.{prefix_len-le-length}
use Rattle.std.proofs.Math.Seq.{take-append-add}
use Rattle.httparse.specs.Pieces.{is_newline}
use Rattle.fts_wire.specs.Head.{lines_of, head_lines}
use Rattle.fts_wire.specs.RequestData.{HeadData, asked}
use Rattle.fts_wire.specs.Look.{Sight, Short, Refused, Headed, blanks, sight_lines, sight_by, sight_in, sight_of}
use Rattle.fts_wire.specs.Requests.{Next, Closed, EndsInside, Refuses, Asks, next_by, next_of, asks, request_size}
use Rattle.fts_wire.specs.declared.fault.WireFault.TheVariants.{HeadTooLarge}
use Rattle.fts_wire.proofs.Feeds.{head_more}

-- old stays in new, unless it is less than a head
abbrev pub Stays : Sight → Sight → Type 0
Stays Short new = Unit {0}
Stays (Refused fault) new = new ≡ Refused fault
Stays (Headed head) new = new ≡ Headed head

stays_same : (old new : Sight) → new ≡ old → Stays old new
stays_same Short new e = tt
stays_same (Refused fault) new e = e
stays_same (Headed head) new e = e

-- a head in bytes that have one is the same with more behind them
lines_stay : (bytes more : List ℕ) (lines : List (List ℕ)) → head_lines (lines_of (drop (blanks bytes) bytes)) ≡ Some lines
    → (blanks (bytes ++ more) ≡ blanks bytes) × (head_lines (lines_of (drop (blanks bytes) (bytes ++ more))) ≡ Some lines)
lines_stay bytes more lines e =
    let n = blanks bytes in
    let within : n ≤ length bytes = prefix_len-le-length is_newline bytes in
    let inside : n < length bytes = ⊎_elim (λ h. h) (λ past. absurd (none_is_some (ap (λ xs. head_lines (lines_of xs)) (sym
    (drop_all n bytes past)) ∙ e))) (cases_lt n (length bytes)) in (
      prefix_len-append is_newline bytes more
          ∙ cond-false (n == length bytes) (length bytes + blanks more) n (ne_eqb n (length bytes) (λ same. omega (arith, same, inside))),
      ap (λ xs. head_lines (lines_of xs)) (drop-append-le n bytes more within) ∙ head_more (drop n bytes) more lines e,
    )
  where
    none_is_some : None ≡ Some lines → ⊥
    none_is_some same = cc same

in_more : (bytes more : List ℕ) → length bytes < 16384 → Stays (sight_in bytes) (sight_in (bytes ++ more))
in_more bytes more few = by (head_lines (lines_of (drop (blanks bytes) bytes))) refl
  where
    by : (o : Option (List (List ℕ))) → head_lines (lines_of (drop (blanks bytes) bytes)) ≡ o
        → Stays (sight_by (blanks bytes) (length bytes) o) (sight_in (bytes ++ more))
    by None e = subst (λ s. Stays s (sight_in (bytes ++ more)))
        (sym (cond-false (length bytes == 16384) (Refused HeadTooLarge) Short (ne_eqb (length bytes) 16384 (λ same. omega (arith, same, few))))) tt
    by (Some lines) e =
        let stay = lines_stay bytes more lines e in
        stays_same (sight_lines (blanks bytes) lines) (sight_in (bytes ++ more))
        (ap (λ n. sight_by n (length (bytes ++ more)) (head_lines (lines_of (drop n (bytes ++ more))))) stay.0
        ∙ ap (sight_by (blanks bytes) (length (bytes ++ more))) stay.1)

-- more bytes behind a head, or behind what is none, change nothing
pub sight_more : (bytes more : List ℕ) → Stays (sight_of bytes) (sight_of (bytes ++ more))
sight_more bytes more = ⊎_elim (λ few. short few)
    (λ full. stays_same (sight_of bytes) (sight_of (bytes ++ more)) (ap sight_in (take-append-le 16384 bytes more full))) (cases_lt (length bytes) 16384)
  where
    short : length bytes < 16384 → Stays (sight_of bytes) (sight_of (bytes ++ more))
    short few =
        let m = 16384 - length bytes in
        let sum : 16384 ≡ length bytes + m = omega (arith, few) in
        let all : bytes ≡ take 16384 bytes = sym (take_all 16384 bytes (omega (arith, few))) in
        let longer : bytes ++ take m more ≡ take 16384 (bytes ++ more) = sym (ap (λ n. take n (bytes ++ more)) sum ∙ take-append-add bytes more m) in
        subst (λ xs. Stays (sight_in (take 16384 bytes)) (sight_in xs)) longer
        (subst (λ xs. Stays (sight_in xs) (sight_in (bytes ++ take m more))) all (in_more bytes (take m more) few))

-- what comes first, with more bytes behind
abbrev pub StaysNext : Next → List ℕ → Next → Type 0
StaysNext Closed more new = Unit {0}
StaysNext EndsInside more new = Unit {0}
StaysNext (Refuses fault) more new = new ≡ Refuses fault
StaysNext (Asks request rest) more new = new ≡ Asks request (rest ++ more)

-- a request that stands in bytes stands in them with more behind
asks_more : (head : HeadData) (bytes more : List ℕ) → request_size head ≤ length bytes
    → asks head (bytes ++ more) ≡ Asks (asked head (take head.body (drop (head.before + head.size) bytes))) (drop (request_size head) bytes ++ more)
asks_more head bytes more within =
    let n = head.before + head.size in
    ap (λ xs. Asks (asked head (take head.body xs)) (drop (request_size head) (bytes ++ more))) (drop-append-le n bytes more (omega (arith, within)))
    ∙ ap (λ xs. Asks (asked head xs) (drop (request_size head) (bytes ++ more))) (take-append-le head.body (drop n bytes) more (omega
    (arith, within, length-drop n bytes)))
    ∙ ap (Asks (asked head (take head.body (drop n bytes)))) (drop-append-le (request_size head) bytes more within)

headed_more : (head : HeadData) (bytes more : List ℕ) → StaysNext (next_by (Headed head) bytes) more (next_by (Headed head) (bytes ++ more))
headed_more head bytes more =
    cond_both (nat_le (request_size head) (length bytes)) (asks head bytes) EndsInside (λ n. StaysNext n more (next_by (Headed head) (bytes ++ more)))
    (λ e. let within = leb-true (request_size head) (length bytes) e in
    cond-true (nat_le (request_size head) (length (bytes ++ more))) (asks head (bytes ++ more)) EndsInside
    (le-leb (request_size head) (length (bytes ++ more)) (omega (arith, within, length-append bytes more))) ∙ asks_more head bytes more within)
    (λ _. tt)

-- what comes first in bytes, and is not open, comes first with more behind them
pub next_more : (bytes more : List ℕ) → StaysNext (next_of bytes) more (next_of (bytes ++ more))
next_more bytes more = by (sight_of bytes) (sight_more bytes more)
  where
    by : (s : Sight) → Stays s (sight_of (bytes ++ more)) → StaysNext (next_by s bytes) more (next_of (bytes ++ more))
    by Short e = cond_both (list_all is_newline bytes) Closed EndsInside (λ n. StaysNext n more (next_of (bytes ++ more))) (λ _. tt) (λ _. tt)
    by (Refused fault) e = ap (λ s. next_by s (bytes ++ more)) e
    by (Headed head) e = subst (λ s. StaysNext (next_by (Headed head) bytes) more (next_by s (bytes ++ more))) (sym e) (headed_more head bytes more)
