-- Bytes in which no head has ended are still so, where no line ends behind them.
use Rattle.std.proofs.Common.{◌≡◌, ℕ, ◌+◌, ◌-◌, ◌<◌, ◌≤◌, false, cond, List, ◌++◌, length, drop, Option, Some, None, refl, ap, sym, ◌∙◌, arith, subst, length-append, ⊎_elim}
use Rattle.std.specs.Prelude.{◌==◌}
use Rattle.std.specs.List.{list_any}
use Rattle.std.proofs.lemmas.Bool.{cond-false, cond-true, cases_lt, ne_eqb, eq-eqb}
use Rattle.std.proofs.lemmas.List.{drop-append-le, drop_at, take_all}
use Rattle.std.proofs.lemmas.List.Elements.{All-drop}
use Rattle.std.proofs.lemmas.List.Folds.{prefix_len-append}
use Rattle.std.proofs.lemmas.List.Sums.{prefix_len-le-length}
use Rattle.std.proofs.Math.Seq.{drop-append-add}
use Rattle.httparse.specs.Pieces.{is_newline}
use Rattle.fts_wire.specs.Head.{lines_of, head_lines}
use Rattle.fts_wire.specs.Lines.{EndsNoLine}
use Rattle.fts_wire.specs.Look.{Short, Refused, blanks, sight_by, sight_in, sight_of}
use Rattle.fts_wire.specs.declared.fault.WireFault.TheVariants.{HeadTooLarge}
use Rattle.fts_wire.proofs.Bounds.{IsShortSight, lines_not_short}
use Rattle.fts_wire.proofs.Cuts.{NoneOf}
use Rattle.fts_wire.proofs.Feeds.{is_feed, lines_same, lines_none}
use Rattle.fts_wire.proofs.Grammar.{none_from_any}

-- the lines of a head in bytes
abbrev lines_in : List ℕ → Option (List (List ℕ))
lines_in bytes = head_lines (lines_of (drop (blanks bytes) bytes))

-- there are none in few bytes that are less than a head
no_lines : (bytes : List ℕ) → sight_in bytes ≡ Short → lines_in bytes ≡ None
no_lines bytes short = by (lines_in bytes) (subst IsShortSight (sym short) tt)
  where
    by : (o : Option (List (List ℕ))) → IsShortSight (sight_by (blanks bytes) (length bytes) o) → o ≡ None
    by None s = refl
    by (Some lines) s = absurd (lines_not_short (blanks bytes) lines s)

few_is : (bytes : List ℕ) → length bytes < 16384 → sight_of bytes ≡ sight_in bytes
few_is bytes few = ap sight_in (take_all 16384 bytes (omega (arith, few)))

-- with a text behind them in which no line ends there are none
lines_past : (bytes more : List ℕ) → NoneOf is_feed more → lines_in bytes ≡ None → lines_in (bytes ++ more) ≡ None
lines_past bytes more none e = ⊎_elim inside blank (cases_lt (blanks bytes) (length bytes))
  where
    longer : blanks (bytes ++ more) ≡ cond (blanks bytes == length bytes) (length bytes + blanks more) (blanks bytes)
    longer = prefix_len-append is_newline bytes more

    inside : blanks bytes < length bytes → lines_in (bytes ++ more) ≡ None
    inside h =
        let n = blanks bytes in
        let same : blanks (bytes ++ more) ≡ n = longer ∙ cond-false (n == length bytes) (length bytes + blanks more) n (ne_eqb n (length bytes) (λ e. omega (arith, e, h))) in
        ap (λ m. head_lines (lines_of (drop m (bytes ++ more)))) same ∙ ap (λ xs. head_lines (lines_of xs)) (drop-append-le n bytes more (omega (arith, h)))
        ∙ ap head_lines (lines_same (drop n bytes) more none) ∙ e

    blank : length bytes ≤ blanks bytes → lines_in (bytes ++ more) ≡ None
    blank h =
        let n = blanks bytes in
        let all : n ≡ length bytes = omega (arith, h, prefix_len-le-length is_newline bytes) in
        let same : blanks (bytes ++ more) ≡ length bytes + blanks more =
        longer ∙ cond-true (n == length bytes) (length bytes + blanks more) n (eq-eqb n (length bytes) all) in
        ap (λ m. head_lines (lines_of (drop m (bytes ++ more)))) same ∙ ap (λ xs. head_lines (lines_of xs)) (drop-append-add bytes more (blanks more))
        ∙ ap head_lines (lines_none (drop (blanks more) more) (All-drop (λ b. is_feed b ≡ false) (blanks more) more none))

-- so they are less than a head
pub short_more : (bytes more : List ℕ) → sight_of bytes ≡ Short → NoneOf is_feed more → length (bytes ++ more) < 16384 → sight_of (bytes ++ more) ≡ Short
short_more bytes more short none few =
    let before : length bytes < 16384 = omega (arith, few, length-append bytes more) in
    few_is (bytes ++ more) few ∙ ap (sight_by (blanks (bytes ++ more)) (length (bytes ++ more))) (lines_past bytes more none (no_lines bytes (sym (few_is bytes before) ∙ short)))
    ∙ cond-false (length (bytes ++ more) == 16384) (Refused HeadTooLarge) Short (ne_eqb (length (bytes ++ more)) 16384 (λ e. omega (arith, e, few)))

-- the same of bytes that end no line, behind those that a piece was added to
pub still_short : (bytes new piece : List ℕ) (n : ℕ) → sight_of bytes ≡ Short → new ≡ bytes ++ piece → length piece ≡ n → EndsNoLine new n → sight_of new ≡ Short
still_short bytes new piece n short is count ends =
    let start : length new - n ≡ length bytes = omega (arith, ap length is, length-append bytes piece, count) in
    let last : drop (length new - n) new ≡ piece = ap (λ m. drop m new) start ∙ ap (drop (length bytes)) is ∙ drop_at bytes piece (length bytes) refl in
    let none : NoneOf is_feed piece = none_from_any is_feed piece (ap (list_any is_feed) (sym last) ∙ ends.none) in
    ap sight_of is ∙ short_more bytes piece short none (subst (λ xs. length xs < 16384) is ends.few)
