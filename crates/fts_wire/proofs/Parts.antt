-- What the parser answers is what is read of a head's lines.
use Rattle.std.proofs.Common.{◌≡◌, ◌≢◌, ℕ, ◌<◌, true, List, [], length, take, drop, get_or, Option, Some, None, Result, Ok, Err, refl, ap, sym, ◌∙◌, arith, subst, append-nil, ⊎_elim}
use Rattle.std.specs.Prelude.{All, IsUtf8, IsAscii}
use Rattle.std.proofs.lemmas.Bool.Decides.{nat_tests}
use Rattle.std.proofs.lemmas.List.{drop_all, get_or_past}
use Rattle.std.proofs.lemmas.Bool.{cases_lt}
use Rattle.std.proofs.lemmas.Str.{IsUtf8-from_ascii}
use Rattle.httparse.specs.Grammar.{IsToken, is_token_byte, RequestHead, ReadsRequest, print_request}
use Rattle.httparse.specs.Outcome.{IsCompleteAnd}
use Rattle.httparse.specs.Spans.{IsWithin, IsHeaderWithin, IsRequestOf, IsRequestAt, IsRequestWithin, FindsRequest}
use Rattle.httparse.specs.declared.Error.{Error}
use Rattle.httparse.specs.declared.Status.{Status}
use Rattle.httparse.specs.declared.Status.TheVariants.{Complete, Partial}
use Rattle.httparse.specs.declared.spans.HeaderSpan.{HeaderSpan}
use Rattle.httparse.specs.declared.spans.RequestSpans.{RequestSpans}
use Rattle.fts_wire.specs.Head.{lines_of, head_of}
use Rattle.fts_wire.specs.Parsed.{BeginsHead, ArePartsOf}
use Rattle.fts_wire.proofs.Grammar.{head_complete, head_sound, head_count}

token_below : (b : ℕ) → is_token_byte b ≡ true → b < 128
unfolding is_token_byte
token_below b token = grind (arith, nat_tests)

-- a token is a text
token_text : (xs : List ℕ) → IsToken xs → IsUtf8 xs
token_text xs t = IsUtf8-from_ascii xs (λ i. ascii_at i)
  where
    ascii_at : IsAscii xs
    ascii_at i = ⊎_elim (λ h. token_below (get_or xs i 0) (t.1 i 0 h))
        (λ past. subst (λ b. b < 128) (sym (get_or_past xs i 0 past)) (omega arith)) (cases_lt i (length xs))

-- a head that the parser found, whole
pub parts_of : (own : List ℕ) (headers : List HeaderSpan) (r : RequestSpans) → BeginsHead own → IsRequestOf own headers r
    → IsRequestWithin own headers r → r.len ≡ length own
    → ArePartsOf own headers r
parts_of own headers r begins of within whole =
    let h = of.0 in
    let at = of.1 in
    let none : drop r.len own ≡ [] = drop_all r.len own (omega (arith, whole)) in
    let reads : ReadsRequest own h [] = subst (ReadsRequest own h) none at.reads in record {
      head = h;
      reads = head_complete own h begins.first reads;
      method = at.method;
      target = at.path;
      version = at.version;
      fields = at.fields;
      method_in = subst (λ n. IsWithin n r.method) whole within.method;
      target_in = subst (λ n. IsWithin n r.path) whole within.path;
      count = within.section.count_fits;
      fields_in = subst (λ n. All (IsHeaderWithin n) (take r.headers headers)) whole within.section.headers_fit;
      method_text = subst IsUtf8 (sym at.method) (token_text h.method reads.0.method);
      target_text = subst IsUtf8 (sym at.path) reads.0.target_text;
    }

-- an answer that is no whole head
abbrev pub IsNotWhole : List ℕ → Result (Status RequestSpans) Error → Type 0
IsNotWhole own (Ok (Complete r)) = r.len ≢ length own
IsNotWhole own (Ok Partial) = Unit {0}
IsNotWhole own (Err e) = Unit {0}

found_whole : (own : List ℕ) (headers : List HeaderSpan) (h : RequestHead) (r : Result (Status RequestSpans) Error) → own ≡ print_request h
    → IsCompleteAnd r (λ spans. IsRequestAt own headers spans h) → IsNotWhole own r → ⊥
found_whole own headers h (Ok (Complete r)) printed at not = not (at.len ∙ ap length (sym printed))
found_whole own headers h (Ok Partial) printed at not = at
found_whole own headers h (Err e) printed at not = at

-- then there is none
pub no_head : (own : List ℕ) (room : ℕ) (headers : List HeaderSpan) (r : Result (Status RequestSpans) Error) → BeginsHead own → room ≡ 64
    → FindsRequest own room headers r → IsNotWhole own r → head_of (lines_of own) ≡ None
no_head own room headers r begins many found not = by (head_of (lines_of own)) refl
  where
    by : (o : Option RequestHead) → head_of (lines_of own) ≡ o → o ≡ None
    by None e = refl
    by (Some h) e =
        let reads : ReadsRequest own h [] = subst (λ bytes. ReadsRequest bytes h []) begins.lines (head_sound (lines_of own) h e) in
        absurd (found_whole own headers h r (reads.1 ∙ append-nil (print_request h))
        (found h [] reads (omega (arith, head_count own h begins.first reads, begins.few, many))) not)
