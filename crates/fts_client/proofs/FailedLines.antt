-- One line more among those that came back.
use Rattle.std.proofs.Common.{◌≡◌, inl, inr, ℕ, ◌+◌, Bool, true, false, List, [], ◌∷◌, ◌++◌, refl, ap, sym, ◌∙◌, arith, lt-ltb, true≢false}
use Rattle.std.specs.Prelude.{◌||◌, nat_lt, if◌then◌else◌}
use Rattle.fts_wire.specs.declared.memory.MemoryLine.{MemoryLine}
use Rattle.fts_client.specs.Links.{CountsLine}
use Rattle.fts_client.specs.MemoryLinks.{has_failed, failed_in}

failed_in-push : (lines : List MemoryLine) (line : MemoryLine) → failed_in (lines ++ line ∷ []) ≡ failed_in lines + (if has_failed line then 1 else 0)
failed_in-push [] line = omega arith
failed_in-push (first ∷ lines) line = let behind = failed_in-push lines line in omega (arith, behind)

-- a line that has failed is one fault more, and another is none
by_failed : (failed : Bool) (count old new source sink : ℕ) → (nat_lt 0 source || nat_lt 0 sink) ≡ failed → new ≡ old + (if failed then 1 else 0)
    → CountsLine (count + old) (count + new) source sink
by_failed true count old new source sink is more = record {
  keeps = omega (arith, more);
  rises = λ some. inl (omega (arith, more));
  stays = λ none no_sink. absurd (true≢false (sym is ∙ (ap (λ number. nat_lt 0 number || nat_lt 0 sink) none ∙ ap (λ number. nat_lt 0 0 || nat_lt 0 number) no_sink)));
}
by_failed false count old new source sink is more = record {
  keeps = omega (arith, more);
  rises = elim [
    | inl some ↦ absurd (true≢false (ap (λ test. test || nat_lt 0 sink) (sym (lt-ltb 0 source some)) ∙ is))
    | inr some ↦ absurd (true≢false (either (nat_lt 0 source) (nat_lt 0 sink) (lt-ltb 0 sink some) ∙ is))
  ];
  stays = λ none no_sink. omega (arith, more);
}
  where
    either : (one other : Bool) → other ≡ true → true ≡ (one || other)
    either true other is = refl
    either false other is = sym is

pub counts_line : (count : ℕ) (lines : List MemoryLine) (line : MemoryLine)
    → CountsLine (count + failed_in lines) (count + failed_in (lines ++ line ∷ [])) line.source.faults line.sink.faults
counts_line count lines line =
    by_failed (has_failed line) count (failed_in lines) (failed_in (lines ++ line ∷ [])) line.source.faults line.sink.faults refl (failed_in-push lines line)
