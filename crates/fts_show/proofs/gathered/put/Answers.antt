-- A part more behind the text, and the text as it was before the parts.
use Rattle.std.proofs.Common.{◌≡◌, ◌∙◌, ◌++◌, ◌+◌, ◌<◌, ℕ, List, Bor, ap, sym, take, length, append_assoc}
use Rattle.std.proofs.Math.ListN.{get_or}
use Rattle.std.proofs.Math.Seq.{take-append_seam}
use Rattle.fts_wire.proofs.Sent.{joined, joined_more}
use Rattle.fts_show.proofs.gathered.put.Goals as goal

one_more : (parts : List (Bor (List ℕ))) (i : ℕ) (other : Bor (List ℕ)) (old text after : List ℕ) → i < length parts → after ≡ text ++ (get_or parts i other).now
    → text ≡ old ++ joined (take i parts) → after ≡ old ++ joined (take (i + 1) parts)
one_more parts i other old text after inside grown so_far =
    grown ∙ (ap (λ (front : List ℕ). front ++ (get_or parts i other).now) so_far
    ∙ (append_assoc old (joined (take i parts)) (get_or parts i other).now ∙ ap (λ (behind : List ℕ). old ++ behind) (sym (joined_more parts i other inside))))

pub parts-preserved : goal.parts-preserved
parts-preserved c = record {
  line = one_more c.args.parts.now c.parts.part-index _ c.args.text.now.items c.parts.text.items c.try_extend_from_slice.new.self.items c.parts-test.true
      c.in-Ok.ensures.ok c.parts.invariant.line;
}

-- what was put behind a text is cut off again
cut_back : (old text full after behind : List ℕ) (before : ℕ) → before ≡ length old → text ≡ old ++ behind → full ≡ text → after ≡ take before full → after ≡ old
cut_back old text full after behind before is so_far same cut =
    cut ∙ ap (take before) (same ∙ so_far) ∙ ap (λ (n : ℕ). take n (old ++ behind)) is ∙ take-append_seam old behind

pub returns-in-Err-clause-left : goal.returns-in-Err-clause-left
returns-in-Err-clause-left c = λ _. cut_back c.args.text.now.items c.parts.text.items c.try_extend_from_slice.new.self.items c.truncate.new.self.items
    _ c.len-before.result c.len-before.ensures.value c.parts.invariant.line (ap (λ text. text.items) c.in-Err.ensures.err) c.truncate.ensures.items
