-- A body ends at the next gate, or at the last one where there is none.
use Rattle.std.proofs.Common.{◌≡◌, ◌∙◌, sym, ap, ◌+◌, ℕ, Some, get_or, arith, add-one}
use Rattle.std.proofs.lemmas.Grind.{common_steps}
use Rattle.std.proofs.lemmas.List.{get_or_past, get_or_default}
use Rattle.fts_journal.specs.declared.span.Span.{Span}
use Rattle.fts_journal.proofs.Spans.{span_here}
use Rattle.fts_journal.proofs.journal.span_at.Goals as goal
use Rattle.fts_journal.proofs.journal.span_at.Goals.{in-Some, in-None}

pub returns : goal.returns
returns c =
    let gates = c.args.gates.now in
    let start = get_or gates c.args.n 0 + 5 in
    let end : c.match-get.end ≡ get_or gates (c.args.n + 1) c.args.last = elim c.match-get.branch [
      | in-Some w ↦ grind (arith, common_steps, get_or_default gates)
      | in-None w ↦ grind (arith, common_steps, get_or_past gates)
    ] in
    span_here gates c.args.last c.args.n c.match-get.end c.requires (end ∙ ap (λ k. get_or gates k c.args.last) (add-one c.args.n))
    ∙ ap (λ (size : ℕ). let span : Span = record { start = start; size = size } in Some span) (sym c.saturating_sub.ensures)
