-- Where an outcome is kept already the copy was made before.
use Rattle.std.proofs.Common.{◌≡◌, ap, ◌∙◌, subst, List, get_or, true}
use Rattle.std.specs.Prelude.{is_some}
use Rattle.fts_workers.specs.Benches.{BenchData}
use Rattle.fts_workers.specs.declared.held.Held.{Held}
use Rattle.fts_workers.proofs.FirstCopied.{copied_before}
use Rattle.fts_workers.proofs.bench.Bench.copy_first.Goals as goal

pub returns-else-is_none : goal.returns-else-is_none
returns-else-is_none g c = record {
  copied = λ first others is.
      let items = ap (λ (b : BenchData). b.held) c.self.view_is ∙ is in
      let here = c.index.ensures ∙ ap (λ (held : List Held). get_or held 0 c.index.result.now) items in
      copied_before g.E.Store.state g.E.Store.calls g.E.Store.faults c.args.desk.now.tables first others c.args.self.now c.args.store.now is c.requires.kept
      (subst (λ (h : Held). is_some h.outcome ≡ true) here c.if-is_none.ensures);
}
