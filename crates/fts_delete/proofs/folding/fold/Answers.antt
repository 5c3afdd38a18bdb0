-- Each exit of the loop, by the lemmas of `Folded`.
use Rattle.std.proofs.Common.{◌≡◌, ◌∙◌, ap, sym, subst, suc, ◌+◌, ◌≤◌, slice_get, Some, length, take_all, rules, arith}
use Rattle.fts_tables.specs.declared.limits.TheConstants.{JOURNAL_END}
use Rattle.fts_journal.specs.Journal.{filled_by}
use Rattle.fts_delete.specs.Faults.{fault_of}
use Rattle.fts_delete.specs.Folding.{HasFolded, FoldFault}
use Rattle.fts_delete.proofs.Folded.{passes_more, filled_to, folded_none, folded_more, leaves_none, leaves_more, read_fault, take_fault, on_err}
use Rattle.fts_delete.proofs.Forming.{legal_rows_are_formed, legal_rows_are_few}
use Rattle.fts_delete.proofs.folding.fold.Goals as goal

pub loop-n-init : goal.loop-n-init
loop-n-init g c = record {
  leaves = leaves_none g.D.Disk.state g.D.Disk.faults g.met.D.Disk.lawful c.args.journal.now;
  folded = subst (λ t. HasFolded g.D.Disk.state c.args.journal.now t 8 0) (sym c.new-rows.ensures.items) (folded_none g.D.Disk.state c.args.journal.now);
}

pub body-requires : goal.body-requires
body-requires g c = omega (arith, c.loop-n.invariant.leaves.count, c.count-n-end.ensures.count, c.loop-n-test.true)

pub returns-in_err-body-clause-leaves : goal.returns-in_err-body-clause-leaves
returns-in_err-body-clause-leaves g c = leaves_more g.D.Disk.state g.D.Disk.faults g.met.D.Disk.lawful c.args.journal.now c.loop-n.journal c.body.new.self
    c.loop-n.invariant.leaves c.body.ensures.told c.body.ensures.kept c.body.ensures.counts c.body.ensures.sizes c.body.ensures.keeps c.body.ensures.doubt

pub returns-in_err-body-clause-fault : goal.returns-in_err-body-clause-fault
returns-in_err-body-clause-fault g c = on_err c.from_residual.result (fault_of c.in_err-body.field-0.0)
    (FoldFault g.D.Disk.state g.D.Disk.faults c.args.journal.now c.body.new.self)
    c.from_residual.ensures.1
    (read_fault g.D.Disk.state g.D.Disk.faults c.args.journal.now c.loop-n.journal c.body.new.self c.loop-n.invariant.leaves.counts c.in_err-body.field-0.0
    c.in_err-body.ensures.disk_failed c.in_err-body.ensures.others)

pub take_body-requires-clause-formed : goal.take_body-requires-clause-formed
take_body-requires-clause-formed g c = legal_rows_are_formed c.loop-n.invariant.folded.events c.loop-n.rows.items c.loop-n.invariant.folded.folded

pub take_body-requires-clause-few : goal.take_body-requires-clause-few
take_body-requires-clause-few g c = legal_rows_are_few c.loop-n.invariant.folded.events c.loop-n.rows.items c.loop-n.invariant.folded.folded

pub take_body-requires-clause-low : goal.take_body-requires-clause-low
take_body-requires-clause-low g c = omega (
  arith,
  c.loop-n.invariant.folded.passes,
  filled_to c.args.journal.now.sizes c.loop-n.n,
  c.used.ensures.filled,
  c.used.ensures.most,
)

pub returns-in_err-take_body-clause-leaves : goal.returns-in_err-take_body-clause-leaves
returns-in_err-take_body-clause-leaves g c = leaves_more g.D.Disk.state g.D.Disk.faults g.met.D.Disk.lawful c.args.journal.now c.loop-n.journal c.body.new.self
    c.loop-n.invariant.leaves c.body.ensures.told c.body.ensures.kept c.body.ensures.counts c.body.ensures.sizes c.body.ensures.keeps c.body.ensures.doubt

pub returns-in_err-take_body-clause-fault : goal.returns-in_err-take_body-clause-fault
returns-in_err-take_body-clause-fault g c = on_err c.from_residual-in_err-take_body.result c.in_err-take_body.field-0.0
    (FoldFault g.D.Disk.state g.D.Disk.faults c.args.journal.now c.body.new.self)
    c.from_residual-in_err-take_body.ensures.1
    (take_fault g.D.Disk.state g.D.Disk.faults c.args.journal.now c.body.new.self c.loop-n.rows.items c.take_body.new.rows.items c.loop-n.gate c.loop-n.n
    c.deref.result.now c.loop-n.invariant.folded
    (λ told. ap (λ b. slice_get b c.loop-n.n) (sym (c.loop-n.invariant.leaves.bodies told))
    ∙ c.in_ok-body.ensures.read (c.loop-n.invariant.leaves.told ∙ told) ∙ ap (λ b. Some b) (sym c.deref.ensures.value))
    c.in_err-take_body.field-0.0 c.in_err-take_body.ensures.takes)

pub overflow_add-gate-in-loop-n : goal.overflow_add-gate-in-loop-n
overflow_add-gate-in-loop-n g c =
    let long : slice_get c.args.journal.now.sizes c.loop-n.n ≡ Some (length c.deref.result.now) =
    ap (λ s. slice_get s c.loop-n.n) (sym c.loop-n.invariant.leaves.sizes)
    ∙ c.in_ok-body.ensures.long ∙ ap (λ b. Some (length b)) (sym c.deref.ensures.value) in
    let short : c.loop-n.gate + (5 + c.len.result) ≤ JOURNAL_END = omega (
      arith,
      c.loop-n.invariant.folded.passes,
      passes_more c.args.journal.now.sizes c.loop-n.n (length c.deref.result.now) long,
      filled_to c.args.journal.now.sizes (suc c.loop-n.n),
      c.used.ensures.filled,
      c.used.ensures.most,
      c.len.ensures,
      ap length c.deref.ensures.value,
    ) in
    search (rules, short)

pub loop-n-preserved : goal.loop-n-preserved
loop-n-preserved g c =
    let long : c.loop-n.gate + 5 + length c.deref.result.now ≡ c.loop-n.gate + (5 + c.len.result) = omega
    (arith, c.len.ensures, ap length c.deref.ensures.value) in
    record {
      leaves = leaves_more g.D.Disk.state g.D.Disk.faults g.met.D.Disk.lawful c.args.journal.now c.loop-n.journal c.body.new.self
          c.loop-n.invariant.leaves c.body.ensures.told c.body.ensures.kept c.body.ensures.counts c.body.ensures.sizes c.body.ensures.keeps
          c.body.ensures.doubt;
      folded = subst (λ k. HasFolded g.D.Disk.state c.args.journal.now c.take_body.new.rows.items k (c.loop-n.n + 1)) long
          (folded_more g.D.Disk.state c.args.journal.now c.loop-n.rows.items c.take_body.new.rows.items c.loop-n.gate c.loop-n.n c.deref.result.now
          c.loop-n.invariant.folded c.in_ok-take_body.ensures.takes
          (ap (λ s. slice_get s c.loop-n.n) (sym c.loop-n.invariant.leaves.sizes) ∙ c.in_ok-body.ensures.long
          ∙ ap (λ b. Some (length b)) (sym c.deref.ensures.value))
          (λ told. ap (λ b. slice_get b c.loop-n.n) (sym (c.loop-n.invariant.leaves.bodies told))
          ∙ c.in_ok-body.ensures.read (c.loop-n.invariant.leaves.told ∙ told) ∙ ap (λ b. Some b) (sym c.deref.ensures.value)));
    }

pub returns-clause-leaves : goal.returns-clause-leaves
returns-clause-leaves g c = c.loop-n.invariant.leaves

pub returns-clause-folded : goal.returns-clause-folded
returns-clause-folded g c =
    let folded = c.loop-n.invariant.folded in
    let all : c.loop-n.n ≡ c.count-n-end.result = omega (arith, c.loop-n.auto.n-end, c.loop-n-test.false) in
    record {
      events = folded.events;
      folded = folded.folded;
      counted = sym c.count-n-end.ensures.count ∙ sym all ∙ folded.counted;
      low = omega (arith, c.used.ensures.least, c.used.ensures.used);
      high = omega (arith, c.used.ensures.most, c.used.ensures.used);
      proper = folded.proper;
      fills = sym c.used.ensures.used ∙ c.used.ensures.filled
          ∙ ap filled_by (sym (take_all c.loop-n.n c.args.journal.now.sizes (omega (arith, c.count-n-end.ensures.sizes, all))))
          ∙ sym folded.passes ∙ folded.fills;
      spells = λ told. sym (take_all c.loop-n.n c.args.journal.now.bodies (omega (arith, c.count-n-end.ensures.told told, all))) ∙ folded.spells told;
    }
