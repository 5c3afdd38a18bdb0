-- An entry that was read, and a read that failed.
use Rattle.std.proofs.Common.{sym, ◌∙◌, subst, Ok}
use Rattle.fts_keep.specs.Looking.{GivesEntry}
use Rattle.fts_keep.specs.Views.{keep_of}
use Rattle.fts_keep.proofs.Looking.{given}
use Rattle.fts_keep.proofs.keep.Keep.entry_bytes.Goals as goal

pub returns : goal.returns
returns g c = subst (λ k. GivesEntry g.D.Disk.state g.D.Disk.faults k (keep_of g.D.Disk.state c.self.inside.desk c.body.new.self c.self.inside.list.entries) c.args.n c.body.new.into.items
    (Ok tt)) c.self.view_is
    (given g.D.Disk.state g.D.Disk.faults g.met.D.Disk.lawful c.self.inside.desk c.self.inside.list.entries c.self.inside.journal c.body.new.self
    c.body.ensures.told c.body.ensures.kept c.body.ensures.keeps c.body.ensures.doubt
    c.args.n c.body.new.into.items c.self.invariant c.body.ensures.counts c.in_ok-body.ensures.read c.in_ok-body.ensures.long
    (sym c.used.ensures.used ∙ c.used.ensures.filled))
