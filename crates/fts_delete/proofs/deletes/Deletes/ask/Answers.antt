-- Images since any opening of the list.
use Rattle.std.proofs.Common.{subst}
use Rattle.fts_delete.specs.Journals.{KeepsImages}
use Rattle.fts_delete.specs.Views.{deletes_of}
use Rattle.fts_delete.proofs.Tying.{kept_deletes}
use Rattle.fts_delete.proofs.AskExits.{asked_images}
use Rattle.fts_delete.proofs.deletes.Deletes.ask.Goals as goal

pub returns-clause-images : goal.returns-clause-images
returns-clause-images g c = subst (λ d. KeepsImages g.D.Disk.state d (deletes_of g.D.Disk.state c.ask.new.rows.items c.ask.new.journal)) c.self.view_is
    (asked_images g.D.Disk.state g.D.Disk.faults g.met.D.Disk.lawful (deletes_of g.D.Disk.state c.self.inside.rows.items c.self.inside.journal)
    (deletes_of g.D.Disk.state c.ask.new.rows.items c.ask.new.journal) c.args.places.now
    (kept_deletes g.D.Disk.state c.self.inside.rows.items c.self.inside.journal c.self.invariant) c.ask.result c.ask.ensures.asked)
