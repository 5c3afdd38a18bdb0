-- What an acceptance comes to, as callers of the keep see it.
use Rattle.std.proofs.Common.{◌≡◌, ◌++◌, true, subst, List}
use Rattle.fts_tables.specs.Settling.{settles}
use Rattle.fts_tables.specs.declared.commands.Entry.{Entry}
use Rattle.fts_disk.specs.Disk.{IsTold}
use Rattle.fts_keep.specs.Keeps.{with_doubt, IsFilledBy, Grows, DoubtHasCause, KeepsImages}
use Rattle.fts_keep.specs.Views.{keep_of}
use Rattle.fts_keep.specs.Applied.{DoubtIsOwn, entry_by}
use Rattle.fts_keep.specs.Ending.{KeepsFirstLimit, LeavesRoom, IsNotFull, StaysFilled}
use Rattle.fts_keep.proofs.Applying.{kept_after, grown, doubt_caused, doubt_of, images_since, not_full, own_limit_kept, limit_kept, stays_filled}
use Rattle.fts_keep.proofs.keep.Keep.apply.Goals as goal

pub invariant_of-self : goal.invariant_of-self
invariant_of-self g c = kept_after g.D.Disk.state g.D.Disk.faults c.self.inside.desk c.accept.new.desk c.self.inside.journal c.accept.new.journal
    c.self.inside.list.entries c.accept.new.list.entries (entry_by c.args.writer c.args.command)
    c.accept.result c.self.invariant c.accept.ensures.applied c.accept.ensures.tied

pub returns-clause-grows : goal.returns-clause-grows
returns-clause-grows g c = subst (λ k. Grows g.D.Disk.state g.D.Disk.faults c.args.writer k (keep_of g.D.Disk.state c.accept.new.desk c.accept.new.journal c.accept.new.list.entries))
    c.self.view_is
    (grown g.D.Disk.state g.D.Disk.faults c.self.inside.desk c.accept.new.desk c.self.inside.journal c.accept.new.journal
    c.self.inside.list.entries c.accept.new.list.entries (entry_by c.args.writer c.args.command)
    c.accept.ensures.counts c.accept.result c.accept.ensures.applied)

pub returns-clause-doubt_cause : goal.returns-clause-doubt_cause
returns-clause-doubt_cause g c = subst (λ k. DoubtHasCause g.D.Disk.state g.D.Disk.faults k (keep_of g.D.Disk.state c.accept.new.desk c.accept.new.journal c.accept.new.list.entries))
    c.self.view_is
    (doubt_caused g.D.Disk.state g.D.Disk.faults (keep_of g.D.Disk.state c.self.inside.desk c.self.inside.journal c.self.inside.list.entries)
    (keep_of g.D.Disk.state c.accept.new.desk c.accept.new.journal c.accept.new.list.entries)
    (entry_by c.args.writer c.args.command) c.accept.result c.accept.ensures.applied)

pub returns-clause-doubt_own : goal.returns-clause-doubt_own
returns-clause-doubt_own g c = subst (λ k. DoubtIsOwn g.D.Disk.faults k (keep_of g.D.Disk.state c.accept.new.desk c.accept.new.journal c.accept.new.list.entries)
    (entry_by c.args.writer c.args.command)) c.self.view_is
    (doubt_of g.D.Disk.state g.D.Disk.faults (keep_of g.D.Disk.state c.self.inside.desk c.self.inside.journal c.self.inside.list.entries)
    (keep_of g.D.Disk.state c.accept.new.desk c.accept.new.journal c.accept.new.list.entries)
    (entry_by c.args.writer c.args.command) c.accept.result c.accept.ensures.applied)

pub returns-clause-images : goal.returns-clause-images
returns-clause-images g c = subst (λ k. (opening since : List Entry) → k.entries ≡ opening ++ since → IsTold (g.D.Disk.state k.disk)
    → KeepsImages g.D.Disk.state opening k (keep_of g.D.Disk.state c.accept.new.desk c.accept.new.journal c.accept.new.list.entries)) c.self.view_is
    (λ opening since is told. images_since g.D.Disk.state g.D.Disk.faults (keep_of g.D.Disk.state c.self.inside.desk c.self.inside.journal c.self.inside.list.entries)
    (keep_of g.D.Disk.state c.accept.new.desk c.accept.new.journal c.accept.new.list.entries)
    (entry_by c.args.writer c.args.command) opening since c.self.invariant.tied.fold told
    (grown g.D.Disk.state g.D.Disk.faults c.self.inside.desk c.accept.new.desk c.self.inside.journal c.accept.new.journal
    c.self.inside.list.entries c.accept.new.list.entries (entry_by c.args.writer c.args.command)
    c.accept.ensures.counts c.accept.result c.accept.ensures.applied) is c.accept.ensures.safe)

pub returns-clause-room : goal.returns-clause-room
returns-clause-room g c = subst (λ k. (entries : List Entry) → IsFilledBy k entries → LeavesRoom entries → settles c.args.command ≡ true
    → IsNotFull c.accept.result) c.self.view_is
    (not_full g.D.Disk.state g.D.Disk.faults (keep_of g.D.Disk.state c.self.inside.desk c.self.inside.journal c.self.inside.list.entries)
    (keep_of g.D.Disk.state c.accept.new.desk c.accept.new.journal c.accept.new.list.entries) (entry_by c.args.writer c.args.command)
    c.accept.result c.accept.ensures.applied c.self.invariant.tied.fold c.the_end_strands_nobody.ensures.room c.accept.ensures.shows)

pub returns-clause-limit : goal.returns-clause-limit
returns-clause-limit g c = subst (λ k. KeepsFirstLimit k.entries → KeepsFirstLimit c.accept.new.list.entries) c.self.view_is
    (own_limit_kept g.D.Disk.state g.D.Disk.faults (keep_of g.D.Disk.state c.self.inside.desk c.self.inside.journal c.self.inside.list.entries)
    (keep_of g.D.Disk.state c.accept.new.desk c.accept.new.journal c.accept.new.list.entries) (entry_by c.args.writer c.args.command)
    c.accept.result c.accept.ensures.applied c.self.invariant.tied.fold c.the_end_strands_nobody.ensures.more)

pub returns-clause-doubt_limit : goal.returns-clause-doubt_limit
returns-clause-doubt_limit g c = subst (λ k. IsTold (g.D.Disk.state k.disk) → KeepsFirstLimit (with_doubt k.entries k.doubt)
    → KeepsFirstLimit (with_doubt (keep_of g.D.Disk.state c.accept.new.desk c.accept.new.journal c.accept.new.list.entries).entries
    (keep_of g.D.Disk.state c.accept.new.desk c.accept.new.journal c.accept.new.list.entries).doubt)) c.self.view_is
    (limit_kept g.D.Disk.state g.D.Disk.faults (keep_of g.D.Disk.state c.self.inside.desk c.self.inside.journal c.self.inside.list.entries)
    (keep_of g.D.Disk.state c.accept.new.desk c.accept.new.journal c.accept.new.list.entries) (entry_by c.args.writer c.args.command)
    c.accept.result c.accept.ensures.applied c.self.invariant.tied.fold c.the_end_strands_nobody.ensures.more
    c.the_end_strands_nobody.ensures.front)

pub returns-clause-filled : goal.returns-clause-filled
returns-clause-filled g c = subst (λ k. StaysFilled k (keep_of g.D.Disk.state c.accept.new.desk c.accept.new.journal c.accept.new.list.entries)
    (entry_by c.args.writer c.args.command) c.accept.result) c.self.view_is
    (stays_filled g.D.Disk.state g.D.Disk.faults (keep_of g.D.Disk.state c.self.inside.desk c.self.inside.journal c.self.inside.list.entries)
    (keep_of g.D.Disk.state c.accept.new.desk c.accept.new.journal c.accept.new.list.entries) (entry_by c.args.writer c.args.command)
    c.accept.result c.accept.ensures.applied c.accept.ensures.shows)
