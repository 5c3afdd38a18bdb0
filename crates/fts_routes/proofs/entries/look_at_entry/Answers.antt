-- No entry has the number, or no number is spelled.
use Rattle.std.proofs.Common.{◌≡◌, ◌∙◌, ℕ, List, length, ap, arith}
use Rattle.fts_routes.specs.Refusals.{no_entry}
use Rattle.fts_routes.specs.Replies.{entry_reply}
use Rattle.fts_routes.proofs.ReadEntries.{looked_past, looked_nowhere, none_is}
use Rattle.fts_routes.proofs.entries.look_at_entry.Goals.{in_default-via-in-Some+else-number-count, in_default-via-in_default}
use Rattle.fts_routes.proofs.entries.look_at_entry.Goals as goal

pub returns-in_default-clause-looks : goal.returns-in_default-clause-looks
returns-in_default-clause-looks g c = looked_past g.D.Disk.state g.D.Disk.faults c.args.keep.now c.args.keep.now
    (looked_nowhere g.D.Disk.state g.D.Disk.faults g.met.D.Disk.lawful c.args.keep.now) c.desk.ensures.kept c.args.number past
    c.no_entry.result c.or_no_memory.result c.no_entry.ensures c.or_no_memory.ensures.ok c.or_no_memory.ensures.err
  where
    past : (bodies : List (List ℕ)) → length bodies ≡ c.args.keep.now.commands → entry_reply bodies c.args.number ≡ no_entry
    past bodies counted = elim c.in_default.branch [
      | in_default-via-in-Some+else-number-count w ↦ ap (entry_reply bodies) w.in-Some.is
          ∙ none_is bodies w.in-Some.number (omega (arith, counted, c.commands-count.ensures.commands, c.desk.ensures.commands, w.if-number-count.false))
      | in_default-via-in_default w ↦ ap (entry_reply bodies) w.in_default.is
    ]
