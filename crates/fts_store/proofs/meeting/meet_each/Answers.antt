use Rattle.std.proofs.Common.{◌+◌, [], map, drop, filter, string_bytes, refl, rules}
use Rattle.fts_files.proofs.Playing.{then_leads}
use Rattle.fts_store.specs.Sweep.{stays_below}
use Rattle.fts_store.specs.Meeting.{looks_each}
use Rattle.fts_store.proofs.Lookings.{none_done, stayed, folder_seen, none_seen}
use Rattle.fts_store.proofs.meeting.meet_each.Goals as goal

pub names-preserved : goal.names-preserved
names-preserved g c next =
    then_leads (c.names.invariant next)
    (then_leads (folder_seen string_bytes _ c.args.names.now c.names.name-index _ next _ c.name-item.result c.name-item.is c.names-test.true)
    ((rw c.as_str.ensures.value at c.in_ok-meet_one.ensures.looked)
    (λ known. looks_each c.args.root.now (filter stays_below (map string_bytes (drop (c.names.name-index + 1) c.args.names.now))) known next)))

pub returns-in_err-meet_one : goal.returns-in_err-meet_one
returns-in_err-meet_one g c = (
  filter stays_below (map string_bytes (drop c.names.name-index c.args.names.now)),
  none_done c.from_residual.result (search rules),
  λ next. then_leads (c.names.invariant next)
      (stayed c.args.root.now (filter stays_below (map string_bytes (drop c.names.name-index c.args.names.now))) next _ _ _ _
      c.in_err-meet_one.ensures.unasked.0 c.in_err-meet_one.ensures.unasked.1),
)

pub returns : goal.returns
returns g c = (
  [],
  (λ done. refl),
  λ next. then_leads (c.names.invariant next)
      (none_seen string_bytes _ c.args.names.now c.names.name-index _ next _ c.names-test.false),
)
