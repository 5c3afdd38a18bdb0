use Rattle.std.proofs.Common.{filter, map, refl, inr, rules}
use Rattle.fts_files.proofs.Playing.{then_leads}
use Rattle.fts_store.specs.Sweep.{stays_below}
use Rattle.fts_store.specs.Meeting.{looks_each, known_of}
use Rattle.fts_store.proofs.Listings.{listed_leads}
use Rattle.fts_store.proofs.Lookings.{met_none}
use Rattle.fts_store.proofs.meeting.meet_all.Goals as goal

pub returns-in_err-names : goal.returns-in_err-names
returns-in_err-names g c = met_none _ _ _ c.args.met.now.items c.from_residual.result (search rules) c.in_err-names.ensures

pub returns : goal.returns
returns g c =
    let met = rw c.as_slice.ensures.value at c.meet_each.ensures in
    inr (
      met.0,
      met.1,
      λ next. then_leads (listed_leads _ _ (λ names. looks_each c.args.root.now (filter stays_below names) (map known_of c.args.met.now.items) next) _ _ _
          c.in_ok-names.ensures.0 refl c.in_ok-names.ensures.1 c.in_ok-names.ensures.2) (met.2 next),
    )
