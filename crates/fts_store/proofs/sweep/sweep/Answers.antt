use Rattle.std.proofs.Common.{filter, refl, rules}
use Rattle.fts_files.proofs.Playing.{leads_same}
use Rattle.fts_store.specs.Sweep.{stays_below, sweeps_each}
use Rattle.fts_store.proofs.Listings.{stops, up_to, listed_leads, unlisted}
use Rattle.fts_store.proofs.sweep.sweep.Goals as goal

pub returns-in_err-names : goal.returns-in_err-names
returns-in_err-names g c = record {
  script = λ next.
      let rest = unlisted _ (λ names. sweeps_each c.args.root.now (filter stays_below names) next) _ _ (leads_same _ _) c.in_err-names.ensures in
      stops c.from_residual.result (λ done. next) rest.1 (search rules);
}

pub returns : goal.returns
returns g c = record {
  script = λ next. up_to _ (λ done. next)
      (listed_leads _ _ (λ names. sweeps_each c.args.root.now (filter stays_below names) next) _ _ _
      c.in_ok-names.ensures.0 refl c.in_ok-names.ensures.1 c.in_ok-names.ensures.2)
      ((rw c.as_slice.ensures.value at c.sweep_folders.ensures) next);
}
