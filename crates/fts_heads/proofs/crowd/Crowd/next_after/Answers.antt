use Rattle.std.proofs.Common.{◌≤◌, List, ap, sym, ◌∙◌, subst}
use Rattle.std.specs.Prelude.{find, not, nat_lt, ◌&&◌}
use Rattle.ordered.specs.Orders.{KeySet, has_key}
use Rattle.fts_heads.specs.declared.ripe_file.RipeFile.{RipeFile}
use Rattle.fts_heads.specs.declared.crowd.Own.{Own}
use Rattle.fts_heads.specs.RipeFiles.{goes_by_group}
use Rattle.fts_heads.specs.Crowd.{is_own, dest_or_least, IsLeast}
use Rattle.fts_heads.proofs.Leasts.{find_least, bound_least, next_bound}
use Rattle.fts_heads.proofs.crowd.Crowd.next_after.Goals as goal

pub next_own-requires-clause-most : goal.next_own-requires-clause-most
next_own-requires-clause-most c =
    subst (λ n. n ≤ c.args.file.now.dest) (ap dest_or_least (sym c.next_after-found.ensures.key) ∙ sym c.dest_of.ensures.dest)
    (next_bound c.self.inside.rest.keys c.args.file.now c.len.ensures.order)

pub returns : goal.returns
returns c = record {
  file = c.sooner.ensures.sooner
      ∙ (bound_least c.self.inside.own.items c.self.inside.rest.keys (goes_by_group c.args.file.now) c.next_own.result c.next_after-found.result c.len.ensures.order
      c.self.invariant.0.apart
      (subst (λ n. IsLeast (is_own c.self.inside.own.items) (λ other. goes_by_group c.args.file.now other && not (nat_lt other.dest n)) c.next_own.result)
      c.dest_of.ensures.dest
      (subst (λ (own : List Own). IsLeast (is_own own) (λ other. goes_by_group c.args.file.now other && not (nat_lt other.dest c.dest_of.result))
      c.next_own.result) c.as_slice.ensures.value c.next_own.ensures.least))
      (subst (IsLeast (λ file. has_key goes_by_group file c.self.inside.rest.keys) (goes_by_group c.args.file.now)) (sym c.next_after-found.ensures.key)
      (find_least c.self.inside.rest.keys (goes_by_group c.args.file.now) c.len.ensures.order))
      ∙ ap (λ (set : KeySet RipeFile). find (goes_by_group c.args.file.now) set.keys) c.self.view_is);
}
