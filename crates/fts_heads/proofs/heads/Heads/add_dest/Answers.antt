use Rattle.std.proofs.Common.{◌≡◌, List, Bool, true, false, length, [], ◌∷◌, ap, sym, subst, arith}
use Rattle.std.specs.Prelude.{◌==◌}
use Rattle.std.proofs.lemmas.List.{length-append}
use Rattle.ordered.specs.Orders.{has_key}
use Rattle.fts_heads.specs.declared.heads.TheConstants.{MOST_QUEUES, MOST_DESTS}
use Rattle.fts_heads.specs.declared.ripe_file.RipeFile.{RipeFile}
use Rattle.fts_heads.specs.RipeFiles.{goes_by_group}
use Rattle.fts_heads.specs.Heads.{HeadsData, AreKept}
use Rattle.fts_heads.proofs.Firsts.{heads_more}
use Rattle.fts_heads.proofs.heads.Heads.add_dest.Goals as goal

pub invariant_of-self : goal.invariant_of-self
invariant_of-self c =
    let busy = c.self.inside.busy.items in
    let new =
    subst
    (λ (waiting : HeadsData). (waiter : RipeFile) → has_key goes_by_group waiter waiting.files ≡ true → (waiter.dest == length waiting.busy) ≡ false)
    (sym c.self.view_is) c.requires.new in
    subst (λ (flags : List Bool). AreKept MOST_QUEUES MOST_DESTS flags c.self.inside.files c.self.inside.line) (sym c.push_reserved.ensures.items)
    (record {
      heads = heads_more busy c.self.inside.files.keys c.self.inside.line.keys c.self.invariant.heads new;
      few = omega (arith, length-append busy (false ∷ []), ap (λ (waiting : HeadsData). length waiting.busy) c.self.view_is, c.requires.few);
      below = c.self.invariant.below;
      room = c.self.invariant.room;
    })
