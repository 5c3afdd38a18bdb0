-- A lane ends in one turn.
use Rattle.std.proofs.Common.{rules, ◌≡◌, ◌∙◌, sym, ap, subst, ◌-◌, ℕ, List}
use Rattle.fts_keep.specs.Keeps.{KeepData}
use Rattle.fts_shop.specs.Shops.{ShopData, KeepsDisk, doubt_bytes, doubt_shown, lanes_shown}
use Rattle.fts_shop.proofs.Took.{same_disk, taken_of, nothing_added}
use Rattle.fts_shop.proofs.turns.lane_ends.Goals as goal

pub returns : goal.returns
returns g c =
    let t = c.with_turn.ensures.took in let d = t.did in let m = d.met in
    let said : t.after ≡ record t.before { lanes = t.before.lanes - 1 } = search rules in
    record {
      taken = taken_of g.D.Disk _ c.args.pass.now c.with_turn.new.pass c.with_turn.ensures.same t
          (subst (λ (k : KeepData g.row.D.Denot). KeepsDisk g.D.Disk c.args.pass.now.number t.before.keep k) (sym (ap (λ (s : ShopData g.row.D.Denot). s.keep) said))
          (same_disk g.D.Disk c.args.pass.now.number t.before.keep));
      nothing = nothing_added g.D.Disk _ c.args.pass.now c.with_turn.new.pass c.with_turn.ensures.same t
          (ap (λ (s : ShopData g.row.D.Denot). s.keep.entries) said);
      one_less = ap (λ (s : ShopData g.row.D.Denot). s.lanes) said ∙ ap (λ (shown : List ℕ). lanes_shown shown - 1) t.showed;
      doubt = ap (λ (s : ShopData g.row.D.Denot). doubt_bytes s.keep.doubt) said ∙ ap doubt_shown t.showed;
    }
