use Rattle.std.proofs.Common.{ℕ, Vec, Global, sym, subst}
use Rattle.fts_heads.specs.Blocks.{AreCounted}
use Rattle.fts_heads.proofs.Blocks.{made_anew, more_room}
use Rattle.fts_heads.proofs.counted.Counted.make_room.Goals as goal

pub invariant_of-self : goal.invariant_of-self
invariant_of-self c =
    subst (λ (counts : Vec ℕ Global). AreCounted c.self.inside.line counts.items) (sym c.in_err-make_counts.ensures.err) c.self.invariant

pub invariant_of-self-2 : goal.invariant_of-self-2
invariant_of-self-2 c =
    let made = made_anew c.self.inside.line c.self.inside.counts.items c.len.ensures.room c.self.invariant in
    subst (AreCounted c.make_room.new.self) (sym c.in_ok-make_counts.ensures.ok)
    (more_room c.self.inside.line c.make_room.new.self _ _ c.make_room.result c.make_room.ensures.ok c.make_room.ensures.err made.0 made.1)
