use Rattle.std.proofs.Common.{◌≡◌, ◌∷◌, rules}
use Rattle.fts_turnstile.specs.History.{OnlyOthersSince}
use Rattle.fts_turnstile.specs.Passes.{numbers_of, pass_of}
use Rattle.fts_turnstile.proofs.CallersLaws.{own_kept}
use Rattle.fts_turnstile.proofs.turnstile.Turnstile.meet.Goals as goal

pub returns-clause-items : goal.returns-clause-items
returns-clause-items g c =
    let p = c.args.pass.now in
    let q = c.args.other.now in
    let x = c.tell-2.new.to in
    let y = c.tell-2.new.from in
    let x_same : x.me.0.number ∷ x.me.0.joined ≡ numbers_of p = search rules in
    let y_same : y.me.0.number ∷ y.me.0.joined ≡ numbers_of q = search rules in
    let mine : OnlyOthersSince (numbers_of p) p.seen x.me.0.seen = search rules in
    let theirs : OnlyOthersSince (numbers_of q) q.seen y.me.0.seen = search rules in
    (own_kept p (pass_of x.table_id x.me.0) x_same mine, own_kept q (pass_of y.table_id y.me.0) y_same theirs)
