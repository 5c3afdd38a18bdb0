-- What the router tells is the plain table's route.
use Rattle.std.proofs.Common.{◌≡◌, ℕ, ◌<◌, List, [], ◌∷◌, get_or, suc, sym, ◌∙◌, arith}
use Rattle.fts_routes.specs.RouteRows.{table}
use Rattle.fts_routes.proofs.Tabled.{AreBytes}
use Rattle.fts_routes.proofs.Taken.{tells, missing}
use Rattle.fts_routes.proofs.paths.Routes.find.Goals as goal

are_bytes : (path : List ℕ) → ((i : ℕ) → get_or path i 0 < 256) → AreBytes path
are_bytes [] below = tt
are_bytes (b ∷ path) below = (below 0, are_bytes path (λ i. below (suc i)))

pub returns-in-Ok : goal.returns-in-Ok
returns-in-Ok c =
    let is : c.self.inside.router ≡ table = c.self.invariant in
    let told = tells c.args.path.now _ c.utf8.path (are_bytes c.args.path.now (λ i. omega (arith, c.type_inv.path i))) (rw is at c.in-Ok.ensures.found) in
    (rw c.in-Ok.ensures.path at c.route_at.ensures) ∙ sym told.route

pub returns-in-Err : goal.returns-in-Err
returns-in-Err c =
    let is : c.self.inside.router ≡ table = c.self.invariant in
    sym (missing c.args.path.now (are_bytes c.args.path.now (λ i. omega (arith, c.type_inv.path i))) (rw is at c.in-Err.ensures.missing))

pub route_at-requires : goal.route_at-requires
route_at-requires c =
    let is : c.self.inside.router ≡ table = c.self.invariant in
    let told = tells c.args.path.now _ c.utf8.path (are_bytes c.args.path.now (λ i. omega (arith, c.type_inv.path i))) (rw is at c.in-Ok.ensures.found) in
    rw c.in-Ok.ensures.path told.texts
