-- By what following came to.
use Rattle.std.proofs.Common.{◌≡◌, sym, ◌∙◌, ap, subst}
use Rattle.fts_disk.specs.Disk.{IsTold}
use Rattle.fts_standby.specs.Reaching.{standby_of}
use Rattle.fts_following.proofs.laws.a_run_leaves_a_beginning.Goals as goal

pub returns : goal.returns
returns g c = λ port tries disk left old new broken failed held now end w run told from is come content there.
    let told_opened : IsTold (g.D.Disk.state run.opened.disk) = run.opens.told ∙ told in
    let told_closed : IsTold (g.D.Disk.state run.closed.disk) = run.followed.grows.told ∙ told_opened in
    let same : w.standby ≡ standby_of run.opened = is ∙ ap (λ doubt. record { list = run.opened.bodies; doubt = doubt }) (sym (run.opens.no_doubt told)) in
    let goes = c.following_is_steps.ensures.steps port tries run.opened run.closed old new broken failed run.ended w run.followed told_opened same come in
    let here = subst (λ (d : _). (g.D.Disk.state d).may_leave content) run.left_is there in
    (c.following_is_steps.ensures.begins run.opened run.closed w from goes).images content
    ((g.met.D.Disk.lawful run.closed.disk told_closed).counts_now (g.D.Disk.state run.opened.disk).moment content (run.followed.grows.moments told_opened).later here)
