use Rattle.std.proofs.Common.{◌≡◌, true, false, ap, ◌∙◌, subst}
use Rattle.std.specs.Prelude.{◌&&◌}
use Rattle.ordered.specs.Orders.{has_key}
use Rattle.fts_heads.specs.RipeFiles.{goes_by_group}
use Rattle.fts_heads.specs.RipeFiles as files
use Rattle.fts_heads.specs.Heads.{IsFirstOf, is_open}
use Rattle.fts_heads.specs.declared.ripe_file.RipeFile.{RipeFile}
use Rattle.fts_line.specs.LineData.{LineData, first_open}
use Rattle.fts_line.proofs.Firsts.{first_is, none_is}
use Rattle.fts_line.proofs.line.Line.first_open.Goals as goal

pub returns-in-Some : goal.returns-in-Some
returns-in-Some c =
    let inside = c.self.inside in
    let line = c.self.invariant in
    record {
      file = first_is inside.heads inside.rests.items inside.rooms.items inside.dests.items inside.moment line.keys line.due 0
          c.args.link c.args.activity c.requires.inside c.in-Some.first
          (subst (λ queue. IsFirstOf (λ file. files.is_in queue file && is_open inside.heads.busy file.dest) inside.heads.files c.in-Some.first)
          c.queue_of.ensures.queue c.in-Some.ensures.first)
          line.waiting.order
          ∙ ap (λ (view : LineData). first_open view c.args.link c.args.activity) c.self.view_is;
    }

pub returns-in-None : goal.returns-in-None
returns-in-None c =
    let inside = c.self.inside in
    let line = c.self.invariant in
    record {
      file = none_is inside.heads inside.rests.items inside.rooms.items inside.dests.items inside.moment line.keys line.due 0
          c.args.link c.args.activity c.requires.inside
          (subst (λ queue. (file : RipeFile) → has_key goes_by_group file inside.heads.files ≡ true
          → (files.is_in queue file && is_open inside.heads.busy file.dest) ≡ false)
          c.queue_of.ensures.queue c.in-None.ensures.none)
          ∙ ap (λ (view : LineData). first_open view c.args.link c.args.activity) c.self.view_is;
    }
