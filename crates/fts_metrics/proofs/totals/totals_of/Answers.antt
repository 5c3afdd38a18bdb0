-- What stands at the place of a link is what there is of it.
use Rattle.std.proofs.Common.{◌∙◌, ◌+◌, ◌*◌, ap, arith, List}
use Rattle.std.specs.Prelude.{map}
use Rattle.fts_metrics.specs.Sums.{sum_at}
use Rattle.fts_metrics.specs.Totals.{link_at, link_place, row_place, row_share}
use Rattle.fts_metrics.specs.declared.goings.Going.{Going}
use Rattle.fts_metrics.specs.declared.sums.Share.{Share}
use Rattle.fts_metrics.proofs.LinkTotals.{link_inside, places_are, rows_at, copied_at, ended_at}
use Rattle.fts_metrics.proofs.totals.totals_of.Goals as goal

pub returns : goal.returns
returns c = λ source dest from to.
    let endpoints = c.args.endpoints.now in
    let tables = c.args.desk.now.tables in
    let reports = c.args.reports.now in
    let few = c.requires.few in
    let link = link_place endpoints source dest in
    let inside = link_inside endpoints few source dest in
    let link_of = λ (going : Going). link_at going.source going.dest in
    let places = c.in_ok-places.ensures ∙ ap (map link_of) c.requires.goings in
    let named = places ∙ places_are endpoints few tables.rows in
    let rows = c.deref-4.ensures.value ∙ c.in_ok-rows.ensures ∙ ap (map row_share) (c.deref.ensures.value ∙ places) in
    let copied = c.deref-5.ensures.value ∙ c.in_ok-copied.ensures (row_place endpoints) (c.deref-2.ensures.value ∙ named) in
    let ended = c.deref-6.ensures.value ∙ c.in_ok-ended.ensures (row_place endpoints) (c.deref-3.ensures.value ∙ named) in
    record {
      rows = c.in_ok-sums_of.ensures link (omega (arith, inside)) ∙ ap (λ (shares : List Share). sum_at link shares) rows
          ∙ rows_at endpoints few source dest from to tables.rows;
      copied = c.in_ok-sums_of-2.ensures link (omega (arith, inside)) ∙ ap (λ (shares : List Share). sum_at link shares) copied
          ∙ copied_at endpoints few source dest from to tables reports;
      ended = λ place low. c.in_ok-sums_of-3.ensures (link * 8 + place) (omega (arith, inside, low))
          ∙ ap (λ (shares : List Share). sum_at (link * 8 + place) shares) ended
          ∙ ended_at endpoints few source dest from to tables reports place low;
    }
