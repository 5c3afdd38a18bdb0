-- A turn of the loop that makes room for the links of files.
use Rattle.std.proofs.Common.{◌+◌, length, map, take, refl, ap, ◌∙◌}
use Rattle.std.proofs.lemmas.Option.{slice_get_read}
use Rattle.fts_index.specs.Links.{LinkLists}
use Rattle.fts_desk.specs.Loaded.{are_known, link_of_file}
use Rattle.fts_desk.proofs.KnownLinks.{next_known, all_known-more}
use Rattle.fts_desk.proofs.submit.know_links.Goals as goal

pub loop-file-preserved : goal.loop-file-preserved
loop-file-preserved c =
    let files = c.args.files.now in
    let place = c.loop-file.file-index in
    let file = c.file-item.result in
    let known = c.loop-file.loads.known in
    let is = c.in_ok-make_room.ensures.ok in
    record {
      links = ap (λ (lists : LinkLists). lists.links) is ∙ c.loop-file.invariant.links;
      stay = λ links before. ap (λ lists. are_known lists links) is ∙ all_known-more known (link_of_file file) links (c.loop-file.invariant.stay links before);
      known = ap (λ lists. are_known lists (map link_of_file (take (place + 1) files))) is
          ∙ next_known known files place file
          (slice_get_read files (length files) place file refl c.loop-file-test.true c.file-item.is) c.loop-file.invariant.known;
    }
