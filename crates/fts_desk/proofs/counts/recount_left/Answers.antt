-- The names at the places of the link are those of the row's ends.
use Rattle.std.proofs.Common.{◌≡◌, length, Option, Some, refl, ap, sym, subst, ◌∙◌}
use Rattle.std.specs.Prelude.{slice_get, IfSome}
use Rattle.std.proofs.lemmas.Option.{same_Some, slice_get_read}
use Rattle.fts_tables.specs.SettingsData.{SettingsData}
use Rattle.fts_tables.specs.declared.rows.FileRow.{FileRow}
use Rattle.fts_tables.specs.declared.settings.LinkAt.{LinkAt}
use Rattle.fts_index.specs.Links.{link_between}
use Rattle.fts_desk.specs.Parts.{limits_of, IsBetweenIn}
use Rattle.fts_desk.proofs.counts.recount_left.Goals as goal

pub name_at_hand-source-requires : goal.name_at_hand-source-requires
name_at_hand-source-requires c =
    let rows = c.args.rows.now in
    let row = c.index-rows-place.result in
    let at = slice_get_read rows (length rows) c.args.place row refl c.requires.before.inside c.index-rows-place.is in
    let ends = subst (λ (link : Option LinkAt). IfSome link (λ link. (row : FileRow) → slice_get rows c.args.place ≡ Some row
    → IsBetweenIn (limits_of c.args.parts.now) link row)) c.in-Some.is c.requires.ends row at in
    record {
      same = λ settings is. (subst (λ (some : Option SettingsData). IsBetweenIn some c.in-Some.link row) is ends).source;
    }

pub name_at_hand-dest-requires : goal.name_at_hand-dest-requires
name_at_hand-dest-requires c =
    let rows = c.args.rows.now in
    let row = c.index-rows-place.result in
    let at = slice_get_read rows (length rows) c.args.place row refl c.requires.before.inside c.index-rows-place.is in
    let ends = subst (λ (link : Option LinkAt). IfSome link (λ link. (row : FileRow) → slice_get rows c.args.place ≡ Some row
    → IsBetweenIn (limits_of c.args.parts.now) link row)) c.in-Some.is c.requires.ends row at in
    record {
      same = λ settings is. (subst (λ (some : Option SettingsData). IsBetweenIn some c.in-Some.link row) is ends).dest;
    }

pub recount_between-requires-clause-ends : goal.recount_between-requires-clause-ends
recount_between-requires-clause-ends c = λ row at.
    let rows = c.args.rows.now in
    let found = c.index-rows-place.result in
    let there = slice_get_read rows (length rows) c.args.place found refl c.requires.before.inside c.index-rows-place.is in
    let same : row ≡ found = same_Some row found (sym at ∙ there) in
    ap (λ (row : FileRow). link_between row.source.endpoint row.dest.endpoint) same
    ∙ (ap (λ source. link_between source found.dest.endpoint) (sym c.name_at_hand-source.ensures.name)
    ∙ ap (λ dest. link_between c.name_at_hand-source.result.now dest) (sym c.name_at_hand-dest.ensures.name))
