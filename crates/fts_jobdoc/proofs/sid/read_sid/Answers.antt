-- The own id in a body's value, and a body that has none.
use Rattle.std.proofs.Common.{◌≡◌, Some, None, ap, inl, refl, sym, ◌∙◌}
use Rattle.std.specs.Prelude.{option_map}
use Rattle.serde_json.specs.View.{view}
use Rattle.fts_jobdoc.specs.Json.{value_of}
use Rattle.fts_jobdoc.specs.Sids.{sid_of}
use Rattle.fts_jobdoc.proofs.sid.read_sid.Goals as goal

pub returns-in-Some : goal.returns-in-Some
unfolding sid_of
returns-in-Some c =
    let value : value_of c.args.body.now ≡ Some (view c.in-Some.document) = sym c.in_ok-document.ensures ∙ ap (option_map view) c.in-Some.is in
    rw value c.sid_given.ensures

pub returns-in-None : goal.returns-in-None
unfolding sid_of
returns-in-None c =
    let value : value_of c.args.body.now ≡ None = sym c.in_ok-document.ensures ∙ ap (option_map view) c.in-None.is in
    inl (rw value refl)
