-- The rule in a body's value, and a body that has none.
use Rattle.std.proofs.Common.{◌≡◌, Some, None, ap, sym, ◌∙◌}
use Rattle.std.specs.Prelude.{option_map}
use Rattle.serde_json.specs.View.{view}
use Rattle.fts_jobdoc.specs.Json.{value_of}
use Rattle.fts_standby.proofs.Bodies.{none_there-of_value, none_there-of_none}
use Rattle.fts_standby.proofs.hearing.says_no_entry.Goals as goal

pub returns-in-Some : goal.returns-in-Some
returns-in-Some c =
    let value : value_of c.args.body.now ≡ Some (view c.in-Some.value) = sym c.in_ok-value.ensures ∙ ap (option_map view) c.in-Some.is in
    c.has_rule_47.ensures ∙ sym (none_there-of_value c.args.body.now (view c.in-Some.value) value)

pub returns-in-None : goal.returns-in-None
returns-in-None c =
    let value : value_of c.args.body.now ≡ None = sym c.in_ok-value.ensures ∙ ap (option_map view) c.in-None.is in
    sym (none_there-of_none c.args.body.now value)
