use Rattle.std.proofs.Common.{◌≡◌, ◌<◌, ◌≤◌, ◌∙◌, ◌∷◌, ap, sym, subst, length, List, true, None, Some}
use Rattle.std.specs.Prelude.{slice_set}
use Rattle.fts_tables.specs.SettingsData.{are_apart, is_same_endpoint}
use Rattle.fts_tables.specs.declared.settings.Endpoint.{Endpoint}
use Rattle.fts_tables.specs.declared.settings.LinkAt.{LinkAt}
use Rattle.fts_slots.specs.SlotsData.{index_of}
use Rattle.fts_slots.specs.LinkLimits.{AreLimits}
use Rattle.fts_slots.proofs.ListedLimits.{place_of, limits_with, limits_without, no_source, no_dest}
use Rattle.fts_slots.proofs.link_limits.write_limit.Goals as goal

pub returns-in-None : goal.returns-in-None
returns-in-None c =
    let rule = c.args.rule.now in
    let none : place_of rule.source c.args.endpoints.now ≡ None =
    ap (λ name. place_of name c.args.endpoints.now) (sym c.as_str.ensures.text) ∙ sym c.in-None.ensures.place in
    record {
      limits = λ settings same before.
          limits_without settings rule c.args.limits.now (subst (λ endpoints. are_apart is_same_endpoint endpoints ≡ true) (sym same) c.requires.apart)
          (λ link. no_source settings.endpoints rule link (subst (λ endpoints. place_of rule.source endpoints ≡ None) (sym same) none)) before;
    }

pub returns-in-None-place_of_endpoint : goal.returns-in-None-place_of_endpoint
returns-in-None-place_of_endpoint c =
    let rule = c.args.rule.now in
    let none : place_of rule.dest c.args.endpoints.now ≡ None =
    ap (λ name. place_of name c.args.endpoints.now) (sym c.as_str-in-Some.ensures.text) ∙ sym c.in-None-place_of_endpoint.ensures.place in
    record {
      limits = λ settings same before.
          limits_without settings rule c.args.limits.now (subst (λ endpoints. are_apart is_same_endpoint endpoints ≡ true) (sym same) c.requires.apart)
          (λ link. no_dest settings.endpoints rule link (subst (λ endpoints. place_of rule.dest endpoints ≡ None) (sym same) none)) before;
    }

pub returns-in-Some-place_of_endpoint : goal.returns-in-Some-place_of_endpoint
returns-in-Some-place_of_endpoint c =
    let rule = c.args.rule.now in
    let other : LinkAt = record { source = c.in-Some.source; dest = c.in-Some-place_of_endpoint.dest } in
    let source : other.source < length c.args.endpoints.now = c.in-Some.ensures.bound in
    let dest : other.dest < length c.args.endpoints.now = c.in-Some-place_of_endpoint.ensures.bound in
    let source_at : place_of rule.source c.args.endpoints.now ≡ Some other.source =
    ap (λ name. place_of name c.args.endpoints.now) (sym c.as_str.ensures.text) ∙ sym c.in-Some.ensures.place in
    let dest_at : place_of rule.dest c.args.endpoints.now ≡ Some other.dest =
    ap (λ name. place_of name c.args.endpoints.now) (sym c.as_str-in-Some.ensures.text) ∙ sym c.in-Some-place_of_endpoint.ensures.place in
    let at : c.index_of.result ≡ index_of other = c.index_of.ensures.index in
    record {
      limits = λ settings same before.
          subst (λ place. AreLimits (record settings { links = rule ∷ settings.links }) (slice_set c.args.limits.now place rule.max_active)) (sym at)
          (limits_with settings rule c.args.limits.now other (subst (λ endpoints. are_apart is_same_endpoint endpoints ≡ true) (sym same) c.requires.apart)
          (subst (λ (endpoints : List Endpoint). length endpoints ≤ 256) (sym same) c.requires.few)
          (subst (λ endpoints. place_of rule.source endpoints ≡ Some other.source) (sym same) source_at)
          (subst (λ endpoints. place_of rule.dest endpoints ≡ Some other.dest) (sym same) dest_at)
          (subst (λ (endpoints : List Endpoint). other.source < length endpoints) (sym same) source)
          (subst (λ (endpoints : List Endpoint). other.dest < length endpoints) (sym same) dest) before);
    }
