-- The rules one after the other, and the places of a document that breaks none.
use Rattle.std.proofs.Common.{◌≡◌, Err, inl, sym, ap, ◌∙◌, rules, arith}
use Rattle.std.specs.List.{list_any}
use Rattle.serde_json.specs.View.{view}
use Rattle.fts_jobdoc.specs.Ends.{is_elsewhere}
use Rattle.fts_delete.proofs.AskedBy.{no_object, no_deletes, too_many, no_texts, broken_url, elsewhere, all_fine}
use Rattle.fts_delete.proofs.document.asked_by.Goals as goal

pub returns-then-not-is_object : goal.returns-then-not-is_object
returns-then-not-is_object c = inl (sym (no_object (view c.args.document.now) c.args.settings.now (search rules)))

pub returns-then-is_empty : goal.returns-then-is_empty
returns-then-is_empty c = inl (sym (no_deletes (view c.args.document.now) c.args.settings.now c.asked_items-items.result.now c.asked_items-items.ensures
    (search rules) (sym c.is_empty.ensures ∙ c.if-is_empty.true)))

pub returns-then-items-gt-MAX_ASKED : goal.returns-then-items-gt-MAX_ASKED
returns-then-items-gt-MAX_ASKED c = inl (sym (too_many (view c.args.document.now) c.args.settings.now c.asked_items-items.result.now c.asked_items-items.ensures
    (search rules) (sym c.is_empty.ensures ∙ c.if-is_empty.false) (omega (arith, c.if-items-gt-MAX_ASKED.true))))

pub returns-then-not-are_texts : goal.returns-then-not-are_texts
returns-then-not-are_texts c = inl (sym (no_texts (view c.args.document.now) c.args.settings.now c.asked_items-items.result.now c.asked_items-items.ensures
    (search rules) (sym c.is_empty.ensures ∙ c.if-is_empty.false) (omega (arith, c.if-items-gt-MAX_ASKED.false)) (sym c.are_texts.ensures ∙ c.if-not-are_texts.true)))

pub returns-in_err-places : goal.returns-in_err-places
returns-in_err-places c =
    let is : c.from_residual.result ≡ Err c.in_err-places.field-0.0 = search rules in
    broken_url (view c.args.document.now) c.args.settings.now c.asked_items-items.result.now c.asked_items-items.ensures
    (search rules) (sym c.is_empty.ensures ∙ c.if-is_empty.false) (omega (arith, c.if-items-gt-MAX_ASKED.false)) (sym c.are_texts.ensures ∙ c.if-not-are_texts.false)
    c.in_err-places.field-0.0 c.from_residual.result c.in_err-places.ensures is

pub returns-then-is_some_elsewhere : goal.returns-then-is_some_elsewhere
returns-then-is_some_elsewhere c = inl (sym (elsewhere (view c.args.document.now) c.args.settings.now c.asked_items-items.result.now c.asked_items-items.ensures
    (search rules) (sym c.is_empty.ensures ∙ c.if-is_empty.false) (omega (arith, c.if-items-gt-MAX_ASKED.false)) (sym c.are_texts.ensures ∙ c.if-not-are_texts.false)
    c.in_ok-places.places c.in_ok-places.ensures
    (ap (list_any (is_elsewhere c.args.settings.now)) (sym c.as_slice.ensures) ∙ sym c.is_some_elsewhere.ensures ∙ c.if-is_some_elsewhere.true)))

pub returns : goal.returns
returns c = inl (sym (all_fine (view c.args.document.now) c.args.settings.now c.asked_items-items.result.now c.asked_items-items.ensures
    (search rules) (sym c.is_empty.ensures ∙ c.if-is_empty.false) (omega (arith, c.if-items-gt-MAX_ASKED.false)) (sym c.are_texts.ensures ∙ c.if-not-are_texts.false)
    c.in_ok-places.places c.in_ok-places.ensures
    (ap (list_any (is_elsewhere c.args.settings.now)) (sym c.as_slice.ensures) ∙ sym c.is_some_elsewhere.ensures ∙ c.if-is_some_elsewhere.false)))
