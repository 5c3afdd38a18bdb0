use Rattle.std.proofs.Common.{◌++◌, ◌∷◌, [], map, string_bytes, ap, sym, ◌∙◌}
use Rattle.std.proofs.lemmas.List.{map-append}
use Rattle.fts_store.proofs.Listings.{no_text, a_text, nothing_more}
use Rattle.fts_store.proofs.listing.keep_text.Goals as goal

pub returns-in_default : goal.returns-in_default
returns-in_default c =
    sym (ap (λ l. map string_bytes c.args.names.now.items ++ l) (no_text c.args.name.now c.in_default.ensures.cases.0)
    ∙ nothing_more (map string_bytes c.args.names.now.items))

pub returns : goal.returns
returns c =
    ap (map string_bytes) (c.push_reserved.ensures.items ∙ ap (λ l. l ++ c.in_ok-text.text ∷ []) c.in_ok-reserve.ensures.items)
    ∙ map-append string_bytes c.args.names.now.items (c.in_ok-text.text ∷ [])
    ∙ ap (λ l. map string_bytes c.args.names.now.items ++ l) (ap (λ b. b ∷ []) (c.in_ok-text.ensures.ok ∙ c.in-Ok.ensures.cases.0)
    ∙ sym (a_text c.args.name.now c.in-Ok.ensures.cases.1))
