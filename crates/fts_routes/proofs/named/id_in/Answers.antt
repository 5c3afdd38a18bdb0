-- A text that is no UUID spells no id.
use Rattle.std.proofs.Common.{◌≡◌, ℕ, Bool, List, Option, Some, None, refl, sym, true, false, true≢false}
use Rattle.std.specs.Prelude.{◌==◌, length, option_map, if◌then◌else◌}
use Rattle.std.specs.Int.{from_be_bytes, w128}
use Rattle.uuid.specs.Text.{parsed}
use Rattle.fts_routes.proofs.named.id_in.Goals as goal

-- nothing is spelled where nothing is parsed
not_parsed : (found : Option (List ℕ)) → (((id : List ℕ) × (found ≡ Some id)) → ⊥) → found ≡ None
not_parsed None not = refl
not_parsed (Some id) not = absurd (not (id, refl))

no_id : (long : Bool) (found : Option (List ℕ)) → found ≡ None → None ≡ (if long then option_map (from_be_bytes w128) found else None)
no_id true found none = rw none refl
no_id false found none = refl

pub returns-in-Err : goal.returns-in-Err
returns-in-Err c = no_id (length c.args.text.now == 36) (parsed c.args.text.now) (not_parsed (parsed c.args.text.now) (λ there. true≢false (sym (c.in-Err.ensures.ok.1 there))))
