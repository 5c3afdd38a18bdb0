-- A text that is no UUID names no job.
use Rattle.std.proofs.Common.{◌≡◌, List, ℕ, Option, Some, None, refl, ap, sym, true≢false}
use Rattle.std.specs.Prelude.{option_map}
use Rattle.std.specs.Int.{from_be_bytes, w128}
use Rattle.uuid.specs.Text.{parsed}
use Rattle.fts_words.specs.declared.options.Given.TheVariants.{Job}
use Rattle.fts_words.proofs.options.of_id.Goals as goal

-- nothing is named where nothing is parsed
not_parsed : (found : Option (List ℕ)) → (((id : List ℕ) × (found ≡ Some id)) → ⊥) → found ≡ None
not_parsed None not = refl
not_parsed (Some id) not = absurd (not (id, refl))

pub returns-in-Err : goal.returns-in-Err
returns-in-Err c = sym (ap (option_map (λ id. Job (from_be_bytes w128 id)))
    (not_parsed (parsed c.args.value.now) (λ there. true≢false (sym (c.in-Err.ensures.ok.1 there)))))
