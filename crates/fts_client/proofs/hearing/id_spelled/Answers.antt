-- A text that is no UUID spells no id.
use Rattle.std.proofs.Common.{refl, sym, true≢false}
use Rattle.uuid.specs.Text.{parsed}
use Rattle.fts_client.proofs.BodyValues.{not_parsed}
use Rattle.fts_client.proofs.hearing.id_spelled.Goals as goal

pub returns-in-Err : goal.returns-in-Err
returns-in-Err c = rw (not_parsed (parsed c.args.text.now) (λ there. true≢false (sym (c.in-Err.ensures.ok.1 there)))) refl
