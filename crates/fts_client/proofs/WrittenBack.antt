-- A JSON value that was written is read back.
use Rattle.std.proofs.Common.{◌≡◌, ◌≤◌, [], Some, ap, sym, ◌∙◌, append-nil}
use Rattle.std.specs.Prelude.{option_and_then}
use Rattle.json.specs.Json as json
use Rattle.json.specs.Lex.{tokens}
use Rattle.json.specs.Tree.{json_tokens, HasNumbers, depth}
use Rattle.json.proofs.Printed.Tokens.{tokens-print}
use Rattle.json.proofs.Printed.Trees.{value-json_tokens, ArePrintable-json_tokens}
use Rattle.serde_json.specs.Data.{Data}
use Rattle.serde_json.specs.Read.{read, of_json, max_depth}
use Rattle.serde_json.specs.Written.{outline, compact_text}
use Rattle.serde_json.proofs.Texts.{print-outline}

-- a value that was written is read back
pub read_back : (value : Data) → HasNumbers (outline value) → depth (outline value) ≤ max_depth → of_json (outline value) ≡ Some value
    → read (compact_text value) ≡ Some value
read_back value numbers shallow same =
    let all = json_tokens (outline value) in
    ap (λ found. option_and_then of_json (option_and_then (λ p. json.if_last p.0 p.1) found))
    (ap (json.value max_depth) (ap tokens (sym (print-outline value))
    ∙ (tokens-print (json_tokens (outline value)) (ArePrintable-json_tokens (outline value) numbers) ∙ sym (append-nil (json_tokens (outline value)))))
    ∙ value-json_tokens (outline value) max_depth [] shallow)
    ∙ same
