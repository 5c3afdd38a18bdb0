-- Which document a text is, by whether it is UTF-8 and what `toml` reads.
use Rattle.std.proofs.Common.{◌≡◌, ℕ, List, Some, None, refl, IsUtf8, inl, inr}
use Rattle.std.specs.Str.{is_utf8}
use Rattle.std.proofs.lemmas.Bool.{cases_Bool}
use Rattle.std.proofs.lemmas.Str.{IsUtf8-from_is_utf8, is_utf8-from_IsUtf8}
use Rattle.toml.specs.Data.{Data, Members, table}
use Rattle.toml.specs.Parse.{parse_document}
use Rattle.fts_config.specs.Document.{document_of}

-- a text that is UTF-8 and TOML
pub document_of-read : (text : List ℕ) (found : Members) (value : Data) → IsUtf8 text → parse_document text ≡ Some found → value ≡ table found
    → document_of text ≡ Some value
unfolding document_of
document_of-read text found value utf8 read same = rw (is_utf8-from_IsUtf8 text utf8, read, same) refl

-- a text that is no UTF-8, or no TOML
pub document_of-refused : (text : List ℕ) → (IsUtf8 text → parse_document text ≡ None) → document_of text ≡ None
unfolding document_of
document_of-refused text none =
    elim (cases_Bool (is_utf8 text)) [
      | inl utf8 ↦ rw (utf8, none (IsUtf8-from_is_utf8 text utf8)) refl
      | inr other ↦ rw other refl
    ]
