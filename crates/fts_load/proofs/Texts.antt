-- Parts of a text, one behind the other.
use Rattle.std.proofs.Common.{◌≡◌, ℕ, ◌+◌, ◌<◌, List, [], ◌∷◌, ◌++◌, length, get_or, take, ap, sym, ◌∙◌, arith, Bor}
use Rattle.std.specs.Prelude.{codes}
use Rattle.std.specs.List.{concat, range_with_len, flat_map}
use Rattle.std.proofs.lemmas.List.{append_assoc}
use Rattle.fts_wire.proofs.Sent.{joined, joined_more}
use Rattle.fts_load.specs.Requests.{file_text, next_text, texts_behind, request, document, request_with}
use Rattle.fts_load.proofs.Ranges.{texts_more}

-- a part more
pub part_more : (old now new : List ℕ) (parts : List (Bor (List ℕ))) (at : ℕ) (part : Bor (List ℕ)) → at < length parts
    → now ≡ old ++ joined (take at parts) → new ≡ now ++ (get_or parts at part).now → new ≡ old ++ joined (take (at + 1) parts)
part_more old now new parts at part inside so_far one =
    one ∙ ap (λ (l : List ℕ). l ++ (get_or parts at part).now) so_far ∙ append_assoc old (joined (take at parts)) (get_or parts at part).now
    ∙ ap (λ (l : List ℕ). old ++ l) (sym (joined_more parts at part inside))

-- a file more
pub file_more : (old now comma new : List ℕ) (source dest : List ℕ) (first made file : ℕ) → file ≡ first + 1 + made
    → now ≡ old ++ texts_behind source dest first made → comma ≡ now ++ concat (codes "," ∷ []) → new ≡ comma ++ file_text source dest file
    → new ≡ old ++ texts_behind source dest first (made + 1)
file_more old now comma new source dest first made file is so_far one two =
    let begun = file_text source dest first in
    let others = flat_map (next_text source dest) (range_with_len (first + 1) made) in
    two ∙ ap (λ (l : List ℕ). l ++ file_text source dest file) (one ∙ ap (λ (l : List ℕ). l ++ codes ",") so_far)
    ∙ append_assoc (old ++ (begun ++ others)) (codes ",") (file_text source dest file)
    ∙ append_assoc old (begun ++ others) (next_text source dest file)
    ∙ ap (λ (l : List ℕ). old ++ l) (append_assoc begun others (next_text source dest file)
    ∙ ap (λ (l : List ℕ). begun ++ l) (sym (texts_more (next_text source dest) (first + 1) made file (sym is))))

-- a request more
pub request_more : (now new : List ℕ) (source dest : List ℕ) (made : ℕ) → now ≡ flat_map (request source dest) (range_with_len 1 made)
    → new ≡ now ++ request_with (document source dest (made + 1)) → new ≡ flat_map (request source dest) (range_with_len 1 (made + 1))
request_more now new source dest made so_far one = one ∙ ap (λ (l : List ℕ). l ++ request source dest (made + 1)) so_far
    ∙ sym (texts_more (request source dest) 1 made (made + 1) (omega arith))
