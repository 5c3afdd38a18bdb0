-- Letters that a loop goes over one by one.
use Rattle.std.proofs.Common.{◌≡◌, ℕ, ◌+◌, ◌<◌, List, [], ◌∷◌, ◌++◌, length, map, take, get_or, ◌∙◌, ap}
use Rattle.std.proofs.lemmas.List.{take_more, map_push}
use Rattle.fts_store.specs.Paths.{comma_for}

-- one letter more
pub letter_more : (letters : List ℕ) (i d : ℕ) → i < length letters → map comma_for (take (i + 1) letters) ≡ map comma_for (take i letters) ++ comma_for (get_or letters i d) ∷ []
letter_more letters i d inside = ap (map comma_for) (take_more letters i d inside) ∙ map_push comma_for (take i letters) (get_or letters i d)
