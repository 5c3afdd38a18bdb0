-- Lines that the heads of a client's requests share, and parts of a request: they are open as long as more may come.
use Rattle.std.proofs.Common.{◌≡◌, ◌≢◌, ℕ, true, List, [], ◌∷◌, ◌++◌, codes, refl, ap, sym, ◌∙◌}
use Rattle.fts_wire.specs.RequestData.{RequestData}
use Rattle.fts_wire.specs.Requests.{Next, is_open, Closed, EndsInside, Refuses, Asks}
use Rattle.fts_wire.proofs.Stable.{StaysNext}

abbrev pub host_line : List ℕ → List ℕ
host_line port = codes "Host: 127.0.0.1:" ++ (port ++ 13 ∷ 10 ∷ [])

abbrev pub close_line : List ℕ
close_line = codes "Connection: close\r\n"

abbrev pub empty_line : List ℕ
empty_line = codes "\r\n"

no_rest : (rest more : List ℕ) → rest ++ more ≡ [] → more ≡ []
no_rest [] more is = is
no_rest (byte ∷ rest) more is = cc

-- what is behind a request, and something where none is read
abbrev rest_of : Next → List ℕ
rest_of (Asks request rest) = rest
rest_of _ = 1 ∷ []

-- where bytes more make bytes a request, they were open before
pub open_before : (first : Next) (more : List ℕ) (whole : Next) (request : RequestData) → StaysNext first more whole → whole ≡ Asks request [] → more ≢ [] → is_open first ≡ true
open_before Closed more whole request stays is some = refl
open_before EndsInside more whole request stays is some = refl
open_before (Refuses fault) more whole request stays is some = let clash : Refuses fault ≡ Asks request [] = sym stays ∙ is in cc
open_before (Asks one rest) more whole request stays is some = absurd (some (no_rest rest more (ap rest_of (sym stays ∙ is))))
