-- What a run does alone, and what it does where it serves.
use Rattle.std.proofs.Common.{◌≡◌, ℕ, Option, Some, None, sym, subst}
use Rattle.fts_words.specs.Words.{IsToServe}
use Rattle.fts_words.specs.declared.asked.Asked.{Asked}
use Rattle.fts_words.specs.declared.asked.Asked.TheVariants as asks
use Rattle.fts_top.specs.Asked.{DoesOrServes}
use Rattle.fts_top.specs.Runs.{OverDisks}

-- words that don't ask to serve
pub chooses_alone : (asked : Option Asked) (alone : Type 0) (serves : ℕ → Option ℕ → Type 0) → (IsToServe asked → ⊥) → alone → DoesOrServes asked alone serves
chooses_alone (Some (asks.Serve port lanes connections)) alone serves other does = absurd (other tt)
chooses_alone _ alone serves other does = does

-- words that do
pub chooses_serving : (asked : Option Asked) (alone : Type 0) (serves more : ℕ → Option ℕ → Type 0) → ((lanes : ℕ) (connections : Option ℕ) → serves lanes connections → more lanes connections)
    → DoesOrServes asked ⊥ serves → DoesOrServes asked alone more
chooses_serving (Some (asks.Serve port lanes connections)) alone serves more goes does = goes lanes connections does
chooses_serving _ alone serves more goes does = absurd does

-- and what is left as it was beside it
pub chooses_beside : (asked : Option Asked) (alone : Type 0) (serves : ℕ → Option ℕ → Type 0) (one two three four : Type 0) → one → two → three → four
    → DoesOrServes asked ⊥ serves → DoesOrServes asked alone (λ lanes connections. serves lanes connections × one × two × three × four)
chooses_beside asked alone serves one two three four first second third fourth does =
    chooses_serving asked alone serves (λ lanes connections. serves lanes connections × one × two × three × four)
    (λ lanes connections served. (served, first, second, third, fourth)) does

-- the same over two disks
pub serves_over : {D : Type 0} (disk left : Option D) (asked : Option Asked) (alone : D → D → Type 0) (serves : D → D → ℕ → Option ℕ → Type 0) (one two three four : Type 0)
    → one → two → three → four → OverDisks disk left (λ from to. DoesOrServes asked ⊥ (serves from to))
    → OverDisks disk left (λ from to. DoesOrServes asked (alone from to) (λ lanes connections. serves from to lanes connections × one × two × three × four))
serves_over None left asked alone serves one two three four first second third fourth over = tt
serves_over (Some disk) None asked alone serves one two three four first second third fourth over = absurd over
serves_over (Some disk) (Some left) asked alone serves one two three four first second third fourth over =
    chooses_beside asked (alone disk left) (serves disk left) one two three four first second third fourth over

-- words that ask to serve, by what they name
pub serves_asked : (asked : Option Asked) (port : Option ℕ) (lanes : ℕ) (connections : Option ℕ) (serves : ℕ → Option ℕ → Type 0)
    → asked ≡ Some (asks.Serve port lanes connections) → serves lanes connections → DoesOrServes asked ⊥ serves
serves_asked asked port lanes connections serves is does = subst (λ it. DoesOrServes it ⊥ serves) (sym is) does

-- and whatever they name
pub serves_any : (asked : Option Asked) (serves : ℕ → Option ℕ → Type 0) → IsToServe asked → ((lanes : ℕ) (connections : Option ℕ) → serves lanes connections)
    → DoesOrServes asked ⊥ serves
serves_any (Some (asks.Serve port lanes connections)) serves to_serve does = does lanes connections
serves_any _ serves to_serve does = to_serve

-- over the disk that was taken and the one that was put back
pub over_both : {D : Type 0} (before after : Option D) (disk left : D) (P : D → D → Type 0) → before ≡ Some disk → after ≡ Some left → P disk left → OverDisks before after P
over_both before after disk left P taken given does =
    subst (λ from. OverDisks from after P) (sym taken) (subst (λ to. OverDisks (Some disk) to P) (sym given) does)
