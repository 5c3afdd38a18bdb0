-- The words of the hands of a run.
use Rattle.std.specs.Prelude.{◌≡◌, ℕ, ◌+◌, List, [], ◌∷◌}
use Rattle.rand_pcg.specs.Lcg.{increment_of, started}
use Rattle.rand_pcg.specs.Pcg.{multiplier_64}
use Rattle.fts_devices.specs.declared.outside.PcgWords.{PcgWords}

-- these words begin at this moment, each on the stream of its place, the first on this one
abbrev pub AreOnStreams : ℕ → ℕ → List PcgWords → Type 0
AreOnStreams moment place [] = Unit {0}
AreOnStreams moment place (words ∷ others) =
    (words.random ≡ started 64 multiplier_64 moment (increment_of 64 place)) × AreOnStreams moment (place + 1) others
