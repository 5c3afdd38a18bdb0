-- The place of a job that comes in its turn.
use Rattle.std.specs.Prelude.{ℕ, ◌+◌, ◌-◌, Bool, if◌then◌else◌}
use Rattle.fts_pages.specs.declared.places.Places.{Places}

-- from the last place down where the newest come first, and else from the first place up
abbrev pub place_at : Places → Bool → ℕ → ℕ
place_at places newest turn = if newest then places.last - 1 - turn else places.first + turn
