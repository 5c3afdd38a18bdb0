-- Links: where a client's lines come from, each for one try, and what each call makes of a link.
use Rattle.std.specs.Prelude.{◌≡◌, ◌⊎◌, ℕ, ◌+◌, ◌-◌, ◌≤◌, Bool, true, false, List, [], ◌∷◌, ◌++◌, Option, Some, None, option_map, Result, Ok, Err}
use Rattle.fts_tables.specs.Counts.{Rose}
use Rattle.fts_wire.specs.Outside.{raised, Side}
use Rattle.fts_wire.specs.declared.outside.Source as source
use Rattle.fts_wire.specs.declared.outside.Sink as sink

-- what a line shows of the side that is read, and of the side that is written
abbrev pub read_side : {L : Type 0} → source.Ghosts L → Side L
read_side lines = record { bytes = lines.left; faults = lines.faults; reads = lines.reads; beside = lines.beside }

abbrev pub written_side : {L : Type 0} → sink.Ghosts L → Side L
written_side lines = record { bytes = lines.held; faults = lines.faults; reads = λ _. 0; beside = lines.beside }

-- what is known of a link: the lines to come and those that came back, where they are told, how many are out, how often it was dialed,
-- the port that was dialed last, if any was, and whether that dial gave a line
pub record LinkData (L : Type 0) : Type 0 where
  pub coming : Option (List L)
  pub back : Option (List L)
  pub out : ℕ
  pub dials : ℕ
  pub port : Option ℕ
  pub is_given : Bool

-- a link that was dialed once more, at this port, and gave no line
abbrev pub dialed : {L : Type 0} → ℕ → LinkData L → LinkData L
dialed port link = record link { dials = raised link.dials 1; port = Some port; is_given = false }

-- a dialed link that gave a line: one more is out, and the lines to come are these
abbrev pub given_out : {L : Type 0} → ℕ → LinkData L → Option (List L) → LinkData L
given_out port link coming = record link { coming = coming; out = link.out + 1; dials = raised link.dials 1; port = Some port; is_given = true }

-- the first of the lines to come was given, where they are told
abbrev pub GivesFirst : {L : Type 0} → ℕ → LinkData L → LinkData L → L → Option (List L) → Type 0
GivesFirst port old new line None = new ≡ given_out port old None
GivesFirst port old new line (Some []) = ⊥
GivesFirst port old new line (Some (first ∷ others)) = (line ≡ first) × (new ≡ given_out port old (Some others))

-- what a dial of a port does: it gives the first line to come, or it fails and leaves the lines; it counts, and its port and whether it gave one
-- are noted, in both cases
abbrev pub Dials : {L E : Type 0} → ℕ → LinkData L → LinkData L → Result L E → Type 0
Dials port old new (Ok line) = GivesFirst port old new line old.coming
Dials port old new (Err fault) = new ≡ dialed port old

-- a link to which a line came back
abbrev pub with_one_back : {L : Type 0} → LinkData L → L → LinkData L
with_one_back link line = record link { back = option_map (λ lines. lines ++ line ∷ []) link.back; out = link.out - 1 }

-- How a link's count of faults goes on where a line comes back whose source and sink have failed so often: it rises exactly where one of them has.
pub record CountsLine (old new source sink : ℕ) : Type 0 where
  pub keeps : old ≤ new
  pub rises : (1 ≤ source) ⊎ (1 ≤ sink) → Rose old new
  pub stays : source ≡ 0 → sink ≡ 0 → new ≡ old
