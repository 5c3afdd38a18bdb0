-- Doors: what lines come from and go back to, and what each call makes of it.
use Rattle.std.specs.Prelude.{◌≡◌, ℕ, ◌+◌, ◌-◌, List, [], ◌∷◌, ◌++◌, map, Option, Some, None, option_map, IfSome, Result, Ok, Err}

-- what is known of doors: the lines to come and those that came back, where they tell them, and how many they gave that haven't come back
pub record DoorsData (L : Type 0) : Type 0 where
  pub coming : Option (List L)
  pub back : Option (List L)
  pub out : ℕ

-- doors that gave a line: one more is out, and the lines to come are these
abbrev pub with_one_out : {L : Type 0} → DoorsData L → Option (List L) → DoorsData L
with_one_out doors coming = record doors { coming = coming; out = doors.out + 1 }

-- the first of the lines to come was given, where they are told
abbrev pub GivesFirst : {L : Type 0} → DoorsData L → DoorsData L → L → Option (List L) → Type 0
GivesFirst old new line None = new ≡ with_one_out old None
GivesFirst old new line (Some []) = ⊥
GivesFirst old new line (Some (first ∷ others)) = (line ≡ first) × (new ≡ with_one_out old (Some others))

-- what asking for the next line does: it gives the first, none exactly where there is none, and nothing where it fails
abbrev pub GivesLine : {L E : Type 0} → DoorsData L → DoorsData L → Result (Option L) E → Type 0
GivesLine old new (Ok (Some line)) = GivesFirst old new line old.coming
GivesLine old new (Ok None) = (new ≡ old) × IfSome old.coming (λ lines. lines ≡ [])
GivesLine old new (Err fault) = new ≡ old

-- doors to which a line came back
abbrev pub with_one_back : {L : Type 0} → DoorsData L → L → DoorsData L
with_one_back doors line = record doors { back = option_map (λ lines. lines ++ line ∷ []) doors.back; out = doors.out - 1 }

-- the lines of doors that gave these, in order: those to come, where they are told
abbrev pub Came : {L : Type 0} → Option (List L) → Option (List L) → List L → Type 0
Came None now lines = now ≡ None
Came (Some coming) None lines = ⊥
Came (Some coming) (Some rest) lines = coming ≡ lines ++ rest

-- and those that came back, to which these were added in order
abbrev pub Went : {L : Type 0} → Option (List L) → Option (List L) → List L → Type 0
Went None now lines = now ≡ None
Went (Some back) now lines = now ≡ Some (back ++ lines)

-- these lines came through the doors, each as it was given and as it went back, in one order
pub record PassThrough {L : Type 0} (old new : DoorsData L) (lines : List (L × L)) : Type 0 where
  pub came : Came old.coming new.coming (map (λ line. line.0) lines)
  pub went : Went old.back new.back (map (λ line. line.1) lines)
  pub out : new.out ≡ old.out
