-- What lists of rules say: of a list in two parts, and of rules that were kept, each alone.
use Rattle.std.proofs.Common.{◌≡◌, ◌||◌, ◌&&◌, Bool, true, false, List, [], ◌∷◌, ◌++◌, Option, Some, None, refl}
use Rattle.std.specs.Option.{option_or}
use Rattle.fts_tables.specs.FirstFault.{fault_if, first_fault}
use Rattle.fts_jobdoc.specs.declared.fault.DocFault.{DocFault}

-- the first fault of two lists is that of the first, or else that of the second
pub first_fault-append : (these those : List (Option DocFault)) → first_fault (these ++ those) ≡ option_or (first_fault these) (first_fault those)
first_fault-append [] those = refl
first_fault-append (None ∷ these) those = first_fault-append these those
first_fault-append (Some fault ∷ these) those = refl

-- the first fault of a list is that of its first rule, or else that of the others
pub first_fault-cons : (rule : Option DocFault) (rules : List (Option DocFault)) → first_fault (rule ∷ rules) ≡ option_or rule (first_fault rules)
first_fault-cons None rules = refl
first_fault-cons (Some fault) rules = refl

-- neither of two faults
pub neither : (first later : Option DocFault) → option_or first later ≡ None → (first ≡ None) × (later ≡ None)
neither None later none = (refl, none)
neither (Some fault) later none = absurd (cc)

-- a rule that was kept isn't broken
pub unbroken : (broken : Bool) (fault : DocFault) → fault_if broken fault ≡ None → broken ≡ false
unbroken true fault kept = absurd (cc)
unbroken false fault kept = refl

-- all rules of a list were kept
abbrev pub AllKept : List (Option DocFault) → Type 0
AllKept [] = Unit {0}
AllKept (rule ∷ rules) = (rule ≡ None) × AllKept rules

-- where there is no fault, all were kept
pub all_kept : (rules : List (Option DocFault)) → first_fault rules ≡ None → AllKept rules
all_kept [] all = tt
all_kept (None ∷ rules) all = (refl, all_kept rules all)
all_kept (Some fault ∷ rules) all = absurd (cc)

-- both of two tests
pub and_parts : (a b : Bool) → (a && b) ≡ true → (a ≡ true) × (b ≡ true)
and_parts true b both = (refl, both)
and_parts false b both = absurd (cc)

-- neither of two tests
pub or_parts : (a b : Bool) → (a || b) ≡ false → (a ≡ false) × (b ≡ false)
or_parts true b none = absurd (cc)
or_parts false b none = (refl, none)

-- the one test and the other
pub and_from : (a b : Bool) → a ≡ true → b ≡ true → (a && b) ≡ true
and_from a b e h = rw (e, h) refl
