-- Prometheus' text form, version 0.0.4: two lines that say what a metric is, and a line for each sample.
use Rattle.std.specs.Prelude.{ℕ, ◌==◌, if◌then◌else◌, List, [], ◌∷◌, ◌++◌, codes, decimal}
use Rattle.std.specs.List.{flat_map}

-- a byte of a label's value: backslash, quote and line feed stand behind a backslash, the last as an n
abbrev pub escaped_byte : ℕ → List ℕ
escaped_byte byte =
    if byte == 92 then 92 ∷ 92 ∷ [] else (if byte == 34 then 92 ∷ 34 ∷ [] else (if byte == 10 then 92 ∷ 110 ∷ [] else byte ∷ []))

-- a label's value
abbrev pub escaped : List ℕ → List ℕ
escaped value = flat_map escaped_byte value

-- what a metric is: its name and what it counts, its name and its kind
unfoldable pub head : List ℕ → List ℕ → List ℕ → List ℕ
head name help kind = codes "# HELP " ++ name ++ codes " " ++ help ++ codes "\n# TYPE " ++ name ++ codes " " ++ kind ++ codes "\n"

-- a sample without labels
unfoldable pub plain_sample : List ℕ → ℕ → List ℕ
plain_sample name number = name ++ codes " " ++ decimal number ++ codes "\n"

-- a sample with these labels
unfoldable pub sample : List ℕ → List ℕ → ℕ → List ℕ
sample name labels number = name ++ codes "{" ++ labels ++ codes "} " ++ decimal number ++ codes "\n"

-- a label and its value
unfoldable pub label : List ℕ → List ℕ → List ℕ
label name value = (name ++ codes "=\"") ++ escaped value ++ codes "\""

-- two labels
unfoldable pub two_labels : List ℕ → List ℕ → List ℕ
two_labels first second = first ++ codes "," ++ second
