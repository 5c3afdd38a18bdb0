-- The files that are out after one entry more, and these as a bench holds them.
use Rattle.std.proofs.Common.{◌≡◌, refl, sym, ap, ◌∙◌, ℕ, ◌+◌, ◌≤◌, Bool, true, false, cond, List, [], ◌∷◌, ◌++◌, map, length, Option, None, arith, eq-eqb}
use Rattle.std.specs.Prelude.{◌==◌, not, count_by}
use Rattle.std.proofs.lemmas.List.Sums.{sum_by-cons}
use Rattle.fts_tables.specs.Tables.{Tables, empty_tables}
use Rattle.fts_tables.specs.Step.{step}
use Rattle.fts_tables.specs.History.{tables_of, tables_from, tables_after, without, out_step, out_from, out_of_list}
use Rattle.fts_tables.specs.declared.commands.Entry.{Entry}
use Rattle.fts_tables.specs.declared.rows.Outcome.{Outcome}
use Rattle.fts_workers.specs.Benches.{attempt_of, held_as, kept_of}
use Rattle.fts_workers.specs.declared.held.Held.{Held}

-- the files that are out behind one entry more
out_from-last : (tables : Tables) (files : List ℕ) (entries : List Entry) (entry : Entry)
    → out_from tables files (entries ++ entry ∷ []) ≡ out_step (out_from tables files entries) (step (tables_from tables entries) entry.command)
out_from-last tables files [] entry = refl
out_from-last tables files (first ∷ entries) entry =
    out_from-last (tables_after tables (step tables first.command)) (out_step files (step tables first.command)) entries entry

pub out_of_list-last : (entries : List Entry) (entry : Entry)
    → out_of_list (entries ++ entry ∷ []) ≡ out_step (out_of_list entries) (step (tables_of entries) entry.command)
out_of_list-last entries entry = out_from-last empty_tables [] entries entry

-- how often a file stands among others
abbrev pub times : ℕ → List ℕ → ℕ
times file files = count_by (λ other. other == file) files

-- the others are without a file that isn't among them
pub without-none : (file : ℕ) (files : List ℕ) → times file files ≡ 0 → without file files ≡ files
without-none file [] none = refl
without-none file (other ∷ files) none =
    by_head (λ behind. without-none file files behind) (other == file) (sym (sum_by-cons (λ another. cond {A = ℕ} (another == file) 1 0) other files) ∙ none)
  where
    by_head : (times file files ≡ 0 → without file files ≡ files) → (same : Bool) → cond same 1 0 + times file files ≡ 0
        → cond (not same) (other ∷ without file files) (without file files) ≡ other ∷ files
    by_head behind true counted = absurd (omega (arith, counted))
    by_head behind false counted = ap (λ rest. other ∷ rest) (behind (omega (arith, counted)))

-- the first one is taken away, where it stands there once
pub without-first : (file : ℕ) (files : List ℕ) → times file (file ∷ files) ≤ 1 → without file (file ∷ files) ≡ files
without-first file files once =
    let same : (file == file) ≡ true = eq-eqb file file refl in
    let head = sum_by-cons (λ other. cond {A = ℕ} (other == file) 1 0) file files in
    let one : cond {A = ℕ} (file == file) 1 0 ≡ 1 = ap (λ b. cond {A = ℕ} b 1 0) same in
    ap (λ b. cond (not b) (file ∷ without file files) (without file files)) same ∙ without-none file files (omega (arith, head, one, once))

-- and no other file is it
pub others-once : (file : ℕ) (files : List ℕ) → times file (file ∷ files) ≤ 1 → times file files ≡ 0
others-once file files once =
    let head = sum_by-cons (λ other. cond {A = ℕ} (other == file) 1 0) file files in
    let one : cond {A = ℕ} (file == file) 1 0 ≡ 1 = ap (λ b. cond {A = ℕ} b 1 0) (eq-eqb file file refl) in
    omega (arith, head, one, once)

-- the files of what is held
pub files-held_as : (tables : Tables) (kept : Option Outcome) (files : List ℕ) → map (λ (held : Held). held.file) (held_as tables kept files) ≡ files
files-held_as tables kept [] = refl
files-held_as tables kept (file ∷ files) = ap (λ rest. file ∷ rest) (files-held_as tables None files)

-- their attempts
pub attempts-held_as : (tables : Tables) (kept : Option Outcome) (files : List ℕ)
    → map (λ (held : Held). held.attempt) (held_as tables kept files)
    ≡ map (λ (held : Held). attempt_of tables held.file) (held_as tables kept files)
attempts-held_as tables kept [] = refl
attempts-held_as tables kept (file ∷ files) = ap (λ rest. attempt_of tables file ∷ rest) (attempts-held_as tables None files)

-- behind the first nothing is kept
pub outcomes-held_as : (tables : Tables) (files : List ℕ)
    → map (λ (held : Held). held.outcome) (held_as tables None files) ≡ map (λ (held : Held). None) (held_as tables None files)
outcomes-held_as tables [] = refl
outcomes-held_as tables (file ∷ files) = ap (λ rest. None ∷ rest) (outcomes-held_as tables files)

pub length-held_as : (tables : Tables) (kept : Option Outcome) (files : List ℕ) → length (held_as tables kept files) ≡ length files
length-held_as tables kept [] = refl
length-held_as tables kept (file ∷ files) = omega (arith, length-held_as tables None files)

-- with attempts that stayed they are held alike
pub held_as-same : (tables after : Tables) (kept : Option Outcome) (files : List ℕ)
    → ((file : ℕ) → 1 ≤ times file files → attempt_of after file ≡ attempt_of tables file) → held_as tables kept files ≡ held_as after kept files
held_as-same tables after kept [] same = refl
held_as-same tables after kept (file ∷ files) same =
    let head = sum_by-cons (λ other. cond {A = ℕ} (other == file) 1 0) file files in
    let one : cond {A = ℕ} (file == file) 1 0 ≡ 1 = ap (λ b. cond {A = ℕ} b 1 0) (eq-eqb file file refl) in
    ap (λ attempt. (record { file = file; attempt = attempt; outcome = kept } ∷ held_as tables None files)) (sym (same file (omega (arith, head, one))))
    ∙ ap (λ rest. (record { file = file; attempt = attempt_of after file; outcome = kept } ∷ rest))
    (held_as-same tables after None files (λ other among.
    let behind = sum_by-cons (λ another. cond {A = ℕ} (another == other) 1 0) file files in
    same other (omega (arith, behind, among))))

-- one file more, behind the others
pub held_as-more : (tables : Tables) (files : List ℕ) (file : ℕ)
    → held_as tables None (files ++ file ∷ []) ≡ held_as tables None files ++ record { file = file; attempt = attempt_of tables file; outcome = None } ∷ []
held_as-more tables [] file = refl
held_as-more tables (first ∷ files) file =
    ap (λ rest. (record { file = first; attempt = attempt_of tables first; outcome = None } ∷ rest)) (held_as-more tables files file)

-- what is kept is what is kept
pub kept-held_as : (tables : Tables) (kept : Option Outcome) (file : ℕ) (files : List ℕ) → kept_of (held_as tables kept (file ∷ files)) ≡ kept
kept-held_as tables kept file files = refl
