-- A bench fits what its pass has seen: it holds each file that is out and was claimed last by the pass, and nothing that the pass has reported.
use Rattle.std.specs.Prelude.{◌≡◌, ℕ, true, List, [], ◌∷◌, ◌++◌, map, Some, IsSome, Ok}
use Rattle.fts_tables.specs.Tables.{Tables}
use Rattle.fts_tables.specs.Step.{step}
use Rattle.fts_tables.specs.History.{tables_of}
use Rattle.fts_tables.specs.declared.rows.Outcome.TheVariants.{Stopped}
use Rattle.fts_tables.specs.declared.commands.Entry.{Entry}
use Rattle.fts_tables.specs.declared.commands.Command.TheVariants.{Claim}
use Rattle.fts_tables.specs.declared.commands.Answer.TheVariants.{Claimed}
use Rattle.fts_turnstile.specs.History.{Among, items_of}
use Rattle.fts_turnstile.specs.Passes.{PassView}
use Rattle.fts_keep.specs.Applied.{entry_by}
use Rattle.fts_workers.specs.declared.held.Held.{Held}
use Rattle.fts_shop.specs.Within.{is_cancel_asked}
use Rattle.fts_shop.specs.Looking.{NoneOf}
use Rattle.fts_shop.specs.Turns.{IsReady}
use Rattle.fts_ledger.specs.Claims.{IsOut, IsOwn, last_claim}

-- of all entries of a writer behind an opening list the last is a claim, and it was answered with this file at this attempt
pub record IsLastOwn (writer : ℕ) (opening entries : List Entry) (file attempt : ℕ) : Type 0 where
  pub earlier : List Entry
  pub now : ℕ
  pub word : ℕ
  pub later : List Entry
  pub split : entries ≡ earlier ++ entry_by writer (Claim now word) ∷ later
  pub after : Tables
  pub answered : step (tables_of (opening ++ earlier)) (Claim now word) ≡ Ok (after, Claimed file attempt)
  pub none_since : NoneOf writer later

-- a held file: its copy has ended; the writer claimed it, at its attempt, and added nothing since; and where the copy was called off, cancel was asked
pub record IsHeldFor (writer : ℕ) (opening entries : List Entry) (held : Held) : Type 0 where
  pub ended : IsSome held.outcome
  pub claimed : IsLastOwn writer opening entries held.file held.attempt
  pub stopped : held.outcome ≡ Some Stopped → is_cancel_asked (tables_of (opening ++ entries)) held.file ≡ true

-- so are all of these
abbrev pub AreHeldFor : ℕ → List Entry → List Entry → List Held → Type 0
AreHeldFor writer opening entries [] = Unit {0}
AreHeldFor writer opening entries (held ∷ others) = IsHeldFor writer opening entries held × AreHeldFor writer opening entries others

-- a bench fits a writer: it holds one file at most, which the writer claimed and hasn't reported, and each file that is out and whose last claim is the writer's
pub record Fits (writer : ℕ) (opening entries : List Entry) (held : List Held) : Type 0 where
  pub ready : IsReady held
  pub each : AreHeldFor writer opening entries held
  pub whole : (file : ℕ) → IsOut file (opening ++ entries) → IsOwn writer (last_claim file opening entries)
      → Among file (map (λ (one : Held). one.file) held)

-- a bench fits a pass, in what the pass has seen
abbrev pub FitsPass : PassView Entry → List Held → Type 0
FitsPass pass held = Fits pass.number pass.opening (items_of pass.seen) held
