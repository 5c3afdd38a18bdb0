-- What filling the room of a response took of a source, and what stands in it then.
use Rattle.std.specs.Prelude.{◌≡◌, ℕ, ◌+◌, ◌≤◌, List, [], length, Option, Result, Ok, Err}
use Rattle.std.specs.List.{concat}
use Rattle.fts_tables.specs.Counts.{Rose}
use Rattle.fts_wire.specs.Outside.{IsTakenOf, raised}
use Rattle.fts_wire.specs.Taken.{IsUsedUp}
use Rattle.fts_wire.specs.NextAnswers.{BeginsResponse, IsInside, AreReadInside}
use Rattle.fts_wire.specs.AnswerLook.{AnswerStands}
use Rattle.fts_wire.specs.declared.answer_look.AnswerHead.{AnswerHead}
use Rattle.fts_wire.specs.declared.answers.AnswerFault.{AnswerFault}
use Rattle.fts_wire.specs.declared.answers.AnswerFault.TheVariants.{BadResponse, EndsInside, SourceFailed}

-- these bytes are all that was taken, a piece with each read. So many reads more gave none.
pub record TakesAnswer (before : Option (List ℕ)) (bytes : List ℕ) (after : Option (List ℕ)) (old new more : ℕ) : Type 0 where
  pub pieces : List (List ℕ)
  pub inside : AreReadInside [] pieces
  pub from_source : IsTakenOf before after (concat pieces)
  pub bytes_are : bytes ≡ concat pieces
  pub counted : new ≡ raised old (length pieces + more)

-- how filling ended, by the bytes that were taken
abbrev pub FillsAnswer : List ℕ → Option (List ℕ) → ℕ → ℕ → Result AnswerHead AnswerFault → Type 0
FillsAnswer bytes left old new (Ok head) = AnswerStands bytes head × (head.size + head.body ≤ length bytes)
FillsAnswer bytes left old new (Err BadResponse) = BeginsResponse bytes → ⊥
FillsAnswer bytes left old new (Err EndsInside) = IsInside bytes × IsUsedUp left
FillsAnswer bytes left old new (Err SourceFailed) = IsInside bytes × Rose old new

-- how many reads gave no byte
abbrev pub empty_reads : Result AnswerHead AnswerFault → ℕ
empty_reads (Ok head) = 0
empty_reads (Err BadResponse) = 0
empty_reads (Err EndsInside) = 1
empty_reads (Err SourceFailed) = 1
