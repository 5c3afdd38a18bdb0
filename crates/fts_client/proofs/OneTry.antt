-- One try over a line that was given: what its calls say of the line, put together.
use Rattle.std.proofs.Common.{◌≡◌, inl, inr, ℕ, ◌≤◌, List, Option, Some, None, Result, Ok, Err, ap, sym, ◌∙◌, subst, arith}
use Rattle.fts_tables.specs.Counts.{Rose}
use Rattle.fts_wire.specs.Outside.{Beside, Side, side_at, IsLine}
use Rattle.fts_wire.specs.Response.{Sends}
use Rattle.fts_wire.specs.NextAnswers.{AnswerData, ReadsAnswer, AnswerCause}
use Rattle.fts_client.specs.Links.{LinkData, Dials, with_one_back, CountsLine}
use Rattle.fts_client.specs.Tries.{NotSent, Sent, IsByLink, IsTried}
use Rattle.fts_wire.specs.declared.answers.AnswerFault.{AnswerFault}
use Rattle.fts_wire.specs.declared.answers.AnswerFault.TheVariants.{BadResponse, EndsInside, SourceFailed}
use Rattle.fts_client.specs.declared.link.LinkFailed.{LinkFailed}

-- what was sent doesn't depend on how a failure is told
sent_so : (E F : Type 0) (held now : Option (List ℕ)) (bytes : List ℕ) → Sends {E = E} held now bytes (Ok tt) → Sends {E = F} held now bytes (Ok tt)
sent_so E F None now bytes sent = sent
sent_so E F (Some held) None bytes sent = sent
sent_so E F (Some held) (Some now) bytes sent = sent

cut_so : (E F : Type 0) (held now : Option (List ℕ)) (bytes : List ℕ) (fault : E) (other : F) → Sends held now bytes (Err fault) → Sends held now bytes (Err other)
cut_so E F None now bytes fault other sent = sent
cut_so E F (Some held) None bytes fault other sent = sent
cut_so E F (Some held) (Some now) bytes fault other sent = sent

-- a count that rose isn't 0
rose_some : (old new : ℕ) → Rose old new → 1 ≤ new
rose_some old new (inl less) = omega (arith, less)
rose_some old new (inr end) = omega (arith, end)

-- a count rose, where it rose behind another call
rose_behind : (first old new : ℕ) → first ≤ old → Rose old new → Rose first new
rose_behind first old new keeps (inl less) = inl (omega (arith, keeps, less))
rose_behind first old new keeps (inr end) = inr end

-- a read fails only where the source has failed
read_failed : (result : Result AnswerData AnswerFault) (old new : ℕ) → AnswerCause result old new → IsByLink (Sent result) → 1 ≤ new
read_failed (Ok answer) old new cause by = absurd by
read_failed (Err BadResponse) old new cause by = absurd by
read_failed (Err EndsInside) old new cause by = absurd by
read_failed (Err SourceFailed) old new cause by = rose_some old new cause

module _ {L : Type 0} (read written : Side L) (line : IsLine read written) (port : ℕ) (request : List ℕ) (old given new : LinkData L) (faults_old faults_given faults_new : ℕ)
    (before : L) (dials : Dials {E = LinkFailed} port old given (Ok before)) (keeps : faults_old ≤ faults_given) where
  -- where a call of one side leaves the other, that one has read or holds what it had
  read_stays : (from to : L) → written.beside to ≡ written.beside from → side_at read to ≡ side_at read from
  read_stays from to same = sym (line.as_sink to) ∙ (same ∙ line.as_sink from)

  written_stays : (from to : L) → read.beside to ≡ read.beside from → side_at written to ≡ side_at written from
  written_stays from to same = sym (line.as_source to) ∙ (same ∙ line.as_source from)

  -- the request was written whole, and a response was read, or none
  pub tried_whole : (sent after : L) (result : Result AnswerData AnswerFault) (E : Type 0) → Sends {E = E} (written.bytes before) (written.bytes sent) request (Ok tt)
      → written.beside sent ≡ written.beside before → ReadsAnswer (read.bytes sent) (read.bytes after) (read.reads sent) (read.reads after) result
      → AnswerCause result (read.faults sent) (read.faults after) → read.beside after ≡ read.beside sent → new ≡ with_one_back given after
      → CountsLine faults_given faults_new (read.faults after) (written.faults after)
      → IsTried read written port request old new faults_old faults_new (Sent result)
  tried_whole sent after result E sends beside reads cause other back counts =
      let unread = read_stays before sent beside in
      let unwritten = written_stays sent after other in
      let keeps_on = counts.keeps in
      record {
        link = record {
          before = before;
          after = after;
          given = given;
          dials = dials;
          line = (
            subst (λ bytes. Sends {E = Unit {0}} (written.bytes before) bytes request (Ok tt)) (sym (ap (λ (side : Beside). side.bytes) unwritten))
                (sent_so E (Unit {0}) (written.bytes before) (written.bytes sent) request sends),
            subst (λ bytes. ReadsAnswer bytes (read.bytes after) (read.reads before) (read.reads after) result) (ap (λ (side : Beside). side.bytes) unread)
                (subst (λ count. ReadsAnswer (read.bytes sent) (read.bytes after) count (read.reads after) result) (ap (λ (side : Beside). side.reads) unread) reads),
          );
          back = back;
        };
        keeps = omega (arith, keeps, keeps_on);
        cause = λ by. rose_behind faults_old faults_given faults_new keeps
            (counts.rises (inl (read_failed result (read.faults sent) (read.faults after) cause by)));
      }

  -- a write failed
  pub tried_in_part : (after : L) (E : Type 0) (fault : E) → Sends (written.bytes before) (written.bytes after) request (Err fault)
      → Rose (written.faults before) (written.faults after) → written.beside after ≡ written.beside before → new ≡ with_one_back given after
      → CountsLine faults_given faults_new (read.faults after) (written.faults after)
      → IsTried read written port request old new faults_old faults_new NotSent
  tried_in_part after E fault sends rose beside back counts =
      let unread = read_stays before after beside in
      let some = rose_some (written.faults before) (written.faults after) rose in
      let keeps_on = counts.keeps in
      record {
        link = record {
          before = before;
          after = after;
          given = given;
          dials = dials;
          line = (
            cut_so E (Unit {0}) (written.bytes before) (written.bytes after) request fault tt sends,
            record { bytes = ap (λ (side : Beside). side.bytes) unread; reads = ap (λ (side : Beside). side.reads) unread },
            some,
          );
          back = back;
        };
        keeps = omega (arith, keeps, keeps_on);
        cause = λ by. rose_behind faults_old faults_given faults_new keeps (counts.rises (inr some));
      }
