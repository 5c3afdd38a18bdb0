-- A disk that is only looked at stays quiet, and a load goes on from gate to gate.
use Rattle.std.proofs.Common.{◌≡◌, ℕ, ◌+◌, ◌≤◌, List, [], ◌∷◌, ◌++◌, length, drop, refl, sym, ◌∙◌, ap, subst}
use Rattle.std.proofs.lemmas.List.{drop_at, drop_all}
use Rattle.fts_disk.specs.Disk.{DiskState}
use Rattle.fts_journal.specs.Format.{front}
use Rattle.fts_journal.specs.Loading.{IsQuiet, HasRead, IsCut, IsCutOff, IsOpen}
use Rattle.fts_journal.specs.declared.span.Span.{Span}
use Rattle.fts_journal.proofs.Moments.{joins, weakened}
use Rattle.fts_journal.proofs.NextBody.{goes_past, cut_here}

-- two runs, one after the other
pub quiet_quiet : (old mid new : DiskState) → IsQuiet old mid → IsQuiet mid new → IsQuiet old new
quiet_quiet old mid new first second = record {
  seen = second.seen ∙ first.seen;
  images = λ c now. first.images c (second.images c now);
  moments = joins old mid new old.may_leave first.moments (weakened mid new mid.may_leave old.may_leave second.moments first.images);
}

-- what isn't read yet is what follows
rest_is : (content rest : List ℕ) (used : ℕ) (spans : List Span) → HasRead content rest used spans → rest ≡ drop used content
rest_is content rest used spans read =
    sym (drop_at (front read.bodies) rest used (sym read.end)) ∙ ap (λ (l : List ℕ). drop used l) (sym read.is)

module _ (content : List ℕ) (used : ℕ) (spans : List Span) (read : HasRead content (drop used content) used spans) where
  -- an open gate with a whole body is passed
  pub passes : (size : ℕ) (longer : List Span) → IsOpen used size (drop used content) → longer ≡ spans ++ record { start = used + 5; size = size } ∷ []
      → HasRead content (drop (used + (5 + size)) content) (used + (5 + size)) longer
  passes size longer opened pushed =
      let more = goes_past content (drop used content) opened.tail 1 used size spans longer read opened.is refl opened.size_is opened.bytes opened.whole pushed in
      subst (λ (l : List ℕ). HasRead content l (used + (5 + size)) longer) (rest_is content (drop (4 + size) opened.tail) (used + (5 + size)) longer more) more

  -- and so does one that isn't good
  pub cut_at : 9 ≤ length content → IsCutOff used (drop used content) → IsCut content used
  cut_at long cut = cut_here content (drop used content) used spans long read cut

  -- or the end of the bytes
  pub cut_at_end : 9 ≤ length content → length content ≤ used → IsCut content used
  cut_at_end long past = cut_at long (subst (IsCutOff used) (sym (drop_all used content past)) tt)
