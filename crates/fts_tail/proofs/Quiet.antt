-- A disk that is only looked at stays quiet, call after call.
use Rattle.std.proofs.Common.{refl, ◌∙◌, inl, inr, ⊎_elim, ℕ, ◌≤◌, arith}
use Rattle.fts_tables.specs.Counts.{Rose}
use Rattle.fts_disk.specs.Disk.{DiskState, IsLawful, Looks}
use Rattle.fts_journal.specs.Loading.{IsQuiet}

-- no call at all
pub quiet_same : (disk : DiskState) → IsLawful disk → IsQuiet disk disk
quiet_same disk lawful = record {
  seen = refl;
  images = λ c now. now;
  moments = record { later = omega arith; each = λ c left. lawful.only_now c left; before = λ t c le left. inl left };
}

-- one look
pub quiet_look : (old new : DiskState) → IsLawful old → Looks old new → IsQuiet old new
quiet_look old new lawful looks = record {
  seen = looks.seen;
  images = looks.crash;
  moments = record {
    later = looks.time.later;
    each = λ c left. ⊎_elim (λ past. lawful.only_now c past) (λ now. looks.crash c now) (looks.time.nothing_else old.moment c (omega arith) left);
    before = λ t c le left. ⊎_elim (λ past. inl past) (λ now. inr (looks.crash c now)) (looks.time.nothing_else t c le left);
  };
}

-- two runs, one after the other
pub quiet_quiet : (old mid new : DiskState) → IsQuiet old mid → IsQuiet mid new → IsQuiet old new
quiet_quiet old mid new first second = record {
  seen = second.seen ∙ first.seen;
  images = λ c now. first.images c (second.images c now);
  moments = record {
    later = omega (arith, first.moments.later, second.moments.later);
    each = λ c left. ⊎_elim (λ past. first.moments.each c past) (λ now. first.images c now) (second.moments.before old.moment c first.moments.later left);
    before = λ t c le left. ⊎_elim (λ past. first.moments.before t c le past) (λ now. inr (first.images c now))
        (second.moments.before t c (omega (arith, le, first.moments.later)) left);
  };
}

-- a count that rose later rose
pub rose_later : (old mid new : ℕ) → old ≤ mid → Rose mid new → Rose old new
rose_later old mid new keeps rose = ⊎_elim (λ more. inl (omega arith)) (λ most. inr most) rose
