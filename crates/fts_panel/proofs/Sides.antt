-- A line is read and written: reading leaves what was written, and writing leaves what is to be read.
use Rattle.std.proofs.Common.{◌≡◌, ap, sym, ◌∙◌}
use Rattle.fts_wire.specs.Outside.{Side, Beside, IsLine}

module _ {L : Type 0} (read written : Side L) (law : IsLine read written) where
  -- a read leaves what was written, and the count of failed writes
  pub written_stays : (before after : L) → read.beside after ≡ read.beside before → written.bytes after ≡ written.bytes before
  written_stays before after alone = ap (λ (b : Beside). b.bytes) (sym (law.as_source after) ∙ alone ∙ law.as_source before)

  pub write_faults_stay : (before after : L) → read.beside after ≡ read.beside before → written.faults after ≡ written.faults before
  write_faults_stay before after alone = ap (λ (b : Beside). b.faults) (sym (law.as_source after) ∙ alone ∙ law.as_source before)

  -- a write leaves what is to be read, and how often that was tried
  pub left_stays : (before after : L) → written.beside after ≡ written.beside before → read.bytes after ≡ read.bytes before
  left_stays before after alone = ap (λ (b : Beside). b.bytes) (sym (law.as_sink after) ∙ alone ∙ law.as_sink before)

  pub reads_stay : (before after : L) → written.beside after ≡ written.beside before → read.reads after ≡ read.reads before
  reads_stay before after alone = ap (λ (b : Beside). b.reads) (sym (law.as_sink after) ∙ alone ∙ law.as_sink before)
