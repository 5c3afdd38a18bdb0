-- What is read of how a copy ended.
use Rattle.std.specs.Prelude.{ℕ, Bool, List, [], Option, Some, None, is_some, unwrap_or, codes}
use Rattle.fts_tables.specs.declared.rows.Outcome.{Outcome}
use Rattle.fts_tables.specs.declared.rows.Outcome.TheVariants.{Verified, SourceMissing, DestinationExists, SourceSize, SourceDigest, ReadBackDiffers, StoreFailed, Stopped}

-- the size of a verified copy
abbrev pub size_of : Outcome → Option ℕ
size_of (Verified size digest) = Some size
size_of _ = None

-- the file was copied and read back
abbrev pub is_verified : Outcome → Bool
is_verified outcome = is_some (size_of outcome)

-- the bytes that were copied for good: the size of a verified file, and none else
abbrev pub bytes_by : Outcome → ℕ
bytes_by outcome = unwrap_or (size_of outcome) 0

-- the word for an outcome, without its number or digest; none for a verified copy
abbrev pub outcome_word : Outcome → List ℕ
outcome_word (Verified size digest) = []
outcome_word SourceMissing = codes "source missing"
outcome_word DestinationExists = codes "destination exists"
outcome_word (SourceSize seen) = codes "source size"
outcome_word (SourceDigest seen) = codes "source digest"
outcome_word (ReadBackDiffers at) = codes "read back differs"
outcome_word StoreFailed = codes "store failed"
outcome_word Stopped = codes "stopped"
