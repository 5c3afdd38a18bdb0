-- What was read of a command's options.
use Rattle.std.proofs.Common.{map, drop, string_bytes}
use Rattle.std.specs.Option.{option_copied}
use Rattle.fts_words.proofs.Reading.{SoFar}
use Rattle.fts_words.proofs.reader.read_options.Given as goal

abbrev pub invariant-words : goal.invariant-words
invariant-words l = SoFar l.command (map string_bytes l.words) (drop l.word-index (map string_bytes l.words)) (option_copied l.waiting) l.numbers
