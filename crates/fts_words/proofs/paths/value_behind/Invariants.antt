-- No value was found in the words that were read: it is that of the words that are left.
use Rattle.std.proofs.Common.{◌≡◌, None, map, drop, string_bytes}
use Rattle.std.specs.Option.{option_copied}
use Rattle.fts_words.specs.Words.{value_behind}
use Rattle.fts_words.proofs.paths.value_behind.Given as goal

abbrev pub invariant-loop-word : goal.invariant-loop-word
invariant-loop-word l = value_behind l.wanted None (map string_bytes l.words) ≡ value_behind l.wanted (option_copied l.waiting) (drop l.word-index (map string_bytes l.words))
