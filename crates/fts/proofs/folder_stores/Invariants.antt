-- As many stores as turns so far.
use Rattle.std.proofs.Common.{◌≡◌, length}
use Rattle.fts.proofs.folder_stores.Given as goal

abbrev pub invariant-loop : goal.invariant-loop
invariant-loop l = record { count : length l.stores.items ≡ l.counter }
