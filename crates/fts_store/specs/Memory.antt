-- What is known of a store in memory.
use Rattle.std.specs.Prelude.{◌≡◌, ℕ, ◌+◌, ◌-◌, ◌==◌, min, Bool, true, false, if◌then◌else◌, List, [], ◌∷◌, length, take, Result, IsErr, Contains}
use Rattle.std.specs.List.{list_any}
use Rattle.fts_store.specs.Store.{StoreState}
use Rattle.fts_store.specs.Held.{held_files}
use Rattle.fts_store.specs.declared.memory.MemoryStore.{MemoryStore}

-- it has no number
abbrev pub is_empty : List ℕ → Bool
is_empty [] = true
is_empty (n ∷ ns) = false

-- it tells its files, and is faithful where no append is listed as losing a byte
abbrev pub memory_state : MemoryStore → StoreState
memory_state store = record { told = true; faithful = is_empty store.drop.items; files = held_files store.held }

-- how often it failed
abbrev pub memory_faults : MemoryStore → ℕ
memory_faults store = store.faults

-- the number of the next call, from 1; a number at the end of its type stays there
abbrev pub next_call : MemoryStore → ℕ
next_call store = min (store.number + 1) 18446744073709551615

-- the number of the next append, from 1; likewise
abbrev pub next_append : MemoryStore → ℕ
next_append store = min (store.appends + 1) 18446744073709551615

-- a call has the next number, and fails where that is listed
pub record Numbered {T E : Type 0} (old new : MemoryStore) (result : Result T E) : Type 0 where
  pub number : new.number ≡ next_call old
  pub listed : Contains old.fail.items (next_call old) → IsErr result
  pub fail : new.fail.items ≡ old.fail.items
  pub drop : new.drop.items ≡ old.drop.items

-- a call that takes no memory fails where its number is listed, and nowhere else
abbrev pub FailsOnlyListed : {T E : Type 0} → MemoryStore → Result T E → Type 0
FailsOnlyListed old result = IsErr result → Contains old.fail.items (next_call old)

-- all but the last byte
abbrev pub but_last : List ℕ → List ℕ
but_last bytes = take (length bytes - 1) bytes

-- what an append of this number leaves of its bytes: all, or all but the last where it is listed
abbrev pub kept_bytes : List ℕ → ℕ → List ℕ → List ℕ
kept_bytes listed number bytes = if list_any (λ n. n == number) listed then but_last bytes else bytes

-- the numbers of the calls that fail
abbrev pub failing_calls : MemoryStore → List ℕ
failing_calls store = store.fail.items

-- the numbers of the appends that lose their last byte
abbrev pub losing_appends : MemoryStore → List ℕ
losing_appends store = store.drop.items

-- the number of the last call
abbrev pub calls_made : MemoryStore → ℕ
calls_made store = store.number

-- the number of the last append
abbrev pub appends_made : MemoryStore → ℕ
appends_made store = store.appends
