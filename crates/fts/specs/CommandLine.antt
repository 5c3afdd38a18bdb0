-- Which stand a command line names, which of its words are the command's, and which status the process ends with.
use Rattle.std.specs.Prelude.{ℕ, Bool, true, false, List, [], ◌∷◌, codes, string_bytes, String, Option, Some, None, Result, Ok, Err}
use Rattle.std.specs.declared.alloc.Global.{Global}
use Rattle.fts_tables.specs.declared.names.Memory.{Memory}
use Rattle.fts_words.specs.declared.asked.Asked.{Asked}
use Rattle.fts_words.specs.declared.asked.Asked.TheVariants.{Session, Show, Load, Serve, Submit, Query, Delete, Follow}
use Rattle.fts_top.specs.declared.tally.Ending.{Ending}

-- the stand in memory
abbrev pub in_memory : List ℕ
in_memory = codes "-"

-- the word behind the program's name; where there is none, the stand in memory
abbrev pub stand_of : List (String Global) → List ℕ
stand_of [] = in_memory
stand_of (program ∷ []) = in_memory
stand_of (program ∷ stand ∷ words) = string_bytes stand

-- the words behind the stand
abbrev pub words_of : List (String Global) → List (String Global)
words_of [] = []
words_of (program ∷ []) = []
words_of (program ∷ stand ∷ words) = words

-- what is asked for writes nothing to the journal: it looks at it, does not touch it, or is nothing at all
abbrev pub LooksAtMost : Option Asked → Type 0
LooksAtMost None = Unit {0}
LooksAtMost (Some Session) = ⊥
LooksAtMost (Some Show) = Unit {0}
LooksAtMost (Some (Load number)) = ⊥
LooksAtMost (Some (Serve port lanes connections)) = ⊥
LooksAtMost (Some (Submit port tries)) = Unit {0}
LooksAtMost (Some (Query port job tries)) = Unit {0}
LooksAtMost (Some Delete) = Unit {0}
LooksAtMost (Some (Follow port tries)) = ⊥

-- no deletion is asked for
abbrev pub DeletesNothing : Option Asked → Type 0
DeletesNothing None = Unit {0}
DeletesNothing (Some Session) = Unit {0}
DeletesNothing (Some Show) = Unit {0}
DeletesNothing (Some (Load number)) = Unit {0}
DeletesNothing (Some (Serve port lanes connections)) = Unit {0}
DeletesNothing (Some (Submit port tries)) = Unit {0}
DeletesNothing (Some (Query port job tries)) = Unit {0}
DeletesNothing (Some Delete) = ⊥
DeletesNothing (Some (Follow port tries)) = Unit {0}

-- a service is asked for
abbrev pub asks_service : Option Asked → Bool
asks_service (Some Session) = true
asks_service (Some (Load number)) = true
asks_service (Some (Serve port lanes connections)) = true
asks_service _ = false

-- the status of the process: that of its run, and 1 where there was no memory to begin one
abbrev pub exit_status_of : Result Ending Memory → ℕ
exit_status_of (Ok ending) = ending.status
exit_status_of (Err memory) = 1
