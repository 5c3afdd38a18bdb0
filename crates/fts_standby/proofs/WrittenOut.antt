-- Worlds that are written out.
use Rattle.std.proofs.Common.{◌≡◌, refl, true, false, Some, None, [], ◌∷◌}
use Rattle.fts_tables.specs.declared.commands.Entry.{Entry}
use Rattle.fts_tables.specs.declared.commands.Command.TheVariants.{CancelJob}
use Rattle.fts_record.specs.Spelling.{spelled}
use Rattle.fts_standby.specs.Worlds.{Gives, Refuses, Appended, Doubted, started, Appends, Answers, Hands, Settles, Restarts, reached}

abbrev first : Entry
first = record { writer = 0; command = CancelJob 5 1 }

abbrev second : Entry
second = record { writer = 0; command = CancelJob 6 2 }

-- six steps: a response is handed twice, and counts once; the second body is in doubt, and nothing is taken meanwhile
six-steps : reached (started (first ∷ second ∷ [])) (Answers 0 ∷ Hands 0 true Appended ∷ Hands 0 true Appended ∷ Answers 1 ∷ Hands 1 true Doubted ∷ Hands 1 true Appended ∷ []) ≡ record {
  primary = first ∷ second ∷ [];
  made = Gives 0 (spelled first) 2 ∷ Gives 1 (spelled second) 2 ∷ [];
  standby = record { list = spelled first ∷ []; doubt = Some (spelled second) };
}
six-steps = refl

-- the first response is cut, then handed whole; the restart finds the body that was in doubt
caught-up : reached (started (first ∷ [])) (Appends second ∷ Answers 0 ∷ Hands 0 false Appended ∷ Answers 1 ∷ Hands 1 true Appended ∷ Hands 0 true Appended ∷ Hands 0 true Appended ∷ Hands 1 true Doubted ∷ Restarts true ∷ []) ≡ record {
  primary = first ∷ second ∷ [];
  made = Gives 0 (spelled first) 2 ∷ Gives 1 (spelled second) 2 ∷ [];
  standby = record { list = spelled first ∷ spelled second ∷ []; doubt = None };
}
caught-up = refl

-- a restart from an image without it, and a doubt that ends with the list kept
forgotten : (reached (started (first ∷ [])) (Answers 0 ∷ Hands 0 true Doubted ∷ Restarts false ∷ [])).standby ≡ record { list = []; doubt = None }
forgotten = refl

settled : (reached (started (first ∷ [])) (Answers 0 ∷ Hands 0 true Doubted ∷ Settles ∷ Hands 0 true Appended ∷ [])).standby ≡ record { list = spelled first ∷ []; doubt = None }
settled = refl

-- a number past the end is answered so, and that is no body
past-the-end : reached (started []) (Answers 0 ∷ Hands 0 true Appended ∷ []) ≡ record { primary = []; made = Refuses 404 ∷ []; standby = record { list = []; doubt = None } }
past-the-end = refl
