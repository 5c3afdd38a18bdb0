-- The two loops of a round: what was done so far, and one step more.
use Rattle.std.proofs.Common.{◌≡◌, arith, subst, true, false, ℕ, ◌≤◌, List, ◌++◌, length, Option, None, Result, Ok, Err}
use Rattle.fts_tables.specs.Coming.{Coming}
use Rattle.fts_tables.specs.declared.commands.Entry.{Entry}
use Rattle.fts_disk.specs.Disk.{DiskState}
use Rattle.fts_store.specs.Calls.{Call}
use Rattle.fts_store.specs.Store.{StoreState}
use Rattle.fts_keep.specs.Keeps.{KeepData}
use Rattle.fts_workers.specs.Benches.{BenchData, KeepsOne, calm_end, kept_of}
use Rattle.fts_workers.specs.Rounds.{IsWorkedOver}
use Rattle.fts_workers.specs.Steps.{KeepsOn, MakesCopies, MakesNoCopy, Stand, WorksOn, Fills, FillsOn, stand, walk_of}
use Rattle.fts_workers.specs.declared.ends.RoundEnd.{RoundEnd}
use Rattle.fts_workers.proofs.Parts.{copies_none, copies_then, fills_end, fills_then, full_fills, no_copy_then, nothing_done, out-held, works_then}

-- files were worked off so far
pub record WorkedOff {D E : Type 0} (state : D → DiskState) (faults : D → ℕ) (store_state : E → StoreState) (calls : E → Option (List Call))
    (store_faults : E → ℕ) (keep now : KeepData D) (bench bench_now : BenchData) (store store_now : E) (moments later : Option Coming) : Type 0 where
  pub order : (entries : List Entry) × IsWorkedOver now bench_now entries
  pub kept : KeepsOne bench_now.held
  pub places : bench_now.places ≡ bench.places
  pub part : (words : Option Coming) (workers : ℕ) → MakesCopies state faults store_state calls store_faults (WorksOn workers (Ok tt))
      (stand keep bench moments words) (stand now bench_now later words) store store_now
  pub keeps : KeepsOn state faults keep now

-- files were claimed so far
pub record FilledUp {D : Type 0} (state : D → DiskState) (faults : D → ℕ) (keep now : KeepData D) (bench bench_now : BenchData)
    (moments later words words_later : Option Coming) : Type 0 where
  pub order : (entries : List Entry) × IsWorkedOver now bench_now entries
  pub none : kept_of bench_now.held ≡ None
  pub places : bench_now.places ≡ bench.places
  pub few : length bench_now.held ≤ bench_now.places
  pub part : MakesNoCopy state faults (FillsOn bench.places (Ok true)) (stand keep bench moments words) (stand now bench_now later words_later)
  pub keeps : KeepsOn state faults keep now

module _ {D E : Type 0} (state : D → DiskState) (faults : D → ℕ) (store_state : E → StoreState) (calls : E → Option (List Call)) (store_faults : E → ℕ)
  where
    -- before the first file nothing was done
    pub worked_none : (keep : KeepData D) (bench : BenchData) (store : E) (moments words : Option Coming) (workers : ℕ)
        → MakesCopies state faults store_state calls store_faults (WorksOn workers (Ok tt)) (stand keep bench moments words) (stand keep bench moments words)
        store store
    worked_none keep bench store moments words workers =
        let at : Stand D = stand keep bench moments words in
        copies_none state faults store_state calls store_faults (WorksOn workers (Ok tt)) at at store
        (nothing_done state faults (WorksOn workers (Ok tt)) at (λ entries. λ end last rest. rest))

    -- one file more
    pub worked_more : (workers : ℕ) (result : Result (Unit {0}) RoundEnd) (one two three : Stand D) (store between after : E)
        → MakesCopies state faults store_state calls store_faults (WorksOn workers (Ok tt)) one two store between
        → MakesCopies state faults store_state calls store_faults (WorksOn workers result) two three between after
        → MakesCopies state faults store_state calls store_faults (WorksOn workers result) one three store after
    worked_more workers result one two three store between after first second =
        copies_then state faults (WorksOn workers (Ok tt)) (WorksOn workers result) (WorksOn workers result) one two three
        (λ walk last entries over. works_then workers result walk
        (walk_of faults entries two) last) store_state calls store_faults store between after first second

module _ {D : Type 0} (state : D → DiskState) (faults : D → ℕ) where
  -- before the first claim nothing was done
  pub filled_none : (places : ℕ) (at : Stand D) → MakesNoCopy state faults (FillsOn places (Ok true)) at at
  filled_none places at = nothing_done state faults (FillsOn places (Ok true)) at (λ entries. λ end last rest. rest)

  -- one claim more
  pub filled_more : (places : ℕ) (one two three : Stand D) → MakesNoCopy state faults (FillsOn places (Ok true)) one two
      → MakesNoCopy state faults (FillsOn places (Ok true)) two three
      → MakesNoCopy state faults (FillsOn places (Ok true)) one three
  filled_more places one two three first second =
      no_copy_then state faults (FillsOn places (Ok true)) (FillsOn places (Ok true)) (FillsOn places (Ok true)) one two three
      (λ walk last entries over. fills_then places (Ok true) walk (walk_of faults entries two) last) first second

  -- the claims behind which it stopped
  pub filled_stops : (places : ℕ) (end : RoundEnd) (one two three : Stand D) → MakesNoCopy state faults (FillsOn places (Ok true)) one two
      → MakesNoCopy state faults (FillsOn places (Err end)) two three
      → MakesNoCopy state faults (Fills places end) one three
  filled_stops places end one two three first second =
      no_copy_then state faults (FillsOn places (Ok true)) (FillsOn places (Err end)) (Fills places end) one two three
      (λ walk last entries over. fills_then places (Err end) walk (walk_of faults entries two) last) first second

  -- the claims behind which no row was eligible
  pub filled_idle : (places : ℕ) (one two three : Stand D) → MakesNoCopy state faults (FillsOn places (Ok true)) one two
      → MakesNoCopy state faults (FillsOn places (Ok false)) two three
      → MakesNoCopy state faults (Fills places (calm_end (length three.bench.held))) one three
  filled_idle places one two three first second =
      let end = calm_end (length three.bench.held) in
      no_copy_then state faults (FillsOn places (Ok true)) (Fills places end) (Fills places end) one two three
      (λ walk last entries over. fills_end places end walk (walk_of faults entries two) last) first (record {
        walks = record {
          added = second.walks.added;
          walked = λ entries over. subst (λ n. Fills places (calm_end n) (walk_of faults entries two) (walk_of faults (entries ++ second.walks.added) three))
              (out-held state faults three (entries ++ second.walks.added) (second.walks.over entries over)) (second.walks.walked entries over);
          over = second.walks.over;
          tables = second.walks.tables;
          told = second.walks.told;
          listed = second.walks.listed;
        };
        balance = second.balance;
      })

  -- the claims that filled the bench
  pub filled_full : (places : ℕ) (one two : Stand D) → places ≤ length two.bench.held → MakesNoCopy state faults (FillsOn places (Ok true)) one two
      → MakesNoCopy state faults (Fills places (calm_end (length two.bench.held))) one two
  filled_full places one two full part = record {
    walks = record {
      added = part.walks.added;
      walked = λ entries over.
          let now = walk_of faults (entries ++ part.walks.added) two in
          let same = out-held state faults two (entries ++ part.walks.added) (part.walks.over entries over) in
          part.walks.walked entries over (calm_end (length two.bench.held)) now
          (subst (λ n. Fills places (calm_end n) now now) same (full_fills places now (omega (arith, same, full))));
      over = part.walks.over;
      tables = part.walks.tables;
      told = part.walks.told;
      listed = part.walks.listed;
    };
    balance = part.balance;
  }
