-- A command that added nothing: keep and bench are over the list that they were over.
use Rattle.std.proofs.Common.{ap, sym, ◌∙◌, subst, ℕ, List, [], ◌++◌, Option}
use Rattle.fts_tables.specs.Coming.{Coming}
use Rattle.fts_tables.specs.declared.commands.Entry.{Entry}
use Rattle.fts_disk.specs.Disk.{DiskState}
use Rattle.fts_keep.specs.Keeps.{KeepData}
use Rattle.fts_keep.specs.Applied.{KeepsList}
use Rattle.fts_workers.specs.Benches.{BenchData}
use Rattle.fts_workers.specs.Copies.{copies_kept}
use Rattle.fts_workers.specs.Rounds.{Walk, IsWorkedOver}
use Rattle.fts_workers.specs.Steps.{stand, walk_of, MakesNoCopy}
use Rattle.fts_workers.proofs.Accepted.{list_same}
use Rattle.fts_workers.proofs.Copied.{none_more}

module _ {D : Type 0} (state : D → DiskState) (faults : D → ℕ) (Goes : Walk → Walk → Type 0) (old new : KeepData D) (bench : BenchData)
    (moments later words words_later : Option Coming) (keeps : KeepsList state old new) where
  -- the list is as it was, with nothing behind it
  pub over_still : (entries : List Entry) → IsWorkedOver old bench entries → IsWorkedOver new bench (entries ++ [])
  over_still entries over = subst (λ all. IsWorkedOver new bench all) (sym (none_more entries))
      (record { list = list_same state old new entries keeps over.list; held = over.held })

  -- so this is a part that made no copy and added nothing
  pub stays : ((entries : List Entry) → IsWorkedOver old bench entries
      → Goes (walk_of faults entries (stand old bench moments words)) (walk_of faults (entries ++ []) (stand new bench later words_later)))
      → MakesNoCopy state faults Goes (stand old bench moments words) (stand new bench later words_later)
  stays goes = record {
    walks = record {
      added = [];
      walked = goes;
      over = over_still;
      tables = keeps.tables;
      told = keeps.told;
      listed = keeps.entries ∙ sym (none_more old.entries);
    };
    balance = ap (λ t. copies_kept t bench.held) (sym keeps.tables);
  }
