-- A round as a whole: its parts joined, and what follows from its walk.
use Rattle.std.proofs.Common.{◌≡◌, arith, ap, refl, sym, ◌∙◌, subst, ℕ, ◌≤◌, List, [], ◌++◌, map, length, Option, Some, None, Ok}
use Rattle.std.specs.Prelude.{◌==◌, count_by, IsTrue}
use Rattle.fts_tables.specs.Counts.{Rose}
use Rattle.fts_tables.specs.Coming.{Coming}
use Rattle.fts_tables.specs.Tables.{Tables, is_active, row_at}
use Rattle.fts_tables.specs.Limits.{has_known_ends}
use Rattle.fts_tables.specs.Laws.{AreTheActive}
use Rattle.fts_tables.specs.Step.{step}
use Rattle.fts_tables.specs.History.{tables_of, out_of_list, claimed_file, IsLegal}
use Rattle.fts_tables.specs.declared.rows.FileRow.{FileRow}
use Rattle.fts_tables.specs.declared.commands.Entry.{Entry}
use Rattle.fts_tables.specs.declared.commands.Command.TheVariants.{Claim}
use Rattle.fts_disk.specs.Disk.{DiskState}
use Rattle.fts_store.specs.Calls.{Call}
use Rattle.fts_store.specs.Store.{StoreState}
use Rattle.fts_keep.specs.Keeps.{KeepData}
use Rattle.fts_workers.specs.Benches.{BenchData, EndsHolding, HoldsActive, KeepsOne, attempt_of, held_as, kept_of, newly_held}
use Rattle.fts_workers.specs.Rounds.{IsFullAt, IsWorkedOver, MakesRound, claims_among}
use Rattle.fts_workers.specs.Steps.{Stand, ExpiresAndFills, MakesCopies, MakesNoCopy, RoundsTo, WorksOn, stand, walk_of}
use Rattle.fts_workers.specs.declared.held.Held.{Held}
use Rattle.fts_workers.specs.declared.ends.RoundEnd.{RoundEnd}
use Rattle.fts_workers.specs.declared.ends.RoundEnd.TheVariants.{DiskFailed}
use Rattle.fts_workers.proofs.Counted.{claims_more, fresh, newly-fresh, nothing_kept, works_claimed}
use Rattle.fts_workers.proofs.Ended.{round_full, round_holding, works_cause}
use Rattle.fts_workers.proofs.FirstCopied.{all_keeps}
use Rattle.fts_workers.proofs.OutFiles.{attempts-held_as, files-held_as}
use Rattle.fts_workers.proofs.Parts.{copies_none, copies_then, out-held, round_expires}

-- where nothing is kept of what is held over a list, nothing is kept of any
pub none_keeps : (entries : List Entry) (held : List Held) → held ≡ held_as (tables_of entries) (kept_of held) (out_of_list entries) → kept_of held ≡ None
    → KeepsOne held
none_keeps entries held over none =
    subst KeepsOne (sym (over ∙ ap (λ k. held_as (tables_of entries) k (out_of_list entries)) none)) (all_keeps (tables_of entries) None
    (out_of_list entries) tt)

-- what is held over a list are the ACTIVE files
pub active_over : {D : Type 0} (outs : (entries : List Entry) → IsLegal entries → AreTheActive (out_of_list entries) (tables_of entries).rows)
    (ends : (entries : List Entry) (id : ℕ) (row : FileRow) → IsLegal entries → row_at (tables_of entries).rows id ≡ Some row
    → IsTrue (is_active row.state) → IsTrue (has_known_ends (tables_of entries).settings row))
    (keep : KeepData D) (bench : BenchData) (entries : List Entry) → IsWorkedOver keep bench entries → KeepsOne bench.held
    → length bench.held ≤ bench.places → HoldsActive keep.tables bench
active_over outs ends keep bench entries over keeps few =
    let tables = tables_of entries in
    let kept = kept_of bench.held in
    let out = out_of_list entries in
    subst (λ (t : Tables). HoldsActive t bench) (sym over.list.folded) (record {
      files = subst (λ files. AreTheActive files tables.rows) (sym (ap (map (λ (held : Held). held.file)) over.held ∙ files-held_as tables kept out))
          (outs entries over.list.legal);
      attempts = ap (map (λ (held : Held). held.attempt)) over.held
          ∙ attempts-held_as tables kept out
          ∙ sym (ap (map (λ (held : Held). attempt_of tables held.file)) over.held);
      kept = keeps;
      room = few;
      ends = λ id row at active. ends entries id row over.list.legal at active;
    })

module _ {D E : Type 0} (state : D → DiskState) (faults : D → ℕ) (store_state : E → StoreState) (calls : E → Option (List Call)) (store_faults : E → ℕ)
    (workers : ℕ) (end : RoundEnd) where
  -- what is held was worked off, and then an expiry was tried and claims were made
  pub round_joined : (one two three : Stand D) (store store_now : E) → two.bench.held ≡ []
      → MakesCopies state faults store_state calls store_faults (WorksOn workers (Ok tt)) one two store store_now
      → MakesNoCopy state faults (ExpiresAndFills workers end) two three
      → MakesCopies state faults store_state calls store_faults (RoundsTo workers end) one three store store_now
  round_joined one two three store store_now none first second =
      copies_then state faults (WorksOn workers (Ok tt)) (ExpiresAndFills workers end) (RoundsTo workers end) one two three
      (λ walk last entries over works expires. works end last
      (round_expires workers end (walk_of faults entries two) last (out-held state faults two entries over ∙ ap length none) expires))
      store_state calls store_faults store store_now store_now first
      (copies_none state faults store_state calls store_faults (ExpiresAndFills workers end) two three store_now second)

module _ {D E : Type 0} (state : D → DiskState) (faults : D → ℕ) (store_state : E → StoreState) (calls : E → Option (List Call)) (store_faults : E → ℕ)
    (old new : KeepData D) (bench bench_now : BenchData) (store store_now : E) (moments later words words_later : Option Coming) (end : RoundEnd)
    (part : MakesCopies state faults store_state calls store_faults (RoundsTo bench.places end) (stand old bench moments words)
    (stand new bench_now later words_later) store store_now) where
  module _ (entries : List Entry) (over : IsWorkedOver old bench entries) where
    -- its claims are the files that are then held newly
    round_claimed : (outs : (list : List Entry) → IsLegal list → AreTheActive (out_of_list list) (tables_of list).rows)
        (was_in : (list : List Entry) (now word file : ℕ) → IsLegal list → claimed_file (step (tables_of list) (Claim now word)) ≡ Some file
        → count_by (λ other. other == file) (out_of_list list) ≡ 0) → claims_among part.walks.added ≡ newly_held bench_now.held
    round_claimed outs was_in =
        let held = out-held state faults (stand new bench_now later words_later) (entries ++ part.walks.added) (part.walks.over entries over) in
        let all = works_claimed outs was_in bench.places (out_of_list entries) (walk_of faults entries (stand old bench moments words)) end
        (walk_of faults (entries ++ part.walks.added) (stand new bench_now later words_later)) over.list.legal refl
        (nothing_kept (tables_of entries) bench.held (out_of_list entries) over.held) (part.walks.walked entries over) in
        let newly : newly_held bench_now.held ≡ fresh (kept_of bench_now.held) (length (out_of_list (entries ++ part.walks.added))) =
        newly-fresh bench_now.held ∙ ap (fresh (kept_of bench_now.held)) (sym held) in
        omega (arith, claims_more entries part.walks.added, all, newly)

    -- it is a round
    pub round_made : (outs : (list : List Entry) → IsLegal list → AreTheActive (out_of_list list) (tables_of list).rows)
        (was_in : (list : List Entry) (now word file : ℕ) → IsLegal list → claimed_file (step (tables_of list) (Claim now word)) ≡ Some file
        → count_by (λ other. other == file) (out_of_list list) ≡ 0)
        → MakesRound state faults store_state calls store_faults old new bench bench_now store store_now moments later words words_later end
    round_made outs was_in = record {
      added = part.walks.added;
      round = part.walks.walked;
      over = part.walks.over;
      tables = part.walks.tables;
      listed = part.walks.listed;
      claimed = round_claimed outs was_in;
      follows = part.follows;
    }

    -- what is held then says how it ended
    pub round_ends : EndsHolding bench_now.held end
    round_ends = round_holding bench.places bench_now.held end (walk_of faults entries (stand old bench moments words))
        (walk_of faults (entries ++ part.walks.added) (stand new bench_now later words_later))
        (out-held state faults (stand new bench_now later words_later) (entries ++ part.walks.added) (part.walks.over entries over))
        (part.walks.walked entries over)

    -- the disk failed only where its count rose
    pub round_cause : end ≡ DiskFailed → Rose (faults old.disk) (faults new.disk)
    round_cause is = works_cause bench.places (out_of_list entries) (walk_of faults entries (stand old bench moments words))
        (walk_of faults (entries ++ part.walks.added) (stand new bench_now later words_later))
        (subst (λ e. RoundsTo bench.places e (walk_of faults entries (stand old bench moments words))
        (walk_of faults (entries ++ part.walks.added) (stand new bench_now later words_later))) is (part.walks.walked entries over))

    -- the journal is full behind its bytes
    pub round_limit : IsFullAt new.used end
    round_limit = round_full bench.places end (walk_of faults entries (stand old bench moments words))
        (walk_of faults (entries ++ part.walks.added) (stand new bench_now later words_later)) (part.walks.walked entries over)
