-- A claim of a round: the file that it takes wasn't out, and stands behind the others on the bench; or no row was eligible; or it stopped.
use Rattle.std.proofs.Common.{◌≡◌, ◌≢◌, refl, ap, sym, ◌∙◌, subst, inl, inr, ℕ, suc, ◌+◌, ◌-◌, ◌<◌, ◌≤◌, true, false, List, [], ◌∷◌, ◌++◌, length, max, Option, Some, None, Ok, Err, IsOk, arith}
use Rattle.std.specs.Prelude.{count_by, slice_get, ◌==◌}
use Rattle.std.proofs.lemmas.List.{length-append}
use Rattle.fts_tables.specs.Counts.{Rose}
use Rattle.fts_tables.specs.Coming.{Coming, Gives}
use Rattle.fts_tables.specs.Tables.{Tables, empty_tables, AreWellFormed, row_at}
use Rattle.fts_tables.specs.Choice.{pick}
use Rattle.fts_tables.specs.Moves.{change_row, claimed}
use Rattle.fts_tables.specs.Step.{Outcomes, step, claim, with_rows}
use Rattle.fts_tables.specs.History.{tables_of, tables_after, out_of_list, out_step, claimed_file, IsLegal}
use Rattle.fts_tables.specs.declared.rows.FileRow.{FileRow}
use Rattle.fts_tables.specs.declared.commands.Entry.{Entry}
use Rattle.fts_tables.specs.declared.commands.Answer.{Answer}
use Rattle.fts_tables.specs.declared.commands.Answer.TheVariants.{Claimed}
use Rattle.fts_tables.specs.declared.commands.Refusal.{Refusal}
use Rattle.fts_tables.specs.declared.commands.Refusal.TheVariants.{Idle}
use Rattle.fts_tables.specs.declared.commands.Command.TheVariants.{Claim}
use Rattle.fts_disk.specs.Disk.{DiskState}
use Rattle.fts_keep.specs.Keeps.{KeepData}
use Rattle.fts_keep.specs.Applied.{Applied, Accepts, applied_to, applied_by, entry_by}
use Rattle.fts_keep.specs.declared.fault.KeepFault.{KeepFault}
use Rattle.fts_keep.specs.declared.fault.KeepFault.TheVariants.{Rule}
use Rattle.fts_keep.proofs.Applying.{doubt_of}
use Rattle.fts_workers.specs.Benches.{BenchData, attempt_of, calm_end, held_as, kept_of}
use Rattle.fts_workers.specs.Copies.{copies_kept}
use Rattle.fts_workers.specs.Rounds.{Claims, FillsUp, IsWorkedOver, StopsBy, applied_at}
use Rattle.fts_workers.specs.Stops.{EndsBy, NamesHeld}
use Rattle.fts_workers.specs.Steps.{Stand, stand, walk_of, Walks, MakesNoCopy, FillsOn}
use Rattle.fts_workers.specs.declared.held.Held.{Held}
use Rattle.fts_workers.specs.declared.ends.RoundEnd.{RoundEnd}
use Rattle.fts_workers.proofs.Accepted.{refused_of, stepped, stops_by, tables_more, list_more, fault_keeps}
use Rattle.fts_workers.proofs.Attempts.{claim_others, claim_own}
use Rattle.fts_workers.proofs.Copied.{none_more, tables_from-append, copies_kept-none}
use Rattle.fts_workers.proofs.Numbered.{found_at}
use Rattle.fts_workers.proofs.OutFiles.{times, out_of_list-last, without-none, held_as-same, held_as-more, length-held_as}
use Rattle.fts_workers.proofs.Stayed.{stays}

-- a claim's answer says which row was picked
pub record HasClaimed (tables : Tables) (now word : ℕ) (after : Tables) (answer : Answer) : Type 0 where
  pub row : FileRow
  pub picked : pick tables now word ≡ Some row
  pub after_is : after ≡ with_rows tables now (change_row row.id claimed tables.rows)
  pub answer_is : answer ≡ Claimed row.id (row.attempt + 1)

-- two steps that are one made one thing
pub same_done : (one other : Tables × Answer) → ◌≡◌ {A = Outcomes} (Ok one) (Ok other) → one ≡ other
same_done one other is = cc

pub claim_answers : (tables : Tables) (now word : ℕ) (after : Tables) (answer : Answer)
    → claim tables now (pick tables now word) ≡ Ok (after, answer) → HasClaimed tables now word after answer
claim_answers tables now word after answer is = by (pick tables now word) refl is
  where
    by : (found : Option FileRow) → pick tables now word ≡ found → claim tables now found ≡ Ok (after, answer) → HasClaimed tables now word after answer
    by None picked came = absurd cc
    by (Some row) picked came =
        let same = same_done (with_rows tables now (change_row row.id claimed tables.rows), Claimed row.id (row.attempt + 1)) (after, answer) came in
        record {
          row = row;
          picked = picked;
          after_is = sym (ap (λ (d : Tables × Answer). d.0) same);
          answer_is = sym (ap (λ (d : Tables × Answer). d.1) same);
        }

-- a claim is refused as idle alone
pub claim_idle : (tables : Tables) (now : ℕ) (found : Option FileRow) (refusal : Refusal) → claim tables now found ≡ Err refusal
    → claim tables now found ≡ Err Idle
claim_idle tables now None refusal is = refl
claim_idle tables now (Some row) refusal is = absurd cc

module _ {D : Type 0} (state : D → DiskState) (faults : D → ℕ) (formed : (entries : List Entry) → IsLegal entries → AreWellFormed (tables_of entries))
    (stands : (tables : Tables) (now word : ℕ) (row : FileRow) → AreWellFormed tables → pick tables now word ≡ Some row
    → (1 ≤ row.id) × (slice_get tables.rows (row.id - 1) ≡ Some row))
    (was_in : (entries : List Entry) (now word file : ℕ) → IsLegal entries → claimed_file (step (tables_of entries) (Claim now word)) ≡ Some file
    → count_by (λ other. other == file) (out_of_list entries) ≡ 0)
    (old new : KeepData D) (bench : BenchData) (none : kept_of bench.held ≡ None) (free : length bench.held < bench.places)
    (moments later words words_later : Option Coming) (now word : ℕ) (moment : Gives moments later now) (drawn : Gives words words_later word)
    (counts : faults old.disk ≤ faults new.disk) where
  -- the claim
  abbrev the_claim : Entry
  the_claim = entry_by 0 (Claim now word)

  abbrev before : Stand D
  before = stand old bench moments words

  -- what it comes to over a list
  comes_at : (entries : List Entry) → IsWorkedOver old bench entries
      → applied_at (walk_of faults entries before) the_claim ≡ applied_to old.tables old.used the_claim
  comes_at entries over = ap (λ t. applied_to t old.used the_claim) (sym over.list.folded)

  -- as many files are out as are held
  length_at : (entries : List Entry) → IsWorkedOver old bench entries → length (out_of_list entries) ≡ length bench.held
  length_at entries over = sym (ap length over.held ∙ length-held_as (tables_of entries) (kept_of bench.held) (out_of_list entries))

  -- a worker has no file
  one_free : (entries : List Entry) → IsWorkedOver old bench entries
      → bench.places - length (out_of_list entries) ≡ suc (bench.places - suc (length (out_of_list entries)))
  one_free entries over = omega (arith, length_at entries over, free)

  module _ (answer : Answer) (done : Accepts state old new the_claim answer) (held : Held) (is_held : NamesHeld answer held) where
    -- the bench with the file behind the others
    abbrev longer : BenchData
    longer = record bench { held = bench.held ++ held ∷ [] }

    abbrev after : Stand D
    after = stand new longer later words_later

    -- which row was picked
    picked_at : HasClaimed old.tables (max now old.tables.moment) word new.tables answer
    picked_at = claim_answers old.tables (max now old.tables.moment) word new.tables answer (stepped state old new the_claim answer done)

    -- so this is held
    held_is : held ≡ record { file = picked_at.row.id; attempt = picked_at.row.attempt + 1; outcome = None }
    held_is = subst (λ a. NamesHeld a held) picked_at.answer_is is_held

    -- the step over a list
    step_at : (entries : List Entry) → IsWorkedOver old bench entries
        → step (tables_of entries) (Claim now word) ≡ Ok (new.tables, Claimed picked_at.row.id (picked_at.row.attempt + 1))
    step_at entries over =
        ap (λ t. step t (Claim now word)) (sym over.list.folded) ∙ stepped state old new the_claim answer done
        ∙ ap (λ a. Ok (new.tables, a)) picked_at.answer_is

    -- the file was not out
    was_out : (entries : List Entry) → IsWorkedOver old bench entries → times picked_at.row.id (out_of_list entries) ≡ 0
    was_out entries over = was_in entries now word picked_at.row.id over.list.legal (ap claimed_file (step_at entries over))

    -- and is the last one that is out
    out_after : (entries : List Entry) → IsWorkedOver old bench entries
        → out_of_list (entries ++ the_claim ∷ []) ≡ out_of_list entries ++ picked_at.row.id ∷ []
    out_after entries over =
        out_of_list-last entries the_claim
        ∙ ap (λ came. out_step (out_of_list entries) came) (step_at entries over)
        ∙ ap (λ files. files ++ picked_at.row.id ∷ []) (without-none picked_at.row.id (out_of_list entries) (was_out entries over))

    -- the tables behind it
    tables_at : (entries : List Entry) → IsWorkedOver old bench entries
        → tables_of (entries ++ the_claim ∷ [])
        ≡ with_rows old.tables (max now old.tables.moment) (change_row picked_at.row.id claimed old.tables.rows)
    tables_at entries over =
        tables_from-append empty_tables entries (the_claim ∷ []) ∙ ap (tables_after (tables_of entries)) (step_at entries over) ∙ picked_at.after_is

    -- the row that was picked
    found_row : (entries : List Entry) → IsWorkedOver old bench entries → row_at old.tables.rows picked_at.row.id ≡ Some picked_at.row
    found_row entries over =
        let fine = subst (λ t. AreWellFormed t) (sym over.list.folded) (formed entries over.list.legal) in
        let there = stands old.tables (max now old.tables.moment) word picked_at.row fine picked_at.picked in
        let number : 1 + (picked_at.row.id - 1) ≡ picked_at.row.id = omega (arith, there.0) in
        subst (λ id. row_at old.tables.rows id ≡ Some picked_at.row) number
        (found_at (λ (row : FileRow). row.id) 1 old.tables.rows (picked_at.row.id - 1) picked_at.row fine.rows there.1)

    -- other files stay at their attempts
    attempts_after : (entries : List Entry) → IsWorkedOver old bench entries → (file : ℕ) → 1 ≤ times file (out_of_list entries)
        → attempt_of (tables_of (entries ++ the_claim ∷ [])) file ≡ attempt_of (tables_of entries) file
    attempts_after entries over file among =
        let other : file ≢ picked_at.row.id = λ same. absurd (omega (
          arith,
          was_out entries over,
          subst (λ f. 1 ≤ times f
              (out_of_list entries)) same among,
        )) in
        ap (λ t. attempt_of t file) (tables_at entries over)
        ∙ claim_others picked_at.row.id old.tables.rows file other
        ∙ ap (λ t. attempt_of t file) over.list.folded

    -- that of the file that was claimed rose by one
    attempt_after : (entries : List Entry) → IsWorkedOver old bench entries
        → attempt_of (tables_of (entries ++ the_claim ∷ [])) picked_at.row.id ≡ picked_at.row.attempt + 1
    attempt_after entries over =
        ap (λ t. attempt_of t picked_at.row.id) (tables_at entries over)
        ∙ claim_own picked_at.row.id old.tables.rows picked_at.row (found_row entries over)

    -- nothing is kept of the files with it
    kept_still : (files : List Held) → kept_of files ≡ None → kept_of (files ++ held ∷ []) ≡ None
    kept_still [] is = ap (λ (h : Held). h.outcome) held_is
    kept_still (first ∷ files) is = is

    -- keep and bench are over the list with it
    over_after : (entries : List Entry) → IsWorkedOver old bench entries → IsWorkedOver new longer (entries ++ the_claim ∷ [])
    over_after entries over =
        let behind = tables_of (entries ++ the_claim ∷ []) in
        record {
          list = list_more state old new the_claim answer done entries over.list;
          held = ap (λ files. files ++ held ∷ []) (over.held ∙ ap (λ k. held_as (tables_of entries) k (out_of_list entries)) none)
              ∙ ap (λ files. files ++ held ∷ []) (held_as-same (tables_of entries) behind None (out_of_list entries) (attempts_after entries over))
              ∙ ap (λ h. held_as behind None (out_of_list entries) ++ h ∷ []) (held_is
              ∙ ap (λ attempt. record { file = picked_at.row.id; attempt = attempt; outcome = None }) (sym (attempt_after entries over)))
              ∙ sym (held_as-more behind (out_of_list entries) picked_at.row.id)
              ∙ ap (λ files. held_as behind None files) (sym (out_after entries over))
              ∙ ap (λ k. held_as behind k (out_of_list (entries ++ the_claim ∷ []))) (sym (kept_still bench.held none));
        }

    -- the claim was tried, and accepted
    claims : (entries : List Entry) → IsWorkedOver old bench entries
        → Claims (walk_of faults entries before) (walk_of faults (entries ++ the_claim ∷ []) after)
    claims entries over = record {
      entry = the_claim;
      tried = record { now = now; moment = moment; word = word; drawn = drawn; is = refl; kept = kept_still bench.held none ∙ sym none };
      adds = record {
        accepted = subst (λ came. IsOk came) (sym (comes_at entries over)) (subst (λ came. IsOk came) (sym done.done) refl);
        listed = refl;
        filled = done.used;
        counts = counts;
        settled = done.cleared;
      };
    }

    -- one worker fewer is free
    free_after : (entries : List Entry) → IsWorkedOver old bench entries
        → bench.places - length (out_of_list (entries ++ the_claim ∷ [])) ≡ bench.places - suc (length (out_of_list entries))
    free_after entries over = omega
        (arith, ap length (out_after entries over), length-append (out_of_list entries) (picked_at.row.id ∷ []))

    -- so the claims go on from there
    claimed_walks : Walks state faults (FillsOn bench.places (Ok true)) before after
    claimed_walks = record {
      added = the_claim ∷ [];
      walked = λ entries over. λ end last rest.
          subst (λ n. FillsUp n (walk_of faults entries before) end last) (sym (one_free entries over))
          (inl (
            walk_of faults (entries ++ the_claim ∷ []) after,
            (claims entries over, subst (λ n. FillsUp n (walk_of faults (entries ++ the_claim ∷ []) after) end last) (free_after entries over) rest),
          ));
      over = over_after;
      tables = tables_more state old new the_claim answer done;
      told = done.told;
      listed = done.listed;
    }

    -- no copy is kept before or then
    pub claimed_part : (entries : List Entry) → IsWorkedOver old bench entries → MakesNoCopy state faults (FillsOn bench.places (Ok true)) before after
    unfolding claimed_walks
    claimed_part entries over =
        let behind = entries ++ the_claim ∷ [] in
        record {
          walks = claimed_walks;
          balance = ap (copies_kept old.tables) (over.held ∙ ap (λ k. held_as (tables_of entries) k (out_of_list entries)) none)
              ∙ copies_kept-none old.tables (tables_of entries) (out_of_list entries)
              ∙ sym (ap (copies_kept new.tables)
              ((over_after entries over).held ∙ ap (λ k. held_as (tables_of behind) k (out_of_list behind)) (kept_still bench.held none))
              ∙ copies_kept-none new.tables (tables_of behind) (out_of_list behind));
        }

    -- and nothing is kept
    pub claimed_kept : kept_of longer.held ≡ None
    claimed_kept = kept_still bench.held none

  -- where the thread stands then, with the same bench
  abbrev still : Stand D
  still = stand new bench later words_later

  -- no row was eligible
  pub claim_found_none : (refusal : Refusal) → Applied state faults old new the_claim (Err (Rule refusal))
      → MakesNoCopy state faults (FillsOn bench.places (Ok false)) before still
  claim_found_none refusal applied =
      let keeps = fault_keeps state faults old new the_claim (Rule refusal) applied in
      let now_then = max now old.tables.moment in
      let idle = claim_idle old.tables now_then (pick old.tables now_then word) refusal
      (refused_of old.used the_claim (step old.tables the_claim.command) refusal applied.0) in
      stays state faults (FillsOn bench.places (Ok false)) old new bench moments later words words_later keeps (λ entries over.
      subst (λ n. FillsUp n (walk_of faults entries before) (calm_end (length (out_of_list (entries ++ [])))) (walk_of faults (entries ++ []) still))
      (sym (one_free entries over))
      (inr (inl (
        record {
          entry = the_claim;
          tried = record { now = now; moment = moment; word = word; drawn = drawn; is = refl; kept = refl };
          idle = comes_at entries over ∙ ap (applied_by old.used the_claim) idle;
          none = record {
            listed = none_more entries;
            filled = keeps.used;
            counts = counts;
            doubt = doubt_of state faults old new the_claim (Err (Rule refusal)) applied;
          };
        },
        ap (λ all. calm_end (length (out_of_list all))) (none_more entries),
      ))))

  -- it stopped
  pub claim_stops : (fault : KeepFault) (end : RoundEnd) → Applied state faults old new the_claim (Err fault) → EndsBy fault end
      → MakesNoCopy state faults (FillsOn bench.places (Err end)) before still
  claim_stops fault end applied ends =
      let keeps = fault_keeps state faults old new the_claim fault applied in
      stays state faults (FillsOn bench.places (Err end)) old new bench moments later words words_later keeps (λ entries over.
      subst (λ n. FillsUp n (walk_of faults entries before) end (walk_of faults (entries ++ []) still)) (sym (one_free entries over))
      (inr (inr (record {
        entry = the_claim;
        tried = record { now = now; moment = moment; word = word; drawn = drawn; is = refl; kept = refl };
        stops = subst (λ came. StopsBy came (Rose (faults old.disk) (faults new.disk)) end) (sym (comes_at entries over))
            (stops_by state faults old new the_claim fault end applied ends);
        none = record {
          listed = none_more entries;
          filled = keeps.used;
          counts = counts;
          doubt = doubt_of state faults old new the_claim (Err fault) applied;
        };
      }))))
