-- An expiry of a round: files were cancelled, and those that are out stay on the bench as they are; or none was overdue; or it stopped.
use Rattle.std.proofs.Common.{◌≡◌, refl, ap, sym, ◌∙◌, subst, inl, inr, ℕ, ◌≤◌, List, [], ◌∷◌, ◌++◌, max, Option, None, Ok, Err, IsOk}
use Rattle.fts_tables.specs.Counts.{Rose}
use Rattle.fts_tables.specs.Coming.{Coming, Gives}
use Rattle.fts_tables.specs.Tables.{AreWellFormed}
use Rattle.fts_tables.specs.Laws.{AreTheActive}
use Rattle.fts_tables.specs.History.{tables_of, out_of_list, IsLegal}
use Rattle.fts_tables.specs.declared.commands.Entry.{Entry}
use Rattle.fts_tables.specs.declared.commands.Answer.{Answer}
use Rattle.fts_tables.specs.declared.commands.Refusal.{Refusal}
use Rattle.fts_tables.specs.declared.commands.Refusal.TheVariants.{Idle}
use Rattle.fts_tables.specs.declared.commands.Command.TheVariants.{Expire}
use Rattle.fts_disk.specs.Disk.{DiskState}
use Rattle.fts_keep.specs.Keeps.{KeepData}
use Rattle.fts_keep.specs.Applied.{Applied, Accepts, applied_to, entry_by}
use Rattle.fts_keep.specs.declared.fault.KeepFault.{KeepFault}
use Rattle.fts_keep.specs.declared.fault.KeepFault.TheVariants.{Rule}
use Rattle.fts_keep.proofs.Applying.{doubt_of}
use Rattle.fts_workers.specs.Benches.{BenchData, held_as, kept_of}
use Rattle.fts_workers.specs.Copies.{copies_kept}
use Rattle.fts_workers.specs.Rounds.{Expires, IsWorkedOver, StopsBy, applied_at}
use Rattle.fts_workers.specs.Stops.{EndsBy}
use Rattle.fts_workers.specs.Steps.{Stand, stand, walk_of, Walks, MakesNoCopy, ExpiresOn}
use Rattle.fts_workers.specs.declared.ends.RoundEnd.{RoundEnd}
use Rattle.fts_workers.proofs.Accepted.{stops_by, tables_more, list_more, fault_keeps}
use Rattle.fts_workers.proofs.Copied.{none_more, copies_kept-none}
use Rattle.fts_workers.proofs.Requested.{expire_leaves, held_left}
use Rattle.fts_workers.proofs.Stayed.{stays}

module _ {D : Type 0} (state : D → DiskState) (faults : D → ℕ) (formed : (entries : List Entry) → IsLegal entries → AreWellFormed (tables_of entries))
    (outs : (entries : List Entry) → IsLegal entries → AreTheActive (out_of_list entries) (tables_of entries).rows)
    (old new : KeepData D) (bench : BenchData) (none : kept_of bench.held ≡ None) (moments later words : Option Coming) (now : ℕ)
    (moment : Gives moments later now) (counts : faults old.disk ≤ faults new.disk) where
  -- the expiry
  abbrev the_expiry : Entry
  the_expiry = entry_by 0 (Expire now)

  -- where the thread stands before it, and behind it with the same bench
  abbrev before : Stand D
  before = stand old bench moments words

  abbrev after : Stand D
  after = stand new bench later words

  -- what it comes to over a list
  comes_at : (entries : List Entry) → IsWorkedOver old bench entries
      → applied_at (walk_of faults entries before) the_expiry ≡ applied_to old.tables old.used the_expiry
  comes_at entries over = ap (λ t. applied_to t old.used the_expiry) (sym over.list.folded)

  module _ (answer : Answer) (done : Accepts state old new the_expiry answer) where
    -- keep and bench are over the list with it
    over_after : (entries : List Entry) → IsWorkedOver old bench entries → IsWorkedOver new bench (entries ++ the_expiry ∷ [])
    over_after entries over =
        let list = list_more state old new the_expiry answer done entries over.list in
        record {
          list = list;
          held = over.held
              ∙ sym (held_left formed outs entries the_expiry (kept_of bench.held) list.legal
              (expire_leaves (tables_of entries) (max now (tables_of entries).moment)));
        }

    -- it was tried, and accepted
    expires : (entries : List Entry) → IsWorkedOver old bench entries
        → Expires (walk_of faults entries before) (walk_of faults (entries ++ the_expiry ∷ []) after)
    expires entries over = record {
      entry = the_expiry;
      tried = record { now = now; moment = moment; words = refl; is = refl; kept = refl };
      adds = record {
        accepted = subst (λ came. IsOk came) (sym (comes_at entries over)) (subst (λ came. IsOk came) (sym done.done) refl);
        listed = refl;
        filled = done.used;
        counts = counts;
        settled = done.cleared;
      };
    }

    -- so claims go on from there
    expired_walks : Walks state faults (ExpiresOn bench.places (Ok tt)) before after
    expired_walks = record {
      added = the_expiry ∷ [];
      walked = λ entries over. λ end last rest. inl (walk_of faults (entries ++ the_expiry ∷ []) after, (inl (expires entries over), rest));
      over = over_after;
      tables = tables_more state old new the_expiry answer done;
      told = done.told;
      listed = done.listed;
    }

    -- no copy is kept before or then
    pub expired_part : (entries : List Entry) → IsWorkedOver old bench entries → MakesNoCopy state faults (ExpiresOn bench.places (Ok tt)) before after
    unfolding expired_walks
    expired_part entries over =
        let held = over.held ∙ ap (λ k. held_as (tables_of entries) k (out_of_list entries)) none in
        record {
          walks = expired_walks;
          balance = ap (copies_kept old.tables) held
              ∙ copies_kept-none old.tables (tables_of entries) (out_of_list entries)
              ∙ sym (ap (copies_kept new.tables) held ∙ copies_kept-none new.tables (tables_of entries) (out_of_list entries));
        }

  -- no row was overdue
  pub expired_none : (refusal : Refusal) → refusal ≡ Idle → Applied state faults old new the_expiry (Err (Rule refusal))
      → MakesNoCopy state faults (ExpiresOn bench.places (Ok tt)) before after
  expired_none refusal is applied =
      let keeps = fault_keeps state faults old new the_expiry (Rule refusal) applied in
      stays state faults (ExpiresOn bench.places (Ok tt)) old new bench moments later words words keeps (λ entries over. λ end last rest.
      inl (
        walk_of faults (entries ++ []) after,
        (
          inr (record {
            entry = the_expiry;
            tried = record { now = now; moment = moment; words = refl; is = refl; kept = refl };
            idle = comes_at entries over ∙ applied.0 ∙ ap (λ (r : Refusal). Err (Rule r)) is;
            none = record {
              listed = none_more entries;
              filled = keeps.used;
              counts = counts;
              doubt = doubt_of state faults old new the_expiry (Err (Rule refusal)) applied;
            };
          }),
          rest,
        ),
      ))

  -- it stopped
  pub expiry_stops : (fault : KeepFault) (end : RoundEnd) → Applied state faults old new the_expiry (Err fault) → EndsBy fault end
      → MakesNoCopy state faults (ExpiresOn bench.places (Err end)) before after
  expiry_stops fault end applied ends =
      let keeps = fault_keeps state faults old new the_expiry fault applied in
      stays state faults (ExpiresOn bench.places (Err end)) old new bench moments later words words keeps (λ entries over.
      inr (record {
        entry = the_expiry;
        tried = record { now = now; moment = moment; words = refl; is = refl; kept = refl };
        stops = subst (λ came. StopsBy came (Rose (faults old.disk) (faults new.disk)) end) (sym (comes_at entries over))
            (stops_by state faults old new the_expiry fault end applied ends);
        none = record {
          listed = none_more entries;
          filled = keeps.used;
          counts = counts;
          doubt = doubt_of state faults old new the_expiry (Err fault) applied;
        };
      }))
