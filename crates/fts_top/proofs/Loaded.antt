-- A load that left its keep with files unmade, and one that ran its session.
use Rattle.std.proofs.Common.{◌≡◌, ◌<◌, ◌-◌, inl, inr, ℕ, suc, List, [], ◌∷◌, length, get_or, Option, None, Ok, Err, refl, ap, sym, ◌∙◌, subst, arith}
use Rattle.fts_tables.specs.Coming.{Coming, Gives}
use Rattle.fts_tables.specs.SettingsData.{SettingsData, IsSettings}
use Rattle.fts_tables.specs.History.{IsLegal}
use Rattle.fts_tables.specs.declared.commands.Entry.{Entry}
use Rattle.fts_tables.specs.declared.settings.Endpoint.{Endpoint}
use Rattle.fts_disk.specs.Disk.{IsTold, LeavesOnly}
use Rattle.fts_store.specs.declared.store.StoreFailed.{StoreFailed}
use Rattle.fts_keep.specs.Keeps.{KeepData, IsImageOf, IsImageSince, with_doubt}
use Rattle.fts_keep.specs.Started.{restarted, StartsOver}
use Rattle.fts_load.specs.Made.{MakesSources}
use Rattle.fts_workers.specs.Benches.{BenchData}
use Rattle.fts_session.specs.Connections.{Reading}
use Rattle.fts_top.specs.Loads.{IsLoad, LoadsKeep, LeavesKeep, SessionOver, load_reading, source_of, first_name, last_name}
use Rattle.fts_top.specs.Runs.{one_thread, AreRead, LeavesList}
use Rattle.fts_session.specs.Sessions.{thread}
use Rattle.fts_top.specs.Tallies.{tally_with}
use Rattle.fts_top.specs.declared.ends.RunEnd.{RunEnd}
use Rattle.fts_top.specs.declared.tally.Tally.{Tally}
use Rattle.fts_top.proofs.Started.{runs, runs_settings}
use Rattle.fts_disk.specs.declared.disk.Disk as disk
use Rattle.fts_store.specs.declared.store.Store as store

-- the first of some endpoints, and the last
pub first_is : (endpoints : List Endpoint) (other : Endpoint) → 0 < length endpoints → (get_or endpoints 0 other).name ≡ first_name endpoints
first_is [] other some = absurd (omega (arith, some))
first_is (endpoint ∷ endpoints) other some = refl

pub last_is : (endpoints : List Endpoint) (other : Endpoint) → 0 < length endpoints → (get_or endpoints (length endpoints - 1) other).name ≡ last_name endpoints
last_is [] other some = absurd (omega (arith, some))
last_is (endpoint ∷ []) other some = refl
last_is (endpoint ∷ next ∷ endpoints) other some =
    let on : length (endpoint ∷ next ∷ endpoints) - 1 ≡ suc (length (next ∷ endpoints) - 1) = omega arith in
    ap (λ (n : ℕ). (get_or (endpoint ∷ next ∷ endpoints) n other).name) on ∙ last_is (next ∷ endpoints) other (omega arith)

module _ {D E : Type 0} (disks : disk.Ghosts D) (stores : store.Ghosts E) where
  -- what a told disk is left with behind a Restart alone
  left_restarted : (settings : SettingsData) (now : ℕ) (keep : KeepData D) (opening : List Entry) (disk left : D) (starts : StartsOver disks.state disks.faults disk settings now keep opening)
      → left ≡ keep.disk → (told : IsTold (disks.state disk)) → LeavesList disks (starts.own told).opened left opening (restarted opening now settings)
  left_restarted settings now keep opening disk left starts closed told =
      let own = starts.own told in
      record {
        since = subst (λ (d : D). LeavesOnly (disks.state own.opened) (disks.state d) (IsImageSince opening (restarted opening now settings))) (sym closed)
            (subst (λ (l : List Entry). LeavesOnly (disks.state own.opened) (disks.state keep.disk) (IsImageSince opening l)) own.listed own.images);
        doubt = keep.doubt;
        legal = subst (λ (l : List Entry). IsLegal (with_doubt l keep.doubt)) own.listed own.holds.legal;
        images = λ content leave. subst (λ (l : List Entry). IsImageOf l keep.doubt content) own.listed
            (own.holds.images content (subst (λ (d : D). (disks.state d).may_leave content) closed leave));
        counts = omega (arith, own.counts, ap disks.faults closed);
        cause = inl starts.settled;
      }

  module _ (number : ℕ) (text : Option (List ℕ)) (settings : SettingsData) (now : ℕ) (keep : KeepData D) (opening : List Entry) (disk left : D)
      (starts : StartsOver disks.state disks.faults disk settings now keep opening) (bench : BenchData) (empty : bench.held ≡ []) (places : bench.places ≡ settings.workers)
      (store store_now : E) (before moments later words words_later : Option Coming) (kept : List ℕ) (given : Reading) (held held_now : Option (List ℕ)) (end : RunEnd) (tally : Tally)
      (valid : IsSettings settings) (read : AreRead text settings) (tick : Gives before moments now) (source : List ℕ) (source_is : source ≡ source_of settings) where
    -- the files were not made
    unmade : (input : Reading) → LeavesKeep disks stores number source (thread keep bench 0 store moments words) left store_now later words_later held held_now end tally
        → IsLoad disks stores number end tally text (one_thread disk store input held before words)
        (one_thread left store_now input held_now later words_later)
    unmade input leaves = inr (inl (record {
      settings = settings;
      kept = valid;
      read = read;
      now = now;
      moment = subst (λ (m : Option Coming). Gives before m now) (sym leaves.moments_are) tick;
      keep = keep;
      opening = opening;
      starts = starts;
      closed = leaves.closed;
      leaves = left_restarted settings now keep opening disk left starts leaves.closed;
      failed = leaves.failed;
      sources = subst (λ (s : List ℕ). MakesSources {E = StoreFailed} s number (stores.state store) (stores.state store_now) (stores.calls store) (stores.calls store_now)
          (stores.faults store) (stores.faults store_now) (Err leaves.failed)) source_is leaves.sources;
      ended = leaves.ended;
      counted = leaves.counted ∙ ap (λ t. tally_with 0 t) starts.folded;
      untaken = refl;
      unwritten = leaves.unwritten;
      words = leaves.words_are;
    }))

    -- they were made, and a session ran
    ran_over : (input : Reading) → given ≡ load_reading settings → kept ≡ []
        → SessionOver disks stores number source (thread keep bench 0 store moments words) left store_now later words_later kept given held held_now end tally
        → IsLoad disks stores number end tally text (one_thread disk store input held before words)
        (one_thread left store_now input held_now later words_later)
    ran_over input asked none over =
        let same = runs_settings disks stores settings now keep opening disk left starts bench empty places over.made store_now moments later words words_later
        kept given over.rest None None over.ran_end tally over.serves text before valid read tick none in
        inr (inr (record {
          made = over.made;
          given = given;
          rest = over.rest;
          ran_end = over.ran_end;
          ran = runs disks stores settings now keep opening disk left starts bench empty places over.made store_now moments later words words_later
              kept given over.rest None None over.ran_end tally over.serves text before valid read tick none;
          requests = asked ∙ ap load_reading (sym same);
          sources = subst (λ (s : List ℕ). MakesSources {E = StoreFailed} s number (stores.state store) (stores.state over.made) (stores.calls store) (stores.calls over.made)
              (stores.faults store) (stores.faults over.made) (Ok tt)) (source_is ∙ ap source_of (sym same)) over.sources;
          untaken = refl;
          ends = over.ends;
        }))

    -- a load from its beginning
    pub loaded : given ≡ load_reading settings → kept ≡ []
        → LoadsKeep disks stores number source (thread keep bench 0 store moments words) left store_now later words_later kept given held held_now end tally
        → (input : Reading) → IsLoad disks stores number end tally text (one_thread disk store input held before words)
        (one_thread left store_now input held_now later words_later)
    loaded asked none (inl leaves) input = unmade input leaves
    loaded asked none (inr over) input = ran_over input asked none over
