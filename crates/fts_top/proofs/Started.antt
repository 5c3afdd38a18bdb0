-- A run that started its keep and served it, and one that did not start it.
use Rattle.std.proofs.Common.{◌≡◌, inl, inr, ⊎_elim, ℕ, ◌+◌, true, List, [], ◌∷◌, ◌++◌, length, Option, None, refl, ap, sym, ◌∙◌, subst, arith, length-append}
use Rattle.fts_tables.specs.Coming.{Coming, Gives}
use Rattle.fts_tables.specs.SettingsData.{SettingsData, IsSettings}
use Rattle.fts_tables.specs.Tables.{Tables, empty_tables}
use Rattle.fts_tables.specs.Step.{step}
use Rattle.fts_tables.specs.History.{tables_of, tables_from, tables_after, out_step, out_from, out_of_list, IsLegal}
use Rattle.fts_tables.specs.declared.commands.Entry.{Entry}
use Rattle.fts_tables.specs.declared.rows.Outcome.{Outcome}
use Rattle.fts_disk.specs.Disk.{IsTold, LeavesOnly}
use Rattle.fts_keep.specs.Keeps.{KeepData, IsImageOf, IsImageSince, with_doubt}
use Rattle.fts_keep.specs.Started.{restart_at, restarted, StartsOver, StartFault, StartsNot}
use Rattle.fts_keep.specs.declared.fault.KeepFault.{KeepFault}
use Rattle.fts_keep.specs.declared.fault.KeepFault.TheVariants as faults_of_keep
use Rattle.fts_workers.specs.Benches.{BenchData, held_as, held_over, kept_of, KeepsOne}
use Rattle.fts_workers.specs.Copies.{Copy, copies_from, copies_kept, FollowsReports}
use Rattle.fts_workers.specs.Rounds.{IsWorkedOver}
use Rattle.fts_workers.specs.declared.held.Held.{Held}
use Rattle.fts_session.specs.Connections.{Reading}
use Rattle.fts_laws.specs.Attempts.{claims_in}
use Rattle.fts_top.specs.Tallies.{tally_with, no_tally}
use Rattle.fts_session.specs.Sessions.{IsSession, IsOver, IsOwn, IsReady, walk_of, kept_at, thread}
use Rattle.fts_top.specs.Runs.{one_thread, begun_with, AreRead, HasNoSettings, IsStop, StartsWith, LeavesList, ServesKeep, StopsEarly, RunsSession, IsSessionRun, start_end}
use Rattle.fts_top.specs.declared.ends.RunEnd.{RunEnd}
use Rattle.fts_top.specs.declared.ends.RunEnd.TheVariants.{NoMemory, NoCommand, SettingsUnread, SettingsRule, DiskFailed, Damaged, JournalFull, Session, Shown, SourcesUnmade, LineUnwritten, DoorsFailed, Served, Errand}
use Rattle.fts_top.specs.declared.tally.Tally.{Tally}
use Rattle.fts_session.proofs.Keeping.{legal_behind, joined, weakened, since_more}
use Rattle.fts_disk.specs.declared.disk.Disk as disk
use Rattle.fts_store.specs.declared.store.Store as store

-- how a list with a Restart behind it is legal
restarted_legal : (opening : List Entry) (now : ℕ) (settings : SettingsData) → IsLegal opening → IsLegal (restarted opening now settings)
restarted_legal opening now settings legal = legal_behind empty_tables opening (restart_at now settings ∷ []) legal (tt, tt)

-- the files that are out behind one entry more
out_from-last : (tables : Tables) (files : List ℕ) (entries : List Entry) (entry : Entry)
    → out_from tables files (entries ++ entry ∷ []) ≡ out_step (out_from tables files entries) (step (tables_from tables entries) entry.command)
out_from-last tables files [] entry = refl
out_from-last tables files (first ∷ entries) entry =
    out_from-last (tables_after tables (step tables first.command)) (out_step files (step tables first.command)) entries entry

-- behind a Restart none is
none_out : (opening : List Entry) (now : ℕ) (settings : SettingsData) → out_of_list (restarted opening now settings) ≡ []
none_out opening now settings = out_from-last empty_tables [] opening (restart_at now settings)

-- an empty bench is over a list that was restarted
started_over : {D : Type 0} (keep : KeepData D) (bench : BenchData) (opening : List Entry) (now : ℕ) (settings : SettingsData) → IsLegal opening
    → keep.tables ≡ tables_of (restarted opening now settings) → keep.commands ≡ length opening + 1 → bench.held ≡ [] → IsWorkedOver keep bench (restarted opening now settings)
started_over keep bench opening now settings legal folded counted empty = record {
  list = record {
    folded = folded;
    legal = restarted_legal opening now settings legal;
    counted = omega (arith, counted, length-append opening (restart_at now settings ∷ []));
  };
  held = empty ∙ sym (ap (λ files. held_as (tables_of (restarted opening now settings)) (kept_of bench.held) files) (none_out opening now settings));
}

-- so a thread that has claimed nothing is ready
pub started_ready : {D E : Type 0} (disks : disk.Ghosts D) (disk : D) (settings : SettingsData) (now : ℕ) (keep : KeepData D) (bench : BenchData)
    (store : E) (moments words : Option Coming) (opening : List Entry) → StartsOver disks.state disks.faults disk settings now keep opening → bench.held ≡ []
    → IsReady (thread keep bench 0 store moments words)
started_ready disks disk settings now keep bench store moments words opening starts empty = record {
  over = (restarted opening now settings, started_over keep bench opening now settings starts.legal starts.folded starts.counted empty);
  kept = subst KeepsOne (sym empty) tt;
  few = omega arith;
}

module _ {D : Type 0} (disks : disk.Ghosts D) where
  -- a run with no settings stopped before anything was started
  pub unsettled : (text : Option (List ℕ)) (moments : Option Coming) (disk : D) (end : RunEnd) → HasNoSettings text end → IsStop disks text moments moments disk disk end
  unsettled text moments disk NoMemory h = inl (record { disk_is = refl; moments_are = refl })
  unsettled text moments disk SettingsUnread h = record { disk_is = refl; moments_are = refl }
  unsettled text moments disk (SettingsRule rule) h = (h, record { disk_is = refl; moments_are = refl })
  unsettled text moments disk NoCommand h = absurd h
  unsettled text moments disk DiskFailed h = absurd h
  unsettled text moments disk (Damaged offset) h = absurd h
  unsettled text moments disk (JournalFull used) h = absurd h
  unsettled text moments disk (Session end) h = absurd h
  unsettled text moments disk (Shown whole) h = absurd h
  unsettled text moments disk SourcesUnmade h = absurd h
  unsettled text moments disk LineUnwritten h = absurd h
  unsettled text moments disk DoorsFailed h = absurd h
  unsettled text moments disk (Served end) h = absurd h
  unsettled text moments disk (Errand end) h = absurd h

  -- a keep that could not be started stops the run
  pub unstarted : (text : Option (List ℕ)) (moments later : Option Coming) (disk left : D) (fault : KeepFault)
      → StartsWith disks text moments later disk left fault → IsStop disks text moments later disk left (start_end fault)
  unstarted text moments later disk left faults_of_keep.DiskFailed h = h
  unstarted text moments later disk left (faults_of_keep.Damaged offset) h = h
  unstarted text moments later disk left (faults_of_keep.JournalFull used) h = h
  unstarted text moments later disk left faults_of_keep.Memory h = inr h
  unstarted text moments later disk left (faults_of_keep.Rule refusal) h = absurd h.cause

module _ {D E : Type 0} (disks : disk.Ghosts D) (stores : store.Ghosts E) where
  -- a run that has no settings
  pub stops_unset : (text : Option (List ℕ)) (moments words : Option Coming) (disk closed : D) (store : E) (input : Reading) (output : Option (List ℕ)) (found end : RunEnd) (tally : Tally)
      → HasNoSettings text found → end ≡ found → tally ≡ no_tally → closed ≡ disk
      → StopsEarly disks stores text (one_thread disk store input output moments words) (one_thread closed store input output moments words) end tally
  stops_unset text moments words disk closed store input output found end tally unset ended counted same = record {
    stop = subst (λ (e : RunEnd). IsStop disks text moments moments disk closed e) (sym ended)
        (subst (λ (d : D). IsStop disks text moments moments disk d found) (sym same) (unsettled disks text moments disk found unset));
    counted = counted;
    untaken = refl;
    unwritten = refl;
    store = refl;
    words = refl;
  }

  pub stopped_unset : (text : Option (List ℕ)) (moments words : Option Coming) (disk closed : D) (store : E) (input : Reading) (output : Option (List ℕ)) (found end : RunEnd) (tally : Tally)
      → HasNoSettings text found → end ≡ found → tally ≡ no_tally → closed ≡ disk
      → IsSessionRun disks stores end tally text (one_thread disk store input output moments words) (one_thread closed store input output moments words)
  stopped_unset text moments words disk closed store input output found end tally unset ended counted same =
      inl (stops_unset text moments words disk closed store input output found end tally unset ended counted same)

  -- a run whose keep could not be started
  pub stops : (text : Option (List ℕ)) (before later words : Option Coming) (disk left closed : D) (store : E) (input : Reading) (output : Option (List ℕ)) (settings : SettingsData) (now : ℕ)
      (fault : KeepFault) (end : RunEnd) (tally : Tally) → IsSettings settings → AreRead text settings → Gives before later now
      → StartFault disks.state disks.faults disk left settings now fault × StartsNot disks.state disks.faults disk left settings now
      → end ≡ start_end fault → tally ≡ no_tally → closed ≡ left
      → StopsEarly disks stores text (one_thread disk store input output before words) (one_thread closed store input output later words) end tally
  stops text before later words disk left closed store input output settings now fault end tally valid read tick started ended counted same = record {
    stop = subst (λ (e : RunEnd). IsStop disks text before later disk closed e) (sym ended)
        (subst (λ (d : D). IsStop disks text before later disk d (start_end fault)) (sym same)
        (unstarted disks text before later disk left fault
        (record { settings = settings; kept = valid; read = read; now = now; moment = tick; cause = started.0; leaves = started.1 })));
    counted = counted;
    untaken = refl;
    unwritten = refl;
    store = refl;
    words = refl;
  }

  pub stopped : (text : Option (List ℕ)) (before later words : Option Coming) (disk left closed : D) (store : E) (input : Reading) (output : Option (List ℕ)) (settings : SettingsData) (now : ℕ)
      (fault : KeepFault) (end : RunEnd) (tally : Tally) → IsSettings settings → AreRead text settings → Gives before later now
      → StartFault disks.state disks.faults disk left settings now fault × StartsNot disks.state disks.faults disk left settings now
      → end ≡ start_end fault → tally ≡ no_tally → closed ≡ left
      → IsSessionRun disks stores end tally text (one_thread disk store input output before words) (one_thread closed store input output later words)
  stopped text before later words disk left closed store input output settings now fault end tally valid read tick started ended counted same =
      inl (stops text before later words disk left closed store input output settings now fault end tally valid read tick started ended counted same)

  module _ (settings : SettingsData) (now : ℕ) (keep : KeepData D) (opening : List Entry) (disk left : D) (starts : StartsOver disks.state disks.faults disk settings now keep opening)
      (bench : BenchData) (empty : bench.held ≡ []) (places : bench.places ≡ settings.workers) (store store_now : E)
      (moments later words words_later : Option Coming) (kept : List ℕ) (input after : Reading) (held output : Option (List ℕ)) (end : RunEnd) (tally : Tally)
      (serves : ServesKeep disks stores (thread keep bench 0 store moments words) bench.places left store_now later words_later
      kept input after held output end tally) where
    -- what was added, and the list at the end
    abbrev since : List Entry
    since = serves.session.added

    abbrev final_list : List Entry
    final_list = restarted opening now settings ++ since

    -- the bench was over the list, and is over it
    begun_over : IsWorkedOver keep bench (restarted opening now settings)
    begun_over = started_over keep bench opening now settings starts.legal starts.folded starts.counted empty

    final_over : IsOver serves.last final_list
    final_over = serves.session.over (restarted opening now settings) begun_over

    -- the list is the disk's own, where it tells its contents
    own_list : IsOwn disks (disks.state disk).told (thread keep bench 0 store moments words) (restarted opening now settings)
    own_list = λ told. (starts.told ∙ told, sym (starts.own told).listed)

    -- the session began with nothing kept
    session_is : kept ≡ [] → IsSession (disks.state disk).told [] settings.workers input after held output serves.session_end
        (begun_with (restarted opening now settings) keep.used (disks.faults keep.disk) moments words) (walk_of disks.faults final_list serves.last)
    session_is none =
        let ran = serves.session.goes (disks.state disk).told (restarted opening now settings) begun_over own_list in
        subst (λ (k : Option Outcome). IsSession (disks.state disk).told [] settings.workers input after held output serves.session_end
        (record {
          entries = restarted opening now settings;
          used = keep.used;
          faults = disks.faults keep.disk;
          doubt = None;
          kept = k;
          moments = moments;
          words = words;
        })
        (walk_of disks.faults final_list serves.last)) (ap kept_of empty)
        (subst (λ (d : Option Entry). IsSession (disks.state disk).told [] settings.workers input after held output serves.session_end
        (record {
          entries = restarted opening now settings;
          used = keep.used;
          faults = disks.faults keep.disk;
          doubt = d;
          kept = kept_of bench.held;
          moments = moments;
          words = words;
        })
        (walk_of disks.faults final_list serves.last)) starts.settled
        (subst (λ (w : ℕ). IsSession (disks.state disk).told [] w input after held output serves.session_end (walk_of disks.faults (restarted opening now settings) (thread keep bench 0 store moments words))
        (walk_of disks.faults final_list serves.last)) places
        (subst (λ (k : List ℕ). IsSession (disks.state disk).told k bench.places input after held output serves.session_end
        (walk_of disks.faults (restarted opening now settings) (thread keep bench 0 store moments words)) (walk_of disks.faults final_list serves.last)) none ran)))

    -- the store follows from the reports of the run
    store_follows : FollowsReports stores.state stores.calls stores.faults [] (copies_from (λ writer. true) (tables_of (restarted opening now settings)) since)
        (copies_kept (tables_of final_list) (held_over final_list (kept_of serves.last.bench.held))) store store_now
    store_follows =
        let follows = serves.session.follows in
        let begun = ap (λ (l : List Held). copies_kept keep.tables l) empty in
        let ended = ap (λ t. copies_kept t serves.last.bench.held) final_over.list.folded ∙ ap (λ (l : List Held). copies_kept (tables_of final_list) l) final_over.held in
        subst (λ (s : E). FollowsReports stores.state stores.calls stores.faults [] (copies_from (λ writer. true) (tables_of (restarted opening now settings)) since)
        (copies_kept (tables_of final_list) (held_over final_list (kept_of serves.last.bench.held))) store s) (sym serves.store_is)
        (subst (λ (l : List Copy). FollowsReports stores.state stores.calls stores.faults [] (copies_from (λ writer. true) (tables_of (restarted opening now settings)) since)
        l store serves.last.store) ended
        (subst (λ t. FollowsReports stores.state stores.calls stores.faults [] (copies_from (λ writer. true) t since) (kept_at serves.last) store serves.last.store) starts.folded
        (subst (λ (l : List Copy). FollowsReports stores.state stores.calls stores.faults l (copies_from (λ writer. true) keep.tables since) (kept_at serves.last) store serves.last.store)
        begun follows)))

    -- what a told disk is left with
    left_list : (told : IsTold (disks.state disk)) → LeavesList disks (starts.own told).opened left opening final_list
    left_list told =
        let own = starts.own told in
        let told_keep = starts.told ∙ told in
        let extends = serves.session.extends in
        let told_last = extends.told ∙ told_keep in
        let listed : serves.last.keep.entries ≡ final_list = extends.listed ∙ ap (λ l. l ++ since) own.listed in
        let holds = serves.sound.fold.holds told_last in
        let early = weakened (disks.state own.opened) (disks.state keep.disk) (IsImageSince opening keep.entries) (IsImageSince opening serves.last.keep.entries) own.images
        (λ c image. subst (λ l. IsImageSince opening l c) (sym extends.listed) (since_more opening keep.entries since c image)) in
        let all = joined (disks.state own.opened) (disks.state keep.disk) (disks.state serves.last.keep.disk) (IsImageSince opening serves.last.keep.entries) early
        (extends.images opening (restart_at now settings ∷ []) own.listed told_keep) in
        record {
          since = subst (λ (d : D). LeavesOnly (disks.state own.opened) (disks.state d) (IsImageSince opening final_list)) (sym serves.closed)
              (subst (λ l. LeavesOnly (disks.state own.opened) (disks.state serves.last.keep.disk) (IsImageSince opening l)) listed all);
          doubt = serves.last.keep.doubt;
          legal = subst (λ l. IsLegal (with_doubt l serves.last.keep.doubt)) listed holds.legal;
          images = λ c leave. subst (λ l. IsImageOf l serves.last.keep.doubt c) listed
              (holds.images c (subst (λ (d : D). (disks.state d).may_leave c) serves.closed leave));
          counts = omega (arith, own.counts, extends.counts, ap disks.faults serves.closed);
          cause = ⊎_elim (λ none. inl none)
              (λ some. ⊎_elim (λ same. inl (same ∙ starts.settled))
              (λ rose. inr (⊎_elim (λ more. inl (omega (arith, more, own.counts, ap disks.faults serves.closed)))
              (λ most. inr (omega (arith, most, ap disks.faults serves.closed))) rose)) some)
              (extends.doubt told_keep);
        }

    -- what it leaves in doubt is the thread's at its end
    left_doubt : (told : IsTold (disks.state disk)) → (left_list told).doubt ≡ serves.last.keep.doubt
    unfolding left_list
    left_doubt told = refl

    -- the claims of the run
    claims_are : serves.last.claims ≡ claims_in since
    claims_are = omega (arith, serves.session.counted)

    -- the run from its beginning
    pub runs : (text : Option (List ℕ)) (before : Option Coming) → IsSettings settings → AreRead text settings → Gives before moments now → kept ≡ []
        → RunsSession disks stores text (one_thread disk store input held before words)
        (one_thread left store_now after output later words_later) end tally
    runs text before valid read tick none = record {
      settings = settings;
      kept = valid;
      read = read;
      now = now;
      moments = moments;
      moment = tick;
      keep = keep;
      opening = opening;
      starts = starts;
      ran = record {
        final = walk_of disks.faults final_list serves.last;
        session_end = serves.session_end;
        session = session_is none;
        ended = serves.ended;
        moments_left = serves.moments_are;
        words_left = serves.words_are;
        faults_left = ap disks.faults serves.closed;
        since = since;
        grown = refl;
        legal = final_over.list.legal;
        store = store_follows;
        counted = serves.counted ∙ ap (λ t. tally_with serves.last.claims t) final_over.list.folded
            ∙ ap (λ n. tally_with n (tables_of final_list)) claims_are;
      };
      tells = ap (λ (d : D). (disks.state d).told) serves.closed ∙ serves.session.extends.told ∙ starts.told;
      leaves = left_list;
      owner = left_doubt;
    }

    -- its settings
    pub runs_settings : (text : Option (List ℕ)) (before : Option Coming) (valid : IsSettings settings) (read : AreRead text settings) (tick : Gives before moments now) (none : kept ≡ [])
        → (runs text before valid read tick none).settings ≡ settings
    unfolding runs
    runs_settings text before valid read tick none = refl

    pub ran : (text : Option (List ℕ)) (before : Option Coming) → IsSettings settings → AreRead text settings → Gives before moments now → kept ≡ []
        → IsSessionRun disks stores end tally text (one_thread disk store input held before words)
        (one_thread left store_now after output later words_later)
    ran text before valid read tick none = inr (runs text before valid read tick none)
