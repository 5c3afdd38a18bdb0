-- A shop that was closed holds the list that its keep began with, and the items of all turns behind it.
use Rattle.std.proofs.Common.{◌≡◌, ◌==◌, inl, inr, ℕ, ◌+◌, ◌-◌, List, [], ◌∷◌, ◌++◌, length, filter, Option, refl, sym, ap, ◌∙◌, subst, arith, append-nil}
use Rattle.fts_top.specs.Ends.{end_when_served}
use Rattle.fts_tables.specs.Tables.{Tables}
use Rattle.fts_tables.specs.Coming.{Coming, Gives}
use Rattle.fts_tables.specs.SettingsData.{SettingsData, IsSettings}
use Rattle.fts_tables.specs.History.{tables_of, IsLegal}
use Rattle.fts_tables.specs.declared.commands.Entry.{Entry}
use Rattle.fts_laws.specs.Attempts.{attempts_in, claims_in}
use Rattle.fts_turnstile.specs.declared.turn.LoggedTurn.{LoggedTurn}
use Rattle.fts_turnstile.specs.History.{items_of, items_by, AllNamed}
use Rattle.fts_turnstile.specs.Passes.{TurnstileView, PassView}
use Rattle.fts_passes.specs.Crews.{IsFirst, passes_given}
use Rattle.fts_keep.specs.Keeps.{KeepData, IsKeep}
use Rattle.fts_keep.specs.Started.{StartFault, StartsNot}
use Rattle.fts_keep.specs.declared.fault.KeepFault.{KeepFault}
use Rattle.fts_workers.specs.declared.hand.Hand.{Hand}
use Rattle.fts_wire.specs.RoomData.{RoomData}
use Rattle.fts_workers.specs.Benches.{BenchData}
use Rattle.fts_shop.specs.Shops.{ShopData, shop_of, writer_of}
use Rattle.fts_service.specs.Locked.{IsLocked, IsUntouched}
use Rattle.fts_service.specs.Openings.{AreOpened}
use Rattle.fts_top.specs.Runs.{AreRead, IsStop, start_end}
use Rattle.fts_top.specs.Serves.{Closes, HoldsBehind, StopsUnstarted, WhyNoLane, many_threads, tally_since}
use Rattle.fts_service.specs.Serving.{RanTogether}
use Rattle.fts_top.specs.Tallies.{no_tally, tally_with}
use Rattle.fts_top.specs.declared.ends.RunEnd.{RunEnd}
use Rattle.fts_top.specs.declared.ends.RunEnd.TheVariants.{NoMemory}
use Rattle.fts_service.specs.declared.lane.Lane.{Lane}
use Rattle.fts_top.specs.declared.tally.Tally.{Tally}
use Rattle.fts_service.specs.declared.together.ServedEnd.{ServedEnd}
use Rattle.fts_top.proofs.Started.{unstarted}
use Rattle.fts_disk.specs.declared.disk.Disk as disk
use Rattle.fts_service.specs.Worlds.{World}

-- what one number has more than another that it begins with
more_of : (before more after : ℕ) → after ≡ before + more → after - before ≡ more
more_of before more after e = omega (arith, e)

module _ {D A E C W L : Type 0} (world : World D A E C W L)
    (lanes workers : ℕ) (connections : Option ℕ) (keep : KeepData D) (before after : List (Lane A C L)) (hands hands_now : List (Hand E C W)) (closed : ShopData D)
    (end : RunEnd) (added : List Entry)
    (closes : Closes world lanes workers connections keep before hands after hands_now
    closed end added) where
  -- it holds what it held, and these entries
  pub closed_list : closed.keep.entries ≡ keep.entries ++ added
  closed_list = elim closes [
    | inl unserved ↦ unserved.0.untouched.listed ∙ sym (ap (λ l. keep.entries ++ l) unserved.1 ∙ append-nil keep.entries)
    | inr served ↦
        let locked = served.0.locked in
        served.0.ran.history.list
        ∙ ap (λ first. first.opening ++ items_of served.0.ran.history.turns) locked.first_is
        ∙ ap (λ l. l ++ items_of served.0.ran.history.turns) locked.opening
        ∙ ap (λ l. keep.entries ++ l) (sym served.1)
  ]

  module _ (old_sound : IsKeep world.disks.state keep) (sound : IsKeep world.disks.state closed.keep) (tally : Tally) (counted : tally ≡ tally_since keep closed.keep)
      (counts : (entries more : List Entry) → IsLegal (entries ++ more) → attempts_in (tables_of (entries ++ more)).rows ≡ attempts_in (tables_of entries).rows + claims_in more)
    where
      -- the tables are those of the list, and the tally counts its claims
      pub holds_behind : HoldsBehind world.disks keep.entries added closed.keep tally
      holds_behind =
          let filled = sound.fold.filled in
          let legal : IsLegal (keep.entries ++ added) = subst IsLegal closed_list filled.list.legal in
          let now : closed.keep.tables ≡ tables_of (keep.entries ++ added) = filled.list.folded ∙ ap tables_of closed_list in
          let claims : attempts_in closed.keep.tables.rows - attempts_in keep.tables.rows ≡ claims_in added =
          ap (λ (t : Tables). attempts_in t.rows - attempts_in keep.tables.rows) now
          ∙ ap (λ (t : Tables). attempts_in (tables_of (keep.entries ++ added)).rows - attempts_in t.rows) old_sound.fold.filled.list.folded
          ∙ more_of (attempts_in (tables_of keep.entries).rows) (claims_in added) (attempts_in (tables_of (keep.entries ++ added)).rows)
          (counts keep.entries added legal) in
          record {
            listed = closed_list;
            filled = filled;
            holds = sound.fold.holds;
            counted = counted ∙ ap (λ n. tally_with n closed.keep.tables) claims ∙ ap (λ t. tally_with (claims_in added) t) now;
          }

module _ {D A E C W L : Type 0} (world : World D A E C W L)
    (lanes workers : ℕ) (connections : Option ℕ) (keep : KeepData D) (before after : List (Lane A C L)) (hands hands_now : List (Hand E C W)) (closed : ShopData D)
    (end : RunEnd) where
  -- a shop that no lane served
  pub closes_unserved : IsUntouched world.disks (shop_of keep lanes) closed → AreOpened world.doors lanes before after → hands_now ≡ hands
      → WhyNoLane world.doors before after end
      → (added : List Entry) × Closes world lanes workers connections keep before hands
      after hands_now closed end added
  closes_unserved untouched opened same why = ([], inl (record { untouched = untouched; opened = opened; hands_are = same; why = why }, refl))

  -- a shop that lanes and workers served
  pub closes_served : (lock : TurnstileView Entry) (first : PassView Entry) (passes : List (PassView Entry))
      → IsLocked world.disks (shop_of keep lanes) (lanes + workers) lock first passes → (opened : List (Lane A C L)) → AreOpened world.doors lanes before opened
      → (rooms : List RoomData) (benches : List BenchData) → length rooms ≡ lanes → length benches ≡ workers → (served : ServedEnd)
      → RanTogether world first connections opened after hands hands_now rooms benches closed served
      → end ≡ end_when_served served
      → ((turns : List (LoggedTurn Entry)) (n : ℕ) → AllNamed writer_of turns → filter (λ item. writer_of item == n) (items_of turns) ≡ items_by (n ∷ []) turns)
      → (added : List Entry) × Closes world lanes workers connections keep before hands
      after hands_now closed end added
  closes_served lock first passes locked opened opens rooms benches many workers_are served ran ended names = (
    items_of ran.history.turns,
    inr (
      record {
        lock = lock;
        first = first;
        passes = passes;
        locked = locked;
        opened = opened;
        opens = opens;
        rooms = rooms;
        benches = benches;
        as_many = (many, workers_are);
        served = served;
        ran = ran;
        ended = ended;
        writers = λ n. names ran.history.turns n ran.history.named;
      },
      refl,
    ),
  )

-- pass 0 of a lock that was just made, and the passes that it gave
pub first_is : {D : Type 0} (disks : disk.Ghosts D) (shop : ShopData D) (count : ℕ) (lock : TurnstileView Entry) (first : PassView Entry) (passes : List (PassView Entry))
    → IsLocked disks shop count lock first passes → IsFirst first
first_is disks shop count lock first passes locked = record {
  number = ap (λ pass. pass.number) locked.first_is;
  unjoined = ap (λ pass. pass.joined) locked.first_is;
  unseen = ap (λ pass. pass.seen) locked.first_is;
}

pub passes_are : {D : Type 0} (disks : disk.Ghosts D) (shop : ShopData D) (count : ℕ) (lock : TurnstileView Entry) (first : PassView Entry) (passes : List (PassView Entry))
    → IsLocked disks shop count lock first passes → passes ≡ passes_given (record first { given = 0 }) first.given
passes_are disks shop count lock first passes locked =
    locked.passes_are ∙ sym (ap (λ pass. passes_given (record pass { given = 0 }) pass.given) locked.first_is)

pub given_are : {D : Type 0} (disks : disk.Ghosts D) (shop : ShopData D) (count : ℕ) (lock : TurnstileView Entry) (first : PassView Entry) (passes : List (PassView Entry))
    → IsLocked disks shop count lock first passes → first.given ≡ count
given_are disks shop count lock first passes locked = ap (λ pass. pass.given) locked.first_is

-- a run whose keep could not be started
pub unstarted_run : {D A E C W L : Type 0} (world : World D A E C W L)
    (text : Option (List ℕ)) (lanes : List (Lane A C L)) (hands : List (Hand E C W)) (before later : Option Coming) (disk left closed : D) (settings : SettingsData) (now : ℕ)
    (fault : KeepFault) (end : RunEnd) (tally : Tally) → IsSettings settings → AreRead text settings → Gives before later now
    → StartFault world.disks.state world.disks.faults disk left settings now fault × StartsNot world.disks.state world.disks.faults disk left settings now → end ≡ start_end fault → tally ≡ no_tally → closed ≡ left
    → StopsUnstarted world text (many_threads disk lanes hands before)
    (many_threads closed lanes hands later) end tally
unstarted_run world text lanes hands before later disk left closed settings now fault end
    tally valid read tick started ended counted same = record {
      stop = subst (λ (e : RunEnd). IsStop world.disks text before later disk closed e) (sym ended)
          (subst (λ d. IsStop world.disks text before later disk d (start_end fault)) (sym same)
          (unstarted world.disks text before later disk left fault
          (record { settings = settings; kept = valid; read = read; now = now; moment = tick; cause = started.0; leaves = started.1 })));
      counted = counted;
      lanes = refl;
      hands = refl;
    }

-- a run that stopped before its words were taken, for want of memory
pub unasked_run : {D A E C W L : Type 0} (world : World D A E C W L) (text : Option (List ℕ)) (lanes : List (Lane A C L)) (hands : List (Hand E C W)) (moments : Option Coming)
    (disk left : D) (end : RunEnd) (tally : Tally) → end ≡ NoMemory → tally ≡ no_tally → left ≡ disk
    → StopsUnstarted world text (many_threads disk lanes hands moments) (many_threads left lanes hands moments) end tally
unasked_run world text lanes hands moments disk left end tally ended counted same = record {
  stop = subst (λ (e : RunEnd). IsStop world.disks text moments moments disk left e) (sym ended) (inl (record { moments_are = refl; disk_is = same }));
  counted = counted;
  lanes = refl;
  hands = refl;
}
