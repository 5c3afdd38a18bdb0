-- A whole run without a request, over a disk that tells nothing and over one that tells its contents; its store tells nothing.
use Rattle.std.proofs.Common.{◌≡◌, ◌⊎◌, ◌≤◌, refl, sym, subst, inl, inr, ℕ, zero, suc, Bool, true, false, List, [], ◌∷◌, ◌++◌, Some, None, arith}
use Rattle.std.specs.Prelude.{All}
use Rattle.std.proofs.lemmas.List.Elements.{All-nil, All-cons}
use Rattle.fts_tables.specs.SettingsData.{IsSettings}
use Rattle.fts_tables.specs.History.{tables_of}
use Rattle.fts_record.specs.Spelling.{spelled, command_bytes, number_bytes, text_bytes, settings_bytes, endpoint_bytes, link_bytes, weight_bytes}
use Rattle.std.specs.Str.{is_utf8, chars}
use Rattle.fts_record.specs.Proper.{IsProper, is_proper, is_proper_command, is_proper_settings, has_proper_settings_fields, is_label_text}
use Rattle.fts_record.specs.Proper.{is_proper_endpoint, is_name_text, is_proper_weight}
use Rattle.fts_disk.specs.Disk.{DiskState, LeavesOnly, Torn, untold}
use Rattle.fts_journal.specs.Format.{front, IsBody}
use Rattle.fts_journal.specs.Journal.{IsMaking}
use Rattle.fts_store.specs.Store.{untold as untold_store}
use Rattle.fts_disk.specs.declared.disk.Disk as disk
use Rattle.fts_store.specs.declared.store.Store as store
use Rattle.fts_keep.specs.Keeps.{KeepData, StandsFor, IsImageSince, bodies_of, used_of}
use Rattle.fts_keep.specs.Started.{restart_at}
use Rattle.fts_session.specs.Connections.{reading_of}
use Rattle.fts_top.specs.Runs.{OneThread, RunsSession}
use Rattle.fts_top.specs.Tallies.{no_tally}
use Rattle.fts_top.specs.declared.ends.RunEnd.TheVariants.{Session}
use Rattle.fts_workers_trial.proofs.Rows.{the_moment, settings, at_list, restarted}
use Rattle.fts_workers_trial.proofs.SessionRows.{ends_well, empty-input}

is_told : Bool → Type 0
is_told true = Unit {0}
is_told false = ⊥

not-told : false ≡ true → ⊥
unfolding is_told
not-told same = subst is_told (sym same) tt

abbrev disks : disk.Ghosts ℕ
disks = record { state = λ disk. untold; faults = λ disk. 0 }

abbrev stores : store.Ghosts ℕ
stores = record { state = λ store. untold_store; calls = λ store. None; faults = λ store. 0 }

abbrev unseen : KeepData ℕ
unseen = record {
  entries = restarted;
  doubt = None;
  tables = tables_of restarted;
  commands = 1;
  used = used_of restarted;
  in_doubt = false;
  disk = 0;
}

abbrev meets : ℕ → OneThread ℕ ℕ
meets reads = record {
  disk = 0;
  store = 0;
  input = reading_of (Some []) reads;
  output = Some [];
  moments = Some (the_moment, []);
  words = Some (0, []);
}

proper : All IsProper restarted
unfolding is_proper is_proper_command is_proper_settings has_proper_settings_fields is_label_text is_proper_endpoint is_name_text is_proper_weight is_utf8 chars lib.Utf8.encode
proper = All-cons IsProper (restart_at the_moment settings) [] refl (All-nil IsProper)

settings-keep : IsSettings settings
settings-keep = record {
  vo = refl;
  workers = refl;
  default_limit = refl;
  endpoint_count = refl;
  link_count = refl;
  weight_count = refl;
  endpoint_names = refl;
  endpoint_limits = refl;
  link_pairs = refl;
  link_ends = refl;
  link_limits = refl;
  link_labels = refl;
  weight_names = refl;
  weight_labels = refl;
  weight_ranges = refl;
  default = refl;
}

untold-run : RunsSession disks stores None (meets 0) (meets 1) (Session ends_well) no_tally
unfolding spelled command_bytes number_bytes text_bytes settings_bytes endpoint_bytes link_bytes weight_bytes
untold-run = record {
  settings = settings;
  kept = settings-keep;
  read = tt;
  now = the_moment;
  moments = Some (the_moment, []);
  moment = (refl, refl);
  keep = unseen;
  opening = [];
  starts = record {
    legal = tt;
    folded = refl;
    counted = refl;
    before = 8;
    least = omega arith;
    fills = refl;
    room = refl;
    filled = refl;
    over = record { list = record { folded = refl; legal = (tt, tt); counted = refl }; proper = proper; fills = refl };
    limit = λ kept. (λ none. absurd (not-told none), tt);
    sure = refl;
    settled = refl;
    told = refl;
    counts = omega arith;
    listed = refl;
    own = λ told. absurd (not-told told);
  };
  ran = record {
    final = at_list restarted;
    session_end = ends_well;
    session = empty-input false;
    ended = refl;
    moments_left = refl;
    words_left = refl;
    faults_left = refl;
    since = [];
    grown = refl;
    legal = (tt, tt);
    store = record { made = []; balance = refl; copied = refl };
    counted = refl;
  };
  tells = refl;
  leaves = λ told. absurd (not-told told);
  owner = λ told. absurd (not-told told);
}

-- ---- the same over a disk that tells its contents: empty at first, then a journal of no entry, then one of the Restart

abbrev made_bytes : List ℕ
made_bytes = front [] ++ 0 ∷ []

abbrev left_bytes : List ℕ
left_bytes = front (bodies_of restarted) ++ 0 ∷ []

abbrev told_disk : ℕ → DiskState
told_disk zero = record { told = true; seen = []; may_leave = λ c. c ≡ []; moment = 0; left_since = λ t c. c ≡ [] }
told_disk (suc zero) = record {
  told = true;
  seen = made_bytes;
  may_leave = λ c. c ≡ made_bytes;
  moment = 1;
  left_since = λ t c. (c ≡ made_bytes) ⊎ ((t ≡ 0) × (c ≡ []));
}
told_disk (suc (suc more)) = record {
  told = true;
  seen = left_bytes;
  may_leave = λ c. c ≡ left_bytes;
  moment = 2;
  left_since = λ t c. (c ≡ left_bytes) ⊎ ((t ≤ 1) × ((c ≡ made_bytes) ⊎ ((t ≡ 0) × (c ≡ []))));
}

abbrev told_disks : disk.Ghosts ℕ
told_disks = record { state = told_disk; faults = λ disk. 0 }

abbrev kept_told : KeepData ℕ
kept_told = record unseen { disk = 2 }

abbrev told_after : OneThread ℕ ℕ
told_after = record (meets 1) { disk = 2 }

no-bodies : All IsBody []
no-bodies = All-nil IsBody

its-body : All IsBody (bodies_of restarted)
unfolding spelled command_bytes number_bytes text_bytes settings_bytes endpoint_bytes link_bytes weight_bytes
its-body = All-cons IsBody (spelled (restart_at the_moment settings)) [] (record { some = omega arith; most = omega arith }) (All-nil IsBody)

made-stands : StandsFor made_bytes []
made-stands = record { closed = record { gate = 0; rest = []; is = refl; closed = λ is_open. omega (arith, is_open) }; each = no-bodies; fits = omega arith }

left-stands : StandsFor left_bytes restarted
unfolding spelled command_bytes number_bytes text_bytes settings_bytes endpoint_bytes link_bytes weight_bytes
left-stands = record { closed = record { gate = 0; rest = []; is = refl; closed = λ is_open. omega (arith, is_open) }; each = its-body; fits = omega arith }

made-image : (c : List ℕ) → c ≡ made_bytes → IsImageSince [] restarted c
made-image c same = record { since = []; later = restarted; parts = refl; doubt = None; legal = tt; stands = subst (λ x. StandsFor x []) (sym same) made-stands }

left-image : (c : List ℕ) → c ≡ left_bytes → IsImageSince [] restarted c
left-image c same =
    record { since = restarted; later = []; parts = refl; doubt = None; legal = (tt, tt); stands = subst (λ x. StandsFor x restarted) (sym same) left-stands }

each-since : (c : List ℕ) → (told_disk 2).left_since 1 c → IsImageSince [] restarted c
each-since c (inl same) = left-image c same
each-since c (inr (early, inl same)) = made-image c same
each-since c (inr (early, inr (zero_is, same))) = absurd (omega (arith, zero_is))

since-before : (t : ℕ) (c : List ℕ) → (told_disk 2).left_since t c → (told_disk 1).left_since t c ⊎ IsImageSince [] restarted c
since-before t c (inl same) = inr (left-image c same)
since-before t c (inr (early, left)) = inl left

all-since : LeavesOnly (told_disk 1) (told_disk 2) (IsImageSince [] restarted)
all-since = record { later = omega arith; each = each-since; before = λ t c early left. since-before t c left }

makes : (c : List ℕ) → c ≡ made_bytes → IsMaking (told_disk 0) c
makes c same = inr ([], (refl, subst (λ x. Torn 0 9 [] x) (sym same) (record { before = refl; after = refl; no_shorter = omega arith; no_longer = omega arith })))

each-made : (c : List ℕ) → (told_disk 1).left_since 0 c → IsMaking (told_disk 0) c
each-made c (inl same) = makes c same
each-made c (inr (none, same)) = inl same

made-before : (t : ℕ) (c : List ℕ) → (told_disk 1).left_since t c → (told_disk 0).left_since t c ⊎ IsMaking (told_disk 0) c
made-before t c (inl same) = inr (makes c same)
made-before t c (inr (none, same)) = inl same

told-run : RunsSession told_disks stores None (meets 0) told_after (Session ends_well) no_tally
unfolding spelled command_bytes number_bytes text_bytes settings_bytes endpoint_bytes link_bytes weight_bytes
told-run = record {
  settings = settings;
  kept = settings-keep;
  read = tt;
  now = the_moment;
  moments = Some (the_moment, []);
  moment = (refl, refl);
  keep = kept_told;
  opening = [];
  starts = record {
    legal = tt;
    folded = refl;
    counted = refl;
    before = 8;
    least = omega arith;
    fills = refl;
    room = refl;
    filled = refl;
    over = record { list = record { folded = refl; legal = (tt, tt); counted = refl }; proper = proper; fills = refl };
    limit = λ kept. (λ none. absurd (not-told none), tt);
    sure = refl;
    settled = refl;
    told = refl;
    counts = omega arith;
    listed = refl;
    own = λ told. record {
      opened = 1;
      opens = record {
        list = inl (refl, refl);
        stands = made-stands;
        sound = λ c same. subst (λ x. StandsFor x []) (sym same) made-stands;
        quiet = λ some. absurd (some refl);
        made = λ none. record { later = omega arith; each = each-made; before = λ t c early left. made-before t c left };
        counts = omega arith;
      };
      listed = refl;
      holds = record {
        folded = refl;
        legal = (tt, tt);
        proper = proper;
        counted = refl;
        fills = refl;
        doubted = refl;
        images = λ c same. inl (subst (λ x. StandsFor x restarted) (sym same) left-stands);
      };
      images = all-since;
      counts = omega arith;
    };
  };
  ran = record {
    final = at_list restarted;
    session_end = ends_well;
    session = empty-input true;
    ended = refl;
    moments_left = refl;
    words_left = refl;
    faults_left = refl;
    since = [];
    grown = refl;
    legal = (tt, tt);
    store = record { made = []; balance = refl; copied = refl };
    counted = refl;
  };
  tells = refl;
  leaves = λ told. record {
    since = all-since;
    doubt = None;
    legal = (tt, tt);
    images = λ c same. inl (subst (λ x. StandsFor x restarted) (sym same) left-stands);
    counts = omega arith;
    cause = inl refl;
  };
  owner = λ told. refl;
}
