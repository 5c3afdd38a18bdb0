-- A look at an entry: the entries as they are shown, and what each outcome of the read comes to.
use Rattle.std.proofs.Common.{◌≡◌, inl, inr, ℕ, zero, suc, ◌≤◌, ◌<◌, Bool, true, false, List, [], ◌∷◌, length, map, slice_get, get_or, Option, Some, option_map, unwrap_or, Result, Ok, Err, IfOk, IfErr, refl, sym, ◌∙◌, ap, subst, append-nil, arith}
use Rattle.std.proofs.lemmas.Option.{slice_get_past, slice_get-get_or}
use Rattle.std.proofs.lemmas.List.Elements.{All-nil}
use Rattle.fts_tables.specs.Counts.{Rose}
use Rattle.fts_tables.specs.declared.names.Memory.{Memory}
use Rattle.fts_tables.specs.declared.commands.Entry.{Entry}
use Rattle.fts_record.specs.Spelling.{spelled}
use Rattle.fts_disk.specs.Disk.{DiskState, IsTold, IsLawful}
use Rattle.fts_wire.specs.declared.response.Reply.{Reply}
use Rattle.fts_keep.specs.Keeps.{KeepData, IsKeep, Grows, bodies_of}
use Rattle.fts_keep.specs.Looking.{OnlyLooks}
use Rattle.fts_routes.specs.Objects.{entry_object}
use Rattle.fts_routes.specs.Refusals.{shows, no_entry, disk_failed, no_memory}
use Rattle.fts_routes.specs.Replies.{Said, said_only, entry_reply, AsDefined, WithoutMemory, WithoutDisk, ShowsEntry, AreShown, DoubtComes, DoubtHasCause}
use Rattle.fts_routes.specs.Planned.{Comes, LooksAtEntry}
use Rattle.fts_routes.proofs.Coming.{doubt-stays}

-- an item so many times
abbrev pub many : {A : Type 0} → ℕ → A → List A
many zero item = []
many (suc n) item = item ∷ many n item

-- the entries as they are shown: their spellings where they are told, and else so many times what was read
abbrev pub bodies_by : Bool → List Entry → ℕ → List ℕ → List (List ℕ)
bodies_by true entries count bytes = bodies_of entries
bodies_by false entries count bytes = many count bytes

-- so many
length_same : {A B : Type 0} (f : A → B) (items : List A) → length (map f items) ≡ length items
length_same f [] = refl
length_same f (item ∷ items) = ap suc (length_same f items)

length_many : {A : Type 0} (n : ℕ) (item : A) → length (many n item) ≡ n
length_many zero item = refl
length_many (suc n) item = ap suc (length_many n item)

at_many : {A : Type 0} (n k : ℕ) (item : A) → k < n → slice_get (many n item) k ≡ Some item
at_many zero k item few = absurd (omega (arith, few))
at_many (suc n) zero item few = refl
at_many (suc n) (suc k) item few = at_many n k item (omega (arith, few))

-- an entry that is there
there : (bodies : List (List ℕ)) (number : ℕ) → number < length bodies → (body : List ℕ) × (slice_get bodies number ≡ Some body)
there bodies number few = (get_or bodies number [], slice_get-get_or bodies number [] few)

-- what is shown of an entry that is there
entry_is : (bodies : List (List ℕ)) (number : ℕ) (body : List ℕ) → slice_get bodies number ≡ Some body
    → entry_reply bodies (Some number) ≡ shows (entry_object body (length bodies) number)
entry_is bodies number body is = ap (λ (found : Option (List ℕ)). unwrap_or (option_map (λ b. shows (entry_object b (length bodies) number)) found) no_entry) is

-- and of one that isn't
pub none_is : (bodies : List (List ℕ)) (number : ℕ) → length bodies ≤ number → entry_reply bodies (Some number) ≡ no_entry
none_is bodies number past =
    ap (λ (found : Option (List ℕ)). unwrap_or (option_map (λ b. shows (entry_object b (length bodies) number)) found) no_entry) (slice_get_past bodies number past)

module _ {D : Type 0} (state : D → DiskState) (faults : D → ℕ) where
  -- the entries of a keep, where this was read
  abbrev pub bodies_read : KeepData D → List ℕ → List (List ℕ)
  bodies_read keep bytes = bodies_by (state keep.disk).told keep.entries keep.commands bytes

  counted_by : (keep : KeepData D) → IsKeep state keep → (bytes : List ℕ) (told : Bool) → (told ≡ true → IsTold (state keep.disk))
      → length (bodies_by told keep.entries keep.commands bytes) ≡ keep.commands
  counted_by keep kept bytes true is = length_same spelled keep.entries ∙ sym (kept.fold.holds (is refl)).counted
  counted_by keep kept bytes false is = length_many keep.commands bytes

  -- they are shown so
  pub are_shown : (keep : KeepData D) → IsKeep state keep → (bytes : List ℕ) → AreShown state keep (bodies_read keep bytes)
  are_shown keep kept bytes = record {
    counted = counted_by keep kept bytes (state keep.disk).told (λ is. is);
    spelled = λ told. ap (λ b. bodies_by b keep.entries keep.commands bytes) told;
  }

  -- what was read stands there
  read_by : (keep : KeepData D) (bytes : List ℕ) (number : ℕ) → number < keep.commands → (told : Bool)
      → (told ≡ true → slice_get (bodies_of keep.entries) number ≡ Some bytes)
      → slice_get (bodies_by told keep.entries keep.commands bytes) number ≡ Some bytes
  read_by keep bytes number few true is = is refl
  read_by keep bytes number few false is = at_many keep.commands number bytes few

  module _ (old new : KeepData D) (only : OnlyLooks state faults old new) where
    -- as it is defined
    defined : (said : Said) (reply : Reply) → said.added ≡ [] → reply ≡ said.reply → Comes state faults old new said reply
    defined said reply none is = record {
      way = AsDefined;
      cause = tt;
      instead = tt;
      replies = is;
      tables = rw none only.tables;
      commands = rw none (omega (arith, only.commands));
      used = rw none only.used;
      listed = rw none (only.entries ∙ sym (append-nil old.entries));
      doubt = rw none (inl only.doubt);
    }

    -- the entry in doubt is the same, whatever was asked for
    doubt_still : (said : Said) → DoubtComes (faults old.disk) (faults new.disk) old.doubt new.doubt said.added []
    doubt_still said = doubt-stays (faults old.disk) (faults new.disk) old.doubt new.doubt said.added (inl only.doubt)

    -- for want of memory
    without_memory : (said : Said) (reply : Reply) → reply ≡ no_memory → Comes state faults old new said reply
    without_memory said reply is = record {
      way = WithoutMemory;
      cause = tt;
      instead = tt;
      replies = is;
      tables = only.tables;
      commands = omega (arith, only.commands);
      used = only.used;
      listed = only.entries ∙ sym (append-nil old.entries);
      doubt = doubt_still said;
    }

    -- the disk failed, for a reply that shows an entry
    without_disk : (said : Said) (reply : Reply) → ShowsEntry said.reply → Rose (faults old.disk) (faults new.disk) → reply ≡ disk_failed
        → Comes state faults old new said reply
    without_disk said reply would rose is = record {
      way = WithoutDisk;
      cause = rose;
      instead = inr would;
      replies = is;
      tables = only.tables;
      commands = omega (arith, only.commands);
      used = only.used;
      listed = only.entries ∙ sym (append-nil old.entries);
      doubt = doubt_still said;
    }

    -- a reply that was made, or that for want of memory
    made_or_not : (said : Said) (made : Result Reply Memory) (reply : Reply) → said.added ≡ [] → IfOk made (λ r. r ≡ said.reply) → IfOk made (λ r. reply ≡ r)
        → IfErr made (λ e. reply ≡ no_memory) → Comes state faults old new said reply
    made_or_not said (Ok r) reply none is taken lacks = defined said reply none (taken ∙ is)
    made_or_not said (Err e) reply none is taken lacks = without_memory said reply lacks

    module _ (kept : IsKeep state old) where
      -- there is no such entry
      pub looked_past : (number : Option ℕ) → ((bodies : List (List ℕ)) → length bodies ≡ old.commands → entry_reply bodies number ≡ no_entry)
          → (made : Result Reply Memory) (reply : Reply) → IfOk made (λ r. r ≡ no_entry) → IfOk made (λ r. reply ≡ r)
          → IfErr made (λ e. reply ≡ no_memory) → LooksAtEntry state faults old new number reply
      looked_past number past made reply is taken lacks =
          let shown = are_shown old kept [] in
          record {
            bodies = bodies_read old [];
            shown = shown;
            comes = made_or_not (said_only (entry_reply (bodies_read old []) number)) made reply refl
                (subst (λ wanted. IfOk made (λ r. r ≡ wanted)) (sym (past (bodies_read old []) shown.counted)) is) taken lacks;
          }

      -- the entry was read
      pub looked_at : (number : ℕ) (bytes : List ℕ) → number < old.commands → (IsTold (state old.disk) → slice_get (bodies_of old.entries) number ≡ Some bytes)
          → (count : ℕ) → count ≡ old.commands
          → (made : Result Reply Memory) (reply : Reply) → IfOk made (λ r. r ≡ shows (entry_object bytes count number)) → IfOk made (λ r. reply ≡ r)
          → IfErr made (λ e. reply ≡ no_memory) → LooksAtEntry state faults old new (Some number) reply
      looked_at number bytes few read count counted made reply is taken lacks =
          let shown = are_shown old kept bytes in
          record {
            bodies = bodies_read old bytes;
            shown = shown;
            comes = made_or_not (said_only (entry_reply (bodies_read old bytes) (Some number))) made reply refl
                (subst (λ wanted. IfOk made (λ r. r ≡ wanted))
                (ap (λ n. shows (entry_object bytes n number)) (counted ∙ sym shown.counted)
                ∙ sym (entry_is (bodies_read old bytes) number bytes (read_by old bytes number few (state old.disk).told read))) is)
                taken lacks;
          }

      -- the disk failed
      pub looked_in_vain : (number : ℕ) → number < old.commands → Rose (faults old.disk) (faults new.disk)
          → (made : Result Reply Memory) (reply : Reply) → IfOk made (λ r. r ≡ disk_failed) → IfOk made (λ r. reply ≡ r)
          → IfErr made (λ e. reply ≡ no_memory) → LooksAtEntry state faults old new (Some number) reply
      looked_in_vain number few rose (Ok r) reply is taken lacks =
          let shown = are_shown old kept [] in
          let one = there (bodies_read old []) number (omega (arith, few, shown.counted)) in
          record {
            bodies = bodies_read old [];
            shown = shown;
            comes = without_disk (said_only (entry_reply (bodies_read old []) (Some number))) reply
                (one.0, (length (bodies_read old []), (number, entry_is (bodies_read old []) number one.0 one.1))) rose (taken ∙ is);
          }
      looked_in_vain number few rose (Err e) reply is taken lacks = record {
        bodies = bodies_read old [];
        shown = are_shown old kept [];
        comes = without_memory (said_only (entry_reply (bodies_read old []) (Some number))) reply lacks;
      }

      -- there was no memory
      pub looked_without_memory : (number : Option ℕ) (reply : Reply) → reply ≡ no_memory → LooksAtEntry state faults old new number reply
      looked_without_memory number reply is = record {
        bodies = bodies_read old [];
        shown = are_shown old kept [];
        comes = without_memory (said_only (entry_reply (bodies_read old []) number)) reply is;
      }

    -- nothing was added
    pub grown_none : (writer : ℕ) → Grows state faults writer old new
    grown_none writer = record {
      added = [];
      appended = only.entries ∙ sym (append-nil old.entries);
      by = All-nil (λ (entry : Entry). entry.writer ≡ writer);
      counts = only.counts;
      told = only.told;
    }

    -- and no doubt
    pub doubt_same : DoubtHasCause state faults old new
    doubt_same = λ told. inr (inl only.doubt)

-- a keep that isn't called was only looked at
pub looked_nowhere : {D : Type 0} (state : D → DiskState) (faults : D → ℕ) → ((disk : D) → IsTold (state disk) → IsLawful (state disk)) → (keep : KeepData D)
    → OnlyLooks state faults keep keep
looked_nowhere state faults lawful keep = record {
  entries = refl;
  doubt = refl;
  tables = refl;
  commands = refl;
  used = refl;
  in_doubt = refl;
  told = refl;
  counts = omega arith;
  moments = λ told. record {
    later = omega arith;
    each = λ content left. (lawful keep.disk told).only_now content left;
    before = λ moment content le left. inl left;
  };
}
