-- Lists of entries: their spellings, what one entry more makes of them, and the bytes that it fills.
use Rattle.std.proofs.Common.{◌≡◌, refl, ap, sym, ◌∙◌, subst, ℕ, ◌+◌, ◌≤◌, ◌==◌, inl, inr, Bool, true, false, if◌then◌else◌, List, [], ◌∷◌, ◌++◌, length, filter_map, Option, Some, None, option_map, option_and_then, Ok, Err, IsOk, All, arith}
use Rattle.std.proofs.lemmas.List.{append_assoc, map-append, length-append}
use Rattle.std.proofs.lemmas.List.Elements.{All-nil, All-cons, All-head, All-tail, All-push}
use Rattle.std.specs.List.{flat_map}
use Rattle.fts_tables.specs.Tables.{Tables, empty_tables}
use Rattle.fts_tables.specs.Step.{Outcomes, step}
use Rattle.fts_tables.specs.History.{tables_of, tables_from, tables_after, IsAccepted, IsLegalFrom, IsLegal}
use Rattle.fts_tables.specs.declared.commands.Entry.{Entry}
use Rattle.fts_tables.specs.declared.commands.Command.{Command}
use Rattle.fts_tables.specs.declared.commands.Command.TheVariants.{Restart, Submit, CancelJob, CancelFile, SetPriority, Claim, Report, Ban, Unban, Expire}
use Rattle.fts_tables.specs.declared.commands.Answer.{Answer}
use Rattle.fts_record.specs.Spelling.{spelled, command_bytes, number_bytes}
use Rattle.fts_record.specs.Proper.{IsProper}
use Rattle.fts_record.specs.Reading.{read_of}
use Rattle.fts_disk.specs.Disk.{DiskState}
use Rattle.fts_journal.specs.Format.{used_by, header, block, size_bytes, Stands}
use Rattle.fts_journal.specs.Journal.{IsImageOf as IsJournalImage}
use Rattle.fts_keep.specs.Keeps.{KeepData, IsListOf, IsFilledBy, used_of, used_after, bodies_of, with_doubt, IsImageOf}
use Rattle.fts_keep.specs.Applied.{Applies, applied_to, applied_by, fits, Accepts}
use Rattle.fts_keep.specs.declared.fault.KeepFault.TheVariants.{JournalFull as Full}

-- the entries that bodies spell
abbrev pub entries_in : List (List ℕ) → List Entry
entries_in bodies = filter_map read_of bodies

-- nothing more
pub none_more : {A : Type 0} (items : List A) → items ++ [] ≡ items
none_more [] = refl
none_more (item ∷ items) = ap (λ rest. item ∷ rest) (none_more items)

-- what holds of all holds of those at the front
pub all_front : {A : Type 0} (P : A → Type 0) (items more : List A) → All P (items ++ more) → All P items
all_front P [] more all = All-nil P
all_front P (item ∷ items) more all = All-cons P item items (All-head P item (items ++ more) all) (all_front P items more (All-tail P item (items ++ more) all))

-- and of the one behind them
pub all_last : {A : Type 0} (P : A → Type 0) (items : List A) (item : A) → All P (items ++ item ∷ []) → P item
all_last P [] item all = All-head P item [] all
all_last P (first ∷ items) item all = all_last P items item (All-tail P first (items ++ item ∷ []) all)

pub tables_from-append : (tables : Tables) (entries more : List Entry) → tables_from tables (entries ++ more) ≡ tables_from (tables_from tables entries) more
tables_from-append tables [] more = refl
tables_from-append tables (entry ∷ entries) more = tables_from-append (tables_after tables (step tables entry.command)) entries more

-- the front of a legal list is legal
pub legal_front : (tables : Tables) (entries more : List Entry) → IsLegalFrom tables (entries ++ more) → IsLegalFrom tables entries
legal_front tables [] more legal = tt
legal_front tables (entry ∷ entries) more legal = (legal.0, legal_front (tables_after tables (step tables entry.command)) entries more legal.1)

-- a list is legal without its doubt
pub legal_list : (entries : List Entry) (doubt : Option Entry) → IsLegal (with_doubt entries doubt) → IsLegal entries
legal_list entries None legal = legal
legal_list entries (Some entry) legal = legal_front empty_tables entries (entry ∷ []) legal

-- and its entries are proper
pub proper_list : (entries : List Entry) (doubt : Option Entry) → All IsProper (with_doubt entries doubt) → All IsProper entries
proper_list entries None proper = proper
proper_list entries (Some entry) proper = all_front IsProper entries (entry ∷ []) proper

-- one entry more, which is accepted
pub legal_more : (tables : Tables) (entries : List Entry) (entry : Entry) → IsLegalFrom tables entries
    → IsAccepted (step (tables_from tables entries) entry.command)
    → IsLegalFrom tables (entries ++ entry ∷ [])
legal_more tables [] entry legal accepted = (accepted, tt)
legal_more tables (first ∷ entries) entry legal accepted =
    (legal.0, legal_more (tables_after tables (step tables first.command)) entries entry legal.1 accepted)

-- the bodies of one entry more
pub bodies_more : (entries : List Entry) (entry : Entry) → bodies_of (entries ++ entry ∷ []) ≡ bodies_of entries ++ spelled entry ∷ []
bodies_more entries entry = map-append spelled entries (entry ∷ [])

-- the blocks of one body more
blocks_more : (bodies : List (List ℕ)) (body : List ℕ) → length (flat_map block (bodies ++ body ∷ [])) ≡ length (flat_map block bodies) + 5 + length body
blocks_more [] body = omega (arith, ap length (none_more (block body)), length-append (size_bytes (length body)) body, size body)
  where
    size : (b : List ℕ) → length (size_bytes (length b)) ≡ 4
    size b = refl
blocks_more (first ∷ bodies) body = omega
    (arith, blocks_more bodies body, length-append (block first) (flat_map block (bodies ++ body ∷ [])), length-append (block first) (flat_map block bodies))

-- the bytes that one body more fills
pub used_more : (bodies : List (List ℕ)) (body : List ℕ) → used_by (bodies ++ body ∷ []) ≡ used_by bodies + 5 + length body
used_more bodies body = omega
    (arith, blocks_more bodies body, length-append header (flat_map block (bodies ++ body ∷ [])), length-append header (flat_map block bodies))

-- and one entry more
pub filled_more : (entries : List Entry) (entry : Entry) → used_of (entries ++ entry ∷ []) ≡ used_of entries + 5 + length (spelled entry)
filled_more entries entry = ap used_by (bodies_more entries entry) ∙ used_more (bodies_of entries) (spelled entry)

-- bytes counted entry by entry are those of the list: over a disk that tells its contents the limit is exact by its own list
pub filled_as_listed : (entries more : List Entry) → used_after (used_of entries) more ≡ used_of (entries ++ more)
filled_as_listed entries [] = ap used_of (sym (none_more entries))
filled_as_listed entries (entry ∷ more) =
    ap (λ n. used_after n more) (sym (filled_more entries entry))
    ∙ filled_as_listed (entries ++ entry ∷ []) more
    ∙ ap used_of (append_assoc entries (entry ∷ []) more)

-- of either list
some_of : (b : Bool) (one other : List ℕ) → 1 ≤ length one → 1 ≤ length other → 1 ≤ length (if b then one else other)
some_of true one other first second = first
some_of false one other first second = second

-- the bytes of a command begin with one of its own
command_some : (command : Command) → 1 ≤ length (command_bytes command)
unfolding command_bytes
command_some (Submit now j) = some_of (j.queue_hours == 0) _ _ (omega arith) (omega arith)
command_some _ = omega arith

-- a spelling has a byte
pub spelled_some : (entry : Entry) → 1 ≤ length (spelled entry)
unfolding spelled
spelled_some entry = omega (arith, length-append (number_bytes entry.writer) (command_bytes entry.command), command_some entry.command)

module _ (reads : (entry : Entry) → IsProper entry → read_of (spelled entry) ≡ Some entry) where
  -- the spellings of proper entries are read as these entries
  pub entries_again : (entries : List Entry) → All IsProper entries → entries_in (bodies_of entries) ≡ entries
  entries_again [] proper = refl
  entries_again (entry ∷ entries) proper =
      rw (reads entry (All-head IsProper entry entries proper)) (ap (λ rest. entry ∷ rest) (entries_again entries (All-tail IsProper entry entries proper)))

  -- so is that of the entry in doubt
  pub doubt_again : (entries : List Entry) (doubt : Option Entry) → All IsProper (with_doubt entries doubt)
      → option_and_then read_of (option_map spelled doubt) ≡ doubt
  doubt_again entries None proper = refl
  doubt_again entries (Some entry) proper = reads entry (all_last IsProper entries entry proper)

-- an image of the bodies, with the one in doubt, is one of the entries with the doubt
pub image_of : (entries : List Entry) (doubt : Option Entry) (content : List ℕ) → IsJournalImage (bodies_of entries) (option_map spelled doubt) content
    → IsImageOf entries doubt content
image_of entries None content stands = inl stands
image_of entries (Some entry) content (inl stands) = inl stands
image_of entries (Some entry) content (inr stands) = inr (subst (Stands content) (sym (bodies_more entries entry)) stands)

-- the tables of what an entry came to
came_to : Tables → Applies → Tables
came_to before (Ok done) = done.0
came_to before (Err fault) = before

-- an entry's step leaves what it came to, where it fits
limited : (before tables : Tables) (answer : Answer) (used : ℕ) (entry : Entry) (done : Tables × Answer) (b : Bool) → b ≡ fits used entry
    → applied_by used entry (Ok done) ≡ Ok (tables, answer) → done.0 ≡ tables
unfolding came_to
limited before tables answer used entry done true is e = ap (came_to before)
    (subst (λ x. (if x then Ok done else Err (Full used)) ≡ Ok (tables, answer)) (sym is) e)
limited before tables answer used entry done false is e = let no = subst (λ x. (if x then Ok done else Err (Full used)) ≡ Ok (tables, answer)) (sym is)
    e in absurd cc

step_left : (before tables : Tables) (answer : Answer) (used : ℕ) (entry : Entry) (came : Outcomes) → applied_by used entry came ≡ Ok (tables, answer)
    → tables_after before came ≡ tables
step_left before tables answer used entry (Ok done) e = limited before tables answer used entry done (fits used entry) refl e
step_left before tables answer used entry (Err refusal) e = absurd cc

-- the tables behind an accepted entry are those of the list with it
pub accepted_tables : (entries : List Entry) (entry : Entry) (before tables : Tables) (used : ℕ) (answer : Answer) → before ≡ tables_of entries
    → applied_to before used entry ≡ Ok (tables, answer) → tables ≡ tables_of (entries ++ entry ∷ [])
accepted_tables entries entry before tables used answer folded e =
    sym (step_left before tables answer used entry (step before entry.command) e)
    ∙ ap (λ t. tables_after t (step t entry.command)) folded
    ∙ sym (tables_from-append empty_tables entries (entry ∷ []))

-- an entry that comes to something is accepted
pub accepted_by : (used : ℕ) (entry : Entry) (came : Outcomes) → IsOk (applied_by used entry came) → IsAccepted came
accepted_by used entry (Ok done) ok = tt
accepted_by used entry (Err refusal) ok = absurd cc

-- whatever list a keep is of: behind an accepted entry it is of that list with the entry
list_more : {D : Type 0} (state : D → DiskState) (old new : KeepData D) (entries : List Entry) (entry : Entry) (answer : Answer)
    → IsListOf old entries → Accepts state old new entry answer → IsListOf new (entries ++ entry ∷ [])
list_more state old new entries entry answer list done = record {
  folded = accepted_tables entries entry old.tables new.tables old.used answer list.folded done.done;
  legal = legal_more empty_tables entries entry list.legal
      (subst (λ t. IsAccepted (step t entry.command)) list.folded
      (accepted_by old.used entry (step old.tables entry.command) (subst (λ came. IsOk came) (sym done.done) refl)));
  counted = omega (arith, done.commands, list.counted, length-append entries (entry ∷ []));
}

-- and that list fills what is used, where the one before did
pub filled_by_more : {D : Type 0} (state : D → DiskState) (old new : KeepData D) (entries : List Entry) (entry : Entry) (answer : Answer)
    → IsFilledBy old entries → IsProper entry → Accepts state old new entry answer → IsFilledBy new (entries ++ entry ∷ [])
filled_by_more state old new entries entry answer filled proper done = record {
  list = list_more state old new entries entry answer filled.list done;
  proper = All-push IsProper entries entry filled.proper proper;
  fills = done.used ∙ ap (λ n. n + 5 + length (spelled entry)) filled.fills ∙ sym (filled_more entries entry);
}
