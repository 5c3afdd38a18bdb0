-- What one entry more adds to what a list of entries tells.
use Rattle.std.proofs.Common.{◌≡◌, ℕ, ◌+◌, List, [], ◌∷◌, ◌++◌, length, Option, Some, None, Ok, refl, sym, ap, ◌∙◌, append-nil, arith}
use Rattle.std.specs.Prelude.{map, option_to_list, unwrap_or}
use Rattle.std.specs.List.{cons_option, filter_map, last_or}
use Rattle.std.proofs.lemmas.List.{map-append, append_assoc}
use Rattle.std.proofs.lemmas.List.Elements.{filter_map-append}
use Rattle.fts_tables.specs.Tables.{Tables, empty_tables}
use Rattle.fts_tables.specs.Step.{Outcomes, step}
use Rattle.fts_tables.specs.History.{tables_after, tables_from, tables_of}
use Rattle.fts_tables.specs.declared.commands.Answer.{Answer}
use Rattle.fts_tables.specs.declared.commands.Entry.{Entry}
use Rattle.fts_chronicle.specs.declared.chronicle.CopyReport.{CopyReport}
use Rattle.fts_chronicle.specs.declared.events.FileEvent.{FileEvent}
use Rattle.fts_chronicle.specs.Chronicle.{now_of, restart_by, report_by, reports_of, event_of_step, events_from, events_of, event_by, moment_of, restart_of, chronicle_of, chronicle_with}
use Rattle.fts_chronicle.specs.Finishes.{finishes_with, finishes_after, finishes_from, finishes_of}

-- the last of a list with one item more is that item
last_or-more : {Item : Type 0} (before : Option Item) (items : List Item) (item : Item) → last_or before (items ++ item ∷ []) ≡ Some item
last_or-more before [] item = refl
last_or-more before (first ∷ items) item = last_or-more (Some first) items item

-- an item or none, before nothing
alone : {Item : Type 0} (found : Option Item) → cons_option found [] ≡ option_to_list found
alone None = refl
alone (Some item) = refl

-- what is read of a list with one item more
filter_map-more : {Item Read : Type 0} (read : Item → Option Read) (items : List Item) (item : Item)
    → filter_map read (items ++ item ∷ []) ≡ filter_map read items ++ option_to_list (read item)
filter_map-more {Read = Read} read items item =
    filter_map-append read items (item ∷ []) ∙ ap (λ (rest : List Read). filter_map read items ++ rest) (alone (read item))

-- the last one read, where the item behind may have none
last_read : (moments : List ℕ) (found : Option ℕ)
    → unwrap_or (last_or None (moments ++ option_to_list found)) 0 ≡ unwrap_or found (unwrap_or (last_or None moments) 0)
last_read moments None = ap (λ (moments : List ℕ). unwrap_or (last_or None moments) 0) (append-nil moments)
last_read moments (Some moment) = ap (λ (found : Option ℕ). unwrap_or found 0) (last_or-more None moments moment)

-- the last moment is that of the entry more
moment_of-more : (entries : List Entry) (next : Entry) → moment_of (entries ++ next ∷ []) ≡ now_of next.command
moment_of-more entries next =
    ap (λ (moments : List ℕ). unwrap_or (last_or None moments) 0) (map-append (λ (entry : Entry). now_of entry.command) entries (next ∷ []))
    ∙ last_read (map (λ (entry : Entry). now_of entry.command) entries) (Some (now_of next.command))

-- the last restart is the entry more, or the one before
restart_of-more : (entries : List Entry) (next : Entry) → restart_of (entries ++ next ∷ []) ≡ unwrap_or (restart_by next.command) (restart_of entries)
restart_of-more entries next =
    ap (λ (moments : List ℕ). unwrap_or (last_or None moments) 0) (filter_map-more (λ (entry : Entry). restart_by entry.command) entries next)
    ∙ last_read (filter_map (λ (entry : Entry). restart_by entry.command) entries) (restart_by next.command)

-- so many reports there are behind one more entry at the beginning
reports_of-first : (entry : Entry) (entries : List Entry)
    → length (option_to_list (report_by entry.command)) + length (reports_of entries) ≡ length (reports_of (entry ∷ entries))
reports_of-first entry entries = by_report (report_by entry.command)
  where
    by_report : (found : Option CopyReport) → length (option_to_list found) + length (reports_of entries) ≡ length (cons_option found (reports_of entries))
    by_report None = omega arith
    by_report (Some report) = omega arith

-- what was done to files, with what the step of the entry more did
events_from-more : (tables : Tables) (place : ℕ) (entries : List Entry) (next : Entry)
    → events_from tables place (entries ++ next ∷ [])
    ≡ events_from tables place entries
    ++ option_to_list (event_of_step (place + length (reports_of entries)) next.command (step (tables_from tables entries) next.command))
events_from-more tables place [] next =
    append-nil (option_to_list (event_of_step place next.command (step tables next.command)))
    ∙ ap (λ (behind : ℕ). option_to_list (event_of_step behind next.command (step tables next.command))) (omega arith)
events_from-more tables place (entry ∷ entries) next =
    let first = option_to_list (event_of_step place entry.command (step tables entry.command)) in
    let after = tables_after tables (step tables entry.command) in
    let behind = place + length (option_to_list (report_by entry.command)) in
    ap (λ (events : List FileEvent). first ++ events) (events_from-more after behind entries next)
    ∙ sym (append_assoc first (events_from after behind entries)
    (option_to_list (event_of_step (behind + length (reports_of entries)) next.command (step (tables_from after entries) next.command))))
    ∙ ap (λ (n : ℕ). (first ++ events_from after behind entries) ++ option_to_list (event_of_step n next.command (step (tables_from after entries) next.command)))
    (omega (arith, reports_of-first entry entries))

-- and that is what its command and its answer tell, where it is not refused
events_of-more : (entries : List Entry) (next : Entry) (after : Tables) (answer : Answer) → step (tables_of entries) next.command ≡ Ok (after, answer)
    → events_of (entries ++ next ∷ []) ≡ events_of entries ++ option_to_list (event_by (length (reports_of entries)) next.command answer)
events_of-more entries next after answer stepped =
    let none : 0 + length (reports_of entries) ≡ length (reports_of entries) = omega arith in
    events_from-more empty_tables 0 entries next
    ∙ ap (λ (n : ℕ). events_of entries ++ option_to_list (event_of_step n next.command (step (tables_of entries) next.command))) none
    ∙ ap (λ (came : Outcomes). events_of entries ++ option_to_list (event_of_step (length (reports_of entries)) next.command came)) stepped

-- the finishes behind one entry more
finishes_from-more : (tables : Tables) (finishes : List ℕ) (entries : List Entry) (next : Entry) → finishes_from tables finishes (entries ++ next ∷ [])
    ≡ finishes_after (finishes_from tables finishes entries) next.command (step (tables_from tables entries) next.command)
finishes_from-more tables finishes [] next = refl
finishes_from-more tables finishes (entry ∷ entries) next =
    finishes_from-more (tables_after tables (step tables entry.command)) (finishes_after finishes entry.command (step tables entry.command)) entries next

-- are those by its command and the tables behind it
finishes_of-more : (entries : List Entry) (next : Entry) (after : Tables) (answer : Answer) → step (tables_of entries) next.command ≡ Ok (after, answer)
    → finishes_of (entries ++ next ∷ []) ≡ finishes_with (finishes_of entries) next.command after
finishes_of-more entries next after answer stepped =
    finishes_from-more empty_tables [] entries next ∙ ap (λ (came : Outcomes). finishes_after (finishes_of entries) next.command came) stepped

-- all that one entry more adds
pub chronicle_of-more : (entries : List Entry) (next : Entry) (after : Tables) (answer : Answer) → step (tables_of entries) next.command ≡ Ok (after, answer)
    → chronicle_of (entries ++ next ∷ []) ≡ chronicle_with (chronicle_of entries) next.command answer after
chronicle_of-more entries next after answer stepped = λ i. record {
  moment = moment_of-more entries next i;
  restart = restart_of-more entries next i;
  reports = filter_map-more (λ (entry : Entry). report_by entry.command) entries next i;
  events = events_of-more entries next after answer stepped i;
  finishes = finishes_of-more entries next after answer stepped i;
}
