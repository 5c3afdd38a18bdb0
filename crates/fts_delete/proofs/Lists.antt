-- Lists of events: their bodies, what one event more makes of them, and the bytes that it fills.
use Rattle.std.proofs.Common.{◌≡◌, refl, ap, sym, ◌∙◌, subst, ◌⊎◌, ℕ, ◌+◌, inl, inr, List, [], ◌∷◌, ◌++◌, length, Option, Some, None, option_map, option_and_then, All, arith}
use Rattle.std.proofs.lemmas.List.{map-append}
use Rattle.std.proofs.lemmas.List.Elements.{All-head, All-tail, All-pop}
use Rattle.fts_journal.specs.Format.{used_by, Stands}
use Rattle.fts_journal.proofs.Gates.{used_by-snoc}
use Rattle.fts_journal.specs.Journal.{IsImageOf as IsJournalImage}
use Rattle.fts_delete.specs.declared.events.Event.{Event}
use Rattle.fts_delete.specs.declared.rows.DeleteRow.{DeleteRow}
use Rattle.fts_delete.specs.Rows.{rows_after, rows_from, AreRowsOf}
use Rattle.fts_delete.specs.Spelling.{IsProper, body_of, bodies_of}
use Rattle.fts_delete.specs.Journals.{used_of, with_doubt, IsLegal, StandsFor}
use Rattle.fts_delete.specs.Views.{ok_of, read_of, events_in}
use Rattle.fts_delete.proofs.Beginnings.{from-append, beginning_is_legal}
use Rattle.fts_delete.proofs.ReadBack.{spelled_is_read}

-- one event more, which is legal
pub rows_more : (rows next : List DeleteRow) (events : List Event) (event : Event) → AreRowsOf rows events → rows_after rows event ≡ Some next
    → AreRowsOf next (events ++ event ∷ [])
rows_more rows next events event folded taken =
    from-append (Some []) events (event ∷ []) ∙ ap (λ came. rows_from came (event ∷ [])) folded ∙ taken

-- the front of a legal list is legal
pub legal_front : (events more : List Event) → IsLegal (events ++ more) → IsLegal events
legal_front events more legal = let splits = beginning_is_legal events more legal.rows legal.are in record { rows = splits.before; are = splits.first }

-- a list is legal without its doubt
pub legal_list : (events : List Event) (doubt : Option Event) → IsLegal (with_doubt events doubt) → IsLegal events
legal_list events None legal = legal
legal_list events (Some event) legal = legal_front events (event ∷ []) legal

-- and its events are proper
pub proper_list : (events : List Event) (doubt : Option Event) → All IsProper (with_doubt events doubt) → All IsProper events
proper_list events None proper = proper
proper_list events (Some event) proper = (All-pop IsProper (events ++ event ∷ []) events (Some event) refl proper).0

-- the bodies of one event more
pub bodies_more : (events : List Event) (event : Event) → bodies_of (events ++ event ∷ []) ≡ bodies_of events ++ body_of event ∷ []
bodies_more events event = map-append body_of events (event ∷ [])

-- the bytes that one event more fills
pub filled_more : (events : List Event) (event : Event) → used_of (events ++ event ∷ []) ≡ used_of events + 5 + length (body_of event)
filled_more events event = ap used_by (bodies_more events event) ∙ used_by-snoc (bodies_of events) (body_of event)

-- a proper event is read back
pub reads : (event : Event) → IsProper event → read_of (body_of event) ≡ Some event
unfolding read_of
reads event proper = ap ok_of (spelled_is_read.read event proper)

-- the bodies of proper events are read as these events
pub events_again : (events : List Event) → All IsProper events → events_in (bodies_of events) ≡ events
events_again [] proper = refl
events_again (event ∷ events) proper =
    rw (reads event (All-head IsProper event events proper)) (ap (λ rest. event ∷ rest) (events_again events (All-tail IsProper event events proper)))

-- so is that of the event in doubt
pub doubt_again : (events : List Event) (doubt : Option Event) → All IsProper (with_doubt events doubt)
    → option_and_then read_of (option_map body_of doubt) ≡ doubt
doubt_again events None proper = refl
doubt_again events (Some event) proper = reads event (All-pop IsProper (events ++ event ∷ []) events (Some event) refl proper).1

-- an image of the bodies, with the one in doubt, is one of the events, or of them with the doubt
pub image_of : (events : List Event) (doubt : Option Event) (content : List ℕ) → IsJournalImage (bodies_of events) (option_map body_of doubt) content
    → StandsFor content events ⊎ StandsFor content (with_doubt events doubt)
image_of events None content stands = inl stands
image_of events (Some event) content (inl stands) = inl stands
image_of events (Some event) content (inr stands) = inr (subst (Stands content) (sym (bodies_more events event)) stands)
