-- A copy of a claimed file, by the order that came with its claim.
use Rattle.std.proofs.Common.{◌≡◌, sym, ap, subst, inl, inr, ℕ, ◌+◌, ◌*◌, ◌≤◌, ◌<◌, arith, List, [], ◌∷◌, Option, Some, None, option_map}
use Rattle.std.specs.Prelude.{option_to_list}
use Rattle.std.proofs.lemmas.Grind.{div_ceil_times}
use Rattle.fts_tables.specs.Coming.{Coming}
use Rattle.fts_tables.specs.Counts.{Rose}
use Rattle.fts_tables.specs.Tables.{Tables, row_at}
use Rattle.fts_tables.specs.History.{tables_of}
use Rattle.fts_tables.specs.declared.commands.Entry.{Entry}
use Rattle.fts_tables.specs.declared.rows.FileRow.{FileRow}
use Rattle.fts_tables.specs.declared.rows.Outcome.{Outcome}
use Rattle.fts_tables.specs.declared.rows.Outcome.TheVariants.{Verified, SourceMissing, DestinationExists, SourceSize, SourceDigest, ReadBackDiffers, StoreFailed, Stopped}
use Rattle.fts_copy.specs.Copy.{Order}
use Rattle.fts_copy.specs.Watch.{NoesBy, VerifiedAsks, pieces}
use Rattle.fts_turnstile.specs.Passes.{PassView, seen_list}
use Rattle.fts_workers.specs.Copies.{Copy, order_in}
use Rattle.fts_shop.specs.Looking.{looks_in, Unasked}
use Rattle.fts_workers.specs.declared.held.Held.{Held}
use Rattle.fts_shop.specs.declared.ends.Turn.{Turn}
use Rattle.fts_shop.specs.Turns.{Copies, IsLookedAfter, ReportTurn, ReportsHeld, held_with}
use Rattle.fts_shop.specs.Parts.{CopiesOrder, HasSize}
use Rattle.fts_store.specs.declared.store.Store as store

-- a copy, by its parts
abbrev copy_as : Order → Outcome → Copy
copy_as order outcome = record { order = order; outcome = outcome }

-- the copy of a file with its order
copy_of_order : (found : Option FileRow) (tables : Tables) (order : Order) (outcome : Outcome) → Some order ≡ option_map (order_in tables) found
    → option_to_list (option_map (λ row. record { order = order_in tables row; outcome = outcome }) found)
    ≡ copy_as order outcome ∷ []
copy_of_order (Some row) tables order outcome is =
    let same : order ≡ order_in tables row = cc in
    ap (λ (o : Order). copy_as o outcome ∷ []) (sym same)
copy_of_order None tables order outcome is = absurd cc

-- a verified copy was looked after
looked_after : (outcome : Outcome) (askings noes looks : ℕ) (unasked : Type 0) → HasSize outcome → VerifiedAsks outcome 0 askings → NoesBy outcome 0 noes
    → askings ≤ 0 + looks → (noes ≡ 0 → unasked) → IsLookedAfter outcome looks unasked
looked_after (Verified size digest) askings noes looks unasked small asked stopped few quiet =
    let bound : pieces size * 65536 < size + 65536 = (div_ceil_times size 65536 (omega arith)).1 in
    (omega (arith, bound, small, asked, few), quiet stopped)
looked_after SourceMissing askings noes looks unasked small asked stopped few quiet = tt
looked_after DestinationExists askings noes looks unasked small asked stopped few quiet = tt
looked_after (SourceSize seen) askings noes looks unasked small asked stopped few quiet = tt
looked_after (SourceDigest seen) askings noes looks unasked small asked stopped few quiet = tt
looked_after (ReadBackDiffers at) askings noes looks unasked small asked stopped few quiet = tt
looked_after StoreFailed askings noes looks unasked small asked stopped few quiet = tt
looked_after Stopped askings noes looks unasked small asked stopped few quiet = tt

-- a copy that was stopped met a no
said_no : (outcome : Outcome) (noes : ℕ) → outcome ≡ Stopped → NoesBy outcome 0 noes → 0 < noes
said_no outcome noes is stopped = rose (subst (λ o. NoesBy o 0 noes) is stopped)
  where
    rose : Rose 0 noes → 0 < noes
    rose (inl more) = more
    rose (inr most) = omega (arith, most)

-- the report of a file that is held with its outcome is one of that outcome
pub reported_as : (old new : PassView Entry) (moments later : Option Coming) (file attempt : ℕ) (outcome : Outcome) (end : Turn) (left : List Held)
    → ReportsHeld old new moments later (held_with file attempt outcome ∷ []) end left
    → ReportTurn old new moments later (held_with file attempt outcome) outcome end left
reported_as old new moments later file attempt outcome end left reports =
    let kept : Some outcome ≡ Some reports.0 = reports.1.kept in
    let same : outcome ≡ reports.0 = cc in
    subst (λ o. ReportTurn old new moments later (held_with file attempt outcome) o end left) (sym same) reports.1

module _ {E : Type 0} (stores : store.Ghosts E) (old new : PassView Entry) (store after : E)
    (file : ℕ) (order : Order) (outcome : Outcome) where
  -- the copy of a claimed file
  pub copies_of : CopiesOrder stores old new store after file order outcome → HasSize outcome
      → Some order ≡ option_map (order_in (tables_of (seen_list old))) (row_at (tables_of (seen_list old)).rows file)
      → Copies stores old new store after file outcome
  copies_of copied small is = record {
    same = copied.watched.same;
    since = copied.watched.since;
    seen = copied.watched.seen;
    only_looks = copied.watched.only_looks;
    others = copied.watched.others;
    lanes = copied.watched.lanes;
    doubt = copied.watched.doubt;
    order = order;
    made = copied.made;
    of_file = copy_of_order (row_at (tables_of (seen_list old)).rows file) (tables_of (seen_list old)) order outcome is;
    looked = looked_after outcome copied.askings copied.noes (looks_in old.number copied.watched.since)
        (Unasked old.number file (seen_list old) copied.watched.since) small copied.asked copied.stopped copied.watched.looks
        (λ none. copied.watched.unasked none (omega arith));
    stopped = λ stopped. copied.watched.asked (said_no outcome copied.noes stopped copied.stopped);
  }
