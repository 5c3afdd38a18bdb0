-- Turns at a station, one more behind those before it.
use Rattle.std.proofs.Common.{◌≡◌, refl, sym, subst, ℕ, zero, suc, List, Option, Some, None}
use Rattle.fts_tables.specs.Coming.{Coming, HasRested}
use Rattle.fts_tables.specs.declared.commands.Entry.{Entry}
use Rattle.fts_turnstile.specs.Passes.{PassView}
use Rattle.fts_workers.specs.declared.held.Held.{Held}
use Rattle.fts_shop.specs.Turns.{HandData, IsTurn}
use Rattle.fts_shop.specs.Workers.{StationData, TakesOne, AreTurns, worker_end_of}
use Rattle.fts_shop.specs.declared.ends.Turn.{Turn}
use Rattle.fts_store.specs.declared.store.Store as store

-- a rest behind a rest, and none at all
pub rested_on : (first second third : Option Coming) → HasRested first second → HasRested second third → HasRested first third
rested_on None None third one other = other
rested_on None (Some second) third one other = absurd (let is = one in cc)
rested_on (Some first) None third one other = absurd (let is = one in cc)
rested_on (Some first) (Some second) third one other = other

pub unrested : (moments : Option Coming) → HasRested moments moments
unrested None = refl
unrested (Some coming) = refl

-- what a station has at a turn
pub record IsAlike {E : Type 0} (one other : StationData E) : Type 0 where
  pub hand : one.hand ≡ other.hand
  pub held : one.held ≡ other.held
  pub pass : one.pass ≡ other.pass

module _ {E : Type 0} (stores : store.Ghosts E) where
  -- a turn from what is alike
  turn_from : (one other new : StationData E) (end : Turn) → IsAlike one other → TakesOne stores other new end
      → TakesOne stores one new end
  turn_from one other new end alike takes = record {
    behind = takes.behind;
    turn = subst (λ (p : PassView Entry). IsTurn stores p new.pass one.hand takes.behind one.held end new.held) (sym alike.pass)
        (subst (λ (h : HandData E). IsTurn stores other.pass new.pass h takes.behind one.held end new.held) (sym alike.hand)
        (subst (λ (hs : List Held). IsTurn stores other.pass new.pass other.hand takes.behind hs end new.held) (sym alike.held) takes.turn));
    rested = takes.rested;
  }

  pub turns_more : (more : ℕ) (old next new : StationData E) (end : Turn) → AreTurns stores more old next
      → TakesOne stores next new end → worker_end_of end ≡ None → AreTurns stores (suc more) old new
  turns_more zero old next new end turns takes on =
      let first = turn_from old next new end (record { hand = turns.0; held = turns.1; pass = turns.2 }) takes in
      (new, end, (first, (on, (refl, refl, refl))))
  turns_more (suc more) old next new end turns takes on =
      (turns.0, turns.1, (turns.2.0, (turns.2.1.0, turns_more more turns.0 next new end turns.2.1.1 takes on)))
