-- A request that was answered within a turn, as the lock says the turn.
use Rattle.std.proofs.Common.{◌≡◌, refl, ap, sym, ◌∙◌, subst, ℕ, Bool, true, false, List, length}
use Rattle.std.proofs.lemmas.List.{append_cancel_left}
use Rattle.fts_tables.specs.Counts.{Rose}
use Rattle.fts_tables.specs.declared.commands.Entry.{Entry}
use Rattle.fts_turnstile.specs.Passes.{PassView, IsSame, TookTurn}
use Rattle.fts_wire.specs.RequestData.{RequestData}
use Rattle.fts_wire.specs.declared.response.Reply.{Reply}
use Rattle.fts_keep.specs.Keeps.{bodies_of}
use Rattle.fts_routes.specs.Replies.{Said, said, said_so, CausedBy, IsInsteadOf}
use Rattle.fts_shop.specs.Shops.{ShopData, TakesTurn, HasFault, shop_entries, writer_of, shop_shows, shown_before, doubt_bytes, doubt_shown, faults_shown, lanes_shown, flag, telling_shown, point}
use Rattle.fts_shop.proofs.Took.{taken_of}
use Rattle.fts_service.specs.Lanes.{AnsweredInTurn, DoubtComesIn, said_in}
use Rattle.fts_service.specs.Within.{AnswersIn}
use Rattle.fts_service.proofs.Doubting.{doubt_came_in}
use Rattle.fts_disk.specs.declared.disk.Disk as disk

-- a disk that shows that it tells its contents tells them
tells_where_shown : (told : Bool) → flag told ≡ 1 → told ≡ true
tells_where_shown true shown = refl
tells_where_shown false shown = absurd cc

module _ {D : Type 0} (disks : disk.Ghosts D) (work : ShopData D → ShopData D → Type 0) (old new : PassView Entry) (same : IsSame old new)
    (took : TookTurn shop_entries writer_of (shop_shows disks) work old new) (request : RequestData) (now : ℕ) (reply : Reply)
    (answers : AnswersIn disks old.number request now took.before took.after reply) where
  -- what is said over the keep is what is said over the list before the turn
  said_is : said took.before.keep.tables answers.answers.bodies took.before.keep.used old.number request now
      ≡ said_in (point (taken_of disks work old new same took answers.disk)) answers.answers.bodies old.number request now
  said_is =
      let filled = answers.kept.fold.filled in
      (λ i. said (filled.list.folded i) answers.answers.bodies (filled.fills i) old.number request now)
      ∙ ap (λ (list : List Entry). said_in list answers.answers.bodies old.number request now) took.began

  -- the request was answered in the turn
  pub answered_in_turn : AnsweredInTurn old new request now reply
  answered_in_turn = record {
    taken = taken_of disks work old new same took answers.disk;
    lanes = answers.stay ∙ ap lanes_shown took.showed;
    own = took.own_is;
    way = answers.answers.way;
    cause = subst (λ (n : ℕ). CausedBy answers.answers.way n (disks.faults took.after.keep.disk)) (ap faults_shown took.showed) answers.answers.cause;
    bodies = answers.answers.bodies;
    shown = record {
      counted = answers.answers.shown.counted ∙ answers.kept.fold.filled.list.counted ∙ ap (λ (list : List Entry). length list) took.began;
      spelled = λ tells. answers.answers.shown.spelled
          (tells_where_shown (disks.state took.before.keep.disk).told (ap telling_shown took.showed ∙ tells)) ∙ ap bodies_of took.began;
    };
    instead = subst (λ (s : Said). IsInsteadOf answers.answers.way s) said_is answers.answers.instead;
    replies = answers.answers.replies ∙ ap (λ (s : Said). (said_so answers.answers.way s).reply) said_is;
    added = added_is;
    doubt = subst (λ (s : Said). DoubtComesIn (HasFault taken) (doubt_shown (shown_before taken)) (doubt_bytes took.after.keep.doubt) s.added took.added) said_is
        (subst (λ (added : List Entry). DoubtComesIn (HasFault taken) (doubt_shown (shown_before taken)) (doubt_bytes took.after.keep.doubt) met.added added)
        (sym added_here)
        (doubt_came_in (HasFault taken) (disks.faults took.before.keep.disk) (disks.faults took.after.keep.disk) took.before.keep.doubt
        took.after.keep.doubt (doubt_shown (shown_before taken)) met.added (said_so answers.answers.way met).added (ap doubt_shown took.showed)
        (λ rose. subst (λ (n : ℕ). Rose n (disks.faults took.after.keep.disk)) (ap faults_shown took.showed) rose) answers.answers.doubt));
  }
    where
      taken : TakesTurn old new
      taken = taken_of disks work old new same took answers.disk

      -- what is said over the keep, and what the turn adds by it
      met : Said
      met = said took.before.keep.tables answers.answers.bodies took.before.keep.used old.number request now

      added_here : took.added ≡ (said_so answers.answers.way met).added
      added_here = append_cancel_left took.before.keep.entries took.added (said_so answers.answers.way met).added
          (sym took.appended ∙ answers.answers.listed)

      added_is : took.added ≡ (said_so answers.answers.way (said_in (point taken) answers.answers.bodies old.number request now)).added
      added_is = added_here ∙ ap (λ (s : Said). (said_so answers.answers.way s).added) said_is
