-- The journal that was opened, what following did to it, and what was written of that.
use Rattle.std.proofs.Common.{inr}
use Rattle.fts_following.proofs.running.run_follow.Goals as goal

pub returns-clause-run : goal.returns-clause-run
returns-clause-run g c = inr (record {
  opened = c.in-Ok-open.journal;
  opens = c.in-Ok-open.ensures.ok;
  makes = c.in-Ok-open.ensures.made;
  closed = c.follow-end.new.journal;
  ended = c.follow-end.result;
  followed = c.follow-end.ensures.followed;
  disk_failed = c.follow-end.ensures.disk_failed;
  images = c.follow-end.ensures.images;
  left_is = c.close.ensures;
  tells = c.tell-told.ensures.tells;
})
