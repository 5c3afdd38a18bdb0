-- Which statuses the errands never have.
use Rattle.std.proofs.Common.{◌≢◌}
use Rattle.fts_submitting.specs.Ends.{client_status}
use Rattle.fts_submitting.specs.declared.ends.ClientEnd.{ClientEnd}
use Rattle.fts_submitting.specs.declared.ends.ClientEnd.TheVariants as client_ends
use Rattle.fts_deleting.specs.Ends.{delete_status}
use Rattle.fts_deleting.specs.declared.ends.DeleteEnd.{DeleteEnd}
use Rattle.fts_deleting.specs.declared.ends.DeleteEnd.TheVariants as delete_ends
use Rattle.fts_following.specs.Ends.{follow_status}
use Rattle.fts_following.specs.declared.ends.FollowRunEnd.{FollowRunEnd}
use Rattle.fts_following.specs.declared.ends.FollowRunEnd.TheVariants as follow_ends

-- a client's command has none of a session's words, settings and disks
pub client_status_not : (end : ClientEnd) → (client_status end ≢ 2) × ((client_status end ≢ 4) × (client_status end ≢ 8))
client_status_not client_ends.Told = (λ e. cc, (λ e. cc, λ e. cc))
client_status_not _ = (λ e. cc, (λ e. cc, λ e. cc))

-- a deletion has none of words and settings: those stop it before it begins
pub delete_status_not : (end : DeleteEnd) → (delete_status end ≢ 2) × (delete_status end ≢ 8)
delete_status_not delete_ends.Told = (λ e. cc, λ e. cc)
delete_status_not _ = (λ e. cc, λ e. cc)

-- a standby has none of words, settings and input
pub follow_status_not : (end : FollowRunEnd) → (follow_status end ≢ 2) × ((follow_status end ≢ 5) × (follow_status end ≢ 8))
follow_status_not follow_ends.CaughtUp = (λ e. cc, (λ e. cc, λ e. cc))
follow_status_not _ = (λ e. cc, (λ e. cc, λ e. cc))
