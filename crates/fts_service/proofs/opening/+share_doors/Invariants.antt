use Rattle.fts_service.proofs.opening.+share_doors.Given as goal

abbrev pub decreases-share_doors : goal.decreases-share_doors
decreases-share_doors g l = l.count
