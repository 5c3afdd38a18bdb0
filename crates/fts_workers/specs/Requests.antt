-- What the commands of requests leave of a bench.
use Rattle.fts_tables.specs.declared.commands.Command.{Command}
use Rattle.fts_tables.specs.declared.commands.Command.TheVariants.{Restart, Submit, CancelJob, CancelFile, SetPriority, Claim, Report, Ban, Unban, Expire}

-- a command that a request asks for: neither a restart nor a round's own
abbrev pub IsOfRequest : Command → Type 0
IsOfRequest (Restart now settings) = ⊥
IsOfRequest (Submit now job) = Unit {0}
IsOfRequest (CancelJob now job) = Unit {0}
IsOfRequest (CancelFile now job file) = Unit {0}
IsOfRequest (SetPriority now job priority) = Unit {0}
IsOfRequest (Claim now word) = ⊥
IsOfRequest (Report now file attempt outcome) = ⊥
IsOfRequest (Ban now storage cancel) = Unit {0}
IsOfRequest (Unban now storage) = Unit {0}
IsOfRequest (Expire now) = ⊥
