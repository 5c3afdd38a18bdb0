-- How a fault of the framing is answered: status, rule and message, by its variant. Others have no response.
use Rattle.std.specs.Prelude.{ℕ, List, codes, Option, Some, None}
use Rattle.fts_wire.specs.declared.fault.WireFault.{WireFault}
use Rattle.fts_wire.specs.declared.fault.WireFault.TheVariants.{BadHead, HeadTooLarge, BadLength, Chunked, BodyTooLarge, ForeignOrigin, EndsInside, SourceFailed}

abbrev pub status_of : WireFault → Option ℕ
status_of BadHead = Some 400
status_of HeadTooLarge = Some 431
status_of BadLength = Some 400
status_of Chunked = Some 501
status_of BodyTooLarge = Some 413
status_of ForeignOrigin = Some 403
status_of EndsInside = None
status_of SourceFailed = None

abbrev pub rule_of : WireFault → Option ℕ
rule_of BadHead = Some 41
rule_of HeadTooLarge = Some 42
rule_of BadLength = Some 43
rule_of Chunked = Some 44
rule_of BodyTooLarge = Some 45
rule_of ForeignOrigin = Some 48
rule_of EndsInside = None
rule_of SourceFailed = None

abbrev pub message_of : WireFault → Option (List ℕ)
message_of BadHead = Some (codes "bad head")
message_of HeadTooLarge = Some (codes "head too large")
message_of BadLength = Some (codes "bad length")
message_of Chunked = Some (codes "chunked")
message_of BodyTooLarge = Some (codes "body too large")
message_of ForeignOrigin = Some (codes "foreign origin")
message_of EndsInside = None
message_of SourceFailed = None
