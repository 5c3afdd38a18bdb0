-- The table of a document's faults: the number of each rule, and its message.
use Rattle.std.specs.Prelude.{ℕ, List, codes}
use Rattle.fts_joburl.specs.declared.fault.UrlFault.{UrlFault}
use Rattle.fts_joburl.specs.declared.fault.UrlFault.TheVariants.{NotUrl, NoHost, HasQuery, HasFragment, HasUser, HasEscape, NoPath, TooLong, Reserved, HasPath, Memory as UrlMemory}
use Rattle.fts_jobdoc.specs.declared.fault.DocFault.{DocFault}
use Rattle.fts_jobdoc.specs.declared.fault.DocFault.TheVariants.{NotJson, NotObject, NoFiles, TooManyFiles, FileNotObject, SourcesWrong, DestinationsWrong, BadUrl, UnknownEndpoint, SameUrl, BadFilesize, BadChecksum, OtherAlgorithm, BadStrategy, BadActivity, ParamsNotObject, BadRetry, BadDelay, BadPriority, BadVerify, NotOffered, ReplicaManyFiles, MultihopShape, BadSid, BadQueueTime, Memory}
use Rattle.fts_jobdoc.specs.declared.fault.Unoffered.{Unoffered}
use Rattle.fts_jobdoc.specs.declared.fault.Unoffered.TheVariants.{Reuse, BringOnline, CopyPinLifetime, ArchiveTimeout}

-- the number of the rule; want of memory is none, and has 0
unfoldable pub rule_of : DocFault → ℕ
rule_of NotJson = 1
rule_of NotObject = 2
rule_of NoFiles = 3
rule_of TooManyFiles = 4
rule_of FileNotObject = 5
rule_of SourcesWrong = 6
rule_of DestinationsWrong = 7
rule_of (BadUrl fault) = 8
rule_of UnknownEndpoint = 9
rule_of SameUrl = 10
rule_of BadFilesize = 11
rule_of BadChecksum = 12
rule_of OtherAlgorithm = 13
rule_of BadStrategy = 14
rule_of BadActivity = 15
rule_of ParamsNotObject = 16
rule_of BadRetry = 17
rule_of BadDelay = 18
rule_of BadPriority = 19
rule_of BadVerify = 20
rule_of (NotOffered field) = 21
rule_of ReplicaManyFiles = 22
rule_of MultihopShape = 23
rule_of BadSid = 24
rule_of BadQueueTime = 29
rule_of Memory = 0

-- the message of a broken URL: the number of the URL's fault
abbrev pub url_message : UrlFault → List ℕ
url_message NotUrl = codes "bad URL 1"
url_message NoHost = codes "bad URL 2"
url_message HasQuery = codes "bad URL 3"
url_message HasFragment = codes "bad URL 4"
url_message HasUser = codes "bad URL 5"
url_message HasEscape = codes "bad URL 6"
url_message NoPath = codes "bad URL 7"
url_message TooLong = codes "bad URL 8"
url_message Reserved = codes "bad URL 9"
url_message HasPath = codes "bad URL 10"
url_message UrlMemory = codes ""

-- the message of what isn't offered: the field
abbrev pub unoffered_message : Unoffered → List ℕ
unoffered_message Reuse = codes "not offered: reuse"
unoffered_message BringOnline = codes "not offered: bring_online"
unoffered_message CopyPinLifetime = codes "not offered: copy_pin_lifetime"
unoffered_message ArchiveTimeout = codes "not offered: archive_timeout"

-- the message of the rule; want of memory has none
unfoldable pub message_of : DocFault → List ℕ
message_of NotJson = codes "not JSON"
message_of NotObject = codes "not an object"
message_of NoFiles = codes "no files"
message_of TooManyFiles = codes "too many files"
message_of FileNotObject = codes "file is not an object"
message_of SourcesWrong = codes "bad sources"
message_of DestinationsWrong = codes "bad destinations"
message_of (BadUrl fault) = url_message fault
message_of UnknownEndpoint = codes "unknown endpoint"
message_of SameUrl = codes "same URL"
message_of BadFilesize = codes "bad filesize"
message_of BadChecksum = codes "bad checksum"
message_of OtherAlgorithm = codes "other algorithm"
message_of BadStrategy = codes "bad strategy"
message_of BadActivity = codes "bad activity"
message_of ParamsNotObject = codes "params is not an object"
message_of BadRetry = codes "bad retry"
message_of BadDelay = codes "bad retry_delay"
message_of BadPriority = codes "bad priority"
message_of BadVerify = codes "bad verify_checksum"
message_of (NotOffered field) = unoffered_message field
message_of ReplicaManyFiles = codes "replicas need one file"
message_of MultihopShape = codes "bad multihop"
message_of BadSid = codes "bad sid"
message_of BadQueueTime = codes "bad max_time_in_queue"
message_of Memory = codes ""
