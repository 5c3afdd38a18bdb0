-- The lines of the log, in the form of logfmt: the moment, what happened, and then a field each for what belongs to it.
use Rattle.std.specs.Prelude.{ℕ, List, ◌++◌, codes, decimal}
use Rattle.std.specs.Int.{to_be_bytes, w128}
use Rattle.uuid.specs.Text.{hyphenated_text, lower}
use Rattle.hex.specs.Hex.{encode_lower}
use Rattle.fts_tables.specs.declared.place_refs.PlaceRef.{PlaceRef}
use Rattle.fts_tables.specs.declared.rows.Outcome.{Outcome}
use Rattle.fts_tables.specs.declared.rows.Outcome.TheVariants.{Verified, SourceMissing, DestinationExists, SourceSize, SourceDigest, ReadBackDiffers, StoreFailed, Stopped}
use Rattle.fts_log.specs.declared.events.EndedCopy.{EndedCopy}
use Rattle.fts_log.specs.declared.events.Event.{Event}
use Rattle.fts_log.specs.declared.events.Event.TheVariants.{Listens, CopyEnded, CallFailed, FoundOther, LineEnded, Ends}
use Rattle.fts_log.specs.declared.events.FileCall.{FileCall}
use Rattle.fts_log.specs.declared.events.FileCall.TheVariants.{Open, Make, Look, LookAtName, LookAtOpen, Read, Write, SyncData, SyncAll, Lock, Forget, Link, Rename, Unlink, MakeFolder, SetMode, Names}
use Rattle.fts_log.specs.declared.events.LineFault.{LineFault}
use Rattle.fts_log.specs.declared.events.LineFault.TheVariants.{SlowToSend, SlowToTake, StreamFailed}
use Rattle.fts_files.specs.declared.files.Kind.{Kind}
use Rattle.fts_files.specs.declared.files.Kind.TheVariants.{File, Folder, Other}
use Rattle.fts_log.specs.Quoting.{quoted}
use Rattle.fts_log.specs.Errnos.{errno_name}
use Rattle.fts_log.specs.Moments.{moment_text}

-- the system's own name of a call
abbrev pub call_word : FileCall → List ℕ
call_word Open = codes "open"
call_word Make = codes "creat"
call_word Look = codes "stat"
call_word LookAtName = codes "lstat"
call_word LookAtOpen = codes "fstat"
call_word Read = codes "pread"
call_word Write = codes "pwrite"
call_word SyncData = codes "fdatasync"
call_word SyncAll = codes "fsync"
call_word Lock = codes "flock"
call_word Forget = codes "posix_fadvise"
call_word Link = codes "link"
call_word Rename = codes "rename"
call_word Unlink = codes "unlink"
call_word MakeFolder = codes "mkdir"
call_word SetMode = codes "fchmod"
call_word Names = codes "readdir"

-- why a connection was ended, in a word
abbrev pub fault_word : LineFault → List ℕ
fault_word SlowToSend = codes "slow_to_send"
fault_word SlowToTake = codes "slow_to_take"
fault_word StreamFailed = codes "stream_failed"

-- what has a name, in words: those of the system where a folder was to be read as a file (EISDIR)
abbrev pub kind_text : Kind → List ℕ
kind_text File = codes "a plain file"
kind_text Folder = codes "Is a directory"
kind_text Other = codes "not a plain file"

-- a job's id as a UUID in lower case (RFC 9562)
unfoldable pub id_text : ℕ → List ℕ
id_text id = hyphenated_text lower (to_be_bytes w128 id)

-- a place as a URL
unfoldable pub place_text : PlaceRef → List ℕ
place_text place = place.endpoint.now ++ codes "/" ++ place.path.now

-- the bytes of a copy that was verified, and 0 of any other
abbrev pub bytes_of : Outcome → ℕ
bytes_of (Verified size digest) = size
bytes_of _ = 0

-- how a copy ended, in the words of the service's replies
abbrev pub outcome_text : Outcome → List ℕ
outcome_text (Verified size digest) = codes "verified"
outcome_text SourceMissing = codes "source missing"
outcome_text DestinationExists = codes "destination exists"
outcome_text (SourceSize seen) = codes "source size " ++ decimal seen
outcome_text (SourceDigest seen) = codes "source digest " ++ encode_lower seen
outcome_text (ReadBackDiffers at) = codes "read back differs at " ++ decimal at
outcome_text StoreFailed = codes "store failed"
outcome_text Stopped = codes "stopped"

-- a field: a space, its name, an equals sign, and what it holds
unfoldable pub field : List ℕ → List ℕ → List ℕ
field name value = codes " " ++ name ++ codes "=" ++ value

-- the fields of a copy that ended, with the texts of its job, its places and its outcome
unfoldable pub copy_fields_with : List ℕ → List ℕ → List ℕ → List ℕ → EndedCopy → List ℕ
copy_fields_with job source dest outcome copy =
    field (codes "event") (codes "copy")
    ++ field (codes "job") (quoted job)
    ++ field (codes "file") (decimal copy.file)
    ++ field (codes "attempt") (decimal copy.attempt)
    ++ field (codes "source") (quoted source)
    ++ field (codes "dest") (quoted dest)
    ++ field (codes "bytes") (decimal (bytes_of copy.outcome))
    ++ field (codes "millis") (decimal copy.millis)
    ++ field (codes "outcome") (quoted outcome)

-- the fields of a copy that ended
abbrev pub copy_fields : EndedCopy → List ℕ
copy_fields copy = copy_fields_with (id_text copy.job) (place_text copy.source) (place_text copy.dest) (outcome_text copy.outcome) copy

-- the fields of a call that failed, of a path, with a number
unfoldable pub call_fields : FileCall → List ℕ → ℕ → List ℕ
call_fields call path errno =
    field (codes "event") (codes "call")
    ++ field (codes "call") (call_word call)
    ++ field (codes "path") (quoted path)
    ++ field (codes "error") (quoted (errno_name errno))
    ++ field (codes "errno") (decimal errno)

-- the fields of an event
unfoldable pub event_fields : Event → List ℕ
event_fields (Listens at) = field (codes "event") (codes "listens") ++ field (codes "at") (quoted at.now)
event_fields (CopyEnded copy) = copy_fields copy
event_fields (CallFailed call path errno) = call_fields call path.now errno
event_fields (FoundOther path kind) =
    field (codes "event") (codes "found") ++ field (codes "path") (quoted path.now) ++ field (codes "error") (quoted (kind_text kind))
event_fields (LineEnded cause) = field (codes "event") (codes "line") ++ field (codes "cause") (fault_word cause)
event_fields (Ends status lost) =
    field (codes "event") (codes "ends")
    ++ field (codes "status") (decimal status)
    ++ field (codes "lost") (decimal lost)

-- the line of an event at a moment in seconds since 1970
abbrev pub event_line : ℕ → Event → List ℕ
event_line moment event = codes "time=" ++ moment_text moment ++ event_fields event ++ codes "\n"
