-- Which refusals of the system's calls are answers, and no failures.
use Rattle.std.specs.Prelude.{ℕ, ◌||◌, Bool, false}
use Rattle.fts_files.specs.Errno.{is_missing, is_taken, lacks_links}
use Rattle.fts_files.specs.declared.files.Way.{Way}
use Rattle.fts_files.specs.declared.files.Way.TheVariants.{Read as ToRead, Write as ToWrite, New}
use Rattle.fts_log.specs.declared.events.FileCall.{FileCall}
use Rattle.fts_log.specs.declared.events.FileCall.TheVariants.{Open, Make, Look, LookAtName, LookAtOpen, Read, Write, SyncData, SyncAll, Lock, Forget, Link, Rename, Unlink, MakeFolder, SetMode, Names}

-- the call that opens a file so
abbrev pub opening_call : Way → FileCall
opening_call ToRead = Open
opening_call ToWrite = Open
opening_call New = Make

-- whether a refusal with this number answers the call: nothing has the name that was asked for,
-- something has one that was to be free, the folders above one that is to be made have to be made first, or the file system gives no second names, and the
-- file gets its name otherwise
abbrev pub is_answer : FileCall → ℕ → Bool
is_answer Open errno = is_missing errno
is_answer Make errno = is_taken errno
is_answer Look errno = is_missing errno
is_answer LookAtName errno = is_missing errno
is_answer Link errno = is_taken errno || lacks_links errno
is_answer Unlink errno = is_missing errno
is_answer MakeFolder errno = is_taken errno || is_missing errno
is_answer Names errno = is_missing errno
is_answer _ errno = false
