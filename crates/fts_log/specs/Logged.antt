-- What is known of a file system that tells its failed calls, and of its open files.
use Rattle.fts_log.specs.declared.logged.LoggedFiles.{LoggedFiles}
use Rattle.fts_log.specs.declared.logged.LoggedHandle.{LoggedHandle}

-- the file system below it
abbrev pub files_below : {F Handle L : Type 0} → LoggedFiles F Handle L → F
files_below logged = logged.files

-- the open file of the one below
abbrev pub file_below : {H : Type 0} → LoggedHandle H → H
file_below file = file.handle
