-- The line that `delete` writes to its notes, by how it ended.
use Rattle.std.specs.Prelude.{ℕ, List, [], ◌++◌, codes, decimal}
use Rattle.fts_deleting.specs.declared.ends.DeleteEnd.{DeleteEnd}
use Rattle.fts_deleting.specs.declared.ends.DeleteEnd.TheVariants.{Told, NoMemory, DiskFailed, InputFailed, OutputFailed, Damaged, JournalFull, DocumentRule, RowsFull}

-- a line with a number
abbrev pub note_with : List ℕ → ℕ → List ℕ
note_with text number = text ++ (decimal number ++ codes "\n")

-- the line of an end
abbrev pub delete_note_of : DeleteEnd → List ℕ
delete_note_of Told = []
delete_note_of NoMemory = codes "fts: no memory\n"
delete_note_of DiskFailed = codes "fts: disk failed\n"
delete_note_of InputFailed = codes "fts: input failed\n"
delete_note_of OutputFailed = codes "fts: output failed\n"
delete_note_of (Damaged offset) = note_with (codes "fts: journal damaged at ") offset
delete_note_of (JournalFull used) = note_with (codes "fts: journal full at ") used
delete_note_of (DocumentRule rule) = note_with (codes "fts: delete document rule ") rule
delete_note_of RowsFull = codes "fts: rows full\n"
