-- The line that a client's command writes to its notes, by how it ended.
use Rattle.std.specs.Prelude.{ℕ, List, [], ◌++◌, codes, decimal}
use Rattle.fts_submitting.specs.declared.ends.ClientEnd.{ClientEnd}
use Rattle.fts_submitting.specs.declared.ends.ClientEnd.TheVariants.{Told, NoMemory, InputFailed, OutputFailed, DocumentRule, Refused, LinkFailed, NoAnswer, CannotServe}

-- a line with a number
abbrev pub note_with : List ℕ → ℕ → List ℕ
note_with text number = text ++ (decimal number ++ codes "\n")

-- the line of an end
abbrev pub client_note_of : ClientEnd → List ℕ
client_note_of Told = []
client_note_of NoMemory = codes "fts: no memory\n"
client_note_of InputFailed = codes "fts: input failed\n"
client_note_of OutputFailed = codes "fts: output failed\n"
client_note_of (DocumentRule rule) = note_with (codes "fts: document rule ") rule
client_note_of (Refused status) = note_with (codes "fts: service refused with ") status
client_note_of LinkFailed = codes "fts: link failed\n"
client_note_of NoAnswer = codes "fts: no whole answer\n"
client_note_of (CannotServe status) = note_with (codes "fts: service cannot serve: ") status
