-- What the room of a response keeps.
use Rattle.std.specs.Prelude.{◌≡◌, ℕ, ◌≤◌, List, length, drop, vec_capacity}
use Rattle.fts_wire.specs.NextAnswers.{AnswerRoomData}
use Rattle.fts_wire.specs.declared.buffer.TheConstants.{PIECE_BYTES}
use Rattle.fts_wire.specs.declared.answer_buffer.TheConstants.{ANSWER_BUFFER_BYTES}
use Rattle.fts_wire.specs.declared.answer_buffer.AnswerBuffer.TheInside.{Inside as BufferInside}
use Rattle.fts_wire.specs.declared.answers.AnswerRoom.TheInside.{Inside}

-- the bytes at hand
abbrev pub answer_bytes : BufferInside → List ℕ
answer_bytes b = b.bytes.items

-- there is room for what is short of a response, and one piece more
pub record IsAnswerBuffer (b : BufferInside) : Type 0 where
  pub capacity : ANSWER_BUFFER_BYTES ≤ vec_capacity b.bytes
  pub piece : length b.piece.items ≡ PIECE_BYTES

-- the body: the bytes behind the head
abbrev pub answer_room_data : Inside → AnswerRoomData
answer_room_data r = record { body = drop r.start r.buffer }

-- the body begins within the bytes
abbrev pub IsAnswerRoom : Inside → Type 0
IsAnswerRoom r = r.start ≤ length r.buffer
