-- What a buffer and a room keep.
use Rattle.std.specs.Prelude.{◌≡◌, ℕ, ◌+◌, ◌≤◌, List, length, take, drop, vec_capacity}
use Rattle.fts_wire.specs.RequestData.{RequestData, asked}
use Rattle.fts_wire.specs.Look.{head_at, head_bytes, IsSpanned}
use Rattle.fts_wire.specs.RoomData.{RoomData}
use Rattle.fts_wire.specs.declared.buffer.TheConstants.{PIECE_BYTES, BUFFER_BYTES}
use Rattle.fts_wire.specs.declared.buffer.Buffer.TheInside.{Inside as BufferInside}
use Rattle.fts_wire.specs.declared.look.Head.{Head}
use Rattle.fts_wire.specs.declared.request.Room.TheInside.{Inside}

-- the bytes at hand: those of the buffer from its start on
abbrev pub bytes_at_hand : BufferInside → List ℕ
bytes_at_hand b = drop b.start b.bytes.items

-- the start lies within the bytes, and there is room for what is short of a request and one piece more
pub record IsBuffer (b : BufferInside) : Type 0 where
  pub within : b.start ≤ length b.bytes.items
  pub capacity : BUFFER_BYTES ≤ vec_capacity b.bytes
  pub piece : length b.piece.items ≡ PIECE_BYTES

-- how many bytes a request takes, with those before its head
abbrev pub taken_by : Head → ℕ
taken_by head = head.before + head.size + head.body

-- a head and its body stand in bytes, its method and target are texts, and all are no more than a buffer holds
pub record IsWhole (bytes : List ℕ) (head : Head) : Type 0 where
  pub within : taken_by head ≤ length bytes
  pub few : taken_by head ≤ BUFFER_BYTES
  pub spans : IsSpanned (head_bytes bytes head) head

-- the request of a head that stands in bytes, with its body behind it
abbrev pub request_at : List ℕ → Head → RequestData
request_at bytes head = asked (head_at bytes head) (take head.body (drop (head.before + head.size) bytes))

-- the loaded request, and what was read past it
abbrev pub room_data : Inside → RoomData
room_data r = record { request = request_at r.buffer r.head; kept = drop (taken_by r.head) r.buffer }

-- the loaded request stands in the bytes at hand
abbrev pub IsRoom : Inside → Type 0
IsRoom r = IsWhole r.buffer r.head
