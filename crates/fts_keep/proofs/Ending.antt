-- The law of the journal's end over lists of entries, and what it says of one command.
use Rattle.std.proofs.Common.{◌≡◌, refl, ap, ℕ, ◌+◌, ◌≤◌, ◌<◌, true, if◌then◌else◌, List, [], ◌∷◌, ◌++◌, length, All, arith}
use Rattle.std.specs.List.{flat_map, sum_by}
use Rattle.std.proofs.lemmas.Bool.{le-leb, leb-true}
use Rattle.std.proofs.lemmas.List.{length-append}
use Rattle.std.proofs.lemmas.List.Sums.{sum_by-cons}
use Rattle.std.proofs.lemmas.List.Elements.{All-head, All-tail}
use Rattle.fts_tables.specs.Tables.{Tables, empty_tables}
use Rattle.fts_tables.specs.Step.{step}
use Rattle.fts_tables.specs.History.{tables_of, tables_after, IsAccepted, IsLegal}
use Rattle.fts_tables.specs.Settling.{opens, journal_limit, settles, IsSized, AreSized, OpenBelow, restarts_from, used_by}
use Rattle.fts_tables.specs.declared.limits.TheConstants.{MAX_OPENING_BYTES, JOURNAL_END}
use Rattle.fts_tables.specs.declared.commands.Command.{Command}
use Rattle.fts_tables.specs.declared.commands.Command.TheVariants.{Restart, Submit, CancelJob, CancelFile, SetPriority, Claim, Report, Ban, Unban, Expire}
use Rattle.fts_tables.specs.declared.commands.Entry.{Entry}
use Rattle.fts_record.specs.Spelling.{spelled}
use Rattle.fts_record.specs.Proper.{IsProper}
use Rattle.fts_journal.specs.Format.{header, block, size_bytes}
use Rattle.fts_keep.specs.Keeps.{bodies_of, used_of}
use Rattle.fts_keep.specs.Applied.{fits}
use Rattle.fts_keep.specs.Ending.{entry_bytes, restarts_cost, KeepsFirstLimit, LeavesRoom, HasRoom}

-- what settles something has room up to the journal's end
limit_of_settling : (command : Command) → settles command ≡ true → journal_limit command ≡ JOURNAL_END
limit_of_settling (Submit now job) is = absurd cc
limit_of_settling (SetPriority now job priority) is = absurd cc
limit_of_settling (Ban now storage cancel) is = absurd cc
limit_of_settling _ is = refl

-- a block is longer than its body by five bytes
block_long : (body : List ℕ) → length (block body) ≡ 5 + length body
block_long body = omega (arith, length-append (1 ∷ size_bytes (length body)) body, size body)
  where
    size : (b : List ℕ) → length (size_bytes (length b)) ≡ 4
    size b = refl

-- the blocks of a list's bodies are as long as its entries
blocks_long : (entries : List Entry) → length (flat_map block (bodies_of entries)) ≡ sum_by entry_bytes entries
blocks_long [] = refl
blocks_long (entry ∷ entries) =
    omega (
      arith,
      blocks_long entries,
      block_long (spelled entry),
      length-append (block (spelled entry)) (flat_map block (bodies_of entries)),
      sum_by-cons entry_bytes entry entries,
    )

-- so a list fills what its entries take
pub used_listed : (entries : List Entry) → used_of entries ≡ used_by entry_bytes entries
used_listed entries = omega (arith, blocks_long entries, length-append header (flat_map block (bodies_of entries)))

-- of entries that are proper each takes no more than it may
each_sized : ((entry : Entry) → IsProper entry → IsSized entry_bytes entry) → (entries : List Entry) → All IsProper entries → AreSized entry_bytes entries
each_sized sized [] proper = tt
each_sized sized (entry ∷ entries) proper =
    (sized entry (All-head IsProper entry entries proper), each_sized sized entries (All-tail IsProper entry entries proper))

-- one entry more that ends below the first limit, where it opens something
open_more : (used : ℕ) (entries : List Entry) (entry : Entry) → OpenBelow entry_bytes used entries
    → (opens entry.command ≡ true → used + sum_by entry_bytes entries + entry_bytes entry < MAX_OPENING_BYTES)
    → OpenBelow entry_bytes used (entries ++ entry ∷ [])
open_more used [] entry below last = (λ is. omega (arith, last is), tt)
open_more used (first ∷ entries) entry below last =
    (below.0, open_more (used + entry_bytes first) entries entry below.1 (λ is. omega (arith, last is, sum_by-cons entry_bytes first entries)))

-- the front of such a list
open_front : (used : ℕ) (entries more : List Entry) → OpenBelow entry_bytes used (entries ++ more) → OpenBelow entry_bytes used entries
open_front used [] more below = tt
open_front used (entry ∷ entries) more below = (below.0, open_front (used + entry_bytes entry) entries more below.1)

-- a list that ends below the first limit
open_short : (used : ℕ) (entries : List Entry) → used + sum_by entry_bytes entries < MAX_OPENING_BYTES → OpenBelow entry_bytes used entries
open_short used [] short = tt
open_short used (entry ∷ entries) short = let sum = sum_by-cons entry_bytes entry entries in
    (λ is. omega (arith, short, sum), open_short (used + entry_bytes entry) entries (omega (arith, short, sum)))

-- the restarts of the front cost no more than those of the whole
cost_front : (tables : Tables) (entries more : List Entry)
    → restarts_from entry_bytes tables entries ≤ restarts_from entry_bytes tables (entries ++ more)
cost_front tables [] more = omega arith
cost_front tables (entry ∷ entries) more = omega (arith, cost_front (tables_after tables (step tables entry.command)) entries more)

-- with an entry that fits a list keeps the first limit
pub limit_more : (entries : List Entry) (entry : Entry) → KeepsFirstLimit entries → fits (used_of entries) entry ≡ true
    → KeepsFirstLimit (entries ++ entry ∷ [])
limit_more entries entry limit fit = open_more 8 entries entry limit (λ is. omega (
  arith,
  leb-true (used_of entries + 6 + length (spelled entry)) (journal_limit entry.command) fit,
  ap (λ b. if b then MAX_OPENING_BYTES else JOURNAL_END) is,
  used_listed entries,
))

-- a short list keeps it
pub limit_short : (entries : List Entry) → used_of entries < MAX_OPENING_BYTES → KeepsFirstLimit entries
limit_short entries short = open_short 8 entries (omega (arith, short, used_listed entries))

-- the front of a list that keeps it keeps it
pub limit_front : (entries more : List Entry) → KeepsFirstLimit (entries ++ more) → KeepsFirstLimit entries
limit_front entries more limit = open_front 8 entries more limit

-- and its restarts cost no more
pub cost_less : (entries more : List Entry) → restarts_cost entries ≤ restarts_cost (entries ++ more)
cost_less entries more = cost_front empty_tables entries more

-- behind a list that leaves room there is room
pub room_behind : ((entry : Entry) → IsProper entry → IsSized entry_bytes entry)
    → ((size : Entry → ℕ) (entries : List Entry) (next : Entry) → IsLegal entries → IsAccepted (step (tables_of entries) next.command)
    → settles next.command ≡ true → AreSized size entries → IsSized size next → OpenBelow size 8 entries
    → restarts_from size empty_tables entries ≤ 275888642 → used_by size entries + size next < JOURNAL_END)
    → (entries : List Entry) → IsLegal entries → All IsProper entries → LeavesRoom entries → HasRoom (tables_of entries) (used_of entries)
room_behind sized settled entries legal proper room entry is settling accepted =
    let below = settled entry_bytes entries entry legal accepted settling (each_sized sized entries proper) (sized entry is) room.limit room.restarts in
    le-leb (used_of entries + 6 + length (spelled entry)) (journal_limit entry.command)
    (omega (arith, below, used_listed entries, limit_of_settling entry.command settling))
