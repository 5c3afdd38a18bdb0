-- What a keep answers to the request for an entry is a reply over its list.
use Rattle.std.proofs.Common.{◌≡◌, ◌∙◌, ap, subst, ℕ, ◌+◌, ◌*◌, ◌<◌, ◌≤◌, Option, Some, None, List, [], ◌∷◌, length, arith, length-append}
use Rattle.std.specs.Prelude.{All}
use Rattle.std.proofs.lemmas.List.{get_or_append_left}
use Rattle.fts_tables.specs.Tables.{Tables}
use Rattle.fts_tables.specs.History.{tables_of}
use Rattle.fts_tables.specs.declared.commands.Entry.{Entry}
use Rattle.fts_tables.specs.declared.limits.TheConstants.{JOURNAL_END}
use Rattle.fts_record.specs.Proper.{IsProper}
use Rattle.fts_disk.specs.Disk.{DiskState, IsTold}
use Rattle.fts_keep.specs.Keeps.{KeepData, IsKeep, bodies_of, used_of, with_doubt}
use Rattle.fts_wire.specs.declared.response.Reply.{Reply}
use Rattle.fts_routes.specs.Replies.{Way, said, said_so, said_over, Answers}
use Rattle.fts_standby_laws.specs.Serving.{request_for, IsServed, IsReply}

-- the same reply over the tables, the spellings and the bytes of a list as over the list
same_reply : (entries : List Entry) (tables : Tables) (bodies : List (List ℕ)) (used writer number now : ℕ) (way : Way)
    → tables ≡ tables_of entries → bodies ≡ bodies_of entries → used ≡ used_of entries
    → (said_so way (said tables bodies used writer (request_for number) now)).reply ≡ (said_so way (said_over entries writer (request_for number) now)).reply
same_reply entries tables bodies used writer number now way folded spelled fills =
    ap (λ t. (said_so way (said t bodies used writer (request_for number) now)).reply) folded
    ∙ (ap (λ b. (said_so way (said (tables_of entries) b used writer (request_for number) now)).reply) spelled
    ∙ ap (λ u. (said_so way (said (tables_of entries) (bodies_of entries) u writer (request_for number) now)).reply) fills)

pub keep_replies : {D : Type 0} (state : D → DiskState) (faults : D → ℕ) (old new : KeepData D) (writer number now : ℕ) (reply : Reply) → IsKeep state old
    → IsTold (state old.disk) → Answers state faults old new writer (request_for number) now reply → IsReply old.entries number reply
keep_replies state faults old new writer number now reply kept told answers =
    let holds = kept.fold.holds told in
    record {
      writer = writer;
      now = now;
      way = answers.way;
      is = answers.replies
          ∙ same_reply old.entries old.tables answers.bodies old.used writer number now answers.way holds.folded (answers.shown.spelled told) holds.fills;
    }

-- a list is proper where it is so with its doubt
proper_list : (entries : List Entry) (doubt : Option Entry) → All IsProper (with_doubt entries doubt) → All IsProper entries
proper_list entries None proper = proper
proper_list entries (Some entry) proper = λ k d below.
    subst IsProper (get_or_append_left entries (entry ∷ []) d k below)
    (proper k d (let joined = length-append entries (entry ∷ []) in omega (arith, joined, below)))

few_entries : (entries : List Entry) (commands used : ℕ) → 8 + 6 * commands ≤ used → used < JOURNAL_END → commands ≡ length entries → length entries ≤ 4294967295
few_entries entries commands used low high counted = omega (arith, low, high, counted)

pub keep_served : {D : Type 0} (state : D → DiskState) (keep : KeepData D) → IsKeep state keep → IsTold (state keep.disk) → IsServed keep.entries
keep_served state keep kept told =
    let holds = kept.fold.holds told in
    record {
      proper = proper_list keep.entries keep.doubt holds.proper;
      few = few_entries keep.entries keep.commands keep.used kept.fold.low kept.fold.high holds.counted;
    }
