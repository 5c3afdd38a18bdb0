-- What the service replies to the request for an entry shows what its list has there.
use Rattle.std.proofs.Common.{◌≡◌, ℕ, zero, suc, ◌^◌, ◌<◌, ◌≤◌, Bool, true, false, cond, List, [], ◌∷◌, ◌++◌, length, map, Option, Some, None, refl, ap, sym, ◌∙◌, subst, arith, decimal, get_or}
use Rattle.std.specs.Prelude.{All, codes, slice_get, slice_index, option_map, unwrap_or}
use Rattle.std.specs.Option.{option_map_or}
use Rattle.std.proofs.lemmas.List.{length-map, length-append, get_or_append_left}
use Rattle.std.proofs.lemmas.Option.{slice_get_within, slice_get_past, get_or_from_slice_get}
use Rattle.std.proofs.lemmas.Fmt.{decimal_nonempty}
use Rattle.fts_tables.specs.Tables.{Tables}
use Rattle.fts_tables.specs.History.{tables_of}
use Rattle.fts_tables.specs.declared.commands.Entry.{Entry}
use Rattle.fts_record.specs.Spelling.{spelled}
use Rattle.fts_record.specs.Proper.{IsProper}
use Rattle.fts_record.specs.Reading.{read_of}
use Rattle.fts_wire.specs.NextAnswers.{AnswerData, answer_of}
use Rattle.fts_wire.specs.declared.response.Reply.{Reply}
use Rattle.fts_keep.specs.Keeps.{bodies_of, used_of}
use Rattle.fts_routes.specs.Objects.{entry_object as entry_shown_as}
use Rattle.fts_routes.specs.Refusals.{shows, no_route, no_entry}
use Rattle.fts_routes.specs.Routes.{JournalEntry, route_of}
use Rattle.fts_routes.specs.Replies.{Replies, Looks, Way, AsDefined, WithoutMemory, WithoutDisk, Said, said_only, said_so, said_to, said_over, plan_on, plan_of, entry_reply}
use Rattle.fts_standby.specs.Worlds.{Response, Gives, Refuses, IsPrefix, response_by}
use Rattle.fts_standby.specs.Entries.{entry_in, says_no_entry}
use Rattle.fts_standby.specs.Hearing.{Gives as HeardGives, Refuses as HeardRefuses, NoneThere, gives, heard_of}
use Rattle.fts_standby.specs.Reaching.{Shows, IsOneOf}
use Rattle.fts_standby_laws.specs.Serving.{request_for, IsServed, IsReply, IsAnswered}
use Rattle.fts_client.proofs.DigitBytes.{AreDigits, decimal_digits}
use Rattle.fts_standby_laws.proofs.Digits.{one_part, number_spelled}
use Rattle.fts_standby_laws.proofs.ShownEntries.{entry_back, entry_text}
use Rattle.fts_standby_laws.proofs.SpelledBytes.{spelled_bytes}
use Rattle.fts_standby_laws.proofs.ServedWorlds.{IsIn, answers_over, all_numbers, every_number, all_made, is_made, over_number, over_500, over_503}

-- ---- the route and the plan

route_here : (word : List ℕ) → AreDigits word → 1 ≤ length word → route_of (codes "/journal/" ++ word) ≡ Some (JournalEntry word)
route_here [] are some = absurd (omega (arith, some))
route_here (byte ∷ word) are some = rw (one_part (byte ∷ word) are) refl

plan_here : (tables : Tables) (now number : ℕ) → number ≤ 4294967295 → plan_of tables now (request_for number) ≡ Looks (Some number)
plan_here tables now number few =
    let small : number < 2 ^ 64 = omega (arith, few) in
    ap (λ route. option_map_or (plan_on tables now (request_for number)) route (Replies no_route))
    (route_here (decimal number) (decimal_digits number small) (decimal_nonempty number small))
    ∙ ap Looks (number_spelled number few)

said_here : (entries : List Entry) (writer number now : ℕ) → number ≤ 4294967295
    → said_over entries writer (request_for number) now ≡ said_only (entry_reply (bodies_of entries) (Some number))
said_here entries writer number now few = ap (said_to (tables_of entries) (bodies_of entries) (used_of entries) writer) (plan_here (tables_of entries) now number few)

-- what is found at the number decides
abbrev reply_by : ℕ → ℕ → Option (List ℕ) → Reply
reply_by count number found = unwrap_or (option_map (λ body. shows (entry_shown_as body count number)) found) no_entry

-- ---- what a list has at a number

record IsEntryAt (entries : List Entry) (number : ℕ) (body : List ℕ) : Type 0 where
  entry : Entry
  at : slice_get entries number ≡ Some entry
  spells : body ≡ spelled entry

entry_at : (entries : List Entry) (number : ℕ) (body : List ℕ) → slice_get (map spelled entries) number ≡ Some body → IsEntryAt entries number body
entry_at [] number body is = absurd (cc)
entry_at (entry ∷ entries) zero body is = let same : spelled entry ≡ body = cc in record { entry = entry; at = refl; spells = sym same }
entry_at (entry ∷ entries) (suc number) body is =
    let there = entry_at entries number body is in record { entry = there.entry; at = there.at; spells = there.spells }

proper_at : (entries : List Entry) (number : ℕ) (entry : Entry) → All IsProper entries → slice_get entries number ≡ Some entry → IsProper entry
proper_at entries number entry proper at =
    subst IsProper (get_or_from_slice_get entries number entry entry at) (proper number entry (slice_get_within entries number entry at))

none_at : (entries : List Entry) (number : ℕ) → slice_get (map spelled entries) number ≡ None → length entries ≤ number
none_at [] number is = omega arith
none_at (entry ∷ entries) zero is = absurd (cc)
none_at (entry ∷ entries) (suc number) is = let behind = none_at entries number is in omega (arith, behind)

-- ---- replies show responses

-- the law of the record that a proper entry is read back
abbrev pub IsReadBack : Type 0
IsReadBack = (entry : Entry) → IsProper entry → read_of (spelled entry) ≡ Some entry

-- an answer shows a response that stands among those over a list
record IsShownOver (numbers : List ℕ) (entries : List Entry) (answer : AnswerData) : Type 0 where
  response : Response
  there : IsIn response (answers_over numbers entries)
  shows : Shows response answer

module _ (read_back : IsReadBack) (most : ℕ) (entries : List Entry) (served : IsServed entries) (fits : length entries ≤ most) where
  shown_found : (number : ℕ) (found : Option (List ℕ)) → slice_get (map spelled entries) number ≡ found
      → IsShownOver (all_numbers most) entries (answer_of (reply_by (length entries) number found))
  shown_found number (Some body) is =
      let one = entry_at entries number body is in
      let proper = proper_at entries number one.entry served.proper one.at in
      let below = slice_get_within entries number one.entry one.at in
      let count_small : length entries < 2 ^ 64 = omega (arith, served.few) in
      let number_small : number < 2 ^ 64 = omega (arith, below, served.few) in
      record {
        response = Gives number body (length entries);
        there = subst (λ found. IsIn (response_by (length entries) number found) (answers_over (all_numbers most) entries)) is
            (over_number (all_numbers most) entries number (every_number most number (omega (arith, below, fits))));
        shows = record {
          status = refl;
          utf8 = entry_text body (length entries) number count_small number_small;
          reads = entry_back body (length entries) number count_small number_small;
          bytes = subst (λ l. (i : ℕ) → slice_index l i < 256) (sym one.spells) (spelled_bytes one.entry proper);
          entry = one.entry;
          is_entry = ap read_of one.spells ∙ read_back one.entry proper;
        };
      }
  shown_found number None is = record {
    response = Refuses 404;
    there = subst (λ found. IsIn (response_by (length entries) (length entries) found) (answers_over (all_numbers most) entries))
        (slice_get_past (map spelled entries) (length entries) (let same = length-map entries spelled in omega (arith, same)))
        (over_number (all_numbers most) entries (length entries) (every_number most (length entries) fits));
    shows = (refl, λ same. omega (arith, same));
  }

  shown_so : (way : Way) (writer number now : ℕ) → number ≤ 4294967295
      → IsShownOver (all_numbers most) entries (answer_of (said_so way (said_over entries writer (request_for number) now)).reply)
  shown_so AsDefined writer number now few =
      subst (λ (said : Said). IsShownOver (all_numbers most) entries (answer_of said.reply)) (sym (said_here entries writer number now few))
      (subst (λ count. IsShownOver (all_numbers most) entries (answer_of (reply_by count number (slice_get (bodies_of entries) number))))
      (sym (length-map entries spelled)) (shown_found number (slice_get (map spelled entries) number) refl))
  shown_so WithoutMemory writer number now few =
      record { response = Refuses 500; there = over_500 (all_numbers most) entries; shows = (refl, λ same. omega (arith, same)) }
  shown_so WithoutDisk writer number now few =
      record { response = Refuses 503; there = over_503 (all_numbers most) entries; shows = (refl, λ same. omega (arith, same)) }

-- a list is no longer than one that it begins
pub front_short : {A : Type 0} (whole front : List A) → IsPrefix front whole → length front ≤ length whole
front_short whole front begins =
    let same = ap (λ (l : List _). length l) begins.is in let joined = length-append front begins.rest in omega (arith, same, joined)

-- a list that a served one begins with is served
served_front : (primary entries : List Entry) → IsPrefix entries primary → IsServed primary → IsServed entries
served_front primary entries begins served = record {
  proper = λ k d below.
      subst IsProper (ap (λ (l : List Entry). get_or l k d) begins.is ∙ get_or_append_left entries begins.rest d k below)
      (served.proper k d (let whole = front_short primary entries begins in omega (arith, below, whole)));
  few = let whole = front_short primary entries begins in omega (arith, whole, served.few);
}

-- an answer of the service shows one of the responses that its primary made
pub answer_is_one : IsReadBack → (early primary : List Entry) (number : ℕ) (answer : AnswerData) → IsServed primary → number ≤ 4294967295
    → IsAnswered early primary number answer → IsOneOf (all_made primary) answer
answer_is_one read_back early primary number answer served few answered =
    let whole = front_short primary answered.entries answered.begins in
    let shown = shown_so read_back (length primary) answered.entries (served_front primary answered.entries answered.begins served) whole
    answered.is_reply.way answered.is_reply.writer number answered.is_reply.now few in
    let made = is_made primary answered.entries shown.response answered.begins shown.there in
    record {
      place = made.place;
      response = shown.response;
      at = made.is;
      shows = subst (λ a. Shows shown.response a) (sym (answered.shown ∙ ap answer_of answered.is_reply.is)) shown.shows;
    }

-- ---- what a reply says of the length of the list

not_given : (none : Bool) (entry : List ℕ) → cond none NoneThere (HeardRefuses 404) ≡ HeardGives entry → ⊥
not_given true entry is = cc
not_given false entry is = cc

given_found : (count number : ℕ) (found : Option (List ℕ)) (entry : List ℕ)
    → heard_of number (reply_by count number found).status (reply_by count number found).body ≡ HeardGives entry → (body : List ℕ) × (found ≡ Some body)
given_found count number (Some body) entry is = (body, refl)
given_found count number None entry is = absurd (not_given (says_no_entry (reply_by count number None).body) entry is)

given_so : (entries : List Entry) (way : Way) (writer number now : ℕ) (entry : List ℕ) → number ≤ 4294967295
    → heard_of number (said_so way (said_over entries writer (request_for number) now)).reply.status (said_so way (said_over entries writer (request_for number) now)).reply.body ≡ HeardGives entry
    → number < length entries
given_so entries AsDefined writer number now entry few is =
    let found = given_found (length (bodies_of entries)) number (slice_get (bodies_of entries) number) entry
    (ap (λ (said : Said). heard_of number said.reply.status said.reply.body) (sym (said_here entries writer number now few)) ∙ is) in
    let one = entry_at entries number found.0 found.1 in slice_get_within entries number one.entry one.at
given_so entries WithoutMemory writer number now entry few is = absurd (cc)
given_so entries WithoutDisk writer number now entry few is = absurd (cc)

-- an entry is only heard where the list has one there
pub given_there : (entries : List Entry) (number : ℕ) (reply : Reply) (entry : List ℕ) → IsReply entries number reply → number ≤ 4294967295
    → heard_of number reply.status reply.body ≡ HeardGives entry → number < length entries
given_there entries number reply entry is few given =
    given_so entries is.way is.writer number is.now entry few (ap (λ (r : Reply). heard_of number r.status r.body) (sym is.is) ∙ given)

given_none : (found : Option (List ℕ)) → gives found ≡ NoneThere → ⊥
given_none (Some body) is = cc
given_none None is = cc

none_found : (count number : ℕ) (found : Option (List ℕ)) → heard_of number (reply_by count number found).status (reply_by count number found).body ≡ NoneThere → found ≡ None
none_found count number (Some body) is = absurd (given_none (entry_in number (reply_by count number (Some body)).body) is)
none_found count number None is = refl

none_so : (entries : List Entry) (way : Way) (writer number now : ℕ) → number ≤ 4294967295
    → heard_of number (said_so way (said_over entries writer (request_for number) now)).reply.status (said_so way (said_over entries writer (request_for number) now)).reply.body ≡ NoneThere
    → length entries ≤ number
none_so entries AsDefined writer number now few is =
    none_at entries number (none_found (length (bodies_of entries)) number (slice_get (bodies_of entries) number)
    (ap (λ (said : Said). heard_of number said.reply.status said.reply.body) (sym (said_here entries writer number now few)) ∙ is))
none_so entries WithoutMemory writer number now few is = absurd (cc)
none_so entries WithoutDisk writer number now few is = absurd (cc)

-- that there is none is only heard where the list ends before it
pub none_there : (entries : List Entry) (number : ℕ) (reply : Reply) → IsReply entries number reply → number ≤ 4294967295
    → heard_of number reply.status reply.body ≡ NoneThere → length entries ≤ number
none_there entries number reply is few none =
    none_so entries is.way is.writer number is.now few (ap (λ (r : Reply). heard_of number r.status r.body) (sym is.is) ∙ none)
