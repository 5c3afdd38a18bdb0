-- A script that is played goes on step by step, and what it leads to at last is where it leads from the start.
use Rattle.std.proofs.Common.{◌≡◌, ℕ, zero, suc, ◌+◌, ◌-◌, ◌<◌, ◌≤◌, Bool, true, false, Option, Some, None, Result, Ok, Err, List, [], ◌∷◌, ◌++◌, length, take, drop, refl, sym, ◌∙◌, ap, subst, inl, inr, arith, tests}
use Rattle.std.specs.Prelude.{nat_lt, if◌then◌else◌}
use Rattle.std.proofs.Math.Seq.{take-add}
use Rattle.std.proofs.lemmas.List.{length-take-le, length-drop}
use Rattle.fts_tables.specs.declared.places.Place.{Place}
use Rattle.fts_tables.specs.declared.rows.Outcome.{Outcome}
use Rattle.fts_tables.specs.declared.rows.Outcome.TheVariants.{StoreFailed, Stopped}
use Rattle.fts_store.specs.Calls.{Call, Sized, Read, Created, Appended, Renamed, answer_of, bytes_read, with_call}
use Rattle.fts_copy.specs.Watch.{with_answer}
use Rattle.fts_copy.specs.Script.{Script, Ends, Asks, Sizes, Reads, Creates, Appends, Renames, Log, Plays, IsEnd, LeadsTo, log_of, unless_failed, unless_no, unless_none, goes_on, reads_on, reads_piece, reads_behind}

-- where nothing was done
pub leads_same : (script : Script) (log : Log) → LeadsTo script log script log
leads_same script log = record { onward = λ last outcome plays. plays }

-- one step, and those behind it
pub then_leads : {one two three : Script} {a b c : Log} → LeadsTo one a two b → LeadsTo two b three c → LeadsTo one a three c
then_leads first second = record { onward = λ last outcome plays. first.onward last outcome (second.onward last outcome plays) }

-- a script that led to its end was played
pub ended_plays : (script : Script) (old new : Log) (outcome : Outcome) → LeadsTo script old (Ends outcome) new → Plays script old new outcome
unfolding Plays
ended_plays script old new outcome leads = leads.onward new outcome (refl, refl)

-- the watch was asked
pub asks_leads : (next : Script) (calls : Option (List Call)) (old new : Option (List Bool)) (answer : Bool) → new ≡ with_answer old answer
    → LeadsTo (Asks next) (log_of calls old) (unless_no answer next) (log_of calls new)
unfolding Plays
asks_leads next calls old new true is = record { onward = λ last outcome plays. inl (subst (λ answers. Plays next (log_of calls answers) last outcome) is plays) }
asks_leads next calls old new false is = record { onward = λ last outcome plays. inr (subst (λ answers. IsEnd (log_of calls answers) Stopped last outcome) is plays) }

-- a size was asked for
pub sizes_leads : {E : Type 0} (at place : Place) (next : Option ℕ → Script) (old new : Option (List Call)) (answers : Option (List Bool)) (result : Result (Option ℕ) E)
    → at ≡ place → new ≡ with_call old (Sized at (answer_of result)) → LeadsTo (Sizes place next) (log_of old answers) (unless_failed next result) (log_of new answers)
unfolding Plays
sizes_leads at place next old new answers (Ok size) same is = record {
  onward = λ last outcome plays.
      inl (size, subst (λ calls. Plays (next size) (log_of calls answers) last outcome) (is ∙ ap (λ p. with_call old (Sized p (Some size))) same) plays);
}
sizes_leads at place next old new answers (Err error) same is = record {
  onward = λ last outcome plays. inr (subst (λ calls. IsEnd (log_of calls answers) StoreFailed last outcome) (is ∙ ap (λ p. with_call old (Sized p None)) same) plays);
}

-- bytes were read
pub reads_leads : {E : Type 0} (at : Place) (offset wanted : ℕ) (next : List ℕ → Script) (old new : Option (List Call)) (answers : Option (List Bool)) (into : List ℕ) (result : Result ℕ E)
    → new ≡ with_call old (Read at offset wanted (bytes_read result into))
    → LeadsTo (Reads at offset wanted next) (log_of old answers) (unless_failed (λ count. next (take count into)) result) (log_of new answers)
unfolding Plays
reads_leads at offset wanted next old new answers into (Ok count) is = record {
  onward = λ last outcome plays. inl (take count into, subst (λ calls. Plays (next (take count into)) (log_of calls answers) last outcome) is plays);
}
reads_leads at offset wanted next old new answers into (Err error) is = record {
  onward = λ last outcome plays. inr (subst (λ calls. IsEnd (log_of calls answers) StoreFailed last outcome) is plays);
}

-- a file was made
pub creates_leads : {E : Type 0} (at place : Place) (next : Script) (old new : Option (List Call)) (answers : Option (List Bool)) (result : Result (Unit {0}) E)
    → at ≡ place → new ≡ with_call old (Created at (answer_of result)) → LeadsTo (Creates place next) (log_of old answers) (unless_failed (λ done. next) result) (log_of new answers)
unfolding Plays
creates_leads at place next old new answers (Ok done) same is = record {
  onward = λ last outcome plays. inl (subst (λ calls. Plays next (log_of calls answers) last outcome) (is ∙ ap (λ p. with_call old (Created p (Some tt))) same) plays);
}
creates_leads at place next old new answers (Err error) same is = record {
  onward = λ last outcome plays. inr (subst (λ calls. IsEnd (log_of calls answers) StoreFailed last outcome) (is ∙ ap (λ p. with_call old (Created p None)) same) plays);
}

-- bytes were appended
pub appends_leads : {E : Type 0} (at place : Place) (bytes : List ℕ) (next : Script) (old new : Option (List Call)) (answers : Option (List Bool)) (result : Result (Unit {0}) E)
    → at ≡ place → new ≡ with_call old (Appended at bytes (answer_of result))
    → LeadsTo (Appends place bytes next) (log_of old answers) (unless_failed (λ done. next) result) (log_of new answers)
unfolding Plays
appends_leads at place bytes next old new answers (Ok done) same is = record {
  onward = λ last outcome plays. inl (subst (λ calls. Plays next (log_of calls answers) last outcome) (is ∙ ap (λ p. with_call old (Appended p bytes (Some tt))) same) plays);
}
appends_leads at place bytes next old new answers (Err error) same is = record {
  onward = λ last outcome plays. inr (subst (λ calls. IsEnd (log_of calls answers) StoreFailed last outcome) (is ∙ ap (λ p. with_call old (Appended p bytes None)) same) plays);
}

-- a file was moved
pub renames_leads : {E : Type 0} (at place to target : Place) (next : Script) (old new : Option (List Call)) (answers : Option (List Bool)) (result : Result (Unit {0}) E)
    → at ≡ place → to ≡ target → new ≡ with_call old (Renamed at to (answer_of result))
    → LeadsTo (Renames place target next) (log_of old answers) (unless_failed (λ done. next) result) (log_of new answers)
unfolding Plays
renames_leads at place to target next old new answers (Ok done) same there is = record {
  onward = λ last outcome plays. inl (subst (λ calls. Plays next (log_of calls answers) last outcome)
      (is ∙ ap (λ p. with_call old (Renamed p to (Some tt))) same ∙ ap (λ p. with_call old (Renamed place p (Some tt))) there) plays);
}
renames_leads at place to target next old new answers (Err error) same there is = record {
  onward = λ last outcome plays. inr (subst (λ calls. IsEnd (log_of calls answers) StoreFailed last outcome)
      (is ∙ ap (λ p. with_call old (Renamed p to None)) same ∙ ap (λ p. with_call old (Renamed place p None)) there) plays);
}

-- a test that holds, and one that doesn't
chosen : (b : Bool) (one other : Script) → b ≡ true → (if b then one else other) ≡ one
chosen true one other is = refl
chosen false one other is = cc

left : (b : Bool) (one other : Script) → b ≡ false → (if b then one else other) ≡ other
left true one other is = cc
left false one other is = refl

-- enough was read
pub read_enough : (at : Place) (offset wanted : ℕ) (next : List ℕ → Script) (times : ℕ) (got : List ℕ) → wanted ≤ length got → reads_on at offset wanted next times got ≡ next got
unfolding reads_on
read_enough at offset wanted next zero got enough = refl
read_enough at offset wanted next (suc times) got enough =
    let test : nat_lt (length got) wanted ≡ false = grind (arith, tests, enough) in
    left (nat_lt (length got) wanted) _ _ test

-- bytes are there where some were read
some_bytes : (count : ℕ) (into : List ℕ) (ended more : Script) → (count ≡ 0 → ⊥) → count ≤ length into → unless_none (take count into) ended more ≡ more
some_bytes zero into ended more some inside = absurd (some refl)
some_bytes (suc count) [] ended more some inside = absurd (omega arith)
some_bytes (suc count) (byte ∷ bytes) ended more some inside = refl

-- a read behind what was got
reads_once : {E : Type 0} (at : Place) (offset wanted times rest : ℕ) (next : List ℕ → Script) (got : List ℕ) (old new : Option (List Call)) (answers : Option (List Bool))
    (into : List ℕ) (result : Result ℕ E) → times ≡ suc rest → length got < wanted → new ≡ with_call old (Read at (offset + length got) (wanted - length got) (bytes_read result into))
    → LeadsTo (reads_on at offset wanted next times got) (log_of old answers)
    (unless_failed (λ count. unless_none (take count into) (next got) (reads_on at offset wanted next rest (got ++ take count into))) result) (log_of new answers)
unfolding reads_on
reads_once at offset wanted times rest next got old new answers into result more short is =
    let test : nat_lt (length got) wanted ≡ true = grind (arith, tests, short) in
    let here : Script = unless_failed (λ count. unless_none (take count into) (next got) (reads_on at offset wanted next rest (got ++ take count into))) result in
    subst (λ n. LeadsTo (reads_on at offset wanted next n got) (log_of old answers) here (log_of new answers)) (sym more)
    (subst (λ s. LeadsTo s (log_of old answers) here (log_of new answers)) (sym (chosen (nat_lt (length got) wanted) _ _ test))
    (reads_leads at (offset + length got) (wanted - length got) (λ bytes. unless_none bytes (next got) (reads_on at offset wanted next rest (got ++ bytes))) old new answers into result is))

-- what stands at the front of a buffer is so long
front_long : (filled : ℕ) (buffer : List ℕ) → filled ≤ length buffer → length (take filled buffer) ≡ filled
front_long filled buffer inside = length-take-le filled buffer inside

-- a read into the buffer behind what it holds, by what it gave
pub read_goes_on : {E : Type 0} (at : Place) (offset wanted times : ℕ) (next : List ℕ → Script) (before after : List ℕ) (filled count : ℕ) (old new : Option (List Call))
    (answers : Option (List Bool)) (result : Result ℕ E) → result ≡ Ok count → 0 < times → filled < wanted → wanted ≤ length before → length after ≡ length before
    → take filled after ≡ take filled before → new ≡ with_call old (Read at (offset + filled) (wanted - filled) (bytes_read result (drop filled after)))
    → filled + count ≤ wanted → (count ≡ 0 → ⊥)
    → LeadsTo (reads_on at offset wanted next times (take filled before)) (log_of old answers) (reads_on at offset wanted next (times - 1) (take (filled + count) after)) (log_of new answers)
read_goes_on at offset wanted times next before after filled count old new answers result is more short room same_room kept called inside some =
    let long : length (take filled before) ≡ filled = front_long filled before (omega arith) in
    let rest : length (drop filled after) ≡ length after - filled = length-drop filled after in
    let read : new ≡ with_call old (Read at (offset + length (take filled before)) (wanted - length (take filled before)) (bytes_read result (drop filled after))) =
    subst (λ n. new ≡ with_call old (Read at (offset + n) (wanted - n) (bytes_read result (drop filled after)))) (sym long) called in
    let once = reads_once at offset wanted times (times - 1) next (take filled before) old new answers (drop filled after) result (omega arith) (omega arith) read in
    let got : take filled before ++ take count (drop filled after) ≡ take (filled + count) after = ap (λ l. l ++ take count (drop filled after)) (sym kept) ∙ sym (take-add filled count after) in
    subst (λ s. LeadsTo (reads_on at offset wanted next times (take filled before)) (log_of old answers) s (log_of new answers))
    (ap (unless_failed (λ n. unless_none (take n (drop filled after)) (next (take filled before)) (reads_on at offset wanted next (times - 1) (take filled before ++ take n (drop filled after))))) is
    ∙ some_bytes count (drop filled after) (next (take filled before)) _ some (omega arith) ∙ ap (reads_on at offset wanted next (times - 1)) got) once

pub read_finds_end : {E : Type 0} (at : Place) (offset wanted times : ℕ) (next : List ℕ → Script) (before after : List ℕ) (filled count : ℕ) (old new : Option (List Call))
    (answers : Option (List Bool)) (result : Result ℕ E) → result ≡ Ok count → 0 < times → filled < wanted → wanted ≤ length before
    → take filled after ≡ take filled before → new ≡ with_call old (Read at (offset + filled) (wanted - filled) (bytes_read result (drop filled after))) → count ≡ 0
    → LeadsTo (reads_on at offset wanted next times (take filled before)) (log_of old answers) (next (take filled after)) (log_of new answers)
read_finds_end at offset wanted times next before after filled count old new answers result is more short room kept called none =
    let long : length (take filled before) ≡ filled = front_long filled before (omega arith) in
    let read : new ≡ with_call old (Read at (offset + length (take filled before)) (wanted - length (take filled before)) (bytes_read result (drop filled after))) =
    subst (λ n. new ≡ with_call old (Read at (offset + n) (wanted - n) (bytes_read result (drop filled after)))) (sym long) called in
    let once = reads_once at offset wanted times (times - 1) next (take filled before) old new answers (drop filled after) result (omega arith) (omega arith) read in
    subst (λ s. LeadsTo (reads_on at offset wanted next times (take filled before)) (log_of old answers) s (log_of new answers))
    (ap (unless_failed (λ n. unless_none (take n (drop filled after)) (next (take filled before)) (reads_on at offset wanted next (times - 1) (take filled before ++ take n (drop filled after))))) (is ∙ ap Ok none)
    ∙ ap next (sym kept)) once

pub read_fails : {E : Type 0} (at : Place) (offset wanted times : ℕ) (next : List ℕ → Script) (before after : List ℕ) (filled : ℕ) (error : E) (old new : Option (List Call))
    (answers : Option (List Bool)) (result : Result ℕ E) → result ≡ Err error → 0 < times → filled < wanted → wanted ≤ length before
    → new ≡ with_call old (Read at (offset + filled) (wanted - filled) (bytes_read result (drop filled after)))
    → LeadsTo (reads_on at offset wanted next times (take filled before)) (log_of old answers) (Ends StoreFailed) (log_of new answers)
read_fails at offset wanted times next before after filled error old new answers result is more short room called =
    let long : length (take filled before) ≡ filled = front_long filled before (omega arith) in
    let read : new ≡ with_call old (Read at (offset + length (take filled before)) (wanted - length (take filled before)) (bytes_read result (drop filled after))) =
    subst (λ n. new ≡ with_call old (Read at (offset + n) (wanted - n) (bytes_read result (drop filled after)))) (sym long) called in
    let once = reads_once at offset wanted times (times - 1) next (take filled before) old new answers (drop filled after) result (omega arith) (omega arith) read in
    subst (λ s. LeadsTo (reads_on at offset wanted next times (take filled before)) (log_of old answers) s (log_of new answers))
    (ap (unless_failed (λ n. unless_none (take n (drop filled after)) (next (take filled before)) (reads_on at offset wanted next (times - 1) (take filled before ++ take n (drop filled after))))) is) once

-- a piece is read from its start
pub piece_leads : (at : Place) (offset wanted : ℕ) (next : List ℕ → Script) (log : Log) → LeadsTo (reads_piece at offset wanted next) log (reads_on at offset wanted next wanted []) log
unfolding reads_piece
piece_leads at offset wanted next log = leads_same (reads_piece at offset wanted next) log

-- the byte behind the end is a piece of one byte
pub behind_leads : (at : Place) (size : ℕ) (next : Bool → Script) (log : Log)
    → LeadsTo (reads_behind at size next) log (reads_piece at size 1 (λ bytes. unless_none bytes (next false) (next true))) log
unfolding reads_behind
behind_leads at size next log = leads_same (reads_behind at size next) log

-- whether there is a byte behind the end
pub byte_behind : (count : ℕ) (buffer : List ℕ) (next : Bool → Script) → count ≤ length buffer → unless_none (take count buffer) (next false) (next true) ≡ next (nat_lt 0 count)
byte_behind zero buffer next inside = refl
byte_behind (suc count) [] next inside = absurd (omega arith)
byte_behind (suc count) (byte ∷ bytes) next inside = let test : true ≡ nat_lt 0 (suc count) = grind (arith, tests) in ap next test

-- a step that failed leaves nothing to do
pub failed_leads : {T E : Type 0} (script : Script) (old new : Log) (next : T → Script) (result : Result T E) (error : E) → result ≡ Err error
    → LeadsTo script old (unless_failed next result) new → LeadsTo script old (Ends StoreFailed) new
failed_leads script old new next result error is leads = subst (λ r. LeadsTo script old (unless_failed next r) new) is leads

-- a step that was done goes on
pub done_leads : {T E : Type 0} (script : Script) (old new : Log) (next : T → Script) (result : Result T E) (value : T) → result ≡ Ok value
    → LeadsTo script old (unless_failed next result) new → LeadsTo script old (next value) new
done_leads script old new next result value is leads = subst (λ r. LeadsTo script old (unless_failed next r) new) is leads

-- the watch said no, or yes
pub stopped_leads : (script : Script) (old new : Log) (next : Script) (answer : Bool) → answer ≡ false → LeadsTo script old (unless_no answer next) new → LeadsTo script old (Ends Stopped) new
stopped_leads script old new next answer is leads = subst (λ b. LeadsTo script old (unless_no b next) new) is leads

pub wanted_leads : (script : Script) (old new : Log) (next : Script) (answer : Bool) → answer ≡ true → LeadsTo script old (unless_no answer next) new → LeadsTo script old next new
wanted_leads script old new next answer is leads = subst (λ b. LeadsTo script old (unless_no b next) new) is leads

-- a test decides what is done next
pub by_test : (script : Script) (old new : Log) (b : Bool) (one other : Script) → LeadsTo script old (if b then one else other) new → b ≡ true → LeadsTo script old one new
by_test script old new b one other leads is = subst (λ s. LeadsTo script old s new) (chosen b one other is) leads

pub by_else : (script : Script) (old new : Log) (b : Bool) (one other : Script) → LeadsTo script old (if b then one else other) new → b ≡ false → LeadsTo script old other new
by_else script old new b one other leads is = subst (λ s. LeadsTo script old s new) (left b one other is) leads

-- a place by its other name
pub same_place : (at place : Place) (offset wanted : ℕ) (next : List ℕ → Script) (old new : Log) (to : Script) → at ≡ place
    → LeadsTo (reads_piece at offset wanted next) old to new → LeadsTo (reads_piece place offset wanted next) old to new
same_place at place offset wanted next old new to is leads = subst (λ p. LeadsTo (reads_piece p offset wanted next) old to new) is leads

pub same_behind : (at place : Place) (size : ℕ) (next : Bool → Script) (old new : Log) (to : Script) → at ≡ place
    → LeadsTo (reads_behind at size next) old to new → LeadsTo (reads_behind place size next) old to new
same_behind at place size next old new to is leads = subst (λ p. LeadsTo (reads_behind p size next) old to new) is leads

-- a step that ended the copy, or went on
pub over_leads : {T : Type 0} (script : Script) (old new : Log) (next : T → Script) (result : Result T Outcome) (outcome : Outcome) → result ≡ Err outcome
    → LeadsTo script old (goes_on next result) new → LeadsTo script old (Ends outcome) new
over_leads script old new next result outcome is leads = subst (λ r. LeadsTo script old (goes_on next r) new) is leads

pub onward_leads : {T : Type 0} (script : Script) (old new : Log) (next : T → Script) (result : Result T Outcome) (value : T) → result ≡ Ok value
    → LeadsTo script old (goes_on next result) new → LeadsTo script old (next value) new
onward_leads script old new next result value is leads = subst (λ r. LeadsTo script old (goes_on next r) new) is leads
