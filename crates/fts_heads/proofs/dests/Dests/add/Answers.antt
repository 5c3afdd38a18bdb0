use Rattle.std.proofs.Common.{◌≡◌, ℕ, ◌+◌, false, take, sym, ap, ◌∙◌, subst, arith}
use Rattle.std.specs.Prelude.{◌==◌}
use Rattle.std.specs.Option.{option_map_or}
use Rattle.std.proofs.lemmas.List.{take-map}
use Rattle.ordered.specs.Orders.{has_key, last_before}
use Rattle.fts_tables.specs.declared.rows.FileRow.{FileRow}
use Rattle.fts_heads.specs.Digests.{digest_of, is_digested_before}
use Rattle.fts_heads.specs.Dests.{DestsData, dests_of, number_of, AreNumbersOf}
use Rattle.fts_heads.proofs.Numbers.{numbered, dests_before, row_more, number_new}
use Rattle.fts_heads.proofs.Added.{first_of_digest, number_at, has_number, own_number}
use Rattle.fts_heads.proofs.dests.Dests.add.Goals as goal
use Rattle.fts_heads.proofs.dests.Dests.add.Goals.{After-insert_behind-front}

-- the digest is that of the row's destination
digest_is : (c : After-insert_behind-front) → c.digest_of-digest.result ≡ digest_of c.index-rows-place.result.dest
digest_is c = c.digest_of-digest.ensures.digest ∙ ap (λ row. digest_of row.dest) (sym c.index-rows-place.is)

-- the numbers are then those of the rows up to this one and with it
numbers_are : (c : After-insert_behind-front) → AreNumbersOf (take (c.args.place + 1) (dests_of c.args.rows.now))
    (record { keys = c.insert_behind-front.new.self.keys; room = c.insert_behind-front.new.self.room })
numbers_are c =
    row_more c.args.rows.now c.args.place c.index-rows-place.result c.digest_of-digest.result _ _ c.requires.inside c.index-rows-place.is
    (subst (AreNumbersOf (take c.args.place (dests_of c.args.rows.now))) (sym c.self.view_is) c.requires.numbers)
    (digest_is c) (ap (λ set. set.keys) c.insert_behind-front.ensures.keys)

pub insert_behind-front-requires : goal.insert_behind-front-requires
insert_behind-front-requires c =
    let places = take c.args.place (dests_of c.args.rows.now) in
    let are = subst (AreNumbersOf places) (sym c.self.view_is) c.requires.numbers in
    let before = dests_before c.args.rows.now c.args.place c.requires.inside in
    let room = ap (λ (dests : DestsData). dests.room) c.self.view_is in
    record {
      room = omega (arith, are.count, before, room, c.requires.room);
      absent = number_new places c.digest_of-digest.result c.args.place _ are (omega (arith, before));
    }

pub returns-then-not-is_of-clause-numbers : goal.returns-then-not-is_of-clause-numbers
returns-then-not-is_of-clause-numbers c = numbers_are (goal.at.returns-then-not-is_of-clause-numbers c).After-insert_behind-front

pub returns-then-not-is_of-clause-number : goal.returns-then-not-is_of-clause-number
returns-then-not-is_of-clause-number c =
    let rows = c.args.rows.now in
    let place = c.args.place in
    let row = c.index-rows-place.result in
    let digest = c.digest_of-digest.result in
    let keys = c.self.inside.keys.keys in
    let are = subst (AreNumbersOf (take place (dests_of rows))) (sym c.self.view_is) c.requires.numbers in
    let none =
    ap (λ number. option_map_or (λ key. key.digest == digest) (last_before is_digested_before (numbered digest number) keys) false)
    (dests_before rows place c.requires.inside)
    ∙ (ap (λ found. option_map_or (λ key. key.digest == digest) found false) (sym c.insert_behind-front.ensures.front)
    ∙ (sym c.is_of.ensures.answer ∙ c.if-not-is_of.true)) in
    number_at rows place row c.requires.inside c.index-rows-place.is place
    (own_number rows place row c.requires.inside c.index-rows-place.is _ are
    (subst (λ digest. (other : ℕ) → has_key is_digested_before (numbered digest other) keys ≡ false)
    (digest_is (goal.at.returns-then-not-is_of-clause-number c).After-insert_behind-front)
    (first_of_digest (take place (dests_of rows)) digest _ are c.len.ensures.order none)))

pub number_of-requires-clause-numbers : goal.number_of-requires-clause-numbers
number_of-requires-clause-numbers c =
    subst
    (λ places. AreNumbersOf places (record { keys = c.insert_behind-front.new.self.keys; room = c.insert_behind-front.new.self.room }))
    (take-map (λ (row : FileRow). row.dest) (c.args.place + 1) c.args.rows.now)
    (numbers_are (goal.at.number_of-requires-clause-numbers c).After-insert_behind-front)

pub unreachable-requires : goal.unreachable-requires
unreachable-requires c =
    let rows = c.args.rows.now in
    let row = c.index-rows-place.result in
    has_number rows c.args.place row c.requires.inside c.index-rows-place.is
    (ap (λ places. number_of places row.dest) (take-map (λ (row : FileRow). row.dest) (c.args.place + 1) rows)
    ∙ (ap (λ (row : FileRow). number_of (dests_of (take (c.args.place + 1) rows)) row.dest) c.index-rows-place.is
    ∙ (sym c.number_of.ensures.number ∙ c.in-None.is)))

pub returns-clause-numbers : goal.returns-clause-numbers
returns-clause-numbers c = numbers_are (goal.at.returns-clause-numbers c).After-insert_behind-front

pub returns-clause-number : goal.returns-clause-number
returns-clause-number c =
    let rows = c.args.rows.now in
    let row = c.index-rows-place.result in
    number_at rows c.args.place row c.requires.inside c.index-rows-place.is c.in-Some.first
    (ap (λ places. number_of places row.dest) (take-map (λ (row : FileRow). row.dest) (c.args.place + 1) rows)
    ∙ (ap (λ (row : FileRow). number_of (dests_of (take (c.args.place + 1) rows)) row.dest) c.index-rows-place.is
    ∙ (sym c.number_of.ensures.number ∙ c.in-Some.is)))
