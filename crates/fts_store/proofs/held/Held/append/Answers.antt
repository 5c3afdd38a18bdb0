use Rattle.std.proofs.Common.{◌≡◌, ◌++◌, Some, List, Option, Ok, Err, OnOk, OnErr, Result, None, ℕ, ◌∙◌, ap}
use Rattle.fts_store.specs.Held.{files_over, kept_file, IsEntryOf}
use Rattle.fts_store.specs.Store.{Same, place_at, bytes_of, with_file}
use Rattle.fts_tables.specs.declared.places.Place.{Place}
use Rattle.fts_store.proofs.Places.{change_over, restore_over}
use Rattle.fts_store.proofs.Entries.{entry_inside, room_there}
use Rattle.fts_store.proofs.held.Held.append.Goals as goal

-- bytes were put behind those of a file that was taken out
grown_over : {T E : Type 0} (result : Result T E) (old middle taken new : Place → Option (List ℕ)) (at : Place) (before after : Option (List ℕ)) (bytes : List ℕ)
    → before ≡ middle at → Same middle old → OnOk result (after ≡ Some (bytes_of before ++ bytes)) → (Same new (with_file old at after))
    → OnOk result (Same new (with_file old at (Some (bytes_of (old at) ++ bytes))))
grown_over (Ok t) old middle taken new at before after bytes was same grows puts = λ place.
    puts place ∙ ap (λ f. with_file old at f place) (grows ∙ ap (λ f. Some (bytes_of f ++ bytes)) (was ∙ same at))
grown_over (Err e) old middle taken new at before after bytes was same grows puts = tt

-- nothing was put behind them
kept_over : {T E : Type 0} (result : Result T E) (old middle taken new : Place → Option (List ℕ)) (at : Place) (before after : Option (List ℕ))
    → before ≡ middle at → Same middle old → Same taken (with_file middle at None) → Same new (with_file taken at after) → OnErr result (after ≡ before)
    → OnErr result (Same new old)
kept_over (Ok t) old middle taken new at before after was same takes puts keeps = tt
kept_over (Err e) old middle taken new at before after was same takes puts keeps = restore_over old middle taken new at after (keeps ∙ was) same takes puts

pub exchange-file-requires : goal.exchange-file-requires
exchange-file-requires c = entry_inside c.own.new.made.items c.in_ok-n.n (place_at c.args.at) c.in_ok-n.ensures.entry

pub exchange-requires : goal.exchange-requires
exchange-requires c = entry_inside c.exchange-file.new.made.items c.in_ok-n.n (place_at c.args.at) (c.exchange-file.ensures.stay (place_at c.args.at) ∙ c.in_ok-n.ensures.entry)

pub returns-clause-ok : goal.returns-clause-ok
returns-clause-ok c =
    let given = c.args.self.now.given in
    let at : Place = place_at c.args.at in
    let entry : IsEntryOf c.own.new.made.items c.in_ok-n.n at = c.in_ok-n.ensures.entry in
    let again : IsEntryOf c.exchange-file.new.made.items c.in_ok-n.n at = c.exchange-file.ensures.stay at ∙ entry in
    grown_over c.grow-answer.result (files_over given c.args.self.now.made.items) (files_over given c.own.new.made.items)
    (files_over given c.exchange-file.new.made.items) (files_over given c.exchange.new.made.items) at (kept_file c.exchange-file.result) (kept_file c.grow-answer.new.file) c.args.bytes.now
    (c.exchange-file.ensures.given given at entry) c.own.ensures.same c.grow-answer.ensures.ok
    (change_over (files_over given c.args.self.now.made.items) (files_over given c.own.new.made.items) (files_over given c.exchange-file.new.made.items)
    (files_over given c.exchange.new.made.items) at (kept_file c.grow-answer.new.file) c.own.ensures.same
    (c.exchange-file.ensures.put given at entry) (c.exchange.ensures.put given at again))

pub returns-clause-err : goal.returns-clause-err
returns-clause-err c =
    let given = c.args.self.now.given in
    let at : Place = place_at c.args.at in
    let entry : IsEntryOf c.own.new.made.items c.in_ok-n.n at = c.in_ok-n.ensures.entry in
    let again : IsEntryOf c.exchange-file.new.made.items c.in_ok-n.n at = c.exchange-file.ensures.stay at ∙ entry in
    kept_over c.grow-answer.result (files_over given c.args.self.now.made.items) (files_over given c.own.new.made.items)
    (files_over given c.exchange-file.new.made.items) (files_over given c.exchange.new.made.items) at (kept_file c.exchange-file.result) (kept_file c.grow-answer.new.file)
    (c.exchange-file.ensures.given given at entry) c.own.ensures.same
    (c.exchange-file.ensures.put given at entry) (c.exchange.ensures.put given at again) c.grow-answer.ensures.err

pub returns-clause-room : goal.returns-clause-room
returns-clause-room c room =
    c.grow-answer.ensures.room (room_there c.args.self.now.made.items c.own.new.made.items c.in_ok-n.n (place_at c.args.at) _ c.exchange-file.result
    c.exchange-file.ensures.taken room.takes (c.own.ensures.kept room.named) c.in_ok-n.ensures.entry)
