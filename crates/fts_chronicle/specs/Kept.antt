-- What a chronicle's fields mean, and what it keeps true of them.
use Rattle.std.specs.Prelude.{◌<◌, length, vec_capacity, IsTrue}
use Rattle.fts_chronicle.specs.Chronicle.{KeptChronicle}
use Rattle.fts_chronicle.specs.declared.chronicle.Chronicle.TheInside.{Inside}

-- what contracts see of these fields
abbrev pub kept_chronicle : Inside → KeptChronicle
kept_chronicle inside = record {
  told = record {
    moment = inside.moment;
    restart = inside.restart;
    reports = inside.reports.items;
    events = inside.events.items;
    finishes = inside.finishes.items;
  };
  ready = inside.ready;
}

-- where there is room for one entry more, there is memory for its report, for what it does to a file, and for its job
pub record IsChronicle (inside : Inside) : Type 0 where
  pub room : IsTrue inside.ready → length inside.reports.items < vec_capacity inside.reports
  pub room_beside : IsTrue inside.ready → length inside.events.items < vec_capacity inside.events
  pub room_of_job : IsTrue inside.ready → length inside.finishes.items < vec_capacity inside.finishes
