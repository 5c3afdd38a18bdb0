use Rattle.std.proofs.Common.{◌≡◌, ◌-◌, length, arith}
use Rattle.fts_store.specs.Store.{bytes_of, place_at}
use Rattle.fts_copy.proofs.Filling.{read_gives}
use Rattle.fts_copy.proofs.reading.read_more.Goals as goal

pub returns-clause-bytes : goal.returns-clause-bytes
returns-clause-bytes g c told =
    let long : length c.read_at.new.into ≡ c.args.to - c.args.from = omega arith in
    read_gives c.read_at.result (bytes_of ((g.E.Store.state c.args.store.now).files (place_at c.args.at))) c.args.offset c.args.buffer.now c.read_at.new.into c.args.from c.args.to
    c.read_at.ensures.within (c.read_at.ensures.bytes told) c.requires.from c.requires.to long
