use Rattle.std.proofs.Common.{◌++◌, Some}
use Rattle.fts_store.specs.Store.{place_at, bytes_of}
use Rattle.fts_store.specs.Held.{held_files}
use Rattle.fts_store.specs.Memory.{kept_bytes, next_append}
use Rattle.fts_store.proofs.Appends.{faithful_keeps, done_there, done_elsewhere}
use Rattle.fts_store.proofs.memory.MemoryStoreStore.append.Goals as goal

pub returns-clause-exact : goal.returns-clause-exact
returns-clause-exact c = rw c.count.ensures.same
    (rw (c.begin.ensures.held, c.kept.ensures, c.is_listed-is_lost.ensures.listed, c.is_listed-is_lost.ensures.number, c.deref.ensures.value) at c.append-answer.ensures.ok)

pub returns-clause-failed : goal.returns-clause-failed
returns-clause-failed c = rw c.count.ensures.same (rw c.begin.ensures.held at c.append-answer.ensures.err)

pub returns-clause-appended : goal.returns-clause-appended
returns-clause-appended c faithful =
    done_there c.count.result (held_files c.args.self.now.held) (held_files c.append-answer.new.self) (place_at c.args.at)
    (bytes_of (held_files c.args.self.now.held (place_at c.args.at))) (kept_bytes c.args.self.now.drop.items (next_append c.args.self.now) c.args.bytes.now) c.args.bytes.now
    (faithful_keeps c.args.self.now.drop.items (next_append c.args.self.now) c.args.bytes.now faithful) (returns-clause-exact c)

pub returns-clause-others : goal.returns-clause-others
returns-clause-others c = done_elsewhere c.count.result (held_files c.args.self.now.held) (held_files c.append-answer.new.self) (place_at c.args.at)
    (Some (bytes_of (held_files c.args.self.now.held (place_at c.args.at)) ++ kept_bytes c.args.self.now.drop.items (next_append c.args.self.now) c.args.bytes.now))
    (returns-clause-exact c) (returns-clause-failed c)
