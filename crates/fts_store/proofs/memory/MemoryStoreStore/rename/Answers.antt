use Rattle.fts_store.proofs.memory.MemoryStoreStore.rename.Goals as goal

pub returns-clause-moved : goal.returns-clause-moved
returns-clause-moved c = rw c.count.ensures.same (rw c.begin.ensures.held at c.rename-answer.ensures.ok)

pub returns-clause-failed : goal.returns-clause-failed
returns-clause-failed c = rw c.count.ensures.same (rw c.begin.ensures.held at c.rename-answer.ensures.err)
