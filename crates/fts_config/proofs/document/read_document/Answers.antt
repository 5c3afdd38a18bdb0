use Rattle.std.proofs.Common.{refl, inr}
use Rattle.std.proofs.lemmas.Bool.{false≢true}
use Rattle.toml.proofs.Views.{view-Table}
use Rattle.fts_config.proofs.DocumentIs.{document_of-read, document_of-refused}
use Rattle.fts_config.proofs.document.read_document.Goals as goal

pub returns-in-Ok : goal.returns-in-Ok
returns-in-Ok c = document_of-read c.args.text.now _ _ c.in-Ok.ensures.ok.0 c.in-Ok.ensures.ok.1 (view-Table c.in-Ok.table)

pub returns-else-is_memory : goal.returns-else-is_memory
returns-else-is_memory c = inr (refl, document_of-refused c.args.text.now (c.in-Err.ensures.refused (λ memory. false≢true (c.if-is_memory.ensures.1 memory))))
