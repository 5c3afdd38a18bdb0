-- How reading answers: as is said, or that there was no memory to tell.
use Rattle.std.specs.Prelude.{◌≡◌, ◌⊎◌, Result, Err}
use Rattle.fts_jobdoc.specs.declared.fault.DocFault.{DocFault}
use Rattle.fts_jobdoc.specs.declared.fault.DocFault.TheVariants.{Memory}

-- a result is the expected one, unless memory ran out
abbrev pub Gives : {T : Type 0} → Result T DocFault → Result T DocFault → Type 0
Gives result expected = (result ≡ expected) ⊎ (result ≡ Err Memory)
