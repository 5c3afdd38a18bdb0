-- What contracts see of an input of requests that are there already.
use Rattle.std.specs.Prelude.{ℕ, List, drop}
use Rattle.fts_load.specs.declared.input.LoadInput.TheInside.{Inside}

-- the bytes left, and how often it was read
pub record InputData : Type 0 where
  pub left : List ℕ
  pub reads : ℕ

abbrev pub input_data : Inside → InputData
input_data input = record { left = drop input.at input.bytes.items; reads = input.reads }
