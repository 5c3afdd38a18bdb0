-- What a `JobIds` is to its callers, and what it keeps.
use Rattle.std.specs.Prelude.{◌≤◌, ◌<◌, ◌+◌, ◌^◌, length, vec_capacity, IsTrue, IfSome}
use Rattle.fts_index.specs.Numbers.{IdList}
use Rattle.fts_index.specs.IdOrder.{IsOrderOf}
use Rattle.fts_index.specs.PlaceLists.{IsGapIn, order_of}
use Rattle.fts_index.specs.declared.job_ids.JobIds.TheInside.{Inside}

-- the ids in order of their jobs, and the room
abbrev pub id_list : Inside → IdList
id_list index = record { ids = index.ids.items; room = index.room }

-- there is memory for each id that there is room for, and for it in the order; what is remembered of a search is still true
pub record AreJobIds (index : Inside) : Type 0 where
  pub inside : length index.ids.items ≤ index.room
  pub near : index.room ≤ length index.ids.items + 1
  pub room : index.room ≤ vec_capacity index.ids
  pub few : index.room < 2 ^ 32
  pub ready : length index.ids.items < index.room → IsTrue index.order.ready
  pub order : IsOrderOf index.ids.items (order_of index.order.chunks)
  pub sought : IfSome index.sought (λ sought. IsGapIn index.order sought.id sought.spot.chunk sought.spot.at)
