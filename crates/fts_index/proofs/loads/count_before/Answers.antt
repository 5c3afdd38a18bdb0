-- What a binary search finds in the order is how many links go before.
use Rattle.std.proofs.Common.{rules}
use Rattle.std.proofs.lemmas.List.Sorted.{IsPartitionPoint-from_clause}
use Rattle.fts_index.specs.Links.{link_between, is_link_before}
use Rattle.fts_index.specs.Loads.{link_of_known}
use Rattle.fts_index.specs.declared.loads.Known.{Known}
use Rattle.fts_index.proofs.LinksInOrder.{parted, parted_at}
use Rattle.fts_index.proofs.loads.count_before.Goals as goal

pub returns-clause-count : goal.returns-clause-count
returns-clause-count c =
    let link = link_between c.args.source.now c.args.dest.now in
    let passes = λ (entry : Known). is_link_before (link_of_known entry) link in
    let some : Known = record { source = c.args.source.now; dest = c.args.dest.now; count = 0 } in
    parted_at link c.args.known.now c.partition_point.result some c.partition_point.ensures.bound
    (IsPartitionPoint-from_clause passes c.args.known.now c.partition_point.result c.partition_point.ensures.partitioned
    (parted link c.args.known.now c.requires.order)
    (λ a r f' called. search rules))
