use Rattle.std.proofs.Common.{rules, nat_lt}
use Rattle.std.proofs.lemmas.List.Sorted.{IsPartitionPoint-from_clause, IsPartitionedBy-ltb}
use Rattle.flat_stack.proofs.GiverLemmas.{first_found, first_none}
use Rattle.flat_stack.proofs.givers.place_from.Goals as goal

pub returns-then-from-numbers : goal.returns-then-from-numbers
returns-then-from-numbers c =
    first_found c.args.at c.args.all c.args.numbers.now c.partition_point-from.result c.number_at.result
    (IsPartitionPoint-from_clause (λ y. nat_lt y c.args.at) c.args.numbers.now
    c.partition_point-from.result c.partition_point-from.ensures.partitioned
    (IsPartitionedBy-ltb (λ y. y) c.args.numbers.now c.args.at c.requires) (λ a r f k. search rules))
    c.number_at.ensures

pub returns : goal.returns
returns c =
    first_none c.args.at c.args.all c.args.numbers.now c.partition_point-from.result
    (IsPartitionPoint-from_clause (λ y. nat_lt y c.args.at) c.args.numbers.now
    c.partition_point-from.result c.partition_point-from.ensures.partitioned
    (IsPartitionedBy-ltb (λ y. y) c.args.numbers.now c.args.at c.requires) (λ a r f k. search rules))
    c.if-from-numbers.false
