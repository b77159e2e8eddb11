use Rattle.std.proofs.Common.{nat_lt, nat_le, length, drop, ◌-◌, arith, rules}
use Rattle.std.proofs.lemmas.List.{take_all, length-drop}
use Rattle.std.proofs.lemmas.List.Sorted.{IsPartitionPoint-from_clause, IsPartitionedBy-ltb, IsPartitionedBy-leb}
use Rattle.note_text.specs.declared.reading.Owner.{Owner}
use Rattle.note_text.proofs.KeyRuns.{run-of_key, keys-rise_on}
use Rattle.note_text.proofs.reading.owners_at.Goals as goal

pub returns : goal.returns
returns c =
    let xs = c.args.owners.now in
    let line = c.args.line in
    let from = c.partition_point-from.result in
    let left = length-drop from xs in
    let is = take_all (length xs - from) (drop from xs) (omega (arith, left)) in
    run-of_key (λ (o : Owner). o.line) line xs _ from c.partition_point-to.result c.partition_point-from.ensures.bound c.partition_point-to.ensures.bound is
    (IsPartitionPoint-from_clause (λ (o : Owner). nat_lt o.line line) xs from c.partition_point-from.ensures.partitioned (IsPartitionedBy-ltb (λ (o : Owner). o.line) xs line c.requires) (λ a r f k. search rules))
    (IsPartitionPoint-from_clause (λ (o : Owner). nat_le o.line line) _ c.partition_point-to.result c.partition_point-to.ensures.partitioned (IsPartitionedBy-leb (λ (o : Owner). o.line) _ line (keys-rise_on (λ (o : Owner). o.line) xs _ from is c.requires)) (λ a r f k. search rules))
