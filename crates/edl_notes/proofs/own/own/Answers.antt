use Rattle.std.proofs.Common.{Bor, nat_lt, nat_le, length, drop, ◌-◌, arith, rules}
use Rattle.std.proofs.lemmas.List.{take_all, length-drop}
use Rattle.std.proofs.lemmas.List.Sorted.{IsPartitionPoint-from_clause, IsPartitionedBy-ltb, IsPartitionedBy-leb}
use Rattle.note_text.specs.declared.notes.Note.{Note}
use Rattle.note_text.proofs.KeyRuns.{run-of_key, keys-rise_on}
use Rattle.edl_notes.proofs.own.own.Goals as goal

pub returns : goal.returns
returns c =
    let xs = c.args.notes.now in
    let event = c.args.event in
    let from = c.partition_point-from.result in
    let left = length-drop from xs in
    let is = take_all (length xs - from) (drop from xs) (omega (arith, left)) in
    run-of_key (λ (o : Bor Note). o.now.event) event xs _ from c.partition_point-to.result c.partition_point-from.ensures.bound c.partition_point-to.ensures.bound is
    (IsPartitionPoint-from_clause (λ (o : Bor Note). nat_lt o.now.event event) xs from c.partition_point-from.ensures.partitioned (IsPartitionedBy-ltb (λ (o : Bor Note). o.now.event) xs event c.requires) (λ a r f k. search rules))
    (IsPartitionPoint-from_clause (λ (o : Bor Note). nat_le o.now.event event) _ c.partition_point-to.result c.partition_point-to.ensures.partitioned (IsPartitionedBy-leb (λ (o : Bor Note). o.now.event) _ event (keys-rise_on (λ (o : Bor Note). o.now.event) xs _ from is c.requires)) (λ a r f k. search rules))
