use Rattle.std.proofs.Common.{arith, drop, ◌+◌}
use Rattle.otio_model.specs.Trees.{items_of}
use Rattle.coord.proofs.Members.{next, none_left}
use Rattle.flat_stack.proofs.RefusalLemmas.{free_part}
use Rattle.flat_stack.proofs.PieceLemmas.{parts_known, made_first, made_more, made_all}
use Rattle.flat_stack.proofs.flattening.part_items.Goals as goal

pub parts-init : goal.parts-init
parts-init c = made_first c.args.rate (items_of c.args.children.now) c.new-done.result.items c.args.parts.now c.new-done.ensures.items

pub part_item-requires-clause-part : goal.part_item-requires-clause-part
part_item-requires-clause-part c = parts_known c.args.kind.now c.args.children.now c.args.parts.now c.requires.all c.requires.faultless c.parts.index c.part_at.result c.part_at.ensures

pub part_item-requires-clause-cut : goal.part_item-requires-clause-cut
part_item-requires-clause-cut c = λ g e. free_part c.args.kind.now (items_of c.args.children.now) c.args.parts.now c.parts.index c.part_at.result g c.requires.all c.requires.free c.part_at.ensures e

pub parts-preserved : goal.parts-preserved
parts-preserved c = made_more c.args.rate (items_of c.args.children.now) c.parts.done.items c.push.new.self.items (drop c.parts.index c.args.parts.now) (drop (c.parts.index + 1) c.args.parts.now) c.args.parts.now c.part_at.result c.in_ok-item.item c.parts.invariant (next c.args.parts.now c.parts.index c.part_at.result c.part_at.ensures) c.in_ok-item.ensures c.in_ok-push.ensures.items

pub returns : goal.returns
returns c = made_all c.args.rate (items_of c.args.children.now) c.parts.done.items (drop c.parts.index c.args.parts.now) c.args.parts.now c.parts.invariant (none_left c.args.parts.now c.parts.index (omega arith))
