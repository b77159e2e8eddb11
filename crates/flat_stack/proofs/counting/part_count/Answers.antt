use Rattle.std.proofs.Common.{◌+◌, length, sym, ◌∙◌}
use Rattle.flat_stack.specs.Inputs.{slot_of}
use Rattle.flat_stack.proofs.CountLemmas.{count_more, count_last}
use Rattle.flat_stack.proofs.counting.part_count.Goals as goal

pub own_count-own-requires : goal.own_count-own-requires
own_count-own-requires c = c.requires.parts c.args.index c.part_at-part.result.now c.part_at-part.ensures

pub returns-then-index-parts-clause-value : goal.returns-then-index-parts-clause-value
returns-then-index-parts-clause-value c = λ part e.
    count_more (slot_of c.args.seat) c.part_at-part.result.now part (c.args.index + 1) (length c.args.parts.now) c.own_count-own.result c.pad_count.result (sym c.part_at-part.ensures ∙ e) c.if-index-parts.true c.own_count-own.ensures.value c.pad_count.ensures.value

pub returns-clause-value : goal.returns-clause-value
returns-clause-value c = λ part e.
    count_last (slot_of c.args.seat) c.part_at-part.result.now part (c.args.index + 1) (length c.args.parts.now) c.own_count-own.result (sym c.part_at-part.ensures ∙ e) c.if-index-parts.false c.own_count-own.ensures.value
