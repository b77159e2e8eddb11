use Rattle.std.proofs.Common.{arith, sym, subst, ◌+◌}
use Rattle.otio_model.specs.Trees.{items_of}
use Rattle.flat_stack.specs.Refused.{IsRefusedTo}
use Rattle.flat_stack.specs.Sought.{IsSought}
use Rattle.flat_stack.proofs.RefusalLemmas.{none_refused, refused_more, refused_all}
use Rattle.flat_stack.proofs.SoughtLemmas.{near_or}
use Rattle.flat_stack.proofs.refusals.first_refusal.Goals as goal

pub parts-init : goal.parts-init
parts-init c = (tt, none_refused (items_of c.args.children.now) c.args.parts.now)

pub refusal-next-requires-clause-part : goal.refusal-next-requires-clause-part
refusal-next-requires-clause-part c = c.requires.parts c.parts.index c.part_at.result c.part_at.ensures

pub parts-preserved : goal.parts-preserved
parts-preserved c = (
  near_or c.earlier-first.result c.parts.first c.refusal-next.result c.earlier-first.ensures c.parts.invariant.0 c.refusal-next.ensures.near,
  subst (IsSought (IsRefusedTo (items_of c.args.children.now) c.args.parts.now (c.parts.index + 1))) (sym c.earlier-first.ensures)
      (refused_more (items_of c.args.children.now) c.args.parts.now c.parts.index c.part_at.result c.parts.first c.refusal-next.result c.parts.invariant.1 c.part_at.ensures c.refusal-next.ensures.sought),
)

pub returns-clause-sought : goal.returns-clause-sought
returns-clause-sought c = refused_all (items_of c.args.children.now) c.args.parts.now c.parts.index c.parts.first (omega arith) c.parts.invariant.1
