use Rattle.std.proofs.Common.{sym, subst}
use Rattle.otio_model.specs.Trees.{items_of}
use Rattle.flat.specs.Blocked.{Blocks}
use Rattle.flat_stack.specs.Sought.{IsSought}
use Rattle.flat_stack.proofs.PieceLemmas.{parts_known}
use Rattle.flat_stack.proofs.RefusalLemmas.{all_sought}
use Rattle.flat_stack.proofs.SoughtLemmas.{near_or}
use Rattle.flat_stack.proofs.flat_faults.flat_fault.Goals as goal

pub first_refusal-refusal-requires-clause-parts : goal.first_refusal-refusal-requires-clause-parts
first_refusal-refusal-requires-clause-parts c = parts_known c.args.kind.now c.args.children.now c.args.parts.now c.requires.all c.requires.faultless

pub returns-clause-near : goal.returns-clause-near
returns-clause-near c = near_or c.earlier.result c.root_misfit-misfit.result c.first_refusal-refusal.result c.earlier.ensures c.root_misfit-misfit.ensures.near c.first_refusal-refusal.ensures.near

pub returns-clause-sought : goal.returns-clause-sought
returns-clause-sought c = subst (IsSought (Blocks c.args.kind.now (items_of c.args.children.now))) (sym c.earlier.ensures) (all_sought c.args.kind.now (items_of c.args.children.now) c.args.parts.now c.root_misfit-misfit.result c.first_refusal-refusal.result c.requires.all c.root_misfit-misfit.ensures.sought c.first_refusal-refusal.ensures.sought)
