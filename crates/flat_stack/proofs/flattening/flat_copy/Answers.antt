use Rattle.flat_stack.proofs.PieceLemmas.{flat_made}
use Rattle.flat.specs.Flattened.{unchanged}
use Rattle.flat_stack.proofs.flattening.flat_copy.Goals as goal

pub returns-in_ok-copy-in-Some : goal.returns-in_ok-copy-in-Some
returns-in_ok-copy-in-Some c = flat_made c.args.timeline.now c.in_ok-copy-in-Some.copy c.args.kind.now c.args.keep c.flat_rate.result c.in-Some.first c.args.parts.now c.in_ok-items-in-Some.items.items c.in_ok-all-in-Some.all.items c.in_ok-flat-in-Some.flat c.in-Some.ensures.some c.requires.all c.flat_rate.ensures c.in_ok-items-in-Some.ensures c.in_ok-flat-in-Some.ensures c.in_ok-all-in-Some.ensures c.in_ok-copy-in-Some.ensures

pub returns-in_ok-copy-in-None : goal.returns-in_ok-copy-in-None
returns-in_ok-copy-in-None c = unchanged c.in-None.ensures.none c.in_ok-copy-in-None.ensures
