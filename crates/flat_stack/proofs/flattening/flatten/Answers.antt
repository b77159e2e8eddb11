use Rattle.std.proofs.Common.{sym, subst}
use Rattle.flat.specs.Blocked.{Blocks}
use Rattle.flat.specs.Roots.{roots}
use Rattle.flat_stack.specs.Parts.{AreAll}
use Rattle.flat_stack.proofs.FirstLemmas.{named}
use Rattle.flat_stack.proofs.flattening.flatten.Goals as goal

pub flat_fault-requires-clause-faultless : goal.flat_fault-requires-clause-faultless
flat_fault-requires-clause-faultless c = c.requires.sound.faultless.items

pub flat_fault-requires-clause-all : goal.flat_fault-requires-clause-all
flat_fault-requires-clause-all c = subst (AreAll c.args.kind.now (roots c.args.timeline.now)) (sym c.as_slice-list.ensures.value) c.in-Ok.ensures.parts

pub flat_copy-requires-clause-faultless : goal.flat_copy-requires-clause-faultless
flat_copy-requires-clause-faultless c = c.requires.sound.faultless.items

pub flat_copy-requires-clause-all : goal.flat_copy-requires-clause-all
flat_copy-requires-clause-all c = subst (AreAll c.args.kind.now (roots c.args.timeline.now)) (sym c.as_slice-list.ensures.value) c.in-Ok.ensures.parts

pub flat_copy-requires-clause-free : goal.flat_copy-requires-clause-free
flat_copy-requires-clause-free c = c.in-None.ensures.sought

pub returns-in-Some-clause-refused : goal.returns-in-Some-clause-refused
returns-in-Some-clause-refused c = named (Blocks c.args.kind.now (roots c.args.timeline.now)) c.in-Some.spot c.fault_of.result c.in-Some.ensures.sought c.fault_of.ensures

pub returns-in-Ok-flat_copy-clause-flattened : goal.returns-in-Ok-flat_copy-clause-flattened
returns-in-Ok-flat_copy-clause-flattened c = record { free = c.in-None.ensures.sought; is = c.in-Ok-flat_copy.ensures }
