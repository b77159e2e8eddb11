use Rattle.std.proofs.Common.{[], All, subst}
use Rattle.std.proofs.lemmas.List.Elements.{All-head}
use Rattle.flat_stack.specs.Ready.{IsReady}
use Rattle.flat_stack.proofs.concatenation.gathered.Goals as goal

pub returns-in-None-clause-ready : goal.returns-in-None-clause-ready
returns-in-None-clause-ready c =
    All-head IsReady c.the_one.result [] (subst (All IsReady) c.the_one.ensures c.requires.ready)
