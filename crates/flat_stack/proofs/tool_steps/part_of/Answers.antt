use Rattle.std.proofs.Common.{rules, FitsSigned}
use Rattle.std.specs.Int.{w128}
use Rattle.std.proofs.lemmas.Int.{to_z-of_z}
use Rattle.flat_stack.specs.Shaped.{refused}
use Rattle.flat_stack.proofs.tool_steps.part_of.Goals as goal

pub returns-in-Err-clause-fault : goal.returns-in-Err-clause-fault
returns-in-Err-clause-fault c = λ n.
    let told = c.at.ensures n in
    let start : FitsSigned w128 c.in-Some.start = search rules in
    let end : FitsSigned w128 c.in-Some.end = search rules in
    let fault = simp to_z-of_z at c.in-Err.ensures.fault in
    refused _ _ c.in-Some.ensures.some c.in-Err.why told.0 fault told.1
