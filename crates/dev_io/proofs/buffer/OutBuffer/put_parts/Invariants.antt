use Rattle.std.proofs.Common.{drop}
use Rattle.dev_io.specs.Buffer.{standing}
use Rattle.dev_io.specs.Parts.{joined}
use Rattle.dev_io.proofs.Leaving.{Leaves}
use Rattle.dev_io.proofs.buffer.OutBuffer.put_parts.Given as goal

-- handing over the parts that are left ends the whole
abbrev pub invariant-loop-part : goal.invariant-loop-part
invariant-loop-part g l =
    let out = g.W.Out in
    Leaves (standing out.known out.faults l.fn.out l.fn.self)
    (standing out.known out.faults l.out l.self)
    (joined l.parts) (joined (drop l.part-index l.parts))
