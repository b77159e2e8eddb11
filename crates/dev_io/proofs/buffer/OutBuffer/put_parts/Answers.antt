use Rattle.std.proofs.Common.{arith}
use Rattle.dev_io.specs.Buffer.{standing}
use Rattle.dev_io.specs.Parts.{joined}
use Rattle.dev_io.proofs.Leaving.{leaves_all, leaves_as, leaves_end, leaves_then}
use Rattle.dev_io.proofs.PartLemmas.{joined_next, joined_none}
use Rattle.dev_io.proofs.buffer.OutBuffer.put_parts.Goals as goal

pub loop-part-init : goal.loop-part-init
loop-part-init g c = leaves_all
    (standing g.W.Out.known g.W.Out.faults c.args.out.now c.args.self.now) (joined c.args.parts.now)

pub loop-part-preserved : goal.loop-part-preserved
loop-part-preserved g c =
    leaves_then (leaves_as (joined_next c.args.parts.now c.loop-part.part-index _
    c.loop-part-test.true) c.loop-part.invariant) c.put.ensures

pub returns : goal.returns
returns g c =
    leaves_end (leaves_as (joined_none c.args.parts.now c.loop-part.part-index (omega arith))
    c.loop-part.invariant)
