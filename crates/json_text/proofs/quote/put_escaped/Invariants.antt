use Rattle.std.proofs.Common.{length}
use Rattle.dev_io.specs.Buffer.{standing}
use Rattle.json_text.specs.StringTexts.{escaped}
use Rattle.dev_io.proofs.Leaving.{Leaves}
use Rattle.json_text.proofs.quote.put_escaped.Given as goal

abbrev pub invariant-runs : goal.invariant-runs
invariant-runs g l =
    let stand = standing g.W.Out.known g.W.Out.faults in
    Leaves (stand l.fn.out l.fn.buffer) (stand l.out l.buffer) (escaped l.bytes) (escaped l.rest)

abbrev pub decreases-runs : goal.decreases-runs
decreases-runs g l = length l.rest
