use Rattle.std.proofs.Common.{length, map}
use Rattle.dev_io.specs.Buffer.{standing}
use Rattle.edl_text.specs.Columns.{written_byte}
use Rattle.dev_io.proofs.Leaving.{Leaves}
use Rattle.edl_text.proofs.write_comments.put_written.Given as goal

abbrev pub invariant-runs : goal.invariant-runs
invariant-runs g l =
    let stand = standing g.W.Out.known g.W.Out.faults in
    Leaves (stand l.fn.out l.fn.buffer) (stand l.out l.buffer) (map written_byte l.bytes) (map written_byte l.rest)

abbrev pub decreases-runs : goal.decreases-runs
decreases-runs g l = length l.rest
