use Rattle.std.proofs.Common.{arith}
use Rattle.dev_io.proofs.Leaving.{leaves_all, leaves_as, leaves_end, leaves_then}
use Rattle.pull_list.proofs.Sending.{lines_end, lines_at}
use Rattle.pull_list.proofs.lines.put_spans.Goals as goal

pub spans-init : goal.spans-init
spans-init g c = leaves_all _ _

pub spans-preserved : goal.spans-preserved
spans-preserved g c =
    leaves_then (leaves_as (lines_at c.args.spans.now c.spans.span-index c.span-item.result c.spans-test.true c.span-item.is)
    c.spans.invariant) c.put_span.ensures

pub returns : goal.returns
returns g c =
    let f = c.spans-test.false in
    leaves_end (leaves_as (lines_end c.args.spans.now c.spans.span-index (omega (arith, f)))
    c.spans.invariant)
