use Rattle.std.proofs.Common.{◌-◌}
use Rattle.std.specs.List.{range_with_len}
use Rattle.dev_io.specs.Buffer.{standing, Puts}
use Rattle.show_prog.specs.Rows.{lines_at}
use Rattle.show_prog.proofs.frame_rows.put_lines.Given as goal

-- the lines of the children so far were handed over
abbrev pub invariant-children : goal.invariant-children
invariant-children g l =
    let stand = standing g.W.Out.known g.W.Out.faults in
    let first = l.fn.selection.children.first in
    Puts (stand l.fn.out l.fn.buffer) (stand l.out l.buffer)
    (lines_at l.fn.selection.timeline.now (range_with_len first (l.child - first)) l.frame)
