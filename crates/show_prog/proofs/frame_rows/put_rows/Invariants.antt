use Rattle.dev_io.specs.Buffer.{standing, Puts}
use Rattle.show_prog.specs.Rows.{rows}
use Rattle.show_prog.specs.Handing.{indexes}
use Rattle.show_prog.proofs.frame_rows.put_rows.Given as goal

-- the lines of the frames so far were handed over
abbrev pub invariant-frames : goal.invariant-frames
invariant-frames g l =
    let stand = standing g.W.Out.known g.W.Out.faults in
    let s = l.fn.selection in
    Puts (stand l.fn.out l.fn.buffer) (stand l.out l.buffer)
    (rows s.timeline.now (indexes s.children) l.from l.index)
