use Rattle.std.proofs.Common.{◌-◌, ◌≤◌}
use Rattle.dev_io.specs.Calls.{Tells, Adds}
use Rattle.show_prog.specs.Rows.{rows}
use Rattle.show_prog.specs.Handing.{indexes}
use Rattle.show_prog.proofs.frame_rows.write_rows.Given as goal

-- the lines of the frames so far were sent
abbrev pub invariant-parts : goal.invariant-parts
invariant-parts g l =
    let out = g.W.Out in
    record {
      within : l.sent ≤ l.listing.count;
      later : out.faults l.fn.out ≤ out.faults l.out;
      told : Tells
          (Adds (rows l.timeline (indexes l.selection.children) l.listing.from l.sent))
          (out.known l.fn.out) (out.known l.out);
    }

abbrev pub decreases-parts : goal.decreases-parts
decreases-parts g l = l.listing.count - l.sent
