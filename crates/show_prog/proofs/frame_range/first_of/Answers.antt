use Rattle.std.proofs.Common.{rules, w64, FitsSigned, subst, sym}
use Rattle.std.specs.Int.{w128}
use Rattle.std.proofs.lemmas.Int.{to_z-of_z}
use Rattle.show_prog.proofs.Starts.{IsNear, start_near, near_fits}
use Rattle.show_prog.proofs.frame_range.first_of.Goals as goal

pub overflow_cast-result : goal.overflow_cast-result
overflow_cast-result c =
    let fits : FitsSigned w128 c.start_frame.result = search rules in
    simp to_z-of_z (near_fits c.start_frame.result (subst IsNear (sym c.start_frame.ensures) (start_near c.args.timeline.now)))

pub returns : goal.returns
returns c =
    let fits : FitsSigned w128 c.start_frame.result = search rules in
    let small : FitsSigned w64 c.start_frame.result = near_fits c.start_frame.result (subst IsNear (sym c.start_frame.ensures) (start_near c.args.timeline.now)) in
    simp to_z-of_z c.start_frame.ensures
