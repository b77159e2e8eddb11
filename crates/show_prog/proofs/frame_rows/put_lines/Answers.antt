use Rattle.std.proofs.Common.{◌+◌, ◌-◌, arith, FitsSigned}
use Rattle.std.specs.Int.{w128}
use Rattle.std.proofs.lemmas.Int.{to_z-of_z}
use Rattle.show_prog.specs.Rows.{line}
use Rattle.show_prog.proofs.Pieces.{piece_put, piece_cut, all_put, puts_cut}
use Rattle.show_prog.proofs.SentLines.{child_listed}
use Rattle.show_prog.proofs.ShowLemmas.{on_err}
use Rattle.show_prog.proofs.frame_rows.put_lines.Goals as goal

pub returns-in_err-put_line-clause-put : goal.returns-in_err-put_line-clause-put
returns-in_err-put_line-clause-put g c =
    let fits : FitsSigned w128 c.args.frame = c.ranges.frame in
    let part = simp to_z-of_z at c.in_err-put_line.ensures.put in
    let s = c.args.selection in
    let first = s.children.first in
    puts_cut c.from_residual.result c.from_residual.ensures.0
    (piece_cut (line s.timeline.now c.args.frame) first (c.children.child - first) c.children.child
    (s.children.past - first) (omega arith) (omega arith) (simp to_z-of_z at c.children.invariant)
    part)

pub returns-in_err-put_line-clause-memory : goal.returns-in_err-put_line-clause-memory
returns-in_err-put_line-clause-memory g c =
    let fits : FitsSigned w128 c.args.frame = c.ranges.frame in
    let children = c.args.selection.children in
    on_err c.from_residual.result _ (record {
      child = c.children.child;
      listed = child_listed children.first (children.past - children.first) c.children.child
          (omega arith) (omega arith);
      mix = simp to_z-of_z at c.in_err-put_line.ensures.memory;
    })

pub children-preserved : goal.children-preserved
children-preserved g c =
    let fits : FitsSigned w128 c.args.frame = c.ranges.frame in
    let part = simp to_z-of_z at c.in_ok-put_line.ensures.put in
    let s = c.args.selection in
    let first = s.children.first in
    simp to_z-of_z (piece_put (line s.timeline.now c.args.frame) first (c.children.child - first)
    c.children.child ((c.children.child + 1) - first) (omega arith) (omega arith)
    (simp to_z-of_z at c.children.invariant) part)

pub returns-clause-put : goal.returns-clause-put
returns-clause-put g c =
    let fits : FitsSigned w128 c.args.frame = c.ranges.frame in
    let s = c.args.selection in
    let first = s.children.first in
    all_put (line s.timeline.now c.args.frame) first (c.children.child - first)
    (s.children.past - first) (omega arith) (simp to_z-of_z at c.children.invariant)
