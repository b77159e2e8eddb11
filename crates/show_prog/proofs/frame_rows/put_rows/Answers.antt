use Rattle.std.proofs.Common.{ℕ, pos, ◌+ℤ◌, ◌+◌, refl, arith, FitsSigned, rules}
use Rattle.std.specs.Int.{w128}
use Rattle.std.proofs.lemmas.Int.{to_z-of_z}
use Rattle.show_prog.specs.Rows.{lines_at}
use Rattle.show_prog.specs.Handing.{indexes}
use Rattle.show_prog.proofs.Pieces.{piece_put, piece_cut, all_put, puts_cut}
use Rattle.show_prog.proofs.ShowLemmas.{on_err}
use Rattle.show_prog.proofs.frame_rows.put_rows.Goals as goal

pub returns-in_err-put_lines-clause-put : goal.returns-in_err-put_lines-clause-put
returns-in_err-put_lines-clause-put g c =
    let fits : FitsSigned w128 c.args.from = c.ranges.from in
    let there : FitsSigned w128 c.frame_after.result = search rules in
    let frame = simp to_z-of_z at c.frame_after.ensures in
    let part = rw frame at (simp to_z-of_z at c.in_err-put_lines.ensures.put) in
    let s = c.args.selection in
    puts_cut c.from_residual.result c.from_residual.ensures.0
    (piece_cut (λ (i : ℕ). lines_at s.timeline.now (indexes s.children) (c.args.from +ℤ pos i)) 0
    c.frames.index c.frames.index c.args.count (omega arith) (omega arith)
    (simp to_z-of_z at c.frames.invariant) part)

pub returns-in_err-put_lines-clause-memory : goal.returns-in_err-put_lines-clause-memory
returns-in_err-put_lines-clause-memory g c =
    let fits : FitsSigned w128 c.args.from = c.ranges.from in
    let there : FitsSigned w128 c.frame_after.result = search rules in
    let frame = simp to_z-of_z at c.frame_after.ensures in
    on_err c.from_residual.result _ (record {
      after = c.frames.index;
      within = omega arith;
      shows = rw frame at (simp to_z-of_z at c.in_err-put_lines.ensures.memory);
    })

pub frames-preserved : goal.frames-preserved
frames-preserved g c =
    let fits : FitsSigned w128 c.args.from = c.ranges.from in
    let there : FitsSigned w128 c.frame_after.result = search rules in
    let frame = simp to_z-of_z at c.frame_after.ensures in
    let part = rw frame at (simp to_z-of_z at c.in_ok-put_lines.ensures.put) in
    let s = c.args.selection in
    simp to_z-of_z (piece_put
    (λ (i : ℕ). lines_at s.timeline.now (indexes s.children) (c.args.from +ℤ pos i)) 0
    c.frames.index c.frames.index (c.frames.index + 1) (omega arith) refl
    (simp to_z-of_z at c.frames.invariant) part)

pub returns-clause-put : goal.returns-clause-put
returns-clause-put g c =
    let fits : FitsSigned w128 c.args.from = c.ranges.from in
    let s = c.args.selection in
    all_put (λ (i : ℕ). lines_at s.timeline.now (indexes s.children) (c.args.from +ℤ pos i)) 0
    c.frames.index c.args.count (omega arith) (simp to_z-of_z at c.frames.invariant)
