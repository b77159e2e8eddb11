use Rattle.std.proofs.Common.{[], refl, FitsSigned}
use Rattle.std.specs.Int.{w128}
use Rattle.std.proofs.lemmas.Int.{to_z-of_z}
use Rattle.dev_io.proofs.BufferLemmas.{puts_then, puts_none}
use Rattle.show_prog.specs.Rows.{line}
use Rattle.show_prog.proofs.Pieces.{puts_cut}
use Rattle.show_prog.proofs.ShowLemmas.{on_err}
use Rattle.show_prog.proofs.frame_rows.put_line.Goals as goal

pub returns-in_err-picture-clause-put : goal.returns-in_err-picture-clause-put
returns-in_err-picture-clause-put g c =
    puts_cut c.from_residual.result c.from_residual.ensures.0 (record {
      front = [];
      rest = line c.args.selection.timeline.now c.args.frame c.args.child;
      whole = refl;
      put = puts_none _;
    })

pub returns-in_err-picture-clause-memory : goal.returns-in_err-picture-clause-memory
returns-in_err-picture-clause-memory g c =
    let fits : FitsSigned w128 c.args.frame = c.ranges.frame in
    on_err c.from_residual.result _ (simp to_z-of_z at c.in_err-picture.ensures.memory)

pub returns-clause-put : goal.returns-clause-put
returns-clause-put g c =
    let fits : FitsSigned w128 c.args.frame = c.ranges.frame in
    let number = simp to_z-of_z at c.put_signed.ensures in
    let image = simp to_z-of_z at c.in_ok-picture.ensures.image in
    let seen = rw image at c.put_show.ensures in
    puts_then number (puts_then c.put.ensures (puts_then c.put_number.ensures
    (puts_then c.put-2.ensures (puts_then seen c.put-3.ensures))))
