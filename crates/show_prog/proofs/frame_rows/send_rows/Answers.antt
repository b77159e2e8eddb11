use Rattle.std.proofs.Common.{FitsSigned}
use Rattle.std.specs.Int.{w128}
use Rattle.std.proofs.lemmas.Int.{to_z-of_z}
use Rattle.std.proofs.lemmas.Result.{err_from_is_err_and}
use Rattle.dev_io.proofs.BufferLemmas.{flush_told}
use Rattle.show_prog.proofs.SentLines.{front_told}
use Rattle.show_prog.proofs.frame_rows.send_rows.Goals as goal

pub returns-in_err-put_rows-clause-told : goal.returns-in_err-put_rows-clause-told
returns-in_err-put_rows-clause-told g c =
    let fits : FitsSigned w128 c.args.from = c.ranges.from in
    let p = err_from_is_err_and c.from_residual.result c.from_residual.ensures.1 in
    rw p.1 (front_told c.new-buffer.ensures.held c.new-buffer.ensures.failed
    (simp to_z-of_z at c.in_err-put_rows.ensures.put))

pub returns-in_err-flush-clause-told : goal.returns-in_err-flush-clause-told
returns-in_err-flush-clause-told g c =
    let fits : FitsSigned w128 c.args.from = c.ranges.from in
    let all = simp to_z-of_z at c.in_ok-put_rows.ensures.put in
    let p = err_from_is_err_and c.from_residual-in_err-flush.result
    c.from_residual-in_err-flush.ensures.1 in
    rw p.1 (flush_told c.new-buffer.ensures.held c.new-buffer.ensures.failed all
    c.in_err-flush.ensures.sent)

pub returns-clause-told : goal.returns-clause-told
returns-clause-told g c =
    let fits : FitsSigned w128 c.args.from = c.ranges.from in
    let all = simp to_z-of_z at c.in_ok-put_rows.ensures.put in
    flush_told c.new-buffer.ensures.held c.new-buffer.ensures.failed all
    c.in_ok-flush.ensures.sent

pub returns-in_err-put_rows-clause-cause : goal.returns-in_err-put_rows-clause-cause
returns-in_err-put_rows-clause-cause g c =
    let fits : FitsSigned w128 c.args.from = c.ranges.from in
    let p = err_from_is_err_and c.from_residual.result c.from_residual.ensures.1 in
    let mix = simp to_z-of_z at c.in_err-put_rows.ensures.memory in
    rw (p.1, p.2) (record { later = c.in_err-put_rows.ensures.put.put.later; failed = mix })
