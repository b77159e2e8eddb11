use Rattle.std.proofs.Common.{sym, ap, ◌∙◌}
use Rattle.std.specs.Prelude.{slice_get}
use Rattle.edit_trim.proofs.PutEdges.{put_far, put_made}
use Rattle.std.proofs.lemmas.Result.{err_from_is_err_and}
use Rattle.edit_trim.proofs.replacements.changed_at.Goals as goal

pub changed-requires-clause-item : goal.changed-requires-clause-item
changed-requires-clause-item c = c.requires.items c.args.index c.member.result.now
    (ap (λ l. slice_get l c.args.index) (sym c.as_slice.ensures.value) ∙ c.member.ensures)

pub returns-in_err-put-clause-far : goal.returns-in_err-put-clause-far
returns-in_err-put-clause-far c =
    let p = err_from_is_err_and c.from_residual.result c.from_residual.ensures.1 in
    rw (p.1, p.2) (λ e. put_far c.args.change c.args.list.items c.args.index c.member.result.now
    (ap (λ l. slice_get l c.args.index) (sym c.as_slice.ensures.value) ∙ c.member.ensures)
    (c.in_err-put.ensures.far e))

pub returns-in-Ok-clause-made : goal.returns-in-Ok-clause-made
returns-in-Ok-clause-made c =
    put_made c.args.making.rate c.args.change c.args.list.items c.args.index c.member.result.now
    c.in_ok-put.put.items c.in-Ok.all.items (ap (λ l. slice_get l c.args.index)
    (sym c.as_slice.ensures.value) ∙ c.member.ensures) c.in_ok-put.ensures.made
    c.in-Ok.ensures
