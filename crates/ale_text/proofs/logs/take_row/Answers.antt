use Rattle.ale_text.specs.Views.{HasTaken}
use Rattle.ale_text.proofs.LineByLine.{small_take, takes_row}
use Rattle.ale_text.proofs.logs.take_row.Goals as goal

pub add-requires-clause-small : goal.add-requires-clause-small
add-requires-clause-small c =
    let h : HasTaken c.args.form.rate c.args.form.columns c.args.line.now c.in-Ok-Some.take =
    rw c.in-Ok-Some.field-0-is at c.in-Ok-Some.ensures.said in
    small_take c.args.form.rate c.args.form.columns c.args.line.now c.in-Ok-Some.take c.requires.timecode h

pub returns-in_ok-add-in-Ok-Some-clause-steps : goal.returns-in_ok-add-in-Ok-Some-clause-steps
returns-in_ok-add-in-Ok-Some-clause-steps c =
    let h : HasTaken c.args.form.rate c.args.form.columns c.args.line.now c.in-Ok-Some.take =
    rw c.in-Ok-Some.field-0-is at c.in-Ok-Some.ensures.said in
    takes_row c.args.form.rate c.args.form.columns c.args.line.now c.in-Ok-Some.take
    c.args.tapes.now.rows.items c.add.new.self.rows.items c.requires.full h
    (c.in_ok-add-in-Ok-Some.ensures.rows h.taking h.is)
