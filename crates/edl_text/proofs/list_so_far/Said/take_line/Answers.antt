use Rattle.std.proofs.Common.{inr}
use Rattle.edl_text.specs.Views.{said}
use Rattle.edl_text.proofs.TakenLines.{next_line, takes_line, says_nothing}
use Rattle.edl_text.proofs.list_so_far.Said.take_line.Goals as goal

pub returns-in-Ok : goal.returns-in-Ok
returns-in-Ok c = λ rate past few h.
    takes_line c.take.result rate past c.args.line.now (said c.in-Ok.statement) c.take.new.self c.in-Ok.ensures
    (c.take.ensures rate past (next_line rate past c.args.self.now c.saturating_add-self.result h few c.saturating_add-self.ensures))

pub returns-in-Err : goal.returns-in-Err
returns-in-Err c = λ rate past few h.
    inr (says_nothing rate past c.args.line.now c.in-Err.fault c.named.result c.args.self.now c.saturating_add-self.result c.in-Err.ensures h few c.saturating_add-self.ensures c.named.ensures)
