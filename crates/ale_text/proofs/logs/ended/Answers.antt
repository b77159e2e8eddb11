use Rattle.std.proofs.Common.{subst}
use Rattle.ale_text.specs.Tables.{HasEnded}
use Rattle.ale_text.proofs.LineByLine.{is_of_log}
use Rattle.ale_text.proofs.logs.ended.Goals as goal

pub returns-in-Row-clause-log : goal.returns-in-Row-clause-log
returns-in-Row-clause-log c = λ bytes h.
    is_of_log bytes c.args.number c.in-Row.field-0 c.in-Row.field-1 c.args.tapes
    (subst (λ d. HasEnded bytes c.args.number d c.args.tapes) c.in-Row.is h)
