use Rattle.std.proofs.Common.{[], subst, sym}
use Rattle.std.proofs.lemmas.Result.{IfOk-weaker}
use Rattle.edl_text.specs.Lists.{IsList}
use Rattle.edl_tests.proofs.note_tests.listed.Goals as goal

pub returns-clause-formed : goal.returns-clause-formed
returns-clause-formed c =
    IfOk-weaker c.finish.result _ _
    (λ list k. k c.args.rate c.args.text.now
    (c.in_ok-feed.ensures.read c.args.rate [] c.new-reader.ensures)) c.finish.ensures.well_formed

pub returns-clause-list : goal.returns-clause-list
returns-clause-list c =
    IfOk-weaker c.finish.result _ _
    (λ list k.
    let said = k c.args.rate c.args.text.now
    (c.in_ok-feed.ensures.read c.args.rate [] c.new-reader.ensures)
    in subst (λ rate. IsList rate c.args.text.now list) (sym said.says.counted) said)
    c.finish.ensures.list
