use Rattle.command_words.specs.Asked.{other_names}
use Rattle.otio_tools.proofs.RunEnds.{carried_still, carried_calm, never_usage}
use Rattle.otio_tools.proofs.Working.{leaves, untouched}
use Rattle.std.proofs.Common.{◌∙◌}
use Rattle.otio_tools.specs.Texts.{text_at}
use Rattle.otio_tools.proofs.Reporting.{carried_reported}
use Rattle.otio_tools.proofs.Serving.{served}
use Rattle.source_files.proofs.FollowingLemmas.{follows_at_last}
use Rattle.otio_tools.proofs.command.serve.Goals as goal

pub returns-clause-unworked : goal.returns-clause-unworked
returns-clause-unworked g c = λ other.
    c.carry_out.ensures.desk
    ∙ untouched c.args.request.command c.plan-planned.result _ c.plan-planned.ensures.desk other
    ∙ c.requires.empty

pub returns-clause-still : goal.returns-clause-still
returns-clause-still g c = λ words asked.
    carried_still words c.args.request.command c.args.request.name.now
    (other_names c.args.request.others) (text_at c.args.request.target) _ c.plan-planned.result
    c.carry_out.result asked c.plan-planned.ensures.kind c.carry_out.ensures.carried

pub returns-clause-asked : goal.returns-clause-asked
returns-clause-asked g c =
    never_usage (text_at c.args.request.target) _ c.plan-planned.result c.carry_out.result
    c.carry_out.ensures.carried

pub returns-clause-calm : goal.returns-clause-calm
returns-clause-calm g c =
    carried_calm (text_at c.args.request.target) _ _ _ c.plan-planned.result c.carry_out.result
    c.plan-planned.ensures.cause
    c.carry_out.ensures.carried

pub returns-clause-reported : goal.returns-clause-reported
returns-clause-reported g c = λ words asked.
    carried_reported words c.args.request.command c.args.request.name.now
    (other_names c.args.request.others) (text_at c.args.request.target) _ _ _
    c.plan-planned.result c.carry_out.result asked c.plan-planned.ensures.named
    c.plan-planned.ensures.cause c.carry_out.ensures.carried

pub returns-clause-given : goal.returns-clause-given
returns-clause-given g c = λ words asked.
    served words c.args.request.command c.args.request.name.now
    (other_names c.args.request.others) (text_at c.args.request.target) _ _ c.plan-planned.result _
    c.carry_out.result _ _ asked
    (c.plan-planned.ensures.given (text_at c.args.request.target)) c.plan-planned.ensures.kind
    c.plan-planned.ensures.cause c.carry_out.ensures.carried

pub returns-clause-worked : goal.returns-clause-worked
returns-clause-worked g c = λ words asked.
    leaves words c.args.request.command c.args.request.name.now
    (other_names c.args.request.others) (text_at c.args.request.target) _ c.plan-planned.result
    c.carry_out.result _ _ _ _ asked
    (c.plan-planned.ensures.given (text_at c.args.request.target)) c.carry_out.ensures.carried
    c.carry_out.ensures.desk

pub returns-clause-followed : goal.returns-clause-followed
returns-clause-followed g c = follows_at_last _ _ _ _ c.plan-planned.ensures.followed
