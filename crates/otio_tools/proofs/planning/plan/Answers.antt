use Rattle.std.proofs.Common.{subst, sym}
use Rattle.command_words.specs.Asked.{other_names}
use Rattle.otio_tools.specs.Served.{PlansGiven}
use Rattle.source_files.specs.HandedFiles.{HandsOver}
use Rattle.otio_tools.proofs.SeveralFiles.{asked_as}
use Rattle.std.proofs.Common.{IfErr, None}
use Rattle.source_files.specs.Order.{IsAmong}
use Rattle.source_files.specs.Reading.{names_of}
use Rattle.otio_tools.specs.Asked.{Asked}
use Rattle.otio_tools.proofs.planning.plan.Goals as goal

pub returns-else-takes_several-clause-named : goal.returns-else-takes_several-clause-named
returns-else-takes_several-clause-named g c =
    subst
    (λ (a : Asked). IfErr c.plan_alone.result (λ stop. IsAmong (names_of a.files) stop.name.now))
    (asked_as c.args.command c.args.name.now (other_names c.args.others) None
    (sym c.if-takes_several.ensures)) c.plan_alone.ensures.named

pub returns-else-takes_several-clause-given : goal.returns-else-takes_several-clause-given
returns-else-takes_several-clause-given g c = λ target.
    subst (λ (a : Asked). HandsOver (PlansGiven a c.plan_alone.result)
    (g.F.Files.handed c.args.files.now) (g.F.Files.handed c.plan_alone.new.files))
    (asked_as c.args.command c.args.name.now (other_names c.args.others) target
    (sym c.if-takes_several.ensures)) (c.plan_alone.ensures.given target)
