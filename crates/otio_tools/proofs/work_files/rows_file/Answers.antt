use Rattle.std.proofs.Common.{cond, ap, sym}
use Rattle.source_files.specs.Kinds as kinds
use Rattle.otio_tools.specs.Asked.{media_kind}
use Rattle.otio_tools.proofs.WorkPlans.{given_by}
use Rattle.otio_tools.proofs.work_files.rows_file.Goals as goal

pub returns-then-is_log-clause-given : goal.returns-then-is_log-clause-given
returns-then-is_log-clause-given g c =
    given_by c.args.name.now (media_kind c.args.name.now) kinds.Log _ _ _
    (ap (λ log. cond log kinds.Log kinds.Media) (sym c.if-is_log.ensures)) c.log_file.ensures.given

pub returns-else-is_log-clause-given : goal.returns-else-is_log-clause-given
returns-else-is_log-clause-given g c =
    given_by c.args.name.now (media_kind c.args.name.now) kinds.Media _ _ _
    (ap (λ log. cond log kinds.Log kinds.Media) (sym c.if-is_log.ensures)) c.media_file.ensures.given
