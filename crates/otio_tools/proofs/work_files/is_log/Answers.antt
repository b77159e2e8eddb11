use Rattle.otio_tools.proofs.LogNames.{log_named}
use Rattle.otio_tools.proofs.work_files.is_log.Goals as goal

pub returns : goal.returns
returns c = log_named c.is_log_name.result c.args.name.now c.is_log_name.ensures
