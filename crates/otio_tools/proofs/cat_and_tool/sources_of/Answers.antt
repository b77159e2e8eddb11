use Rattle.source_files.specs.Reading.{read_as}
use Rattle.std.proofs.Common.{ap}
use Rattle.otio_tools.proofs.SeveralFiles.{sources_next}
use Rattle.otio_tools.proofs.cat_and_tool.sources_of.Goals as goal

pub names-preserved : goal.names-preserved
names-preserved c =
    sources_next c.args.command c.names.sources.items _ c.args.names.now c.names.name-index _ _
    c.names-test.true c.in_ok-push.ensures.items (ap (read_as _) c.kind_by_name-kind.ensures)
    c.names.invariant
