use Rattle.otio_tools.proofs.SeveralFiles.{names_next}
use Rattle.otio_tools.proofs.cat_and_tool.names_of.Goals as goal

pub more-preserved : goal.more-preserved
more-preserved c =
    names_next c.args.name.now c.more.names.items c.push-in-more.new.self.items c.args.more.now
    c.more.other-index _ c.more-test.true c.in_ok-push-2.ensures.items c.more.invariant
