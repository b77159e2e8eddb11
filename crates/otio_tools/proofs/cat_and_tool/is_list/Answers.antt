use Rattle.otio_tools.proofs.SeveralFiles.{list_named}
use Rattle.otio_tools.proofs.cat_and_tool.is_list.Goals as goal

pub returns : goal.returns
returns c = list_named c.is_list_name.result c.args.name.now c.is_list_name.ensures
