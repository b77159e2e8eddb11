use Rattle.std.proofs.Common.{[]}
use Rattle.pull_list.proofs.Stocking.{stock_none}
use Rattle.pull_list.proofs.clips.stock_of.Goals as goal

pub returns : goal.returns
returns c =
    c.in_ok-add_children.ensures []
    (stock_none _ _ c.new.ensures c.new-2.ensures.items)
