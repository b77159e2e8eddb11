use Rattle.pull_list.specs.Found.{group_in}
use Rattle.pull_list.proofs.Stocking.{on_ok_stock, stock_same}
use Rattle.pull_list.proofs.clips.add_clip.Goals as goal

pub returns-in_ok-number-in-Some : goal.returns-in_ok-number-in-Some
returns-in_ok-number-in-Some c =
    let g = group_in c.in-Some.group in
    on_ok_stock c.add_frames.result c.args.clip.now c.args.stock.now.groups c.add.new.self
    c.args.stock.now.available.items c.add_frames.new.available.items g c.in_ok-number-in-Some.number _
    c.in-Some.ensures c.in_ok-number-in-Some.ensures.groups c.in_ok-number-in-Some.ensures.number
    c.available_range.ensures c.add_frames.ensures

pub returns-in-None : goal.returns-in-None
returns-in-None c = λ clips stock.
    stock_same clips c.args.clip.now c.args.stock.now.groups c.args.stock.now.available.items
    c.in-None.ensures stock
