use Rattle.std.proofs.Common.{take}
use Rattle.media_list.proofs.LookUps.{AreNames, reel_of, url_of}
use Rattle.media_list.proofs.table.Table.of.Given as goal

abbrev pub invariant-rows : goal.invariant-rows
invariant-rows l =
    AreNames reel_of l.reels.keys (take l.row-index l.fn.rows.items)
    × AreNames url_of l.urls.keys (take l.row-index l.fn.rows.items)
