use Rattle.std.proofs.Common.{◌≡◌, get_or, ap, sym, ◌∙◌, arith}
use Rattle.media_list.proofs.LookUps.{reels_put, urls_put}
use Rattle.media_list.proofs.table.Table.of.Goals as goal

pub rows-preserved : goal.rows-preserved
rows-preserved c =
    let rows = c.args.rows.items in
    let i = c.rows.row-index in
    let row = c.row-item.result in
    let at : get_or rows i row ≡ row =
    sym (c.row-item.is ∙ ap (λ l. get_or l i row) c.as_slice-row-items.ensures.value) in (
      reels_put rows i row c.rows.reels.keys _ (omega arith) at c.requires.apart
          c.in_ok-put_name.ensures c.rows.invariant.0,
      urls_put rows i row c.rows.urls.keys _ (omega arith) at c.requires.apart
          c.in_ok-put_name-2.ensures c.rows.invariant.1,
    )
