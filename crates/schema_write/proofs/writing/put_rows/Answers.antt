use Rattle.std.proofs.Common.{arith, ◌∙◌}
use Rattle.schema_write.proofs.AddedMembers.{left-behind, left-read, row_added, rows_added}
use Rattle.schema_write.proofs.writing.put_rows.Goals as goal

pub rows-preserved : goal.rows-preserved
rows-preserved c =
    let list = c.rows.list.items in
    let values = c.args.values.items in
    let i = c.rows.index in
    let v = c.replace-value.result in
    let name = c.in_ok-of.ensures in
    let read = rw (← c.replace-value.ensures.value) at c.index_mut.ensures.value in
    let at = read ∙ left-read list values i v c.rows.invariant.left in
    let named = rw (← name) at c.name_at.ensures in
    record {
      left = left-behind list values i c.replace-value.new.dest c.rows.invariant.left;
      added =
          c.in_ok-push.ensures.items
          ∙ row_added c.args.pairs.now.items c.args.table.now values i c.rows.pairs.items c.in_ok-of.field-0 v (omega (arith, c.requires)) c.requires c.rows.invariant.added named at;
    }

pub returns : goal.returns
returns c = rows_added c.args.pairs.now.items c.rows.pairs.items c.args.table.now c.args.values.items c.rows.index (omega (arith, c.len-index-end.ensures)) c.rows.invariant.added
