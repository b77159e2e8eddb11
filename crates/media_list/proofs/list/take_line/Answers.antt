use Rattle.media_list.proofs.LineByLine.{took_row, twice_row}
use Rattle.media_list.proofs.SpanLemmas.{row_range}
use Rattle.media_list.proofs.list.take_line.Goals as goal

pub returns-in-Ok-Some-clause-taken : goal.returns-in-Ok-Some-clause-taken
returns-in-Ok-Some-clause-taken c =
    took_row c.add.result c.args.line.now c.in-Ok-Some.row c.args.table.now.rows.items
    c.add.new.self.rows.items (rw c.in-Ok-Some.field-0-is at c.in-Ok-Some.ensures.row)
    c.add.ensures.rows

pub returns-in-Ok-Some-clause-fault : goal.returns-in-Ok-Some-clause-fault
returns-in-Ok-Some-clause-fault c =
    twice_row c.add.result c.args.line.now c.in-Ok-Some.row c.args.table.now.rows.items
    c.args.number (rw c.in-Ok-Some.field-0-is at c.in-Ok-Some.ensures.row) c.add.ensures.fault

pub add-requires-clause-range : goal.add-requires-clause-range
add-requires-clause-range c =
    row_range c.args.line.now c.in-Ok-Some.row
    (rw c.in-Ok-Some.field-0-is at c.in-Ok-Some.ensures.row)
