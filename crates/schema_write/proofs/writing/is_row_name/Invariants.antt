-- None of the rows so far has the name.
use Rattle.std.proofs.Common.{◌≡◌, map, drop}
use Rattle.schema_rows.specs.Rows.{row_of}
use Rattle.schema_rows.specs.Families.{is_row}
use Rattle.schema_write.proofs.writing.is_row_name.Given as goal

abbrev pub invariant-rows : goal.invariant-rows
invariant-rows l = is_row (map row_of (drop l.field-index l.table)) l.name ≡ is_row (map row_of l.table) l.name
