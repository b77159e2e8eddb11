use Rattle.std.proofs.Common.{◌≡◌, map, drop}
use Rattle.schema_rows.specs.Rows.{row_of}
use Rattle.schema_rows.specs.Families.{is_row}
use Rattle.schema_tab.proofs.schema_names.has_row.Given as goal

abbrev pub invariant-loop-row : goal.invariant-loop-row
invariant-loop-row l = is_row (map row_of l.rows) l.name ≡ is_row (map row_of (drop l.row-index l.rows)) l.name
