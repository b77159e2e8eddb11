-- The values that are left are as they were; those before them are added under their rows' names.
use Rattle.std.proofs.Common.{◌≡◌, ◌++◌, map, take, drop}
use Rattle.schema_rows.specs.Rows.{row_of}
use Rattle.schema_write.specs.Written.{named_values}
use Rattle.schema_write.proofs.writing.put_rows.Given as goal

abbrev pub invariant-rows : goal.invariant-rows
invariant-rows l = record {
  left : drop l.index l.list.items ≡ drop l.index l.fn.values.items;
  added : l.pairs.items ≡ l.fn.pairs.items ++ take l.index (named_values (map row_of l.table) l.fn.values.items);
}
