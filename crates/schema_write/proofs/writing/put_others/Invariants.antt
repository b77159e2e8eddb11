-- The others among the members so far are added.
use Rattle.std.proofs.Common.{◌≡◌, ◌++◌, map, take}
use Rattle.schema_rows.specs.Rows.{row_of}
use Rattle.schema_rows.specs.Families.{others}
use Rattle.schema_write.proofs.writing.put_others.Given as goal

abbrev pub invariant-members : goal.invariant-members
invariant-members l = l.pairs.items ≡ l.fn.pairs.items ++ others (map row_of l.table) (take l.member-index l.members)
