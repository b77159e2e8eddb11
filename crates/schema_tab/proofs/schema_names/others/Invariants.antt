use Rattle.std.proofs.Common.{◌≡◌, take}
use Rattle.schema_rows.specs.Schemas.{rows_of}
use Rattle.schema_rows.specs.Families.{others}
use Rattle.schema_tab.proofs.schema_names.others.Given as goal

abbrev pub invariant-loop-member : goal.invariant-loop-member
invariant-loop-member l = l.rest.items ≡ others (rows_of l.schema) (take l.member-index l.member-items)
