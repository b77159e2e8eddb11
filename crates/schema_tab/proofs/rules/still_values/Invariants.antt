use Rattle.std.proofs.Common.{◌≡◌, map}
use Rattle.schema_rows.specs.declared.schemas.Schema.TheVariants.{Freeze}
use Rattle.schema_rows.specs.Families.{stilled}
use Rattle.schema_tab.proofs.rules.still_values.Given as goal

abbrev pub invariant-loop-value : goal.invariant-loop-value
invariant-loop-value l = l.made.items ≡ map (stilled Freeze) l.yielded
