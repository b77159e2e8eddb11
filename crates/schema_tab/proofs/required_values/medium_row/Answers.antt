use Rattle.std.proofs.Common.{refl, ap}
use Rattle.schema_rows.specs.declared.values.Value.TheVariants as V
use Rattle.schema_rows.specs.Stands.{one_medium}
use Rattle.schema_tab.proofs.required_values.medium_row.Goals as goal

pub returns-in-Ok-of : goal.returns-in-Ok-of
returns-in-Ok-of c = record {
  value = one_medium _ _ _ c.in-Ok.reference refl c.in-Ok.ensures.value (ap V.Medium c.in-Ok-of.ensures);
  memory = tt;
}
