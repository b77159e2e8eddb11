use Rattle.std.proofs.Common.{refl, ap}
use Rattle.otio_model.specs.declared.media.Missing.{Missing}
use Rattle.schema_rows.specs.Readings.{known, missing_fields}
use Rattle.schema_rows.specs.Stands.{as_missing}
use Rattle.schema_tab.proofs.required_values.medium_of.Goals as goal

pub returns-in-Ok : goal.returns-in-Ok
returns-in-Ok c = record { value = as_missing _ _ _ refl c.in-Null.is (ap (λ (m : Missing). known (missing_fields m)) c.in-Ok.ensures); memory = tt }
