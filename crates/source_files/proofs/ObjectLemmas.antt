-- Objects that were read.
use Rattle.std.proofs.Common.{◌≡◌, ◌≢◌, ◌≤◌, ℕ, List, Result, Ok, Err, IfOk, inr}
use Rattle.limits.specs.Limits.{most_items}
use Rattle.json_value.specs.declared.Json.{Json}
use Rattle.otio_model.specs.declared.objects.Object.{Object}
use Rattle.schema_up.specs.Upgrades.{upgraded}
use Rattle.schema_rows.specs.Counts.{count_of}
use Rattle.schema_rows.specs.Faults.{IsFirstFault}
use Rattle.schema_rows.specs.Stands.{Stands}
use Rattle.schema_rows.specs.declared.faults.SchemaFault.{SchemaFault}
use Rattle.schema_rows.specs.declared.faults.SchemaFault.TheVariants.{Memory as WantOfMemory}
use Rattle.source_files.specs.Faults.{fault_text}
use Rattle.source_files.specs.Reasons.{reason_text}
use Rattle.source_files.specs.declared.reasons.Reason.{Reason}
use Rattle.source_files.specs.Formats.{IsJson, IsObject, RefusesValue, RefusesObject}
use Rattle.source_files.specs.Hand.{Judges}
use Rattle.source_files.specs.Values.{StandsAs}
use Rattle.source_files.specs.declared.read_faults.ReadFault.{ReadFault}
use Rattle.source_files.specs.declared.read_faults.ReadFault.TheVariants.{Absent, Failed, Refused}
use Rattle.source_files.proofs.HandedLemmas.{refused_by}

-- what a value of the bytes stands for is what the bytes are
pub object_judged : (value : Json) (result : Result Object ReadFault) (bytes : List ℕ)
    → StandsAs (upgraded value) result
    → IfOk result (λ object. count_of object ≤ most_items) → IsJson bytes value
    → Judges IsObject RefusesObject bytes result
object_judged value (Ok object) bytes s few is =
    record { value = value; text = is; stands = s; few = few }
object_judged value (Err Absent) bytes s few is = s
object_judged value (Err Failed) bytes s few is = s
object_judged value (Err (Refused refusal)) bytes s few is =
    refused_by (RefusesValue (upgraded value)) (RefusesObject bytes) refusal
    (λ why r. inr (value, is, r)) s

-- what a value of some bytes stands for is what some upgraded value stands for
pub stands_for : (value : Json) (result : Result Object ReadFault) → upgraded value ≡ value
    → StandsAs value result
    → IfOk result (λ object. (read : Json) × (upgraded read ≡ read) × Stands read object)
stands_for value (Ok object) stays s = (value, stays, s)
stands_for value (Err fault) stays s = tt

-- how the first fault of a value is refused
pub value_refused : (value : Json) (fault : SchemaFault) (reason : Reason) → fault ≢ WantOfMemory
    → reason_text reason ≡ fault_text fault
    → (fault ≢ WantOfMemory → IsFirstFault value fault) → RefusesValue value (reason_text reason)
value_refused value fault reason m e h = (fault, h m, e)
