-- What a value is judged to stand for.
use Rattle.std.specs.Prelude.{Result, Ok, Err}
use Rattle.json_value.specs.declared.Json.{Json}
use Rattle.otio_model.specs.declared.objects.Object.{Object}
use Rattle.schema_rows.specs.Stands.{Stands}
use Rattle.source_files.specs.Formats.{RefusesValue}
use Rattle.source_files.specs.Reading.{IsRefused}
use Rattle.source_files.specs.declared.read_faults.ReadFault.{ReadFault}
use Rattle.source_files.specs.declared.read_faults.ReadFault.TheVariants.{Absent, Failed, Refused}

-- the object that the value stands for, or its first fault; out of memory is free
abbrev pub StandsAs : Json → Result Object ReadFault → Type 0
StandsAs value (Ok object) = Stands value object
StandsAs value (Err Absent) = ⊥
StandsAs value (Err Failed) = ⊥
StandsAs value (Err (Refused refusal)) = IsRefused (RefusesValue value) refusal
