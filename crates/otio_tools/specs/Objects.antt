-- The answer to an object that is written, in one family of schemas or the other.
use Rattle.std.specs.Prelude.{◌≡◌, ◌≢◌, ℕ, Bool, true, false, List}
use Rattle.std.specs.declared.option.Option.{Option}
use Rattle.json_text.specs.Layout.{layout}
use Rattle.otio_model.specs.declared.objects.Object.{Object}
use Rattle.schema_write.specs.OldForms.{HasOldForm, IsOldFault}
use Rattle.schema_write.specs.declared.old_faults.FamilyFault.{FamilyFault}
use Rattle.schema_write.specs.declared.old_faults.FamilyFault.TheVariants.{Memory}
use Rattle.source_files.specs.Faults.{family_fault_text}
use Rattle.otio_tools.specs.Forms.{Answer, done, refused}
use Rattle.otio_tools.specs.Written.{object_json, old_object_json}

-- The answer to an object that is written in the older family: the first item that has no form
-- there, told of the file of that name; else its layout there.
pub data AnswersOld (name : List ℕ) (target : Option (List ℕ)) (object : Object)
    (answer : Answer) : Type 0 where
  NoForm : (fault : FamilyFault) → fault ≢ Memory → IsOldFault object fault
      → answer ≡ refused name (family_fault_text fault) → AnswersOld name target object answer
  Older : HasOldForm object → answer ≡ done target (layout (old_object_json object))
      → AnswersOld name target object answer

-- the answer to an object that is written in the older family, or in the newer one
abbrev pub AnswersObject : Bool → List ℕ → Option (List ℕ) → Object → Answer → Type 0
AnswersObject true name target object answer = AnswersOld name target object answer
AnswersObject false name target object answer = answer ≡ done target (layout (object_json object))
