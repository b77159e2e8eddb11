-- One object or one first fault.
use Rattle.std.proofs.Common.{◌≡◌, refl, sym, ap, ◌∙◌, arith}
use Rattle.json_value.specs.declared.Json.{Json}
use Rattle.otio_model.specs.declared.objects.Object.{Object}
use Rattle.otio_model.specs.declared.objects.Collection.{Collection}
use Rattle.schema_rows.specs.declared.schemas.TheConstants as C
use Rattle.schema_rows.specs.Readings.{known, object_fields}
use Rattle.schema_rows.specs.Families.{child}
use Rattle.schema_rows.specs.Stands.{Stands, Gives_reading, as_child}
use Rattle.schema_rows.specs.Faults.{refused, many}
use Rattle.object_law.specs.One.{StandsForOne, HasOneCount, HasOneFault, IsNeverBoth, spared_object, spared_collection}
use Rattle.object_law.proofs.SeenValues.{Folded, Sight, known_as, of_object, object_back, object_is}
use Rattle.object_law.proofs.OneValue.{fields_one}
use Rattle.object_law.proofs.ClashLemmas.{counted}
use Rattle.object_law.proofs.GivenOrRefused.{reading_not}
use Rattle.object_law.proofs.FirstFaults.{reading_first}

-- each fold that sets spare memory aside makes the same of two objects that a value stands for
pub folded_once : (φ : Folded) (json : Json) (a b : Object) → Stands json a → Stands json b → of_object φ a ≡ of_object φ b
folded_once φ json a b p q =
    sym (object_is φ a) ∙ ap (λ (s : Sight φ.A). object_back φ (known_as s)) (fields_one φ p (object_fields b) q) ∙ object_is φ b

abbrev without_spare : Folded
without_spare = record { A = Object; B = Collection; object = spared_object; collection = spared_collection; spare = λ t. refl }

pub stands_for_one : StandsForOne
stands_for_one = folded_once without_spare

pub has_one_count : HasOneCount
has_one_count = folded_once counted

as_root : (json : Json) (a : Object) → Stands json a → Gives_reading (child C.ROOTS) json (known (object_fields a))
as_root json a h = as_child (child C.ROOTS) json (known (object_fields a)) C.ROOTS (object_fields a) refl refl h

pub has_one_fault : HasOneFault
has_one_fault json f g (refused r) (refused s) = reading_first r g s
has_one_fault json f g (refused r) (many b q large is) = absurd (reading_not r _ (as_root json b q))
has_one_fault json f g (many a p large is) (refused s) = absurd (reading_not s _ (as_root json a p))
has_one_fault json f g (many a p large is) (many b q more also) = is ∙ sym also

pub is_never_both : IsNeverBoth
is_never_both json a f h few (refused r) = reading_not r _ (as_root json a h)
is_never_both json a f h few (many b q large is) = omega (arith, few, large, has_one_count json a b h q)
