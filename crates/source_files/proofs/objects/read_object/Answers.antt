use Rattle.std.proofs.Common.{inl}
use Rattle.json_law.proofs.UpgradedNumerals.{upgraded_numerals}
use Rattle.json_law.proofs.UpgradedTwice.{read_stays}
use Rattle.otio_model.specs.declared.objects.Object.{Object}
use Rattle.json_value.specs.declared.Json.{Json}
use Rattle.source_files.specs.Formats.{IsJson, IsObject, IsCalmJson, RefusesJson, RefusesObject}
use Rattle.source_files.proofs.HandedLemmas.{given_further, given_narrower}
use Rattle.schema_up.specs.Upgrades.{upgraded}
use Rattle.source_files.proofs.ObjectLemmas.{object_judged, stands_for}
use Rattle.source_files.proofs.objects.read_object.Goals as goal

pub object_in-requires : goal.object_in-requires
object_in-requires g c = record {
  numerals =
      upgraded_numerals c.in-Ok.ensures.text.0 c.in-Ok.value c.in-Ok.ensures.text.1;
}

pub returns-in-Ok-clause-stands : goal.returns-in-Ok-clause-stands
returns-in-Ok-clause-stands g c =
    stands_for (upgraded c.in-Ok.value) c.object_in.result
    (read_stays c.in-Ok.ensures.text.0 c.in-Ok.value c.in-Ok.ensures.text.1)
    c.object_in.ensures.stands

pub returns-in-Ok-clause-given : goal.returns-in-Ok-clause-given
returns-in-Ok-clause-given g c =
    given_further IsJson RefusesJson IsCalmJson IsObject RefusesObject _ _ c.in-Ok.value c.object_in.result
    (λ bytes is. object_judged c.in-Ok.value c.object_in.result bytes c.object_in.ensures.stands
    c.object_in.ensures.few is)
    c.in-Ok.ensures.given

pub returns-in-Err-clause-given : goal.returns-in-Err-clause-given
returns-in-Err-clause-given g c =
    given_narrower Json Object IsJson RefusesJson IsCalmJson IsObject RefusesObject _ _ c.in-Err.fault
    (λ bytes why r. inl r) c.in-Err.ensures.given
