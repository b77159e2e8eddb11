use Rattle.std.proofs.Common.{◌≡◌, map, take}
use Rattle.schema_write.specs.Objects.{effect_json}
use Rattle.schema_write.proofs.effects.effects_json.Given as goal

abbrev pub invariant-effects : goal.invariant-effects
invariant-effects l = l.values.items ≡ map effect_json (take l.effect-index l.list)
