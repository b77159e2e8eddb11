-- The speed so far goes on as the first one does.
use Rattle.std.proofs.Common.{◌≡◌, drop, pos, ◌≤ℤ◌, ◌-ℤ◌}
use Rattle.otio_model.specs.Speeds.{combined, keeps_speed}
use Rattle.otio_model.proofs.speeds.kept_speed.Given as goal

abbrev pub invariant-effects : goal.invariant-effects
invariant-effects l = record {
  low : (pos 0 -ℤ pos 1000000000) ≤ℤ l.speed;
  high : l.speed ≤ℤ pos 1000000000;
  speed : combined l.speed (drop l.effect-index l.effects) ≡ combined (pos 1000000) l.effects;
  keeps : keeps_speed l.speed (drop l.effect-index l.effects) ≡ keeps_speed (pos 1000000) l.effects;
}
