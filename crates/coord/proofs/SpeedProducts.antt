-- A speed that was kept.
use Rattle.std.proofs.Common.{◌≡◌, sym, ◌∙◌, Bool, true, false, cond, List, Option, Some, None, ℤ}
use Rattle.otio_model.specs.declared.effect_types.Effect.{Effect}
use Rattle.otio_model.specs.Speeds.{combined, keeps_speed, kept_speed}

kept_by : (b : Bool) (v w : ℤ) → cond b (Some v) None ≡ Some w → w ≡ v
kept_by true v w e = cc e
kept_by false v w e = absurd (cc e)

-- a speed that was kept is the combined one
pub kept_is : (o : Option ℤ) (speed v : ℤ) (es : List Effect) → o ≡ kept_speed speed es → o ≡ Some v → v ≡ combined speed es
kept_is o speed v es e f = kept_by (keeps_speed speed es) (combined speed es) v (sym e ∙ f)
