-- The speed that effects come to, in millionths.
use Rattle.std.specs.Prelude.{ℤ, pos, ◌*ℤ◌, Bool, true, ◌&&◌, cond, List, [], ◌∷◌, Option, Some, None}
use Rattle.tick_time.specs.Times.{is_speed}
pub use Rattle.tick_time.specs.Rounding.{from_millionths}
use Rattle.otio_model.specs.declared.effect_types.Effect.{Effect}
use Rattle.otio_model.specs.declared.effect_types.Effect.TheVariants.{Warp, Freeze, Plain, Kept}

-- the speed after one more effect: a warp multiplies it, a still stops, all others leave it
abbrev pub next_speed : ℤ → Effect → ℤ
next_speed speed (Warp w) = from_millionths (speed *ℤ w.time_scalar)
next_speed speed (Freeze f) = pos 0
next_speed speed (Plain p) = speed
next_speed speed (Kept j) = speed

-- the speed after these effects, one after another
abbrev pub combined : ℤ → List Effect → ℤ
combined speed [] = speed
combined speed (e ∷ es) = combined (next_speed speed e) es

-- the speed is at most 1000 times, either way, after each of these effects
abbrev pub keeps_speed : ℤ → List Effect → Bool
keeps_speed speed [] = true
keeps_speed speed (e ∷ es) = is_speed (next_speed speed e) && keeps_speed (next_speed speed e) es

-- the speed after these effects, none where it passes 1000 times on the way
abbrev pub kept_speed : ℤ → List Effect → Option ℤ
kept_speed speed es = cond (keeps_speed speed es) (Some (combined speed es)) None

-- the speed that a number is, none where it is past 1000 times
abbrev pub speed_in : ℤ → Option ℤ
speed_in number = cond (is_speed number) (Some number) None
