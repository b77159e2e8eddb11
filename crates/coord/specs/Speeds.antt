-- The speed at which an item plays, in millionths, by its effects.
use Rattle.std.specs.Prelude.{ℤ, pos, ◌+ℤ◌, ◌*ℤ◌, List, []}
use Rattle.std.specs.Int.{int_div_euclid}
use Rattle.otio_model.specs.declared.effect_types.Effect.{Effect}
use Rattle.otio_model.specs.declared.compositions.ItemOf.{ItemOf}
use Rattle.otio_model.specs.declared.compositions.ItemOf.TheVariants.{Clip, Gap, Transition}
use Rattle.otio_model.specs.declared.compositions.ItemOf.TheVariants.{Stack, Track}
use Rattle.otio_model.specs.Speeds.{combined}

-- the effects of an item; a transition has none
abbrev pub effects_of : {C : Type 0} → ItemOf C → List Effect
effects_of (Clip c) = c.effects
effects_of (Gap g) = g.effects
effects_of (Transition t) = []
effects_of (Stack s) = s.effects
effects_of (Track t) = t.effects

-- the speed of an item, which without effects is a million millionths
abbrev pub speed_of : {C : Type 0} → ItemOf C → ℤ
speed_of x = combined (pos 1000000) (effects_of x)

-- the instant of the media that is reached in u ticks from a start
abbrev pub media_at : ℤ → ℤ → ℤ → ℤ
media_at start speed u = start +ℤ int_div_euclid (u *ℤ speed) (pos 1000000)
