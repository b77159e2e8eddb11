-- When a transition's overlap holds an instant.
use Rattle.std.specs.Prelude.{ℤ, pos, ◌-ℤ◌, int_le, int_lt, Bool, false, ◌&&◌, Option, Some, None}
use Rattle.tick_time.specs.declared.times.Time.{Time}
use Rattle.otio_model.specs.declared.compositions.ItemOf.{ItemOf}
use Rattle.otio_model.specs.declared.compositions.ItemOf.TheVariants.{Clip, Gap, Transition, Stack}
use Rattle.otio_model.specs.declared.compositions.ItemOf.TheVariants.{Track}

-- whether w lies from a up to, not including, b
abbrev pub within : ℤ → ℤ → ℤ → Bool
within a b w = int_le a w && int_lt w b

-- an offset that isn't given is 0
abbrev pub offset_of : Option Time → ℤ
offset_of None = pos 0
offset_of (Some t) = t.ticks

-- whether the item is a transition whose overlap holds the instant, counted from its cut: from the
-- in_offset before the cut up to, not including, the out_offset behind it
abbrev pub overlaps : {C : Type 0} → ItemOf C → ℤ → Bool
overlaps (Clip c) w = false
overlaps (Gap g) w = false
overlaps (Transition t) w = within (pos 0 -ℤ offset_of t.in_offset) (offset_of t.out_offset) w
overlaps (Stack s) w = false
overlaps (Track t) w = false
