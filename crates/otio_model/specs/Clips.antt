-- Which items have a clip, and which may show something.
use Rattle.std.specs.Prelude.{Bool, true, false, ◌&&◌, ◌||◌, List, [], ◌∷◌}
use Rattle.otio_model.specs.declared.compositions.ItemOf.{ItemOf}
use Rattle.otio_model.specs.declared.compositions.ItemOf.TheVariants.{Clip, Gap, Transition, Stack}
use Rattle.otio_model.specs.declared.compositions.ItemOf.TheVariants.{Track}
use Rattle.otio_model.specs.declared.compositions.Listed.{Listed, fold-Listed}
use Rattle.otio_model.specs.declared.compositions.Listed.TheOpen.{Listed-F}

-- whether an item is a clip or has one below it, where the function says so of children
abbrev pub has_clip_by : {C : Type 0} → (C → Bool) → ItemOf C → Bool
has_clip_by f (Clip c) = true
has_clip_by f (Gap g) = false
has_clip_by f (Transition t) = false
has_clip_by f (Stack s) = f s.children
has_clip_by f (Track t) = f t.children

abbrev pub any_clip_by : {C : Type 0} → (C → Bool) → List (ItemOf C) → Bool
any_clip_by f [] = false
any_clip_by f (x ∷ xs) = has_clip_by f x || any_clip_by f xs

abbrev pub clips_step : Listed-F Bool → Bool
clips_step l = any_clip_by (λ b. b) l.list

-- whether one of the children is a clip or has one below it
abbrev pub any_clip : Listed → Bool
any_clip = fold-Listed Bool clips_step

-- whether an item is a clip or has one below it
abbrev pub has_clip : ItemOf Listed → Bool
has_clip = has_clip_by any_clip

-- whether an item may show something, where the function says so of children: an enabled clip, or
-- an enabled stack or track with a child that may
abbrev pub is_lit_by : {C : Type 0} → (C → Bool) → ItemOf C → Bool
is_lit_by f (Clip c) = c.enabled
is_lit_by f (Gap g) = false
is_lit_by f (Transition t) = false
is_lit_by f (Stack s) = s.enabled && f s.children
is_lit_by f (Track t) = t.enabled && f t.children

abbrev pub any_lit_by : {C : Type 0} → (C → Bool) → List (ItemOf C) → Bool
any_lit_by f [] = false
any_lit_by f (x ∷ xs) = is_lit_by f x || any_lit_by f xs

abbrev pub lit_step : Listed-F Bool → Bool
lit_step l = any_lit_by (λ b. b) l.list

-- whether one of the children may show something
abbrev pub any_lit : Listed → Bool
any_lit = fold-Listed Bool lit_step

-- whether an item may show something
abbrev pub is_lit : ItemOf Listed → Bool
is_lit = is_lit_by any_lit
