-- What fills a gap: the item, a piece of it, or the item at another speed.
use Rattle.std.specs.Prelude.{◌≡◌, ℤ, pos, Bool, true, false, Option, Some, None}
use Rattle.tick_time.specs.declared.rates.Rate.{Rate}
use Rattle.otio_model.specs.declared.compositions.ItemOf.{ItemOf}
use Rattle.otio_model.specs.declared.compositions.Listed.{Listed}
use Rattle.otio_model.specs.declared.edit_types.FillMode.{FillMode}
use Rattle.otio_model.specs.declared.edit_types.FillMode.TheVariants as M
use Rattle.otio_model.specs.Speeds.{kept_speed}
use Rattle.coord.specs.Speeds.{effects_of}
use Rattle.edits.specs.Children.{made}
use Rattle.edits.specs.Edges.{is_zero}
use Rattle.edits.specs.Edits.{filling}
use Rattle.edits.specs.Refusals.{cuts_filling, is_wrong_fit}
use Rattle.edit_plans.specs.declared.gap_fill.FillFault.{FillFault}
use Rattle.edit_plans.specs.declared.gap_fill.FillFault.TheVariants as F

-- in a gap of so many ticks the item would have no speed that there is
abbrev pub is_wrong : FillMode → ItemOf Listed → ℤ → Bool
is_wrong M.Source x room = false
is_wrong M.Sequence x room = false
is_wrong M.Fit x room = is_wrong_fit x room

-- a speed that is 0, or none
abbrev pub has_no_speed : Option ℤ → Bool
has_no_speed None = true
has_no_speed (Some v) = is_zero v

-- the item has speed 0, or its speed passes 1000 times on the way
abbrev pub stands_still : ItemOf Listed → Bool
stands_still x = has_no_speed (kept_speed (pos 1000000) (effects_of x))

-- the item fits into a gap of so many ticks, and this is what fills it
pub record IsFilling (mode : FillMode) (x : ItemOf Listed) (room : ℤ) (rate : Rate)
    (y : ItemOf Listed) : Type 0 where
  pub right : is_wrong mode x room ≡ false
  pub whole : cuts_filling mode x room ≡ true
  pub made : made rate (filling mode x room) ≡ Some y

-- why it doesn't
abbrev pub IsMisfit : FillMode → ItemOf Listed → ℤ → FillFault → Type 0
IsMisfit mode x room F.Speed = is_wrong mode x room ≡ true
IsMisfit mode x room F.Phase =
    (is_wrong mode x room ≡ false) × (cuts_filling mode x room ≡ false)
IsMisfit mode x room F.Memory = Unit {0}
