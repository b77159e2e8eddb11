-- A spare as the numbers that it has room for.
use Rattle.std.specs.Prelude.{◌≡◌, ◌-◌, ◌*◌, ◌≤◌, min, [], vec_len}
use Rattle.std.specs.Vec.{vec_capacity}
use Rattle.otio_model.specs.declared.reserve.Spare.TheInside.{Inside}
use Rattle.otio_model.specs.Rooms.{Room}
use Rattle.otio_model.specs.Pieces.{AllFresh}

-- the items that it has room for on the way, those that can be handed out, and those that come
-- out of pieces
abbrev pub room_of : Inside → Room
room_of s = record {
  room = min (vec_capacity s.mid)
      (min (32 * vec_len s.fresh) (vec_capacity s.outer - vec_len s.fresh));
  taken = vec_capacity s.taken;
  loose = vec_capacity s.loose;
}

-- all is empty, and the fresh pieces can be moved
pub record IsSpare (s : Inside) : Type 0 where
  pub taken : s.taken.items ≡ []
  pub loose : s.loose.items ≡ []
  pub mid : s.mid.items ≡ []
  pub outer : s.outer.items ≡ []
  pub made : s.made.items ≡ []
  pub fresh : AllFresh s.fresh.items
  pub movable : vec_len s.fresh ≤ vec_capacity s.made
