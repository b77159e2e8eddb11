use Rattle.std.proofs.Common.{◌≡◌, ◌-◌, ◌≤◌, vec_len, []}
use Rattle.std.specs.Vec.{vec_capacity}
use Rattle.otio_model.specs.Pieces.{AllFresh}
use Rattle.otio_model.proofs.reserve.Spare.make.Given as goal

abbrev pub invariant-fresh : goal.invariant-fresh
invariant-fresh l = record {
  all : AllFresh l.self-inside.fresh.items;
  taken : l.self-inside.taken.items ≡ [];
  loose : l.self-inside.loose.items ≡ [];
  mid : l.self-inside.mid.items ≡ [];
  outer : l.self-inside.outer.items ≡ [];
  made : l.self-inside.made.items ≡ [];
  taken_room : l.count ≤ vec_capacity l.self-inside.taken;
  loose_room : l.put ≤ vec_capacity l.self-inside.loose;
  mid_room : l.work ≤ vec_capacity l.self-inside.mid;
  made_room : l.wanted ≤ vec_capacity l.self-inside.made;
  movable : vec_len l.self-inside.fresh ≤ vec_capacity l.self-inside.made;
}

abbrev pub decreases-fresh : goal.decreases-fresh
decreases-fresh l = l.wanted - vec_len l.self-inside.fresh
