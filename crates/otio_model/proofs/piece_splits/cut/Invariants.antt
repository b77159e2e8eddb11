use Rattle.std.proofs.Common.{◌≡◌, ◌+◌, ◌*◌, ◌≤◌, ◌++◌, ◌⊎◌, vec_len}
use Rattle.std.specs.Prelude.{reverse}
use Rattle.std.specs.Vec.{vec_capacity}
use Rattle.otio_model.specs.Pieces.{all_items, AllPieces, AllFull, AllFresh}
use Rattle.otio_model.proofs.piece_splits.cut.Given as goal

abbrev pub invariant-cuts : goal.invariant-cuts
invariant-cuts l = record {
  items : l.fn.mid.items ≡ l.mid.items ++ all_items (reverse l.made.items);
  all : AllPieces (reverse l.made.items);
  full : 32 ≤ vec_len l.fn.mid → AllFull (reverse l.made.items);
  rest : 32 ≤ vec_len l.fn.mid → (vec_len l.mid ≡ 0) ⊎ (32 ≤ vec_len l.mid);
  few : vec_len l.fn.mid ≤ 32
      → (vec_len l.mid ≡ vec_len l.fn.mid) × (vec_len l.made ≡ 0) ⊎ (vec_len l.mid ≡ 0)
      × (vec_len l.made ≤ 1);
  fresh : AllFresh l.fresh.items;
  enough : vec_len l.mid ≤ 32 * vec_len l.fresh;
  room : vec_len l.made + vec_len l.fresh ≤ vec_capacity l.made;
  used : vec_len l.made + vec_len l.fresh ≡ vec_len l.fn.fresh;
  grown : vec_capacity l.fn.made ≤ vec_capacity l.made;
}

abbrev pub decreases-cuts : goal.decreases-cuts
decreases-cuts l = vec_len l.mid
