-- Where the children of a sound track stand.
use Rattle.std.proofs.Common.{◌≡◌, refl, sym, ℕ, zero, suc, ◌+◌, ◌<◌, ◌≤◌, ◌^◌, ℤ, pos, ◌+ℤ◌, ◌≤ℤ◌, List, [], ◌∷◌, Option, Some, None, IfSome, take, slice_get, arith, to_z, of_z}
use Rattle.std.specs.Int.{w128}
use Rattle.std.proofs.lemmas.Int.{ints}
use Rattle.limits.specs.Limits.{most_ticks}
use Rattle.otio_model.specs.declared.compositions.ItemOf.{ItemOf}
use Rattle.otio_model.specs.declared.compositions.Listed.{Listed}
use Rattle.otio_model.specs.Trees.{items_of}
use Rattle.otio_model.specs.Counts.{count, count_of}
use Rattle.otio_model.specs.Lengths.{added, lengths, start_of}
use Rattle.coord.specs.Soundness.{AreFaultless, fault_of}
use Rattle.coord.proofs.Members.{child_few}
use Rattle.coord.proofs.JudgingLemmas.{sound_child}
use Rattle.coord.proofs.ChildStarts.{added_more, start_next}
use Rattle.edl_frames.specs.Seats.{length_in}
use Rattle.edl_conform.specs.Seated.{IsNext}

added_front : (os : List (Option ℕ)) (i : ℕ) → added (take i os) ≤ added os
added_front [] zero = omega arith
added_front [] (suc i) = omega arith
added_front (p ∷ os) zero = omega arith
added_front (p ∷ os) (suc i) =
    omega (arith, added_front os i, added_more p (take i os), added_more p os)

-- what is known of the child at an index, which starts at an instant
pub record IsPlaced (l : Listed) (i : ℕ) (x : ItemOf Listed) (at : ℤ) : Type 0 where
  pub few : count_of x < 2 ^ 32
  pub faultless : fault_of x ≡ None
  pub end : (at +ℤ length_in x) ≡ pos (start_of l (i + 1))
  pub low : pos 0 ≤ℤ at
  pub high : (at +ℤ length_in x) ≤ℤ pos most_ticks

pub placed : (l : Listed) (i : ℕ) (x : ItemOf Listed) (at : ℤ)
    → slice_get (items_of l) i ≡ Some x → AreFaultless l → count l < 2 ^ 32
    → added (lengths l) ≤ most_ticks → at ≡ pos (start_of l i) → IsPlaced l i x at
placed l i x at e sound few fits is =
    let s = start_next l i x e in
    let f = added_front (lengths l) (i + 1) in
    record {
      few = child_few l i x e few;
      faultless = sound_child l i x e sound [] x refl;
      end = omega (arith, ints, s, is);
      low = omega (arith, ints, is);
      high = omega (arith, ints, s, is, f, fits);
    }

-- where it starts and ends, as the code has it from its length
pub record IsTimed (x : ItemOf Listed) (at len : ℤ) : Type 0 where
  pub start : to_z w128 (of_z w128 at) ≡ at
  pub end : to_z w128 (of_z w128 (to_z w128 (of_z w128 at) +ℤ to_z w128 (of_z w128 len)))
      ≡ at +ℤ length_in x

pub timed : (l : Listed) (i : ℕ) (x : ItemOf Listed) (at len : ℤ) → IsPlaced l i x at
    → len ≡ length_in x → IsTimed x at len
timed l i x at len p e =
    let low = p.low in
    let high = p.high in
    record { start = omega (arith, ints, low, high); end = omega (arith, ints, low, high, e) }

-- the child behind it
pub next_placed : (l : Listed) (i : ℕ) (o : Option (ItemOf Listed)) (end : ℤ)
    → o ≡ slice_get (items_of l) (i + 1) → AreFaultless l → count l < 2 ^ 32
    → added (lengths l) ≤ most_ticks → end ≡ pos (start_of l (i + 1)) → IfSome o (IsNext end)
next_placed l i None end e sound few fits is = tt
next_placed l i (Some y) end e sound few fits is =
    let p = placed l (i + 1) y end (sym e) sound few fits is in
    record { few = p.few; high = p.high }
