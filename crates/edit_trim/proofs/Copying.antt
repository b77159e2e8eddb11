-- What the code counts and copies of the touched children, by what its calls say.
use Rattle.std.proofs.Common.{◌≡◌, refl, ap, ℕ, ◌+◌, ◌-◌, ℤ, pos, ◌+ℤ◌, ◌-ℤ◌, ◌≤ℤ◌, FitsSigned}
use Rattle.std.proofs.Common.{to_z, of_z, Some, List, take, drop, length, arith}
use mir.Syntax.{w128}
use Rattle.std.specs.Prelude.{slice_get}
use Rattle.std.proofs.lemmas.Int.{to_z-of_z, ints}
use Rattle.limits.specs.Limits.{most_ticks}
use Rattle.otio_model.specs.declared.compositions.ItemOf.{ItemOf}
use Rattle.otio_model.specs.declared.compositions.Listed.{Listed}
use Rattle.otio_model.specs.declared.seeks.Seat.{Seat}
use Rattle.edits.specs.Children.{ticks}
use Rattle.edits.specs.Cuts.{strip}
use Rattle.edits.specs.Edges.{added}
use Rattle.edits.specs.Narrow.{ahead, touched}
use Rattle.edit_trim.specs.Seats.{IsShaped}
use Rattle.edit_trim.specs.declared.replacements.Shape.{Shape}
use Rattle.edit_trim.specs.declared.replacements.Interval.{Interval}
use Rattle.edit_trim.proofs.Reshaping.{Copied, Reckoned, before_items, behind_items, gone_within}
use Rattle.edit_trim.proofs.Reshaping.{inside}
use Rattle.edit_trim.proofs.Whole.{Within}

-- a number as a call takes it
abbrev pub wide : ℤ → ℤ
wide z = to_z w128 (of_z w128 z)

-- where the touched children stand, and where the first of them begins as the code hands it on
pub record Placed (l : List (ItemOf Listed)) (s : Seat) (z : Interval) (first count : ℕ) (gone : ℤ) :
    Type 0 where
  pub reckoned : Reckoned l z first gone count
  pub inside : Within l first count s.index
  pub low : pos 0 ≤ℤ gone
  pub high : gone ≤ℤ s.start
  pub least : pos 0 ≤ℤ wide gone
  pub most : wide gone ≤ℤ pos 50000000000000000000000000000000000000

pub placed : {l : List (ItemOf Listed)} {s : Seat} {z : Interval} {k : Shape} {first count : ℕ}
    {gone : ℤ} → IsShaped l s z k → s.start ≤ℤ pos 10000000000000000000000000000000000000
    → first ≡ length (ahead l (wide z.from) (wide z.to))
    → gone ≡ added (ahead l (wide z.from) (wide z.to))
    → count ≡ length (touched l (wide z.from) (wide z.to)) → Placed l s z first count gone
placed {l = l} {s = s} {z = z} {k = k} {first = first} {count = count} {gone = gone} w near a b d =
    let f1 : FitsSigned w128 z.from = omega
    (arith, ints, w.round.near_from.low, w.round.near_from.high) in
    let f2 : FitsSigned w128 z.to = omega
    (arith, ints, w.round.near_to.low, w.round.near_to.high) in
    let r : Reckoned l z first gone count = record {
      first = simp to_z-of_z at a;
      long = simp to_z-of_z at b;
      many = simp to_z-of_z at d;
    } in
    let g = gone_within l s z k first count gone w r in
    let low = g.0 in
    let high = g.1 in
    let f3 : FitsSigned w128 gone = omega (arith, ints, low, high, near) in
    record {
      reckoned = r;
      inside = inside l s z k first count gone w r;
      low = low;
      high = high;
      least = omega (arith, ints, low, high, near);
      most = omega (arith, ints, low, high, near);
    }

-- where the item ends, as the code hands it on
pub ended : {l : List (ItemOf Listed)} {s : Seat} {z : Interval} {first count : ℕ} {gone n : ℤ}
    → Placed l s z first count gone → s.start ≤ℤ pos 10000000000000000000000000000000000000
    → pos 0 ≤ℤ n → n ≤ℤ pos most_ticks
    → (pos 0 ≤ℤ wide (wide s.start +ℤ wide n))
    × (wide (wide s.start +ℤ wide n) ≤ℤ pos 50000000000000000000000000000000000000)
ended {s = s} p near least most =
    let low = p.low in
    let high = p.high in
    let f : FitsSigned w128 s.start = omega (arith, ints, low, high, near) in (
      omega (arith, ints, low, high, near, least, most),
      omega
          (arith, ints, low, high, near, least, most),
    )

-- what the copies are
pub copied : {l : List (ItemOf Listed)} {s : Seat} {z : Interval} {k : Shape} {first count : ℕ}
    {gone n u v a b : ℤ} {x : ItemOf Listed} {p q : List (ItemOf Listed)} (w : IsShaped l s z k)
    → s.start ≤ℤ pos 10000000000000000000000000000000000000
    → first ≡ length (ahead l (wide z.from) (wide z.to))
    → gone ≡ added (ahead l (wide z.from) (wide z.to))
    → count ≡ length (touched l (wide z.from) (wide z.to)) → pos 0 ≤ℤ n → n ≤ℤ pos most_ticks
    → n ≡ ticks x → slice_get l s.index ≡ Some x
    → u ≡ (z.from -ℤ wide gone) → v ≡ (z.to -ℤ wide gone)
    → p ≡ strip (take (s.index - first) (drop first l)) u v
    → a ≡ (z.from -ℤ wide (wide s.start +ℤ wide n)) → b ≡ (z.to -ℤ wide (wide s.start +ℤ wide n))
    → q ≡ strip (take (((first + count) - s.index) - 1) (drop (s.index + 1) l)) a b
    → Reckoned l z first gone count × Copied l s z k w x p q
copied {l = l} {s = s} {z = z} {k = k} {first = first} {count = count} {gone = gone} {n = n} {u = u}
    {v = v} {a = a} {b = b} {x = x} {p = p} {q = q} w near at_first at_gone at_count least most long
    item from to before behind_from behind_to behind =
    let r = placed w near at_first at_gone at_count in
    let low = r.low in
    let high = r.high in
    let f1 : FitsSigned w128 gone = omega (arith, ints, low, high, near) in
    let f2 : FitsSigned w128 s.start = omega (arith, ints, low, high, near) in
    let f3 : FitsSigned w128 n = omega (arith, ints, least, most) in
    let f4 : FitsSigned w128 (s.start +ℤ n) = omega (arith, ints, low, high, near, least, most) in (
      r.reckoned,
      record {
        item = item;
        before = before_items l s z k first count _ gone u v p w r.reckoned refl
            (simp to_z-of_z at from) (simp to_z-of_z at to) before;
        behind = behind_items l s z k first count _ gone (s.start +ℤ n) a b x q w r.reckoned item
            (ap (λ y. s.start +ℤ y) long) refl (simp to_z-of_z at behind_from)
            (simp to_z-of_z at behind_to) behind;
      },
    )
