-- Lists without transitions, made one child after another.
use Rattle.std.proofs.Common.{◌≡◌, refl, sym, ap, ap₂, ◌∙◌, ℕ, suc, ◌*◌, ◌≤◌, ℤ, pos, ◌+ℤ◌, ◌-ℤ◌, ◌≤ℤ◌}
use Rattle.std.proofs.Common.{Bool, true, false, List, [], ◌∷◌, ◌++◌, drop, length, arith, append_assoc}
use Rattle.std.specs.Prelude.{int_lt, int_le}
use Rattle.std.proofs.lemmas.Int.{ints}
use Rattle.std.proofs.lemmas.List.{append-nil as none_more}
pub use Rattle.limits.proofs.IntegerTests.{int_le-of_difference as lies_to}
use Rattle.limits.proofs.IntegerSums.{minus-zero as from_zero, minus-minus as less_more}
use Rattle.otio_model.specs.declared.compositions.ItemOf.{ItemOf}
use Rattle.otio_model.specs.declared.compositions.Listed.{Listed}
use Rattle.coord.specs.Sights.{overlap_of}
use Rattle.edits.specs.Splices.{is_stripped}
use Rattle.edits.specs.Children.{ticks}
use Rattle.edits.specs.Cuts.{strip}
use Rattle.edits.specs.Edges.{added}
use Rattle.edits.proofs.NextStarts.{added_low}
use Rattle.pieces.specs.Short.{AreShort}
use Rattle.coord.proofs.Members.{none_left}

pub meets_before : (a b c : ℤ) → int_lt (a -ℤ b) c ≡ int_lt (pos 0 -ℤ b) (c -ℤ a)
meets_before a b c = grind (arith, ints)

pub meets_after : (a b c : ℤ) → int_lt c (a +ℤ b) ≡ int_lt (c -ℤ a) b
meets_after a b c = grind (arith, ints)

pub lies_from : (a b : ℤ) → int_le b a ≡ int_le (b -ℤ a) (pos 0)
lies_from a b = grind (arith, ints)

pub ruleset meets = (meets_before, meets_after, lies_from, lies_to)

-- so much is kept, and what is left is stripped for the rest of the zone
pub record Stripped (l : List (ItemOf Listed)) (a b : ℤ) (kept rest : List (ItemOf Listed)) (at : ℤ)
    : Type 0 where
  pub is : strip l a b ≡ kept ++ strip rest (a -ℤ at) (b -ℤ at)
  pub low : pos 0 ≤ℤ at
  pub high : (at +ℤ added rest) ≤ℤ added l

pub strip_first : (l rest : List (ItemOf Listed)) (a b : ℤ) → rest ≡ l
    → Stripped l a b [] rest (pos 0)
strip_first l rest a b e =
    let same : added rest ≡ added l = ap added e in record {
      is = ap₂ (strip l) (from_zero a) (from_zero b)
          ∙ ap (λ r. strip r (a -ℤ pos 0) (b -ℤ pos 0)) (sym e);
      low = omega (arith, ints);
      high = omega (arith, ints, same);
    }

-- how long what is left is with its first child
rest_long : (rest more : List (ItemOf Listed)) (x : ItemOf Listed) → rest ≡ x ∷ more
    → added rest ≡ ticks x +ℤ added more
rest_long rest more x e = ap added e

-- one child more, by the answer of its test
pub keep_as : (l rest more kept new : List (ItemOf Listed)) (a b at now : ℤ) (x : ItemOf Listed)
    (r : Bool) → Stripped l a b kept rest at → rest ≡ x ∷ more
    → r ≡ is_stripped (a -ℤ at) (b -ℤ at) (overlap_of x) → r ≡ false → new ≡ kept ++ x ∷ []
    → now ≡ at +ℤ ticks x → Stripped l a b new more now
keep_as l rest more kept new a b at now x r s e f g n z =
    let test : is_stripped (a -ℤ at) (b -ℤ at) (overlap_of x) ≡ false = sym f ∙ g in
    let here : strip (x ∷ more) (a -ℤ at) (b -ℤ at)
    ≡ x ∷ strip more ((a -ℤ at) -ℤ ticks x) ((b -ℤ at) -ℤ ticks x) = rw test refl in
    let moved : strip more ((a -ℤ at) -ℤ ticks x) ((b -ℤ at) -ℤ ticks x)
    ≡ strip more (a -ℤ now) (b -ℤ now) =
    ap₂ (strip more) (less_more a at (ticks x) ∙ ap (λ k. a -ℤ k) (sym z))
    (less_more b at (ticks x) ∙ ap (λ k. b -ℤ k) (sym z)) in
    let long = rest_long rest more x e in
    record {
      is = s.is ∙ ap (λ q. kept ++ strip q (a -ℤ at) (b -ℤ at)) e
          ∙ ap (λ q. kept ++ q) (here ∙ ap (λ q. x ∷ q) moved)
          ∙ sym (append_assoc kept (x ∷ []) (strip more (a -ℤ now) (b -ℤ now)))
          ∙ ap (λ k. k ++ strip more (a -ℤ now) (b -ℤ now)) (sym n);
      low = omega (arith, ints, s.low, z);
      high = omega (arith, ints, s.high, long, z);
    }

pub drop_as : (l rest more kept new : List (ItemOf Listed)) (a b at now : ℤ) (x : ItemOf Listed)
    (r : Bool) → Stripped l a b kept rest at → rest ≡ x ∷ more
    → r ≡ is_stripped (a -ℤ at) (b -ℤ at) (overlap_of x) → r ≡ true → new ≡ kept → now ≡ at
    → Stripped l a b new more now
drop_as l rest more kept new a b at now x r s e f g n z =
    let test : is_stripped (a -ℤ at) (b -ℤ at) (overlap_of x) ≡ true = sym f ∙ g in
    let here : strip (x ∷ more) (a -ℤ at) (b -ℤ at) ≡ strip more (a -ℤ at) (b -ℤ at) =
    rw test refl in
    let long = rest_long rest more x e in
    record {
      is = s.is ∙ ap (λ q. kept ++ strip q (a -ℤ at) (b -ℤ at)) e ∙ ap (λ q. kept ++ q) here
          ∙ ap (λ k. kept ++ strip more (a -ℤ k) (b -ℤ k)) (sym z)
          ∙ ap (λ k. k ++ strip more (a -ℤ now) (b -ℤ now)) (sym n);
      low = omega (arith, ints, s.low, z);
      high = omega (arith, ints, s.high, long, z);
    }

-- where what is left starts, and where its first child ends
pub near_start : (l kept rest : List (ItemOf Listed)) (a b at m : ℤ) → Stripped l a b kept rest at
    → added l ≤ℤ m → at ≤ℤ m
near_start l kept rest a b at m s h =
    let r = added_low rest in omega (arith, ints, s.high, r, h)

pub near_end : (l kept rest more : List (ItemOf Listed)) (a b at m : ℤ) (x : ItemOf Listed)
    → Stripped l a b kept rest at → rest ≡ x ∷ more → added l ≤ℤ m → (at +ℤ ticks x) ≤ℤ m
near_end l kept rest more a b at m x s e h =
    let r = added_low more in
    let long = rest_long rest more x e in omega (arith, ints, s.high, r, long, h)

end_is : (l kept : List (ItemOf Listed)) (i : ℕ) (a b at : ℤ) → Stripped l a b kept (drop i l) at
    → length l ≤ i → kept ≡ strip l a b
end_is l kept i a b at s n =
    sym (s.is ∙ ap (λ r. kept ++ strip r (a -ℤ at) (b -ℤ at)) (none_left l i n) ∙ none_more kept)

pub strip_end : (l kept : List (ItemOf Listed)) (i : ℕ) (a b c d at : ℤ)
    → Stripped l a b kept (drop i l) at → length l ≤ i → a ≡ c → b ≡ d → kept ≡ strip l c d
strip_end l kept i a b c d at s n e f = end_is l kept i a b at s n ∙ ap₂ (strip l) e f

-- short items are together no longer than so many million seconds
pub short_together : (l : List (ItemOf Listed)) → AreShort l
    → added l ≤ℤ pos (length l * 705600000000000000000000)
short_together [] h = omega (arith, ints)
short_together (x ∷ l) h =
    let here = (h 0 x refl).short in
    let rest = short_together l (λ i y e. h (suc i) y e) in omega (arith, ints, here, rest)
