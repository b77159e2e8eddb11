-- Lengths in wide numbers.
use Rattle.std.proofs.Common.{◌≡◌, Bool, true, false, eqb, ℤ, ◌-ℤ◌, refl, sym, ap, subst, ◌∙◌, arith, to_z, of_z, w64}
use Rattle.std.specs.Int.{w128}
use Rattle.std.specs.Bool.{MatchBool}
use Rattle.std.proofs.lemmas.Int.{ints, to_z-of_z}
use Rattle.std.proofs.lemmas.Bool.Decides.{Decides-eqb}
use mir.Val.{SFits}

wide : (a : ℤ) → SFits w64 a → SFits w128 a
wide a f = record { sfits = omega (arith, f.sfits) }

-- a number that was widened
pub widened : (p a : ℤ) → SFits w64 a → p ≡ to_z w64 (of_z w64 a) → to_z w128 (of_z w128 p) ≡ a
widened p a f e =
    let same : p ≡ a = e ∙ to_z-of_z w64 a f in
    ap (λ (z : ℤ). to_z w128 (of_z w128 z)) same ∙ to_z-of_z w128 a (wide a f)

difference : (a b : ℤ) → SFits w64 a → SFits w64 b → SFits w128 (a -ℤ b)
difference a b f g = grind (arith, ints)

same_bits : (t : Bool) (x y : ℤ) → SFits w128 x → SFits w128 y → eqb (of_z w128 x) (of_z w128 y) ≡ t → MatchBool t (x ≡ y) (x ≡ y → ⊥)
same_bits true x y f g e = sym (to_z-of_z w128 x f) ∙ ap (to_z w128) ((Decides-eqb (of_z w128 x) (of_z w128 y)).0 e) ∙ to_z-of_z w128 y g
same_bits false x y f g e = λ h. let yes : true ≡ false = sym ((Decides-eqb (of_z w128 x) (of_z w128 y)).1 (ap (of_z w128) h)) ∙ e in cc yes

-- whether two lengths are the same
pub even_is : (a b c d x y : ℤ) → SFits w64 a → SFits w64 b → SFits w64 c → SFits w64 d → x ≡ a -ℤ b → y ≡ c -ℤ d
    → MatchBool (eqb (of_z w128 x) (of_z w128 y)) (a -ℤ b ≡ c -ℤ d) (a -ℤ b ≡ c -ℤ d → ⊥)
even_is a b c d x y fa fb fc fd e f =
    subst (λ (v : ℤ). MatchBool (eqb (of_z w128 v) (of_z w128 y)) (a -ℤ b ≡ c -ℤ d) (a -ℤ b ≡ c -ℤ d → ⊥)) (sym e)
    (subst (λ (w : ℤ). MatchBool (eqb (of_z w128 (a -ℤ b)) (of_z w128 w)) (a -ℤ b ≡ c -ℤ d) (a -ℤ b ≡ c -ℤ d → ⊥)) (sym f)
    (same_bits (eqb (of_z w128 (a -ℤ b)) (of_z w128 (c -ℤ d))) (a -ℤ b) (c -ℤ d) (difference a b fa fb) (difference c d fc fd) refl))
