-- The children before and after those that are met are clear of the zone.
use Rattle.std.proofs.Common.{◌≡◌, refl, ap, ◌∙◌, ◌⊎◌, inl, inr, ℤ, pos, ◌-ℤ◌, ◌≤ℤ◌, ◌<ℤ◌, ◌&&◌, Bool, true, false, List, [], ◌∷◌, ◌++◌, arith}
use Rattle.std.specs.Prelude.{int_le}
use Rattle.std.proofs.lemmas.Int.{ints, by_lt_z}
pub use Rattle.std.proofs.lemmas.Bool.{or_parts as or_false}
use Rattle.limits.proofs.IntegerTests.{int_lt-false as lt_no}
use Rattle.otio_model.specs.declared.compositions.ItemOf.{ItemOf}
use Rattle.otio_model.specs.declared.compositions.Listed.{Listed}
use Rattle.coord.specs.Sights.{overlap_of}
use Rattle.edits.specs.Splices.{is_stripped}
use Rattle.edits.specs.Children.{ticks}
use Rattle.edits.specs.Cuts.{strip}
use Rattle.edits.specs.Edges.{added}
use Rattle.edits.specs.Narrow.{is_met, any_met, ahead, onward, up_to_met, past_met, touched, beyond}
use Rattle.edits_law.proofs.Parted.{IsApart, le_yes}
use Rattle.edits_law.proofs.Splice.{cases}

-- what isn't met isn't stripped, and lies before or after the zone
unmet : (x : ItemOf Listed) (a b : ℤ) → is_met x a b ≡ false → (is_stripped a b (overlap_of x) ≡ false) × ((b <ℤ pos 0) ⊎ (ticks x <ℤ a))
unmet x a b e = let f = or_false (is_stripped a b (overlap_of x)) (int_le (pos 0) b && int_le a (ticks x)) e in (
  f.0,
  by_lt_z b (pos 0) (λ h. inl h) (λ h. by_lt_z (ticks x) a (λ k. inr k) (λ k.
      let g : int_le (pos 0) b ≡ true = le_yes (pos 0) b h in
      let i : int_le a (ticks x) ≡ true = le_yes a (ticks x) k in
      absurd (cc (rw (g, i) at f.1)))),
)

pub ahead_kept : (l : List (ItemOf Listed)) (a b : ℤ) → strip (ahead l a b) a b ≡ ahead l a b
ahead_kept [] a b = refl
ahead_kept (x ∷ l) a b = cases (is_met x a b)
    (λ s. rw s refl)
    (λ s. let u = unmet x a b s in rw (s, u.0) (ap (λ m. x ∷ m) (ahead_kept l (a -ℤ ticks x) (b -ℤ ticks x))))

pub ahead_early : (l : List (ItemOf Listed)) (a b : ℤ) → a ≤ℤ b → pos 0 ≤ℤ b → (ahead l a b ≡ []) ⊎ (added (ahead l a b) <ℤ a)
ahead_early [] a b h k = inl refl
ahead_early (x ∷ l) a b h k = cases (is_met x a b)
    (λ s. inl (rw s refl))
    (λ s. inr (rw s (elim ((unmet x a b s).1) [
      | inl g ↦ absurd (omega (arith, ints))
      | inr g ↦ elim (ahead_early l (a -ℤ ticks x) (b -ℤ ticks x) (omega (arith, ints)) (omega (arith, ints))) [
        | inl e ↦ let z : added (ahead l (a -ℤ ticks x) (b -ℤ ticks x)) ≡ pos 0 = ap added e in omega (arith, ints)
        | inr e ↦ omega (arith, ints)
      ]
    ])))

pub ahead_onward : (l : List (ItemOf Listed)) (a b : ℤ) → ahead l a b ++ onward l a b ≡ l
ahead_onward [] a b = refl
ahead_onward (x ∷ l) a b = cases (is_met x a b)
    (λ s. rw s refl)
    (λ s. rw s (ap (λ m. x ∷ m) (ahead_onward l (a -ℤ ticks x) (b -ℤ ticks x))))

pub up_past : (l : List (ItemOf Listed)) (a b : ℤ) → up_to_met l a b ++ past_met l a b ≡ l
up_past [] a b = refl
up_past (x ∷ l) a b = cases (any_met (x ∷ l) a b)
    (λ s. rw s (ap (λ m. x ∷ m) (up_past l (a -ℤ ticks x) (b -ℤ ticks x))))
    (λ s. rw s refl)

-- where none is met, none is stripped
none_stripped : (l : List (ItemOf Listed)) (a b : ℤ) → any_met l a b ≡ false → strip l a b ≡ l
none_stripped [] a b e = refl
none_stripped (x ∷ l) a b e = let f = or_false (is_met x a b) _ e in let u = unmet x a b f.0 in
    rw u.0 (ap (λ m. x ∷ m) (none_stripped l (a -ℤ ticks x) (b -ℤ ticks x) f.1))

-- and the zone lies before the list
none_late : (x : ItemOf Listed) (l : List (ItemOf Listed)) (a b : ℤ) → a ≤ℤ b → any_met (x ∷ l) a b ≡ false → b <ℤ pos 0
none_late x [] a b h e = let f = or_false (is_met x a b) _ e in let g = lt_no (pos 0) (a -ℤ ticks x) f.1 in elim ((unmet x a b f.0).1) [
  | inl k ↦ k
  | inr k ↦ absurd (omega (arith, ints))
]
none_late x (y ∷ l) a b h e = let f = or_false (is_met x a b) _ e in let g = none_late y l (a -ℤ ticks x) (b -ℤ ticks x) (omega (arith, ints)) f.1 in elim ((unmet x a b f.0).1) [
  | inl k ↦ k
  | inr k ↦ absurd (omega (arith, ints))
]

pub past_kept : (l : List (ItemOf Listed)) (a b c d : ℤ) → c ≡ (a -ℤ added (up_to_met l a b)) → d ≡ (b -ℤ added (up_to_met l a b)) → strip (past_met l a b) c d ≡ past_met l a b
past_kept [] a b c d e f = refl
past_kept (x ∷ l) a b c d e f = by (any_met (x ∷ l) a b) refl (past_kept l (a -ℤ ticks x) (b -ℤ ticks x) c d)
  where
    by : (t : Bool) → any_met (x ∷ l) a b ≡ t
        → (c ≡ ((a -ℤ ticks x) -ℤ added (up_to_met l (a -ℤ ticks x) (b -ℤ ticks x))) → d ≡ ((b -ℤ ticks x) -ℤ added (up_to_met l (a -ℤ ticks x) (b -ℤ ticks x))) → strip (past_met l (a -ℤ ticks x) (b -ℤ ticks x)) c d ≡ past_met l (a -ℤ ticks x) (b -ℤ ticks x))
        → strip (past_met (x ∷ l) a b) c d ≡ past_met (x ∷ l) a b
    by true s next = let i = rw s at e in let j = rw s at f in rw s (next (omega (arith, ints)) (omega (arith, ints)))
    by false s next = let i = rw s at e in let j = rw s at f in let p : c ≡ a = omega (arith, ints) in let q : d ≡ b = omega (arith, ints) in rw (s, p, q) (none_stripped (x ∷ l) a b s)

past_late : (l : List (ItemOf Listed)) (a b : ℤ) → a ≤ℤ b → (past_met l a b ≡ []) ⊎ (b ≤ℤ added (up_to_met l a b))
past_late [] a b h = inl refl
past_late (x ∷ l) a b h = by (any_met (x ∷ l) a b) refl (past_late l (a -ℤ ticks x) (b -ℤ ticks x) (omega (arith, ints)))
  where
    by : (t : Bool) → any_met (x ∷ l) a b ≡ t → (past_met l (a -ℤ ticks x) (b -ℤ ticks x) ≡ []) ⊎ ((b -ℤ ticks x) ≤ℤ added (up_to_met l (a -ℤ ticks x) (b -ℤ ticks x)))
        → (past_met (x ∷ l) a b ≡ []) ⊎ (b ≤ℤ added (up_to_met (x ∷ l) a b))
    by true s (inl e) = inl (rw s e)
    by true s (inr e) = inr (rw s (omega (arith, ints)))
    by false s r = let g = none_late x l a b h s in inr (rw s (omega (arith, ints)))

pub past_strict : (l : List (ItemOf Listed)) (a b : ℤ) → a ≤ℤ b → (past_met l a b ≡ []) ⊎ (b <ℤ added (up_to_met l a b))
past_strict [] a b h = inl refl
past_strict (x ∷ l) a b h = by (any_met (x ∷ l) a b) refl (past_strict l (a -ℤ ticks x) (b -ℤ ticks x) (omega (arith, ints)))
  where
    by : (t : Bool) → any_met (x ∷ l) a b ≡ t → (past_met l (a -ℤ ticks x) (b -ℤ ticks x) ≡ []) ⊎ ((b -ℤ ticks x) <ℤ added (up_to_met l (a -ℤ ticks x) (b -ℤ ticks x)))
        → (past_met (x ∷ l) a b ≡ []) ⊎ (b <ℤ added (up_to_met (x ∷ l) a b))
    by true s (inl e) = inl (rw s e)
    by true s (inr e) = inr (rw s (omega (arith, ints)))
    by false s r = let g = none_late x l a b h s in inr (rw s (omega (arith, ints)))

-- so they stay as they are
pub apart : (l : List (ItemOf Listed)) (a b : ℤ) → a ≤ℤ b → pos 0 ≤ℤ b → IsApart (ahead l a b) (touched l a b) (beyond l a b) a b
apart l a b h k = record {
  zone = h;
  kept = ahead_kept l a b;
  early = ahead_early l a b h k;
  kept_behind = past_kept (onward l a b) (a -ℤ added (ahead l a b)) (b -ℤ added (ahead l a b)) _ _ (omega (arith, ints)) (omega (arith, ints));
  late = elim (past_late (onward l a b) (a -ℤ added (ahead l a b)) (b -ℤ added (ahead l a b)) (omega (arith, ints))) [ inl e ↦ inl e | inr e ↦ inr (omega (arith, ints)) ];
}

pub in_parts : (l : List (ItemOf Listed)) (a b : ℤ) → ahead l a b ++ (touched l a b ++ beyond l a b) ≡ l
in_parts l a b = ap (λ m. ahead l a b ++ m) (up_past (onward l a b) _ _) ∙ ahead_onward l a b
