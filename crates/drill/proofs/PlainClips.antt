-- The clips of a drill have no fault.
use Rattle.std.proofs.Common.{◌≡◌, refl, ap, ◌∙◌, ℕ, ◌^◌, ◌≤◌, pos, Bool, true, false, List, Some, None, arith}
use Rattle.std.specs.Prelude.{◌||◌, ◌&&◌, not, nat_lt, int_le, cond, unsigned_abs, ◌*ℤ◌, ◌+ℤ◌, ◌-ℤ◌}
use Rattle.std.proofs.lemmas.Bool.Decides.{nat_tests}
use Rattle.std.proofs.lemmas.Int.{ints}
use Rattle.limits.specs.Limits.{most_ticks}
use Rattle.tick_time.specs.declared.spans.Span.{Span}
use Rattle.otio_model.specs.declared.compositions.ItemOf.{ItemOf}
use Rattle.otio_model.specs.declared.compositions.Listed.{Listed}
use Rattle.otio_model.specs.Lengths.{length_of}
use Rattle.otio_model.specs.Misplaced.{has_misplaced}
use Rattle.otio_model.specs.Trees.{children_of, is_transition}
use Rattle.coord.specs.Soundness.{available_ticks, fault_of, is_long, media_end, most_end}
use Rattle.coord.specs.declared.faults.ItemFault.TheVariants.{Long}
use Rattle.edit_script.specs.Items.{clip_with, media_at}

-- an item without children and faults that is at most so many ticks long
pub record IsPlain (most : ℕ) (x : ItemOf Listed) : Type 0 where
  pub alone : children_of x ≡ None
  pub fault : fault_of x ≡ None
  pub calm : has_misplaced x ≡ false
  pub other : is_transition x ≡ false
  pub length : ℕ
  pub long : length_of x ≡ Some length
  pub short : length ≤ most

none_wrong : (a b c d : Bool) → a ≡ false → b ≡ false → c ≡ true → d ≡ true
    → (a || (b || not (c && d))) ≡ false
none_wrong a b c d e f g h = rw (e, f, g, h) refl

-- numbers of ticks that are far from the limit
pub is_short : (x : ItemOf Listed) (n m a : ℕ) → n ≤ 10 ^ 23 → m ≤ 10 ^ 23 → a ≤ 10 ^ 23
    → available_ticks x ≡ m
    → media_end x n ≡ (pos a *ℤ pos 1000000) +ℤ (pos n *ℤ pos 1000000) → is_long x n ≡ false
is_short x n m a p q r e f =
    none_wrong (nat_lt most_ticks n) (nat_lt most_ticks (available_ticks x))
    (int_le (pos 0 -ℤ most_end) (media_end x n)) (int_le (media_end x n) most_end)
    (grind (arith, nat_tests, p)) (rw e (grind (arith, nat_tests, q)))
    (rw f (grind (arith, ints, p, r))) (rw f (grind (arith, ints, p, r)))

-- a clip of media
pub clip_plain : (name url : List ℕ) (shown available : Span) (a n m : ℕ)
    → shown.start.ticks ≡ pos a → shown.len.ticks ≡ pos n → available.len.ticks ≡ pos m
    → a ≤ 10 ^ 23 → n ≤ 10 ^ 23 → m ≤ 10 ^ 23
    → IsPlain n (clip_with name shown (media_at url available))
clip_plain name url shown available a n m e f g p q r =
    let x = clip_with name shown (media_at url available) in
    let long : length_of x ≡ Some n = ap (λ z. Some (unsigned_abs z)) f in
    let there : available_ticks x ≡ m = ap unsigned_abs g in
    let end : media_end x n ≡ (pos a *ℤ pos 1000000) +ℤ (pos n *ℤ pos 1000000) =
    ap (λ z. (z *ℤ pos 1000000) +ℤ (pos n *ℤ pos 1000000)) e in
    let short : is_long x n ≡ false = is_short x n m a q r p there end in
    let same : fault_of x ≡ cond (is_long x n) (Some Long) None =
    ap (λ z. cond (is_long x (unsigned_abs z)) (Some Long) None) f in
    record {
      alone = refl;
      fault = same ∙ ap (λ b. cond b (Some Long) None) short;
      calm = refl;
      other = refl;
      length = n;
      long = long;
      short = omega arith;
    }
