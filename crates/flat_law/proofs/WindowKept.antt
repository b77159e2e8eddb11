-- A window of a sound timeline is there, and is sound.
use Rattle.std.proofs.Common.{◌≡◌, refl, sym, subst, ap, ap₂, ◌∙◌, ℕ, ◌-◌, ℤ, pos, ◌-ℤ◌, ◌<ℤ◌, true, false, Some, None, List, [], ◌∷◌, arith}
use Rattle.std.specs.Prelude.{int_le, option_map, option_and_then, unsigned_abs}
use Rattle.std.specs.Option.{option_or}
use Rattle.std.proofs.lemmas.Int.{ints}
use Rattle.tick_time.specs.declared.rates.Rate.{Rate}
use Rattle.tick_time.specs.declared.spans.Span.{Span}
use Rattle.otio_model.specs.declared.compositions.ItemOf.{ItemOf}
use Rattle.otio_model.specs.declared.compositions.ItemOf.TheVariants.{Clip, Gap, Transition, Stack, Track}
use Rattle.otio_model.specs.declared.compositions.Listed.{Listed}
use Rattle.otio_model.specs.Lengths.{Range, from_zero, sum_of, both, length_of, lengths, added as added_lengths}
use Rattle.coord.specs.Speeds.{speed_of, media_at}
use Rattle.coord.specs.Sights.{viewer, View, sight, overlap_of}
use Rattle.otio_model.specs.Lengths.{or_zero, trimmed_start}
use Rattle.otio_model.specs.Trees.{is_transition}
use Rattle.coord.specs.Soundness.{fault_of}
use Rattle.coord.specs.Soundness.{IsFaultlessItem}
use Rattle.coord.specs.Programs.{rate_24}
use Rattle.coord.proofs.SightLemmas.{seen_lengths}
use Rattle.edits.specs.Splices.{is_stripped}
use Rattle.edits.specs.Children.{Child, Old, Ranged, ticks, with_range, made, all_made, with_first}
use Rattle.edits.specs.Cuts.{left_piece, right_piece, is_whole_at, strip, olds, back, cuts_whole}
use Rattle.edits.specs.Edges.{added}
use Rattle.edits_law.proofs.Splice.{cases, place, stop, whole, inside}
use Rattle.flat.specs.Windowed.{front_alone, stripped, window_of}
use Rattle.coord.proofs.Members.{same_some}
use Rattle.flat_law.proofs.CutOut.{front_past, front_in, front_before, back_past, back_in, back_before, whole_past, whole_in, front_whole}
use Rattle.flat_law.proofs.Exists.{left_made, right_made, sound_one}

-- ---- an item and all below it

pub deep_range : (w : Span) (x : ItemOf Listed) → IsFaultlessItem x → fault_of (with_range w x) ≡ None → IsFaultlessItem (with_range w x)
deep_range w x s f [] y e = subst (λ z. fault_of z ≡ None) (same_some (with_range w x) y e) f
deep_range w (Clip c) s f (i ∷ p) y e = s (i ∷ p) y e
deep_range w (Gap c) s f (i ∷ p) y e = s (i ∷ p) y e
deep_range w (Transition c) s f (i ∷ p) y e = s (i ∷ p) y e
deep_range w (Stack c) s f (i ∷ p) y e = s (i ∷ p) y e
deep_range w (Track c) s f (i ∷ p) y e = s (i ∷ p) y e

abbrev pub AllFaultless : List (ItemOf Listed) → Type 0
AllFaultless [] = Unit {0}
AllFaultless (x ∷ l) = IsFaultlessItem x × AllFaultless l

pub own_sound : (x : ItemOf Listed) → IsFaultlessItem x → fault_of x ≡ None
own_sound x s = s [] x refl

pub sight_length : (x : ItemOf Listed) → (sight x).length ≡ length_of x
sight_length (Clip c) = refl
sight_length (Gap c) = refl
sight_length (Transition c) = refl
sight_length (Stack s) = ap (λ l. option_map (λ (r : Range). r.len) (option_or (option_map Rattle.otio_model.specs.Lengths.range_of s.source_range) (option_map from_zero (Rattle.otio_model.specs.Lengths.longest_of l)))) (seen_lengths s.children)
sight_length (Track s) = ap (λ l. option_map (λ (r : Range). r.len) (option_or (option_map Rattle.otio_model.specs.Lengths.range_of s.source_range) (option_map from_zero (sum_of l)))) (seen_lengths s.children)

pub ticks_is : (x : ItemOf Listed) (n : ℕ) → length_of x ≡ Some n → ticks x ≡ pos n
ticks_is x n e = ap (λ o. pos (or_zero o)) (sight_length x ∙ e)

-- ---- lists that can be made

pub record AllMade (r : Rate) (c : List Child) : Type 0 where
  pub items : List (ItemOf Listed)
  pub made : all_made r c ≡ Some items
  pub sound : AllFaultless items

none_made : (r : Rate) → AllMade r []
none_made r = record { items = []; made = refl; sound = tt }

pub made_more : (r : Rate) (c : Child) (l : List Child) (y : ItemOf Listed) → made r c ≡ Some y → IsFaultlessItem y → AllMade r l → AllMade r (c ∷ l)
made_more r c l y e s m = record { items = y ∷ m.items; made = ap₂ with_first e m.made; sound = (s, m.sound) }

pub olds_made : (r : Rate) (l : List (ItemOf Listed)) → AllFaultless l → AllMade r (olds l)
olds_made r [] s = none_made r
olds_made r (x ∷ l) s = made_more r (Old x) (olds l) x refl s.0 (olds_made r l s.1)

pub piece_left : (r : Rate) (x : ItemOf Listed) (t : ℤ) → IsFaultlessItem x → pos 0 <ℤ t → t <ℤ ticks x → (y : ItemOf Listed) × (made r (left_piece x t) ≡ Some y) × IsFaultlessItem y
piece_left r x t s h k =
    let tr : is_transition x ≡ false = none x t h k in
    let one = sound_one x tr (own_sound x s) in
    let len = ticks_is x one.ticks one.length in
    let n : pos (unsigned_abs t) ≡ t = omega (arith, ints) in
    let m = left_made r x (unsigned_abs t) tr one (omega (arith, ints, len)) in
    (m.item, ap (λ z. made r (Ranged x (trimmed_start x) z)) (sym n) ∙ m.made, subst IsFaultlessItem (sym m.is) (deep_range m.span x s (subst (λ z. fault_of z ≡ None) m.is m.sound)))
  where
    none : (x : ItemOf Listed) (t : ℤ) → pos 0 <ℤ t → t <ℤ ticks x → is_transition x ≡ false
    none (Clip c) t h k = refl
    none (Gap c) t h k = refl
    none (Transition c) t h k = absurd (omega (arith, ints, h, k))
    none (Stack c) t h k = refl
    none (Track c) t h k = refl

pub piece_right : (r : Rate) (x : ItemOf Listed) (t : ℤ) → IsFaultlessItem x → pos 0 <ℤ t → t <ℤ ticks x → is_whole_at x t ≡ true → (y : ItemOf Listed) × (made r (right_piece x t) ≡ Some y) × IsFaultlessItem y
piece_right r x t s h k w =
    let tr : is_transition x ≡ false = none x t h k in
    let one = sound_one x tr (own_sound x s) in
    let len = ticks_is x one.ticks one.length in
    let n : pos (unsigned_abs t) ≡ t = omega (arith, ints) in
    let m = right_made r x (unsigned_abs t) tr one (omega (arith, ints, len)) (rw n w) in
    let rest : pos (one.ticks - unsigned_abs t) ≡ ticks x -ℤ t = omega (arith, ints, len) in
    (m.item, ap₂ (λ z u. made r (Ranged x (media_at (trimmed_start x) (speed_of x) z) u)) (sym n) (sym rest) ∙ m.made, subst IsFaultlessItem (sym m.is) (deep_range m.span x s (subst (λ z. fault_of z ≡ None) m.is m.sound)))
  where
    none : (x : ItemOf Listed) (t : ℤ) → pos 0 <ℤ t → t <ℤ ticks x → is_transition x ≡ false
    none (Clip c) t h k = refl
    none (Gap c) t h k = refl
    none (Transition c) t h k = absurd (omega (arith, ints, h, k))
    none (Stack c) t h k = refl
    none (Track c) t h k = refl

front_made : (r : Rate) (l : List (ItemOf Listed)) (t : ℤ) → AllFaultless l → AllMade r (front_alone l t)
front_made r [] t s = none_made r
front_made r (x ∷ l) t s = elim (place t (ticks x)) [
  | stop h ↦ subst (AllMade r) (sym (front_before x l t h)) (none_made r)
  | whole h k ↦ subst (AllMade r) (sym (front_past x l t h k)) (made_more r (Old x) (front_alone l (t -ℤ ticks x)) x refl s.0 (front_made r l (t -ℤ ticks x) s.1))
  | inside h k ↦ let p = piece_left r x t s.0 h k in subst (AllMade r) (sym (front_in x l t h k)) (made_more r (left_piece x t) [] p.0 p.1 p.2 (none_made r))
]

back_made : (r : Rate) (l : List (ItemOf Listed)) (t : ℤ) → AllFaultless l → cuts_whole l t ≡ true → AllMade r (back l t)
back_made r [] t s c = none_made r
back_made r (x ∷ l) t s c = elim (place t (ticks x)) [
  | stop h ↦ subst (AllMade r) (sym (back_before x l t h)) (olds_made r (x ∷ l) s)
  | whole h k ↦ subst (AllMade r) (sym (back_past x l t h k)) (back_made r l (t -ℤ ticks x) s.1 (sym (whole_past x l t h k) ∙ c))
  | inside h k ↦ let p = piece_right r x t s.0 h k (sym (whole_in x l t h k) ∙ c) in subst (AllMade r) (sym (back_in x l t h k)) (made_more r (right_piece x t) (olds l) p.0 p.1 p.2 (olds_made r l s.1))
]

strip_sound : (l : List (ItemOf Listed)) (a b : ℤ) → AllFaultless l → AllFaultless (strip l a b)
strip_sound [] a b s = tt
strip_sound (x ∷ l) a b s = cases (is_stripped a b (overlap_of x)) (λ t. rw t (strip_sound l a b s.1)) (λ t. rw t (s.0, strip_sound l (a -ℤ ticks x) (b -ℤ ticks x) s.1))

-- a viewer to whom all rates are one
abbrev pub blind : View
blind = viewer (λ r. rate_24) []

pub record WindowMade (r : Rate) (a b : ℤ) (s : List (ItemOf Listed)) : Type 0 where
  pub items : List (ItemOf Listed)
  pub made : window_of r a b s ≡ Some items
  pub sound : AllFaultless items

window_made : (r : Rate) (a b : ℤ) (s : List (ItemOf Listed)) → AllFaultless s → cuts_whole s a ≡ true → WindowMade r a b s
window_made r a b s h c = cases (int_le (added s) a)
    (λ e. record { items = []; made = rw e refl; sound = tt })
    (λ e.
    let f = front_made r s b h in
    let g = back_made r f.items a f.sound (front_whole blind r s b a f.items (λ p q. refl) f.made c) in
    record { items = g.items; made = rw e (ap (option_and_then (λ m. all_made r (back m a))) f.made ∙ g.made); sound = g.sound })

pub stripped_made : (r : Rate) (a b : ℤ) (l : List (ItemOf Listed)) → AllFaultless l → cuts_whole (stripped l a b) a ≡ true → WindowMade r a b (stripped l a b)
stripped_made r a b l h c = window_made r a b (stripped l a b) (strip_sound (strip l a a) b b (strip_sound l a a h)) c
