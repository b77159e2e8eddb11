-- What a list shows from which one stretch was taken, and into which others were put.
use Rattle.std.proofs.Common.{◌≡◌, refl, sym, ap, ◌∙◌, ◌⊎◌, inl, inr, ℤ, pos, ◌+ℤ◌, ◌-ℤ◌, ◌≤ℤ◌, ◌<ℤ◌, ◌&&◌, ◌||◌, Bool, true, false, cond, List, [], ◌∷◌, ◌++◌, Some, None, arith}
use mathlib.Core.Path.{fun_ext}
use Rattle.std.specs.Prelude.{int_lt, int_le}
use Rattle.std.proofs.lemmas.Int.{ints, by_lt_z}
use Rattle.coord.specs.Looks.{Show, Blank, Look, Overlap, mixed, item_shows, next_shows, from_end, mix_shows, blank, list_shows}
use Rattle.otio_model.specs.Overlaps.{within}
use Rattle.coord.proofs.LookSteps.{missed_before, missed_behind, look_kind, item, transition, mix_item, mix_miss, item_hit, item_past, side_item}
use Rattle.edits.specs.Splices.{empty, left, right, front, back, strip, is_stripped, IsGood, AreGood}

-- ---- one step of each definition

pub front_stop : (x : Look) (l : List Look) (t : ℤ) → t ≤ℤ pos 0 → front (x ∷ l) t ≡ []
front_stop x l t h = let e : int_lt (pos 0) t ≡ false = grind (arith, ints) in rw e

pub front_whole : (x : Look) (l : List Look) (t : ℤ) → pos 0 <ℤ t → x.length ≤ℤ t → front (x ∷ l) t ≡ x ∷ front l (t -ℤ x.length)
front_whole x l t h k = let e : int_lt (pos 0) t ≡ true = grind (arith, ints) in let f : int_le x.length t ≡ true = grind (arith, ints) in rw (e, f)

pub front_cut : (x : Look) (l : List Look) (t : ℤ) → pos 0 <ℤ t → t <ℤ x.length → front (x ∷ l) t ≡ left x t ∷ []
front_cut x l t h k = let e : int_lt (pos 0) t ≡ true = grind (arith, ints) in let f : int_le x.length t ≡ false = grind (arith, ints) in rw (e, f)

pub front_none : (t : ℤ) → t ≤ℤ pos 0 → front [] t ≡ []
front_none t h = let e : int_lt (pos 0) t ≡ false = grind (arith, ints) in rw e

pub front_gap : (t : ℤ) → pos 0 <ℤ t → front [] t ≡ empty t ∷ []
front_gap t h = let e : int_lt (pos 0) t ≡ true = grind (arith, ints) in rw e

pub back_stop : (x : Look) (l : List Look) (t : ℤ) → t ≤ℤ pos 0 → back (x ∷ l) t ≡ x ∷ l
back_stop x l t h = let e : int_lt (pos 0) t ≡ false = grind (arith, ints) in rw e

pub back_whole : (x : Look) (l : List Look) (t : ℤ) → pos 0 <ℤ t → x.length ≤ℤ t → back (x ∷ l) t ≡ back l (t -ℤ x.length)
back_whole x l t h k = let e : int_lt (pos 0) t ≡ true = grind (arith, ints) in let f : int_le x.length t ≡ true = grind (arith, ints) in rw (e, f)

pub back_cut : (x : Look) (l : List Look) (t : ℤ) → pos 0 <ℤ t → t <ℤ x.length → back (x ∷ l) t ≡ right x t ∷ l
back_cut x l t h k = let e : int_lt (pos 0) t ≡ true = grind (arith, ints) in let f : int_le x.length t ≡ false = grind (arith, ints) in rw (e, f)

-- where t lies in an item that begins at 0
pub data Place (t n : ℤ) : Type 0 where
  stop : t ≤ℤ pos 0 → Place t n
  whole : pos 0 <ℤ t → n ≤ℤ t → Place t n
  inside : pos 0 <ℤ t → t <ℤ n → Place t n

pub place : (t n : ℤ) → Place t n
place t n = by_lt_z (pos 0) t (λ h. by_lt_z t n (λ k. inside h k) (λ k. whole h k)) (λ h. stop h)

-- ---- the overlaps, seen from a seam

-- a transition's overlap ends before a and its cut lies before, or the overlap begins after b and the cut lies after
pub record IsClear (a b : ℤ) (x : Look) : Type 0 where
  pub side : (o : Overlap) → x.overlap ≡ Some o → ((pos 0 <ℤ a) × (o.after ≤ℤ a)) ⊎ ((b <ℤ pos 0) × (b ≤ℤ (pos 0 -ℤ o.before)))

abbrev pub AreClear : ℤ → ℤ → List Look → Type 0
AreClear a b [] = Unit {0}
AreClear a b (x ∷ l) = IsClear a b x × AreClear (a -ℤ x.length) (b -ℤ x.length) l

-- after the seam no overlap begins before b
pub quiet : (p : ℤ → Show) (l : List Look) (a b w : ℤ) → AreGood l → AreClear a b l → a ≤ℤ pos 0 → w <ℤ b → mix_shows p l w ≡ None
quiet p [] a b w g c h k = refl
quiet p (x ∷ l) a b w g c h k = let good = g.0 in let len = good.whole in elim (look_kind x) [
  | item e ↦ mix_item p x l w e ∙ quiet (from_end x) l (a -ℤ x.length) (b -ℤ x.length) (w -ℤ x.length) g.1 c.1 (omega (arith, ints)) (omega (arith, ints))
  | transition o e ↦
      let zero_length = good.point o e in
      mix_miss p x o l w e (elim (c.0.side o e) [ inl f ↦ absurd (omega (arith, ints, f.0)) | inr f ↦ missed_before _ _ w (omega (arith, ints, f.1)) ])
      ∙ quiet p l (a -ℤ x.length) (b -ℤ x.length) w g.1 c.1 (omega (arith, ints)) (omega (arith, ints))
]

-- what is put after a seam: before it no overlap and no item is there, and it doesn't begin with a transition
pub record IsLater (r : List Look) : Type 0 where
  pub no_mix : (p : ℤ → Show) (v : ℤ) → v <ℤ pos 0 → mix_shows p r v ≡ None
  pub no_item : (v : ℤ) → v <ℤ pos 0 → item_shows r v ≡ Blank
  pub own_side : (p q : ℤ → Show) (v : ℤ) → mix_shows p r v ≡ mix_shows q r v

-- ---- items, seen from a seam

pub not_held : (l : List Look) (w : ℤ) → AreGood l → w <ℤ pos 0 → item_shows l w ≡ Blank
not_held [] w g h = refl
not_held (x ∷ l) w g h = let good = g.0 in let len = good.whole in rw (missed_before (pos 0) x.length w h) (not_held l (w -ℤ x.length) g.1 (omega (arith, ints)))

pub item_front : (l r : List Look) (a w : ℤ) → AreGood l → IsLater r → w <ℤ a → item_shows (front l a ++ r) w ≡ item_shows l w
item_front [] r a w g later h = elim (place a (pos 0)) [
  | stop s ↦ rw (front_none a s) (later.no_item w (omega (arith, ints)))
  | whole s t ↦ rw (front_gap a s) (blank_gap (within (pos 0) a w) ∙ later.no_item (w -ℤ a) (omega (arith, ints)))
  | inside s t ↦ absurd (omega (arith, ints))
]
  where
    blank_gap : (b : Bool) → cond b Blank (item_shows r (w -ℤ a)) ≡ item_shows r (w -ℤ a)
    blank_gap true = sym (later.no_item (w -ℤ a) (omega (arith, ints)))
    blank_gap false = refl
item_front (x ∷ l) r a w g later h = let good = g.0 in let len = good.whole in elim (place a x.length) [
  | stop s ↦ rw (front_stop x l a s) (later.no_item w (omega (arith, ints)) ∙ sym (not_held (x ∷ l) w g (omega (arith, ints))))
  | whole s t ↦ rw (front_whole x l a s t) (ap (cond (within (pos 0) x.length w) (x.shows w)) (item_front l r (a -ℤ x.length) (w -ℤ x.length) g.1 later (omega (arith, ints))))
  | inside s t ↦ rw (front_cut x l a s t) (by_lt_z w (pos 0)
      (λ k. rw (missed_before (pos 0) a w k, missed_before (pos 0) x.length w k) (later.no_item (w -ℤ a) (omega (arith, ints)) ∙ sym (not_held l (w -ℤ x.length) g.1 (omega (arith, ints)))))
      (λ k. item_hit (left x a) r w k h ∙ sym (item_hit x l w k (omega (arith, ints)))))
]

pub item_behind : (l r : List Look) (a w : ℤ) → AreGood l → pos 0 ≤ℤ a → a ≤ℤ w → item_shows (front l a ++ r) w ≡ item_shows r (w -ℤ a)
item_behind [] r a w g h k = elim (place a (pos 0)) [
  | stop s ↦ rw (front_none a s) (ap (item_shows r) (omega (arith, ints)))
  | whole s t ↦ rw (front_gap a s) (item_past (empty a) r w k)
  | inside s t ↦ absurd (omega (arith, ints))
]
item_behind (x ∷ l) r a w g h k = let good = g.0 in let len = good.whole in elim (place a x.length) [
  | stop s ↦ rw (front_stop x l a s) (ap (item_shows r) (omega (arith, ints)))
  | whole s t ↦ rw (front_whole x l a s t) (item_past x (front l (a -ℤ x.length) ++ r) w (omega (arith, ints))
      ∙ item_behind l r (a -ℤ x.length) (w -ℤ x.length) g.1 (omega (arith, ints)) (omega (arith, ints)) ∙ ap (item_shows r) (omega (arith, ints)))
  | inside s t ↦ rw (front_cut x l a s t) (item_past (left x a) r w k)
]

pub item_back : (l : List Look) (b v : ℤ) → AreGood l → pos 0 ≤ℤ b → pos 0 ≤ℤ v → item_shows (back l b) v ≡ item_shows l (v +ℤ b)
item_back [] b v g h k = refl
item_back (x ∷ l) b v g h k = let good = g.0 in let len = good.whole in elim (place b x.length) [
  | stop s ↦ let e : v ≡ v +ℤ b = omega (arith, ints) in rw (back_stop x l b s) (ap (item_shows (x ∷ l)) e)
  | whole s t ↦ rw (back_whole x l b s t) (item_back l (b -ℤ x.length) v g.1 (omega (arith, ints)) k ∙ ap (item_shows l) (omega (arith, ints)) ∙ sym (item_past x l (v +ℤ b) (omega (arith, ints))))
  | inside s t ↦ rw (back_cut x l b s t) (by_lt_z v (x.length -ℤ b)
      (λ m. item_hit (right x b) l v k m ∙ sym (item_hit x l (v +ℤ b) (omega (arith, ints)) (omega (arith, ints))))
      (λ m. item_past (right x b) l v m ∙ ap (item_shows l) (omega (arith, ints)) ∙ sym (item_past x l (v +ℤ b) (omega (arith, ints)))))
]

-- ---- overlaps, seen from a seam

pub side_transition : (x : Look) (o : Overlap) (l : List Look) (w : ℤ) → x.overlap ≡ Some o → next_shows (x ∷ l) w ≡ next_shows l w
side_transition x o l w e = rw e

-- the item after a transition is the same one, or its left piece
side_front : (l r : List Look) (a w : ℤ) → AreGood l → pos 0 <ℤ a → next_shows (front l a ++ r) w ≡ next_shows l w
side_front [] r a w g h = rw (front_gap a h)
side_front (x ∷ l) r a w g h = let good = g.0 in let len = good.whole in elim (look_kind x) [
  | item e ↦ elim (place a x.length) [
    | stop s ↦ absurd (omega (arith, ints))
    | whole s t ↦ rw (front_whole x l a s t) (side_item x (front l (a -ℤ x.length) ++ r) w e ∙ sym (side_item x l w e))
    | inside s t ↦ rw (front_cut x l a s t) (sym (side_item x l w e))
  ]
  | transition o e ↦ let zero_length = good.point o e in
      rw (front_whole x l a h (omega (arith, ints))) (side_transition x o (front l (a -ℤ x.length) ++ r) w e ∙ side_front l r (a -ℤ x.length) w g.1 (omega (arith, ints)) ∙ sym (side_transition x o l w e))
]

-- the same step over a transition, where what stands after it shows the same
pub mix_step : (p : ℤ → Show) (x : Look) (o : Overlap) (l m : List Look) (w : ℤ) → x.overlap ≡ Some o → next_shows l w ≡ next_shows m w → mix_shows p l w ≡ mix_shows p m w → mix_shows p (x ∷ l) w ≡ mix_shows p (x ∷ m) w
mix_step p x o l m w e f g = rw e (λ i. cond (within (pos 0 -ℤ o.before) o.after w) (Some (mixed o.kind (p w) (f i) (w +ℤ o.before) (o.before +ℤ o.after))) (g i))

pub mix_front : (p : ℤ → Show) (l r : List Look) (a b w : ℤ) → AreGood l → AreClear a b l → IsLater r → a ≤ℤ b → w <ℤ a → mix_shows p (front l a ++ r) w ≡ mix_shows p l w
mix_front p [] r a b w g c later k h = elim (place a (pos 0)) [
  | stop s ↦ rw (front_none a s) (later.no_mix p w (omega (arith, ints)))
  | whole s t ↦ rw (front_gap a s) (later.no_mix (from_end (empty a)) (w -ℤ a) (omega (arith, ints)))
  | inside s t ↦ absurd (omega (arith, ints))
]
mix_front p (x ∷ l) r a b w g c later k h = let good = g.0 in let len = good.whole in elim (place a x.length) [
  | stop s ↦ rw (front_stop x l a s) (later.no_mix p w (omega (arith, ints)) ∙ sym (quiet p (x ∷ l) a b w g c s (omega (arith, ints))))
  | whole s t ↦ rw (front_whole x l a s t) (elim (look_kind x) [
    | item e ↦ mix_item p x (front l (a -ℤ x.length) ++ r) w e
        ∙ mix_front (from_end x) l r (a -ℤ x.length) (b -ℤ x.length) (w -ℤ x.length) g.1 c.1 later (omega (arith, ints)) (omega (arith, ints))
        ∙ sym (mix_item p x l w e)
    | transition o e ↦ let zero_length = good.point o e in
        mix_step p x o (front l (a -ℤ x.length) ++ r) l w e (side_front l r (a -ℤ x.length) w g.1 (omega (arith, ints)))
        (mix_front p l r (a -ℤ x.length) (b -ℤ x.length) w g.1 c.1 later (omega (arith, ints)) (omega (arith, ints)))
  ])
  | inside s t ↦ rw (front_cut x l a s t) (elim (look_kind x) [
    | item e ↦ later.no_mix (from_end (left x a)) (w -ℤ a) (omega (arith, ints))
        ∙ sym (mix_item p x l w e ∙ quiet (from_end x) l (a -ℤ x.length) (b -ℤ x.length) (w -ℤ x.length) g.1 c.1 (omega (arith, ints)) (omega (arith, ints)))
    | transition o e ↦ let zero_length = good.point o e in absurd (omega (arith, ints))
  ])
]

pub mix_behind : (p : ℤ → Show) (l r : List Look) (a b w : ℤ) → AreGood l → AreClear a b l → IsLater r → pos 0 ≤ℤ a → a ≤ℤ b → a ≤ℤ w → mix_shows p (front l a ++ r) w ≡ mix_shows blank r (w -ℤ a)
mix_behind p [] r a b w g c later n k h = elim (place a (pos 0)) [
  | stop s ↦ rw (front_none a s) (later.own_side p blank w ∙ ap (mix_shows blank r) (omega (arith, ints)))
  | whole s t ↦ rw (front_gap a s) (later.own_side (from_end (empty a)) blank (w -ℤ a))
  | inside s t ↦ absurd (omega (arith, ints))
]
mix_behind p (x ∷ l) r a b w g c later n k h = let good = g.0 in let len = good.whole in elim (place a x.length) [
  | stop s ↦ rw (front_stop x l a s) (later.own_side p blank w ∙ ap (mix_shows blank r) (omega (arith, ints)))
  | whole s t ↦ rw (front_whole x l a s t) (elim (look_kind x) [
    | item e ↦ mix_item p x (front l (a -ℤ x.length) ++ r) w e
        ∙ mix_behind (from_end x) l r (a -ℤ x.length) (b -ℤ x.length) (w -ℤ x.length) g.1 c.1 later (omega (arith, ints)) (omega (arith, ints)) (omega (arith, ints))
        ∙ ap (mix_shows blank r) (omega (arith, ints))
    | transition o e ↦ let zero_length = good.point o e in
        mix_miss p x o (front l (a -ℤ x.length) ++ r) w e (elim (c.0.side o e) [ inl f ↦ missed_behind _ _ w (omega (arith, ints, f.1)) | inr f ↦ absurd (omega (arith, ints, f.0)) ])
        ∙ mix_behind p l r (a -ℤ x.length) (b -ℤ x.length) w g.1 c.1 later (omega (arith, ints)) (omega (arith, ints)) (omega (arith, ints))
        ∙ ap (mix_shows blank r) (omega (arith, ints))
  ])
  | inside s t ↦ rw (front_cut x l a s t) (later.own_side (from_end (left x a)) blank (w -ℤ a))
]

-- what an item shows from its end, counted from the right piece's end
from_right : (x : Look) (b : ℤ) → from_end (right x b) ≡ from_end x
from_right x b = fun_ext (λ v. ap x.shows (omega (arith, ints)))

pub mix_back : (p q : ℤ → Show) (l : List Look) (a b v : ℤ) → AreGood l → AreClear a b l → pos 0 ≤ℤ b → a ≤ℤ b → pos 0 ≤ℤ v → mix_shows p (back l b) v ≡ mix_shows q l (v +ℤ b)
mix_back p q [] a b v g c n k h = refl
mix_back p q (x ∷ l) a b v g c n k h = let good = g.0 in let len = good.whole in elim (look_kind x) [
  | item e ↦ elim (place b x.length) [
    | stop s ↦ rw (back_stop x l b s) (mix_item p x l v e ∙ ap (mix_shows (from_end x) l) (omega (arith, ints)) ∙ sym (mix_item q x l (v +ℤ b) e))
    | whole s t ↦ rw (back_whole x l b s t) (mix_back p (from_end x) l (a -ℤ x.length) (b -ℤ x.length) v g.1 c.1 (omega (arith, ints)) (omega (arith, ints)) h
        ∙ ap (mix_shows (from_end x) l) (omega (arith, ints)) ∙ sym (mix_item q x l (v +ℤ b) e))
    | inside s t ↦ rw (back_cut x l b s t) (ap (λ f. mix_shows f l (v -ℤ (x.length -ℤ b))) (from_right x b) ∙ ap (mix_shows (from_end x) l) (omega (arith, ints)) ∙ sym (mix_item q x l (v +ℤ b) e))
  ]
  | transition o e ↦ let zero_length = good.point o e in elim (c.0.side o e) [
    | inl f ↦ rw (back_whole x l b (omega (arith, ints, f.0)) (omega (arith, ints)))
        (mix_back p q l (a -ℤ x.length) (b -ℤ x.length) v g.1 c.1 (omega (arith, ints)) (omega (arith, ints)) h
        ∙ ap (mix_shows q l) (omega (arith, ints)) ∙ sym (mix_miss q x o l (v +ℤ b) e (missed_behind _ _ (v +ℤ b) (omega (arith, ints, f.1)))))
    | inr f ↦ absurd (omega (arith, ints, f.0))
  ]
]

pub quiet_back : (p : ℤ → Show) (l : List Look) (a b v : ℤ) → AreGood l → AreClear a b l → pos 0 ≤ℤ b → a ≤ℤ b → v <ℤ pos 0 → mix_shows p (back l b) v ≡ None
quiet_back p [] a b v g c n k h = refl
quiet_back p (x ∷ l) a b v g c n k h = let good = g.0 in let len = good.whole in elim (place b x.length) [
  | stop s ↦ rw (back_stop x l b s) (quiet p (x ∷ l) a b v g c (omega (arith, ints)) (omega (arith, ints)))
  | whole s t ↦ rw (back_whole x l b s t) (quiet_back p l (a -ℤ x.length) (b -ℤ x.length) v g.1 c.1 (omega (arith, ints)) (omega (arith, ints)) h)
  | inside s t ↦ rw (back_cut x l b s t) (quiet (from_end (right x b)) l (a -ℤ x.length) (b -ℤ x.length) (v -ℤ (x.length -ℤ b)) g.1 c.1 (omega (arith, ints)) (omega (arith, ints)))
]

pub good_back : (l : List Look) (b : ℤ) → AreGood l → AreGood (back l b)
good_back [] b g = tt
good_back (x ∷ l) b g = let good = g.0 in let len = good.whole in elim (place b x.length) [
  | stop s ↦ rw (back_stop x l b s) g
  | whole s t ↦ rw (back_whole x l b s t) (good_back l (b -ℤ x.length) g.1)
  | inside s t ↦ rw (back_cut x l b s t) (record { whole = omega (arith, ints); point = λ o e. absurd (cc e); before = λ o e. absurd (cc e); after = λ o e. absurd (cc e) }, g.1)
]

-- ---- what strip leaves

pub cases : {P : Type 0} (t : Bool) → (t ≡ true → P) → (t ≡ false → P) → P
cases true f g = f refl
cases false f g = g refl

-- a transition that stays
kept_side : (a b : ℤ) (o : Overlap) → pos 0 ≤ℤ o.before → pos 0 ≤ℤ o.after → a ≤ℤ b → is_stripped a b (Some o) ≡ false
    → ((pos 0 <ℤ a) × (o.after ≤ℤ a)) ⊎ ((b <ℤ pos 0) × (b ≤ℤ (pos 0 -ℤ o.before)))
kept_side a b o n m h t = by_lt_z (pos 0) a
    (λ u. by_lt_z a o.after
    (λ k. let e : int_lt (pos 0 -ℤ o.before) b ≡ true = grind (arith, ints) in let f : int_lt a o.after ≡ true = grind (arith, ints) in let z = rw (e, f) at t in absurd (cc z))
    (λ k. inl (u, k)))
    (λ u. by_lt_z b (pos 0)
    (λ k. by_lt_z (pos 0 -ℤ o.before) b
    (λ v. let e : int_lt (pos 0 -ℤ o.before) b ≡ true = grind (arith, ints) in let f : int_lt a o.after ≡ true = grind (arith, ints) in let z = rw (e, f) at t in absurd (cc z))
    (λ v. inr (k, v)))
    (λ k. let e : int_le a (pos 0) ≡ true = grind (arith, ints) in let f : int_le (pos 0) b ≡ true = grind (arith, ints) in
    absurd (always (int_lt (pos 0 -ℤ o.before) b && int_lt a o.after) (rw (e, f) at t))))
  where
    always : (c : Bool) → (c || true) ≡ false → ⊥
    always true z = cc z
    always false z = cc z

kept_clear : (a b : ℤ) (x : Look) → IsGood x → a ≤ℤ b → is_stripped a b x.overlap ≡ false → IsClear a b x
kept_clear a b x g h t = record { side = λ o e. kept_side a b o (g.before o e) (g.after o e) h (rw e at t) }

-- only a transition is stripped, and it takes no time
stripped_length : (a b : ℤ) (x : Look) → IsGood x → is_stripped a b x.overlap ≡ true → x.length ≡ pos 0
stripped_length a b x g t = elim (look_kind x) [ item e ↦ absurd (cc (rw e at t)) | transition o e ↦ g.point o e ]

pub good_strip : (l : List Look) (a b : ℤ) → AreGood l → AreGood (strip l a b)
good_strip [] a b g = tt
good_strip (x ∷ l) a b g = cases (is_stripped a b x.overlap) (λ t. rw t (good_strip l a b g.1)) (λ t. rw t (g.0, good_strip l (a -ℤ x.length) (b -ℤ x.length) g.1))

pub clear_strip : (l : List Look) (a b : ℤ) → AreGood l → a ≤ℤ b → AreClear a b (strip l a b)
clear_strip [] a b g h = tt
clear_strip (x ∷ l) a b g h = cases (is_stripped a b x.overlap)
    (λ t. rw t (clear_strip l a b g.1 h))
    (λ t. rw t (kept_clear a b x g.0 h t, clear_strip l (a -ℤ x.length) (b -ℤ x.length) g.1 (omega (arith, ints))))

pub shows_same : (l m : List Look) (w v : ℤ) → mix_shows blank l w ≡ mix_shows blank m v → item_shows l w ≡ item_shows m v → list_shows l w ≡ list_shows m v
shows_same l m w v e f = rw (e, f)
