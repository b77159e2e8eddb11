-- Lists in which edges of items were moved: what they show before, in and after the zone. Only looks are known here.
use mathlib.Core.Path.{fun_ext}
use Rattle.std.proofs.Common.{◌≡◌, refl, sym, subst, ap, ◌∙◌, inl, inr, ℤ, pos, ◌+ℤ◌, ◌-ℤ◌, ◌≤ℤ◌, ◌<ℤ◌, None, cond, List, [], ◌∷◌, ◌++◌, arith}
use Rattle.std.proofs.lemmas.Int.{ints, by_lt_z}
use Rattle.coord.specs.Looks.{Show, Look, item_shows, next_shows, from_end, mix_shows, blank, list_shows, total}
use Rattle.otio_model.specs.Overlaps.{within}
use Rattle.edits.specs.Splices.{AreGood, IsItem}
use Rattle.coord.proofs.LookSteps.{look_kind, item, transition, item_past, item_hit, mix_item, mix_miss, side_item, missed_behind, missed_before}
use Rattle.edits_law.proofs.Splice.{IsLater, AreClear, mix_step, side_transition, shows_same, quiet, not_held}
use Rattle.edits_law.proofs.Seams.{total_low}

-- ---- what keeps clear of a zone

-- before the zone's end transitions only end before its start
pub clear_earlier : (l : List Look) (a b c d : ℤ) → AreGood l → AreClear a b l → total l ≤ℤ b → a ≤ℤ c → AreClear c d l
clear_earlier [] a b c d g k h m = tt
clear_earlier (x ∷ l) a b c d g k h m = let good = g.0 in let len = good.whole in let t = total_low l g.1 in (
  record { side = λ o e. elim (k.0.side o e) [ inl f ↦ inl (omega (arith, ints, f.0), omega (arith, ints, f.1)) | inr f ↦ absurd (omega (arith, ints, f.0)) ] },
  clear_earlier l (a -ℤ x.length) (b -ℤ x.length) (c -ℤ x.length) (d -ℤ x.length) g.1 k.1 (omega (arith, ints)) (omega (arith, ints)),
)

-- after its start they only begin after its end
pub clear_later : (l : List Look) (a b c d : ℤ) → AreGood l → AreClear a b l → a ≤ℤ pos 0 → d ≤ℤ b → AreClear c d l
clear_later [] a b c d g k h m = tt
clear_later (x ∷ l) a b c d g k h m = let good = g.0 in let len = good.whole in (
  record { side = λ o e. elim (k.0.side o e) [ inl f ↦ absurd (omega (arith, ints, f.0)) | inr f ↦ inr (omega (arith, ints, f.0), omega (arith, ints, f.1)) ] },
  clear_later l (a -ℤ x.length) (b -ℤ x.length) (c -ℤ x.length) (d -ℤ x.length) g.1 k.1 (omega (arith, ints)) (omega (arith, ints)),
)

pub clear_join : (l r : List Look) (a b : ℤ) → AreClear a b l → AreClear (a -ℤ total l) (b -ℤ total l) r → AreClear a b (l ++ r)
clear_join [] r a b k m = let e : a -ℤ pos 0 ≡ a = omega (arith, ints) in let f : b -ℤ pos 0 ≡ b = omega (arith, ints) in subst (λ z. AreClear z b r) e (subst (λ z. AreClear (a -ℤ pos 0) z r) f m)
clear_join (x ∷ l) r a b k m =
    let e : a -ℤ (x.length +ℤ total l) ≡ (a -ℤ x.length) -ℤ total l = omega (arith, ints) in
    let f : b -ℤ (x.length +ℤ total l) ≡ (b -ℤ x.length) -ℤ total l = omega (arith, ints) in
    (k.0, clear_join l r (a -ℤ x.length) (b -ℤ x.length) k.1 (subst (λ z. AreClear z ((b -ℤ x.length) -ℤ total l) r) e (subst (λ z. AreClear (a -ℤ (x.length +ℤ total l)) z r) f m)))

pub clear_first : (l r : List Look) (a b : ℤ) → AreClear a b (l ++ r) → AreClear a b l
clear_first [] r a b k = tt
clear_first (x ∷ l) r a b k = (k.0, clear_first l r (a -ℤ x.length) (b -ℤ x.length) k.1)

pub clear_second : (l r : List Look) (a b c d : ℤ) → AreClear a b (l ++ r) → c ≡ (a -ℤ total l) → d ≡ (b -ℤ total l) → AreClear c d r
clear_second [] r a b c d k e f = let m : a ≡ c = omega (arith, ints) in let n : b ≡ d = omega (arith, ints) in subst (λ z. AreClear z d r) m (subst (λ z. AreClear a z r) n k)
clear_second (x ∷ l) r a b c d k e f = clear_second l r (a -ℤ x.length) (b -ℤ x.length) c d k.1 (omega (arith, ints)) (omega (arith, ints))

pub good_join : (l r : List Look) → AreGood l → AreGood r → AreGood (l ++ r)
good_join [] r g h = h
good_join (x ∷ l) r g h = (g.0, good_join l r g.1 h)

pub good_first : (l r : List Look) → AreGood (l ++ r) → AreGood l
good_first [] r g = tt
good_first (x ∷ l) r g = (g.0, good_first l r g.1)

pub good_second : (l r : List Look) → AreGood (l ++ r) → AreGood r
good_second [] r g = g
good_second (x ∷ l) r g = good_second l r g.1

pub total_join : (l r : List Look) → total (l ++ r) ≡ total l +ℤ total r
total_join [] r = omega (arith, ints)
total_join (x ∷ l) r = let e = total_join l r in omega (arith, ints)

-- no overlap holds an instant of the zone
pub clear_within : (p : ℤ → Show) (l : List Look) (a b w : ℤ) → AreGood l → AreClear a b l → a ≤ℤ w → w <ℤ b → mix_shows p l w ≡ None
clear_within p [] a b w g k h m = refl
clear_within p (x ∷ l) a b w g k h m = let good = g.0 in let len = good.whole in elim (look_kind x) [
  | item e ↦ mix_item p x l w e ∙ clear_within (from_end x) l (a -ℤ x.length) (b -ℤ x.length) (w -ℤ x.length) g.1 k.1 (omega (arith, ints)) (omega (arith, ints))
  | transition o e ↦ let zero_length = good.point o e in
      mix_miss p x o l w e (elim (k.0.side o e) [ inl f ↦ missed_behind _ _ w (omega (arith, ints, f.1)) | inr f ↦ missed_before _ _ w (omega (arith, ints, f.1)) ])
      ∙ clear_within p l (a -ℤ x.length) (b -ℤ x.length) w g.1 k.1 (omega (arith, ints)) (omega (arith, ints))
]

pub zone_shows : (l : List Look) (a b w : ℤ) → AreGood l → AreClear a b l → a ≤ℤ w → w <ℤ b → list_shows l w ≡ item_shows l w
zone_shows l a b w g k h m = rw (clear_within blank l a b w g k h m)

-- after a zone that begins before it a list is later
pub later_clear : (l : List Look) (a b : ℤ) → AreGood l → AreClear a b l → a ≤ℤ pos 0 → pos 0 ≤ℤ b → IsLater l
later_clear l a b g k h m = record {
  no_mix = λ p v n. quiet p l a b v g k h (omega (arith, ints));
  no_item = λ v n. not_held l v g n;
  own_side = side l g k;
}
  where
    side : (r : List Look) → AreGood r → AreClear a b r → (p q : ℤ → Show) (v : ℤ) → mix_shows p r v ≡ mix_shows q r v
    side [] u c p q v = refl
    side (x ∷ r) u c p q v = elim (look_kind x) [
      | item e ↦ mix_item p x r v e ∙ sym (mix_item q x r v e)
      | transition o e ↦ elim (c.0.side o e) [ inl f ↦ absurd (omega (arith, ints, f.0)) | inr f ↦ absurd (omega (arith, ints, f.0)) ]
    ]

-- ---- lists that go on with the same item

next_to : (l : List Look) (y z : Look) (r s : List Look) (w : ℤ) → y.overlap ≡ None → z.overlap ≡ None → ((u : ℤ) → y.shows u ≡ z.shows u) → next_shows (l ++ (y ∷ r)) w ≡ next_shows (l ++ (z ∷ s)) w
next_to [] y z r s w e f same = side_item y r w e ∙ same w ∙ sym (side_item z s w f)
next_to (x ∷ l) y z r s w e f same = elim (look_kind x) [
  | item k ↦ side_item x (l ++ (y ∷ r)) w k ∙ sym (side_item x (l ++ (z ∷ s)) w k)
  | transition o k ↦ side_transition x o (l ++ (y ∷ r)) w k ∙ next_to l y z r s w e f same ∙ sym (side_transition x o (l ++ (z ∷ s)) w k)
]

mix_to : (p : ℤ → Show) (l : List Look) (y z : Look) (r s : List Look) (w : ℤ) → AreGood l → y.overlap ≡ None → z.overlap ≡ None → ((u : ℤ) → y.shows u ≡ z.shows u) → IsLater r → IsLater s → w <ℤ (total l +ℤ y.length) → w <ℤ (total l +ℤ z.length)
    → mix_shows p (l ++ (y ∷ r)) w ≡ mix_shows p (l ++ (z ∷ s)) w
mix_to p [] y z r s w g e f same a b h k =
    mix_item p y r w e ∙ a.no_mix (from_end y) (w -ℤ y.length) (omega (arith, ints))
    ∙ sym (mix_item p z s w f ∙ b.no_mix (from_end z) (w -ℤ z.length) (omega (arith, ints)))
mix_to p (x ∷ l) y z r s w g e f same a b h k = let good = g.0 in elim (look_kind x) [
  | item m ↦ mix_item p x (l ++ (y ∷ r)) w m ∙ mix_to (from_end x) l y z r s (w -ℤ x.length) g.1 e f same a b (omega (arith, ints)) (omega (arith, ints)) ∙ sym (mix_item p x (l ++ (z ∷ s)) w m)
  | transition o m ↦ let zero_length = good.point o m in
      mix_step p x o (l ++ (y ∷ r)) (l ++ (z ∷ s)) w m (next_to l y z r s w e f same) (mix_to p l y z r s w g.1 e f same a b (omega (arith, ints)) (omega (arith, ints)))
]

item_to : (l : List Look) (y z : Look) (r s : List Look) (w : ℤ) → ((u : ℤ) → y.shows u ≡ z.shows u) → pos 0 ≤ℤ y.length → pos 0 ≤ℤ z.length → IsLater r → IsLater s → w <ℤ (total l +ℤ y.length) → w <ℤ (total l +ℤ z.length)
    → item_shows (l ++ (y ∷ r)) w ≡ item_shows (l ++ (z ∷ s)) w
item_to [] y z r s w same m n a b h k = by_lt_z w (pos 0)
    (λ t. rw (missed_before (pos 0) y.length w t, missed_before (pos 0) z.length w t) (a.no_item (w -ℤ y.length) (omega (arith, ints)) ∙ sym (b.no_item (w -ℤ z.length) (omega (arith, ints)))))
    (λ t. item_hit y r w t (omega (arith, ints)) ∙ same w ∙ sym (item_hit z s w t (omega (arith, ints))))
item_to (x ∷ l) y z r s w same m n a b h k = ap (cond (within (pos 0) x.length w) (x.shows w)) (item_to l y z r s (w -ℤ x.length) same m n a b (omega (arith, ints)) (omega (arith, ints)))

-- before the ends of two items that show the same, and with what is later after them, lists show the same
pub same_to : (l : List Look) (y z : Look) (r s : List Look) (w : ℤ) → AreGood l → IsItem y → IsItem z → ((u : ℤ) → y.shows u ≡ z.shows u) → IsLater r → IsLater s → w <ℤ (total l +ℤ y.length) → w <ℤ (total l +ℤ z.length)
    → list_shows (l ++ (y ∷ r)) w ≡ list_shows (l ++ (z ∷ s)) w
same_to l y z r s w g e f same a b h k = shows_same (l ++ (y ∷ r)) (l ++ (z ∷ s)) w w
    (mix_to blank l y z r s w g e.item f.item same a b h k)
    (item_to l y z r s w same e.whole f.whole a b h k)

-- ---- items with their edges moved

-- with its tail moved by t
abbrev pub longer : Look → ℤ → Look
longer x t = record { length = x.length +ℤ t; shows = x.shows; overlap = None }

-- with its head moved by h and its tail by t
abbrev pub shifted : Look → ℤ → ℤ → Look
shifted x h t = record { length = (x.length -ℤ h) +ℤ t; shows = λ u. x.shows (u +ℤ h); overlap = None }

pub longer_item : (x : Look) (t : ℤ) → pos 0 ≤ℤ (x.length +ℤ t) → IsItem (longer x t)
longer_item x t h = record { whole = h; item = refl }

pub shifted_item : (x : Look) (h t : ℤ) → pos 0 ≤ℤ ((x.length -ℤ h) +ℤ t) → IsItem (shifted x h t)
shifted_item x h t k = record { whole = k; item = refl }

-- what an item shows from its end doesn't change with its head
pub from_shifted : (x : Look) (h : ℤ) → from_end (shifted x h (pos 0)) ≡ from_end x
from_shifted x h = fun_ext (λ v. ap x.shows (omega (arith, ints)))

-- the list after an item whose head was moved by t shows the same, counted from where the item was
pub same_from : (z : Look) (r : List Look) (t v : ℤ) → IsItem z → pos 0 ≤ℤ v → t ≤ℤ v → list_shows (shifted z t (pos 0) ∷ r) (v -ℤ t) ≡ list_shows (z ∷ r) v
same_from z r t v i h k = shows_same (shifted z t (pos 0) ∷ r) (z ∷ r) (v -ℤ t) v
    (mix_item blank (shifted z t (pos 0)) r (v -ℤ t) refl
    ∙ ap (λ f. mix_shows f r ((v -ℤ t) -ℤ ((z.length -ℤ t) +ℤ pos 0))) (from_shifted z t)
    ∙ ap (mix_shows (from_end z) r) (omega (arith, ints))
    ∙ sym (mix_item blank z r v i.item))
    (by_lt_z v z.length
    (λ m. item_hit (shifted z t (pos 0)) r (v -ℤ t) (omega (arith, ints)) (omega (arith, ints)) ∙ ap z.shows (omega (arith, ints)) ∙ sym (item_hit z r v h m))
    (λ m. item_past (shifted z t (pos 0)) r (v -ℤ t) (omega (arith, ints)) ∙ ap (item_shows r) (omega (arith, ints)) ∙ sym (item_past z r v m)))
