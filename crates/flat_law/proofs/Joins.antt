-- Lists one after another, with nothing in between: what they show.
use Rattle.std.proofs.Common.{◌≡◌, refl, sym, subst, ap, ◌∙◌, ℤ, pos, ◌+ℤ◌, ◌-ℤ◌, ◌≤ℤ◌, ◌<ℤ◌, Bool, true, false, cond, List, [], ◌∷◌, ◌++◌, Some, None, arith}
use Rattle.std.proofs.lemmas.Int.{ints, by_lt_z}
use Rattle.coord.specs.Looks.{Show, Blank, Look, Overlap, item_shows, next_shows, from_end, mix_shows, blank, list_shows, track_shows, total}
use Rattle.otio_model.specs.Overlaps.{within}
use Rattle.edits.specs.Splices.{AreGood, AreItems}
use Rattle.coord.proofs.LookSteps.{look_kind, item, transition, mix_item, mix_miss, side_item, missed_behind, missed_before, is_within}
use Rattle.edits_law.proofs.Splice.{IsLater, mix_step, side_transition, not_held, shows_same}
use Rattle.edits_law.proofs.Seams.{total_low, item_append, items_show, items_behind, items_good}
use Rattle.edits_law.proofs.Shaped.{total_join}

-- ---- how a list may begin, so that others stand before it

-- no overlap begins before b
abbrev pub AreOpen : ℤ → List Look → Type 0
AreOpen b [] = Unit {0}
AreOpen b (x ∷ l) = ((o : Overlap) → x.overlap ≡ Some o → b ≤ℤ (pos 0 -ℤ o.before)) × AreOpen (b -ℤ x.length) l

-- the first is no transition
abbrev pub HasHead : List Look → Type 0
HasHead [] = Unit {0}
HasHead (x ∷ l) = x.overlap ≡ None

open_quiet : (p : ℤ → Show) (l : List Look) (b v : ℤ) → AreGood l → AreOpen b l → v <ℤ b → mix_shows p l v ≡ None
open_quiet p [] b v g c h = refl
open_quiet p (x ∷ l) b v g c h = let good = g.0 in elim (look_kind x) [
  | item e ↦ mix_item p x l v e ∙ open_quiet (from_end x) l (b -ℤ x.length) (v -ℤ x.length) g.1 c.1 (omega (arith, ints))
  | transition o e ↦ let z = good.point o e in let k = c.0 o e in mix_miss p x o l v e (missed_before _ _ v (omega (arith, ints))) ∙ open_quiet p l (b -ℤ x.length) v g.1 c.1 (omega (arith, ints))
]

pub later_of : (l : List Look) → AreGood l → AreOpen (pos 0) l → HasHead l → IsLater l
later_of l g c h = record {
  no_mix = λ p v k. open_quiet p l (pos 0) v g c k;
  no_item = λ v k. not_held l v g k;
  own_side = λ p q v. same_side l p q v h;
}
  where
    same_side : (m : List Look) (p q : ℤ → Show) (v : ℤ) → HasHead m → mix_shows p m v ≡ mix_shows q m v
    same_side [] p q v k = refl
    same_side (x ∷ m) p q v k = mix_item p x m v k ∙ sym (mix_item q x m v k)

open_low : (l : List Look) (b c : ℤ) → AreOpen b l → c ≤ℤ b → AreOpen c l
open_low [] b c k h = tt
open_low (x ∷ l) b c k h = (λ o e. let m = k.0 o e in omega (arith, ints), open_low l (b -ℤ x.length) (c -ℤ x.length) k.1 (omega (arith, ints)))

open_append : (l r : List Look) (b : ℤ) → AreOpen b l → AreOpen (b -ℤ total l) r → AreOpen b (l ++ r)
open_append [] r b k m = subst (λ z. AreOpen z r) (let e : b -ℤ pos 0 ≡ b = omega (arith, ints) in e) m
open_append (x ∷ l) r b k m = (k.0, open_append l r (b -ℤ x.length) k.1 (subst (λ z. AreOpen z r) (let e : b -ℤ (x.length +ℤ total l) ≡ (b -ℤ x.length) -ℤ total l = omega (arith, ints) in e) m))

-- a list in front of an open one
pub open_join : (l r : List Look) → AreGood l → AreOpen (pos 0) l → AreOpen (pos 0) r → AreOpen (pos 0) (l ++ r)
open_join l r g k m = let t = total_low l g in open_append l r (pos 0) k (open_low r (pos 0) (pos 0 -ℤ total l) m (omega (arith, ints)))

pub head_join : (l r : List Look) → HasHead l → HasHead r → HasHead (l ++ r)
head_join [] r h k = k
head_join (x ∷ l) r h k = h

-- ---- how a list may end, so that others stand behind it

abbrev pub has_item : List Look → Bool
has_item [] = false
has_item (x ∷ l) = elim x.overlap [ None ↦ true | Some o ↦ has_item l ]

-- each overlap ends in the list, and an item stands behind its transition
pub record EndsIn (l : List Look) (o : Overlap) : Type 0 where
  pub after : o.after ≤ℤ total l
  pub side : has_item l ≡ true

abbrev pub AreClosed : List Look → Type 0
AreClosed [] = Unit {0}
AreClosed (x ∷ l) = ((o : Overlap) → x.overlap ≡ Some o → EndsIn l o) × AreClosed l

side_kept : (l r : List Look) (w : ℤ) → has_item l ≡ true → next_shows (l ++ r) w ≡ next_shows l w
side_kept [] r w h = absurd (cc h)
side_kept (x ∷ l) r w h = elim (look_kind x) [
  | item e ↦ side_item x (l ++ r) w e ∙ sym (side_item x l w e)
  | transition o e ↦ side_transition x o (l ++ r) w e ∙ side_kept l r w (rw e at h) ∙ sym (side_transition x o l w e)
]

mix_kept : (p : ℤ → Show) (l r : List Look) (w : ℤ) → AreGood l → AreClosed l → IsLater r → w <ℤ total l → mix_shows p (l ++ r) w ≡ mix_shows p l w
mix_kept p [] r w g c u h = u.no_mix p w h
mix_kept p (x ∷ l) r w g c u h = let good = g.0 in elim (look_kind x) [
  | item e ↦ mix_item p x (l ++ r) w e ∙ mix_kept (from_end x) l r (w -ℤ x.length) g.1 c.1 u (omega (arith, ints)) ∙ sym (mix_item p x l w e)
  | transition o e ↦ let z = good.point o e in let k = c.0 o e in mix_step p x o (l ++ r) l w e (side_kept l r w k.side) (mix_kept p l r w g.1 c.1 u (omega (arith, ints)))
]

item_kept : (l r : List Look) (w : ℤ) → AreGood l → IsLater r → w <ℤ total l → item_shows (l ++ r) w ≡ item_shows l w
item_kept [] r w g u h = u.no_item w h
item_kept (x ∷ l) r w g u h = ap (cond (within (pos 0) x.length w) (x.shows w)) (item_kept l r (w -ℤ x.length) g.1 u (omega (arith, ints)))

-- before the seam the list shows what it did
pub join_before : (l r : List Look) (w : ℤ) → AreGood l → AreClosed l → IsLater r → w <ℤ total l → list_shows (l ++ r) w ≡ list_shows l w
join_before l r w g c u h = shows_same (l ++ r) l w w (mix_kept blank l r w g c u h) (item_kept l r w g u h)

mix_beyond : (p : ℤ → Show) (l r : List Look) (w : ℤ) → AreGood l → AreClosed l → IsLater r → total l ≤ℤ w → mix_shows p (l ++ r) w ≡ mix_shows blank r (w -ℤ total l)
mix_beyond p [] r w g c u h = u.own_side p blank w ∙ ap (mix_shows blank r) (omega (arith, ints))
mix_beyond p (x ∷ l) r w g c u h = let good = g.0 in let n = good.whole in let t = total_low l g.1 in elim (look_kind x) [
  | item e ↦ mix_item p x (l ++ r) w e ∙ mix_beyond (from_end x) l r (w -ℤ x.length) g.1 c.1 u (omega (arith, ints)) ∙ ap (mix_shows blank r) (omega (arith, ints))
  | transition o e ↦ let z = good.point o e in let k = c.0 o e in let a = k.after in
      mix_miss p x o (l ++ r) w e (missed_behind _ _ w (omega (arith, ints)))
      ∙ mix_beyond p l r w g.1 c.1 u (omega (arith, ints)) ∙ ap (mix_shows blank r) (omega (arith, ints))
]

-- and behind it what follows
pub join_behind : (l r : List Look) (w : ℤ) → AreGood l → AreClosed l → IsLater r → total l ≤ℤ w → list_shows (l ++ r) w ≡ list_shows r (w -ℤ total l)
join_behind l r w g c u h = shows_same (l ++ r) r w (w -ℤ total l) (mix_beyond blank l r w g c u h) (item_append l r w g h)

-- ---- with a gap between

pub track_in : (l : List Look) (w : ℤ) → pos 0 ≤ℤ w → w <ℤ total l → track_shows l w ≡ list_shows l w
track_in l w h k = rw (is_within (pos 0) (total l) w h k)

pub track_before : (l : List Look) (w : ℤ) → w <ℤ pos 0 → track_shows l w ≡ Blank
track_before l w h = rw (missed_before (pos 0) (total l) w h)

pub track_after : (l : List Look) (w : ℤ) → total l ≤ℤ w → track_shows l w ≡ Blank
track_after l w h = rw (missed_behind (pos 0) (total l) w h)

-- a list, nothing up to n, and what follows
pub record IsPadded (l p r : List Look) (n : ℤ) : Type 0 where
  pub good : AreGood l
  pub closed : AreClosed l
  pub gap : AreItems p
  pub dark : (w : ℤ) → item_shows p w ≡ Blank
  pub long : total l +ℤ total p ≡ n
  pub rest_good : AreGood r
  pub rest : IsLater r
  pub gap_rest : IsLater (p ++ r)

pub padded_before : (l p r : List Look) (n w : ℤ) → IsPadded l p r n → w <ℤ n → track_shows (l ++ (p ++ r)) w ≡ track_shows l w
padded_before l p r n w i h =
    let long = i.long in let t = total_join l (p ++ r) in let q = total_join p r in
    let low = total_low r i.rest_good in let wide = total_low p (items_good p i.gap) in
    by_lt_z w (pos 0)
    (λ k. track_before (l ++ (p ++ r)) w k ∙ sym (track_before l w k))
    (λ k. track_in (l ++ (p ++ r)) w k (omega (arith, ints)) ∙ by_lt_z w (total l)
    (λ m. join_before l (p ++ r) w i.good i.closed i.gap_rest m ∙ sym (track_in l w k m))
    (λ m. join_behind l (p ++ r) w i.good i.closed i.gap_rest m ∙ items_show p r (w -ℤ total l) i.gap i.rest (omega (arith, ints)) ∙ i.dark (w -ℤ total l) ∙ sym (track_after l w m)))

pub padded_behind : (l p r : List Look) (n w : ℤ) → IsPadded l p r n → n ≤ℤ w → track_shows (l ++ (p ++ r)) w ≡ track_shows r (w -ℤ n)
padded_behind l p r n w i h =
    let long = i.long in let t = total_join l (p ++ r) in let q = total_join p r in
    let low = total_low l i.good in let wide = total_low p (items_good p i.gap) in
    by_lt_z w (total (l ++ (p ++ r)))
    (λ k. track_in (l ++ (p ++ r)) w (omega (arith, ints)) k
    ∙ join_behind l (p ++ r) w i.good i.closed i.gap_rest (omega (arith, ints))
    ∙ items_behind p r (w -ℤ total l) i.gap i.rest (omega (arith, ints))
    ∙ ap (list_shows r) (let e : (w -ℤ total l) -ℤ total p ≡ w -ℤ n = omega (arith, ints) in e)
    ∙ sym (track_in r (w -ℤ n) (omega (arith, ints)) (omega (arith, ints))))
    (λ k. track_after (l ++ (p ++ r)) w k ∙ sym (track_after r (w -ℤ n) (omega (arith, ints))))
