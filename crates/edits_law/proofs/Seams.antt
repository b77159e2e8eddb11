-- A list in parts: what is shown before, in and after a stretch of items.
use Rattle.std.proofs.Common.{◌≡◌, refl, sym, subst, ap, ◌∙◌, inl, inr, ℤ, pos, ◌+ℤ◌, ◌-ℤ◌, ◌≤ℤ◌, ◌<ℤ◌, Some, None, cond, List, [], ◌∷◌, ◌++◌, arith}
use Rattle.std.proofs.lemmas.Int.{ints, by_lt_z}
use Rattle.coord.specs.Looks.{Show, Look, Overlap, item_shows, next_shows, from_end, mix_shows, blank, list_shows, total}
use Rattle.otio_model.specs.Overlaps.{within}
use Rattle.edits.specs.Splices.{back, strip, spliced, AreGood, AreItems}
use Rattle.coord.proofs.LookSteps.{look_kind, item, transition, item_past, mix_item, mix_miss, side_item, missed_behind, missed_before}
use Rattle.edits_law.proofs.Splice.{IsLater, AreClear, mix_step, side_transition, shows_same, quiet_back, not_held, good_back, good_strip, clear_strip, item_front, item_behind, item_back, mix_front, mix_behind, mix_back}

pub total_low : (l : List Look) → AreGood l → pos 0 ≤ℤ total l
total_low [] g = omega (arith, ints)
total_low (x ∷ l) g = let a = g.0 in let h = a.whole in let t = total_low l g.1 in omega (arith, ints)

item_prefix : (l r s : List Look) (w : ℤ) → AreGood l → IsLater r → IsLater s → w <ℤ total l → item_shows (l ++ r) w ≡ item_shows (l ++ s) w
item_prefix [] r s w g a b h = a.no_item w h ∙ sym (b.no_item w h)
item_prefix (x ∷ l) r s w g a b h = ap (cond (within (pos 0) x.length w) (x.shows w)) (item_prefix l r s (w -ℤ x.length) g.1 a b (omega (arith, ints)))

pub item_append : (l r : List Look) (w : ℤ) → AreGood l → total l ≤ℤ w → item_shows (l ++ r) w ≡ item_shows r (w -ℤ total l)
item_append [] r w g h = ap (item_shows r) (omega (arith, ints))
item_append (x ∷ l) r w g h = let a = g.0 in let k = a.whole in let t = total_low l g.1 in
    item_past x (l ++ r) w (omega (arith, ints)) ∙ item_append l r (w -ℤ x.length) g.1 (omega (arith, ints)) ∙ ap (item_shows r) (omega (arith, ints))

side_prefix : (l r s : List Look) (w : ℤ) → AreGood l → pos 0 <ℤ total l → next_shows (l ++ r) w ≡ next_shows (l ++ s) w
side_prefix [] r s w g h = absurd (omega (arith, ints))
side_prefix (x ∷ l) r s w g h = let a = g.0 in elim (look_kind x) [
  | item e ↦ side_item x (l ++ r) w e ∙ sym (side_item x (l ++ s) w e)
  | transition o e ↦ let z = a.point o e in side_transition x o (l ++ r) w e ∙ side_prefix l r s w g.1 (omega (arith, ints)) ∙ sym (side_transition x o (l ++ s) w e)
]

-- every transition of the list lies before its end
mix_prefix : (p : ℤ → Show) (l r s : List Look) (b w : ℤ) → AreGood l → AreClear (total l) b l → IsLater r → IsLater s → total l ≤ℤ b → w <ℤ total l → mix_shows p (l ++ r) w ≡ mix_shows p (l ++ s) w
mix_prefix p [] r s b w g c u v k h = u.no_mix p w h ∙ sym (v.no_mix p w h)
mix_prefix p (x ∷ l) r s b w g c u v k h = let a = g.0 in let n = a.whole in let t = total_low l g.1 in
    let inner : AreClear (total l) (b -ℤ x.length) l = subst (λ z. AreClear z (b -ℤ x.length) l) (let e : (x.length +ℤ total l) -ℤ x.length ≡ total l = omega (arith, ints) in e) c.1 in
    elim (look_kind x) [
      | item e ↦ mix_item p x (l ++ r) w e ∙ mix_prefix (from_end x) l r s (b -ℤ x.length) (w -ℤ x.length) g.1 inner u v (omega (arith, ints)) (omega (arith, ints)) ∙ sym (mix_item p x (l ++ s) w e)
      | transition o e ↦ let z = a.point o e in
          mix_step p x o (l ++ r) (l ++ s) w e
          (elim (c.0.side o e) [ inl f ↦ side_prefix l r s w g.1 (omega (arith, ints, f.0)) | inr f ↦ absurd (omega (arith, ints, f.0)) ])
          (mix_prefix p l r s (b -ℤ x.length) w g.1 inner u v (omega (arith, ints)) (omega (arith, ints)))
    ]

mix_append : (p : ℤ → Show) (l r : List Look) (b w : ℤ) → AreGood l → AreClear (total l) b l → IsLater r → total l ≤ℤ b → total l ≤ℤ w → mix_shows p (l ++ r) w ≡ mix_shows blank r (w -ℤ total l)
mix_append p [] r b w g c u k h = u.own_side p blank w ∙ ap (mix_shows blank r) (omega (arith, ints))
mix_append p (x ∷ l) r b w g c u k h = let a = g.0 in let n = a.whole in let t = total_low l g.1 in
    let inner : AreClear (total l) (b -ℤ x.length) l = subst (λ z. AreClear z (b -ℤ x.length) l) (let e : (x.length +ℤ total l) -ℤ x.length ≡ total l = omega (arith, ints) in e) c.1 in
    elim (look_kind x) [
      | item e ↦ mix_item p x (l ++ r) w e ∙ mix_append (from_end x) l r (b -ℤ x.length) (w -ℤ x.length) g.1 inner u (omega (arith, ints)) (omega (arith, ints)) ∙ ap (mix_shows blank r) (omega (arith, ints))
      | transition o e ↦ let z = a.point o e in
          mix_miss p x o (l ++ r) w e (elim (c.0.side o e) [ inl f ↦ missed_behind _ _ w (omega (arith, ints, f.1)) | inr f ↦ absurd (omega (arith, ints, f.0)) ])
          ∙ mix_append p l r (b -ℤ x.length) w g.1 inner u (omega (arith, ints)) (omega (arith, ints)) ∙ ap (mix_shows blank r) (omega (arith, ints))
    ]

-- a list in two parts: before the seam it doesn't matter what follows, and after it what stands before
pub seam_before : (l r s : List Look) (w : ℤ) → AreGood l → AreClear (total l) (total l) l → IsLater r → IsLater s → w <ℤ total l → list_shows (l ++ r) w ≡ list_shows (l ++ s) w
seam_before l r s w g c u v h = shows_same (l ++ r) (l ++ s) w w (mix_prefix blank l r s (total l) w g c u v (omega (arith, ints)) h) (item_prefix l r s w g u v h)

pub seam_behind : (l r : List Look) (w : ℤ) → AreGood l → AreClear (total l) (total l) l → IsLater r → total l ≤ℤ w → list_shows (l ++ r) w ≡ list_shows r (w -ℤ total l)
seam_behind l r w g c u h = shows_same (l ++ r) r w (w -ℤ total l) (mix_append blank l r (total l) w g c u (omega (arith, ints)) h) (item_append l r w g h)

-- ---- items in front of what is later

pub items_good : (n : List Look) → AreItems n → AreGood n
items_good [] i = tt
items_good (x ∷ n) i = (record { whole = i.0.whole; point = λ o e. absurd (none o e); before = λ o e. absurd (none o e); after = λ o e. absurd (none o e) }, items_good n i.1)
  where
    none : (o : Overlap) → x.overlap ≡ Some o → ⊥
    none o e = cc (sym i.0.item ∙ e)

pub items_clear : (n : List Look) (a b : ℤ) → AreItems n → AreClear a b n
items_clear [] a b i = tt
items_clear (x ∷ n) a b i = (record { side = λ o e. absurd (none o e) }, items_clear n (a -ℤ x.length) (b -ℤ x.length) i.1)
  where
    none : (o : Overlap) → x.overlap ≡ Some o → ⊥
    none o e = cc (sym i.0.item ∙ e)

pub no_later : IsLater []
no_later = record { no_mix = λ p v h. refl; no_item = λ v h. refl; own_side = λ p q v. refl }

pub append_none : (l : List Look) → l ++ [] ≡ l
append_none [] = refl
append_none (x ∷ l) = ap (λ m. x ∷ m) (append_none l)

-- items before what is later are later too
pub items_later : (n r : List Look) → AreItems n → IsLater r → IsLater (n ++ r)
items_later [] r i u = u
items_later (x ∷ n) r i u = let k = i.0.whole in let in_rest = items_later n r i.1 u in record {
  no_mix = λ p v h. mix_item p x (n ++ r) v i.0.item ∙ in_rest.no_mix (from_end x) (v -ℤ x.length) (omega (arith, ints));
  no_item = λ v h. rw (missed_before (pos 0) x.length v h) (in_rest.no_item (v -ℤ x.length) (omega (arith, ints)));
  own_side = λ p q v. mix_item p x (n ++ r) v i.0.item ∙ sym (mix_item q x (n ++ r) v i.0.item);
}

-- and show themselves
mix_none : (p : ℤ → Show) (n : List Look) (v : ℤ) → AreItems n → mix_shows p n v ≡ None
mix_none p [] v i = refl
mix_none p (x ∷ n) v i = mix_item p x n v i.0.item ∙ mix_none (from_end x) n (v -ℤ x.length) i.1

pub items_show : (n r : List Look) (v : ℤ) → AreItems n → IsLater r → v <ℤ total n → list_shows (n ++ r) v ≡ item_shows n v
items_show n r v i u h =
    seam_before n r [] v (items_good n i) (items_clear n (total n) (total n) i) u no_later h
    ∙ ap (λ l. list_shows l v) (append_none n)
    ∙ rw (mix_none blank n v i)

pub items_behind : (n r : List Look) (v : ℤ) → AreItems n → IsLater r → total n ≤ℤ v → list_shows (n ++ r) v ≡ list_shows r (v -ℤ total n)
items_behind n r v i u h = seam_behind n r v (items_good n i) (items_clear n (total n) (total n) i) u h

-- ---- a list with others in the place of a stretch

-- a good list whose overlaps keep clear of the zone
pub record IsReady (s : List Look) (a b : ℤ) : Type 0 where
  pub good : AreGood s
  pub clear : AreClear a b s
  pub from_start : pos 0 ≤ℤ a
  pub zone : a ≤ℤ b

pub ready : (l : List Look) (a b : ℤ) → AreGood l → pos 0 ≤ℤ a → a ≤ℤ b → IsReady (strip l a b) a b
ready l a b g n h = record { good = good_strip l a b g; clear = clear_strip l a b g h; from_start = n; zone = h }

pub back_later : (s : List Look) (a b : ℤ) → IsReady s a b → IsLater (back s b)
back_later s a b r = let n = r.from_start in let z = r.zone in record {
  no_mix = λ p v h. quiet_back p s a b v r.good r.clear (omega (arith, ints)) z h;
  no_item = λ v h. not_held (back s b) v (good_back s b r.good) h;
  own_side = λ p q v. by_lt_z v (pos 0)
      (λ h. quiet_back p s a b v r.good r.clear (omega (arith, ints)) z h ∙ sym (quiet_back q s a b v r.good r.clear (omega (arith, ints)) z h))
      (λ h. mix_back p blank s a b v r.good r.clear (omega (arith, ints)) z h ∙ sym (mix_back q blank s a b v r.good r.clear (omega (arith, ints)) z h));
}

-- before the stretch the list shows what it did
pub spliced_before : (s : List Look) (a b : ℤ) (n : List Look) (w : ℤ) → IsReady s a b → AreItems n → w <ℤ a → list_shows (spliced s a n b) w ≡ list_shows s w
spliced_before s a b n w r i h = let later = items_later n (back s b) i (back_later s a b r) in
    shows_same (spliced s a n b) s w w (mix_front blank s (n ++ back s b) a b w r.good r.clear later r.zone h) (item_front s (n ++ back s b) a w r.good later h)

-- from its start on what was put there, and then the back
pub spliced_from : (s : List Look) (a b : ℤ) (n : List Look) (w : ℤ) → IsReady s a b → AreItems n → a ≤ℤ w → list_shows (spliced s a n b) w ≡ list_shows (n ++ back s b) (w -ℤ a)
spliced_from s a b n w r i h = let later = items_later n (back s b) i (back_later s a b r) in
    shows_same (spliced s a n b) (n ++ back s b) w (w -ℤ a) (mix_behind blank s (n ++ back s b) a b w r.good r.clear later r.from_start r.zone h) (item_behind s (n ++ back s b) a w r.good r.from_start h)

back_shows : (s : List Look) (a b v : ℤ) → IsReady s a b → pos 0 ≤ℤ v → list_shows (back s b) v ≡ list_shows s (v +ℤ b)
back_shows s a b v r h = let n = r.from_start in let z = r.zone in
    shows_same (back s b) s v (v +ℤ b) (mix_back blank blank s a b v r.good r.clear (omega (arith, ints)) z h) (item_back s b v r.good (omega (arith, ints)) h)

pub spliced_in : (s : List Look) (a b : ℤ) (n : List Look) (w : ℤ) → IsReady s a b → AreItems n → a ≤ℤ w → w <ℤ (a +ℤ total n) → list_shows (spliced s a n b) w ≡ item_shows n (w -ℤ a)
spliced_in s a b n w r i h k = spliced_from s a b n w r i h ∙ items_show n (back s b) (w -ℤ a) i (back_later s a b r) (omega (arith, ints))

pub spliced_behind : (s : List Look) (a b : ℤ) (n : List Look) (w v : ℤ) → IsReady s a b → AreItems n → (a +ℤ total n) ≤ℤ w → v ≡ ((w -ℤ (a +ℤ total n)) +ℤ b) → list_shows (spliced s a n b) w ≡ list_shows s v
spliced_behind s a b n w v r i h e = let t = total_low n (items_good n i) in
    let same : ((w -ℤ a) -ℤ total n) +ℤ b ≡ v = omega (arith, ints) in
    spliced_from s a b n w r i (omega (arith, ints))
    ∙ items_behind n (back s b) (w -ℤ a) i (back_later s a b r) (omega (arith, ints))
    ∙ back_shows s a b ((w -ℤ a) -ℤ total n) r (omega (arith, ints))
    ∙ ap (list_shows s) same
