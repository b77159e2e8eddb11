-- One step of what a list shows, at whole frames.
use Rattle.std.proofs.Common.{◌≡◌, refl, sym, ap, ap₂, ◌∙◌, ℕ, ◌*◌, ◌<◌, ℤ, pos, negsuc, ◌+ℤ◌, ◌-ℤ◌, ◌*ℤ◌, ◌≤ℤ◌, ◌<ℤ◌, ◌&&◌, Bool, true, false, cond, List, [], ◌∷◌, Option, Some, None, arith}
use Rattle.std.specs.Prelude.{unsigned_abs, unwrap_or}
use Rattle.std.proofs.lemmas.Int.{ints}
use Rattle.otio_model.specs.Overlaps.{within}
use Rattle.coord.specs.Looks.{Show, Blank, Mix, Weight, Look, Overlap, is_blank, weight, mixed, item_shows, next_shows, from_end, mix_shows}
use Rattle.coord.specs.Images.{Image, Empty, Mixture, Kind, kind_of, image, is_empty}
use Rattle.coord.proofs.ImageLemmas.{empty_is}
use Rattle.coord.proofs.LookSteps.{is_within, missed_before, missed_behind, mix_item, mix_miss, item_hit, item_past, side_item}
use Rattle.edl_frames.specs.Shown.{mix_of}
use Rattle.edl_law.proofs.FrameQuotients.{sum-times}
use Rattle.coord.proofs.Divisors.{weight_scaled}

pub mix_hit : (p : ℤ → Show) (x : Look) (o : Overlap) (l : List Look) (w : ℤ) → x.overlap ≡ Some o
    → within (pos 0 -ℤ o.before) o.after w ≡ true
    → mix_shows p (x ∷ l) w ≡ Some
    (mixed o.kind (p w) (next_shows l w) (w +ℤ o.before) (o.before +ℤ o.after))
mix_hit p x o l w e m = rw (e, m)

pub item_before : (x : Look) (l : List Look) (w : ℤ) → w <ℤ pos 0
    → item_shows (x ∷ l) w ≡ item_shows l (w -ℤ x.length)
item_before x l w k = rw (missed_before (pos 0) x.length w k)

-- ---- frames in ticks

pub times_le : (a b : ℤ) (f : ℕ) → a ≤ℤ b → (a *ℤ pos f) ≤ℤ (b *ℤ pos f)
times_le a b f h =
    let n = unsigned_abs (b -ℤ a) in
    let e : b ≡ a +ℤ pos n = omega (arith, ints) in
    let g = ap (λ z. z *ℤ pos f) e in
    let s = sum-times a (pos n) f in
    omega (arith, ints, g, s)

pub times_lt : (a b : ℤ) (f : ℕ) → 0 < f → a <ℤ b → (a *ℤ pos f) <ℤ (b *ℤ pos f)
times_lt a b f p h =
    let l = times_le (a +ℤ pos 1) b f (omega (arith, ints)) in
    let s = sum-times a (pos 1) f in
    omega (arith, ints, l, s, p)

pub times-minus : (a b : ℤ) (f : ℕ) → (a *ℤ pos f) -ℤ (b *ℤ pos f) ≡ (a -ℤ b) *ℤ pos f
times-minus a b f =
    let s = sum-times (a -ℤ b) b f in
    let e : (a -ℤ b) +ℤ b ≡ a = omega (arith, ints) in
    let g = ap (λ z. z *ℤ pos f) e in
    omega (arith, ints, g, s)

-- ---- looks that run forward: no length is negative, and each overlap begins at its cut

pub record IsForward (x : Look) : Type 0 where
  pub low : pos 0 ≤ℤ x.length
  pub begins : (o : Overlap) → x.overlap ≡ Some o → o.before ≡ pos 0
  pub point : (o : Overlap) → x.overlap ≡ Some o → x.length ≡ pos 0

abbrev pub AreForward : List Look → Type 0
AreForward [] = Unit {0}
AreForward (x ∷ l) = IsForward x × AreForward l

pub data OverlapOf (x : Look) : Type 0 where
  none : x.overlap ≡ None → OverlapOf x
  some : (o : Overlap) → x.overlap ≡ Some o → OverlapOf x

pub overlap_in : (x : Look) → OverlapOf x
overlap_in x = by x.overlap refl
  where
    by : (o : Option Overlap) → x.overlap ≡ o → OverlapOf x
    by None e = none e
    by (Some o) e = some o e

-- nothing is mixed before the list begins
pub mix_before : (p : ℤ → Show) (l : List Look) (w : ℤ) → AreForward l → w <ℤ pos 0
    → mix_shows p l w ≡ None
mix_before p [] w g h = refl
mix_before p (x ∷ l) w g h = let low = g.0.low in elim (overlap_in x) [
  | none e ↦ mix_item p x l w e ∙ mix_before (from_end x) l (w -ℤ x.length) g.1
      (omega (arith, ints))
  | some o e ↦ let z = g.0.begins o e in mix_miss p x o l w e
      (missed_before (pos 0 -ℤ o.before) o.after w (omega (arith, ints))) ∙ mix_before p l w g.1 h
]

-- and no item is there
pub items_before : (l : List Look) (w : ℤ) → AreForward l → w <ℤ pos 0 → item_shows l w ≡ Blank
items_before [] w g h = refl
items_before (x ∷ l) w g h = let low = g.0.low in item_before x l w h
    ∙ items_before l (w -ℤ x.length) g.1 (omega (arith, ints))

-- ---- what is seen of a list

-- what is seen at an instant from where the list begins; `last` is what the item before it shows
abbrev pub seen_at : (ℤ → Show) → List Look → ℤ → Image
seen_at last l w = image (unwrap_or (mix_shows last l w) (item_shows l w))

-- an item of so many frames, by what is seen of it in each frame
pub record Plays (f : ℕ) (count : ℤ) (gives : ℤ → Image) (x : Look) : Type 0 where
  pub item : x.overlap ≡ None
  pub long : x.length ≡ count *ℤ pos f
  pub shows : (k : ℤ) → image (x.shows (k *ℤ pos f)) ≡ gives k

-- a transition of a type over so many frames from its cut on
pub record Crosses (f : ℕ) (type : List ℕ) (frames : ℕ) (x : Look) : Type 0 where
  pub overlap : Overlap
  pub there : x.overlap ≡ Some overlap
  pub kind : overlap.kind ≡ type
  pub before : overlap.before ≡ pos 0
  pub after : overlap.after ≡ pos frames *ℤ pos f
  pub point : x.length ≡ pos 0

pub plays_forward : (f : ℕ) (count : ℤ) (gives : ℤ → Image) (x : Look) → Plays f count gives x
    → pos 0 ≤ℤ count → IsForward x
plays_forward f count gives x p h =
    let l = p.long in let t = times_le (pos 0) count f h in
    record {
      low = omega (arith, ints, l, t);
      begins = λ o e. absurd (cc (sym p.item ∙ e));
      point =
          λ o e. absurd (cc (sym p.item ∙ e));
    }

pub crosses_forward : (f : ℕ) (type : List ℕ) (frames : ℕ) (x : Look) → Crosses f type frames x
    → IsForward x
crosses_forward f type frames x c = let z = c.point in record {
  low = omega (arith, ints, z);
  begins = λ o e. let same : c.overlap ≡ o = cc (sym c.there ∙ e) in ap (λ (q : Overlap). q.before)
      (sym same) ∙ c.before;
  point = λ o e. z;
}

-- in its frames an item is seen
pub item_in : (f : ℕ) (last : ℤ → Show) (count k : ℤ) (gives : ℤ → Image) (x : Look) (l : List Look)
    → 0 < f → Plays f count gives x → AreForward l → pos 0 ≤ℤ k → k <ℤ count
    → seen_at last (x ∷ l) (k *ℤ pos f) ≡ gives k
item_in f last count k gives x l p x_plays g low high =
    let long = x_plays.long in
    let a = times_le (pos 0) k f low in
    let b = times_lt k count f p high in
    ap₂ (λ (o : Option Show) (s : Show). image (unwrap_or o s))
    (mix_item last x l (k *ℤ pos f) x_plays.item
    ∙ mix_before (from_end x) l ((k *ℤ pos f) -ℤ x.length) g (omega (arith, ints, long, b)))
    (item_hit x l (k *ℤ pos f) (omega (arith, ints, a)) (omega (arith, ints, long, b)))
    ∙ x_plays.shows k

-- behind its frames the rest is
pub item_behind : (f : ℕ) (last : ℤ → Show) (count k : ℤ) (gives : ℤ → Image) (x : Look)
    (l : List Look) → Plays f count gives x → count ≤ℤ k
    → seen_at last (x ∷ l) (k *ℤ pos f) ≡ seen_at (from_end x) l ((k -ℤ count) *ℤ pos f)
item_behind f last count k gives x l x_plays past =
    let long = x_plays.long in
    let a = times_le count k f past in
    ap₂ (λ (o : Option Show) (s : Show). image (unwrap_or o s))
    (mix_item last x l (k *ℤ pos f) x_plays.item)
    (item_past x l (k *ℤ pos f) (omega (arith, ints, long, a)))
    ∙ ap (seen_at (from_end x) l) (ap (λ z. (k *ℤ pos f) -ℤ z) long ∙ times-minus k count f)

-- what follows an item sees it from its end
pub seen_from_end : (f : ℕ) (count k : ℤ) (gives : ℤ → Image) (x : Look) → Plays f count gives x
    → image (from_end x (k *ℤ pos f)) ≡ gives (k +ℤ count)
seen_from_end f count k gives x x_plays =
    ap (λ z. image (x.shows z)) (ap (λ z. (k *ℤ pos f) +ℤ z) x_plays.long
    ∙ sym (sum-times k count f)) ∙ x_plays.shows (k +ℤ count)

-- ---- mixes

seen_if : (t : Bool) (k : List ℕ) (a b : Show) (w : Weight) → image (cond t Blank (Mix k a b w)) ≡
    cond t Empty (Mixture (kind_of k) (image a) (image b) w)
seen_if true k a b w = refl
seen_if false k a b w = refl

pub seen_mixed : (k : List ℕ) (a b : Show) (p w : ℤ) → image (mixed k a b p w) ≡ mix_of (kind_of k)
    (image a) (image b) p w
seen_mixed k a b p w = rw (empty_is a, empty_is b)
    (seen_if (is_blank a && is_blank b) k a b (weight (unsigned_abs p) (unsigned_abs w)))

-- a weight in ticks is that in frames
pub mix_frames : (kind : Kind) (a b : Image) (f k n : ℕ) (p w : ℤ) → 0 < f → p ≡ pos (k * f)
    → w ≡ pos (n * f) → mix_of kind a b p w ≡ mix_of kind a b (pos k) (pos n)
mix_frames kind a b f k n p w h d e =
    rw (d, e) (ap (λ q. cond (is_empty a && is_empty b) Empty (Mixture kind a b q))
    (weight_scaled k n f h))

pub cross_in : (f : ℕ) (last : ℤ → Show) (type : List ℕ) (frames : ℕ) (k count : ℤ)
    (gives : ℤ → Image) (t x : Look) (l : List Look) → 0 < f → Crosses f type frames t
    → Plays f count gives x
    → pos 0 ≤ℤ k → k <ℤ pos frames → seen_at last (t ∷ x ∷ l) (k *ℤ pos f) ≡ mix_of (kind_of type)
    (image (last (k *ℤ pos f))) (gives k) k (pos frames)
cross_in f last type frames (negsuc k) count gives t x l p c x_plays low high =
    absurd (omega (arith, ints))
cross_in f last type frames (pos k) count gives t x l p c x_plays low high =
    let before = c.before in let after = c.after in
    let a = times_le (pos 0) (pos k) f low in
    let b = times_lt (pos k) (pos frames) f p high in
    ap (λ (o : Option Show). image (unwrap_or o (item_shows (t ∷ x ∷ l) (pos k *ℤ pos f))))
    (mix_hit last t c.overlap (x ∷ l) (pos k *ℤ pos f) c.there
    (is_within (pos 0 -ℤ c.overlap.before) c.overlap.after (pos k *ℤ pos f)
    (omega (arith, ints, before, a)) (omega (arith, ints, after, b))))
    ∙ seen_mixed c.overlap.kind (last (pos k *ℤ pos f)) (next_shows (x ∷ l) (pos k *ℤ pos f))
    ((pos k *ℤ pos f) +ℤ c.overlap.before) (c.overlap.before +ℤ c.overlap.after)
    ∙ ap₂ (λ q i. mix_of (kind_of q) (image (last (pos k *ℤ pos f))) i
    ((pos k *ℤ pos f) +ℤ c.overlap.before) (c.overlap.before +ℤ c.overlap.after)) c.kind
    (ap image (side_item x l (pos k *ℤ pos f) x_plays.item) ∙ x_plays.shows (pos k))
    ∙ mix_frames (kind_of type) (image (last (pos k *ℤ pos f))) (gives (pos k)) f k frames
    ((pos k *ℤ pos f) +ℤ c.overlap.before) (c.overlap.before +ℤ c.overlap.after) p
    (omega (arith, ints, before)) (omega (arith, ints, before, after))

pub cross_behind : (f : ℕ) (last : ℤ → Show) (type : List ℕ) (frames : ℕ) (k : ℤ) (t : Look)
    (l : List Look) → Crosses f type frames t → pos 0 ≤ℤ k → pos frames ≤ℤ k
    → seen_at last (t ∷ l) (k *ℤ pos f) ≡ seen_at last l (k *ℤ pos f)
cross_behind f last type frames k t l c low past =
    let after = c.after in let point = c.point in
    let a = times_le (pos 0) k f low in
    let b = times_le (pos frames) k f past in
    ap₂ (λ (o : Option Show) (s : Show). image (unwrap_or o s))
    (mix_miss last t c.overlap l (k *ℤ pos f) c.there
    (missed_behind (pos 0 -ℤ c.overlap.before) c.overlap.after (k *ℤ pos f)
    (omega (arith, ints, after, b))))
    (item_past t l (k *ℤ pos f) (omega (arith, ints, point, a))
    ∙ ap (item_shows l) (omega (arith, ints, point)))
