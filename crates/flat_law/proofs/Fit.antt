-- Inputs that nothing refuses can be joined.
use Rattle.std.proofs.Common.{◌≡◌, refl, sym, subst, ap, ◌∙◌, ℕ, zero, suc, ◌+◌, ◌-◌, ◌*◌, ◌/◌, ◌%◌, ◌<◌, ◌≤◌, ℤ, pos, ◌+ℤ◌, ◌-ℤ◌, ◌≤ℤ◌, ◌&&◌, ◌||◌, Bool, true, false, Option, Some, None, cond, List, [], ◌∷◌, map, take, drop, arith}
use Rattle.std.specs.Prelude.{int_lt, nat_lt, not, slice_get, option_map, filter, ◌==◌}
use Rattle.std.specs.Str.{bytes_eq}
use Rattle.std.proofs.lemmas.Slice.Eq.{bytes_eq-Decides}
use Rattle.std.proofs.lemmas.Int.{ints}
use Rattle.std.proofs.Math.Nat.{div-add-mod, mod-lt}
use Rattle.tick_time.specs.Rates.{frame}
use Rattle.limits.specs.Limits.{most_ticks}
use Rattle.otio_model.specs.declared.compositions.ItemOf.{ItemOf}
use Rattle.otio_model.specs.declared.compositions.ItemOf.TheVariants.{Clip, Gap, Transition, Stack, Track}
use Rattle.otio_model.specs.declared.compositions.TrackOf.{TrackOf}
use Rattle.otio_model.specs.declared.compositions.Listed.{Listed}
use Rattle.otio_model.specs.declared.timelines.Timeline.{Timeline}
use Rattle.otio_model.specs.Trees.{items_of}
use Rattle.otio_model.specs.Lengths.{Range, from_zero, sum_of, length_of, lengths}
use Rattle.coord.specs.declared.faults.ItemFault.TheVariants.{Speed, Long}
use Rattle.coord.specs.Looks.{Blank, Overlap, FrameRate, list_shows, total}
use Rattle.otio_model.specs.Overlaps.{within}
use Rattle.coord.specs.Sights.{viewer, View, sight, sights, looks, lengths_seen, overlap_of}
use Rattle.otio_model.specs.Lengths.{or_zero}
use Rattle.otio_model.specs.Trees.{is_transition}
use Rattle.coord.specs.Soundness.{fault_of}
use Rattle.otio_model.specs.Speeds.{keeps_speed}
use Rattle.coord.specs.Speeds.{effects_of}
use Rattle.coord.specs.Programs.{child_shows, shown_by, at_by}
use Rattle.coord.proofs.SightLemmas.{seen_lengths, sights-items}
use Rattle.edits.specs.Children.{ticks}
use Rattle.edits.specs.Edges.{added}
use Rattle.edits.specs.After.{rate_of}
use Rattle.edits.specs.Good.{AreFair}
use Rattle.edits_law.proofs.Splice.{cases}
use Rattle.edits_law.proofs.ListLaws.{good_looks}
use Rattle.flat.specs.declared.faults.Cause.TheVariants as C
use Rattle.flat.specs.Roots.{is_empty, is_of, is_enabled, is_plain, items_in, roots}
use Rattle.flat.specs.Blocked.{IsFree}
use Rattle.flat.specs.Joined.{track_of, own_items, longest_root, rounded_up, Slot, joined_slots, IsJoined, begins_early, ends_late, JoinBlocks, not_plain, crossing, joined_shows, IsFit, AreFit}
use Rattle.flat_law.proofs.Fair.{has_fair}
use Rattle.flat_law.proofs.Givers.{IsBare, bare_of}
use Rattle.flat_law.proofs.Flat.{fault_free, at_root}
use Rattle.flat_law.proofs.CutOut.{AreKnown, sum_known, any_plain, added_total}
use Rattle.edits_law.proofs.EditShown.{frame_low}
use Rattle.flat_law.proofs.Joins.{AreOpen, HasHead, has_item, AreClosed}
use Rattle.flat_law.proofs.Joined.{Ready, IsReady, AreReady, AllPlain, good_slots, all_joined}
use Rattle.flat.specs.Roots.{ArePlainTracks}
use Rattle.std.proofs.lemmas.Bool.{or_parts}
use Rattle.limits.proofs.IntegerTests.{int_lt-false}
use Rattle.coord.proofs.ShortItems.{judged}
use Rattle.flat_law.proofs.Exists.{nat_most}

-- ---- lengths

rounded_low : (f n : ℕ) → 0 < f → n ≤ rounded_up f n
rounded_low f n h =
    let m = n + (f - 1) in
    let e : f * (m / f) + m % f ≡ m = div-add-mod m f in
    let k : m % f < f = mod-lt m h in
    let c : f * (m / f) ≡ (m / f) * f = search (arith) in
    omega (arith, e, k, c)

-- a sound item that is no transition has a length, of at most a million seconds
pub record IsMeasured (x : ItemOf Listed) : Type 0 where
  pub ticks : ℕ
  pub length : length_of x ≡ Some ticks
  pub most : ticks ≤ most_ticks

pub measured : (x : ItemOf Listed) → is_transition x ≡ false → fault_of x ≡ None → IsMeasured x
measured x t e = of (length_of x) refl (rw t at e)
  where
    short : (n : ℕ) (c d : Bool) → cond c (cond (nat_lt most_ticks n || d) (Some Long) None) (Some Speed) ≡ None → nat_lt most_ticks n ≡ false
    short n false d m = absurd (cc m)
    short n true d m = cases (nat_lt most_ticks n) (λ g. absurd (cc (rw g at m))) (λ g. g)

    of : (o : Option ℕ) → length_of x ≡ o → judged x o ≡ None → IsMeasured x
    of None f m = absurd (cc m)
    of (Some n) f m = record { ticks = n; length = f; most = nat_most most_ticks n (short n (keeps_speed (pos 1000000) (effects_of x)) _ m) }

longest_at : (l : List (ItemOf Listed)) (i : ℕ) (x : ItemOf Listed) → slice_get l i ≡ Some x → or_zero (sight x).length ≤ longest_root l
longest_at [] i x e = absurd (cc e)
longest_at (y ∷ l) zero x e = let is : y ≡ x = cc e in let f : or_zero (sight y).length ≡ or_zero (sight x).length = ap (λ z. or_zero (sight z).length) is in omega (arith, f)
longest_at (y ∷ l) (suc i) x e = let h = longest_at l i x e in omega (arith, h)

-- ---- the track of a kind

pub kth_at : (kind : List ℕ) (l : List (ItemOf Listed)) (k : ℕ) (x : ItemOf Listed) → slice_get (filter (is_of kind) l) k ≡ Some x → (i : ℕ) × (slice_get l i ≡ Some x) × (is_of kind x ≡ true)
kth_at kind [] k x e = absurd (cc e)
kth_at kind (y ∷ l) k x e = cases (is_of kind y)
    (λ t. here k t (rw t at e) (λ j f. kth_at kind l j x f))
    (λ t. later (kth_at kind l k x (rw t at e)))
  where
    later : (i : ℕ) × (slice_get l i ≡ Some x) × (is_of kind x ≡ true) → (i : ℕ) × (slice_get (y ∷ l) i ≡ Some x) × (is_of kind x ≡ true)
    later p = (suc p.0, p.1, p.2)

    here : (j : ℕ) → is_of kind y ≡ true → slice_get (y ∷ filter (is_of kind) l) j ≡ Some x
        → ((j : ℕ) → slice_get (filter (is_of kind) l) j ≡ Some x → (i : ℕ) × (slice_get l i ≡ Some x) × (is_of kind x ≡ true)) → (i : ℕ) × (slice_get (y ∷ l) i ≡ Some x) × (is_of kind x ≡ true)
    here zero t f g = (0, f, let is : y ≡ x = cc f in subst (λ z. is_of kind z ≡ true) is t)
    here (suc j) t f g = later (g j f)

-- ---- where lists may be joined

open_by : (v : View) (l : List (ItemOf Listed)) (s : ℤ) → ((i : ℕ) (y : ItemOf Listed) (o : Overlap) → slice_get l i ≡ Some y → overlap_of y ≡ Some o → o.before ≤ℤ (s +ℤ added (take i l)))
    → AreOpen (pos 0 -ℤ s) (looks v l)
open_by v [] s f = tt
open_by v (x ∷ l) s f = (
  λ o e. let h = f 0 x o refl e in omega (arith, ints),
  subst (λ z. AreOpen z (looks v l)) (let e : pos 0 -ℤ (s +ℤ ticks x) ≡ (pos 0 -ℤ s) -ℤ ticks x = omega (arith, ints) in e)
      (open_by v l (s +ℤ ticks x) (λ i y o e k. let h = f (suc i) y o e k in omega (arith, ints))),
)

head_by : (v : View) (l : List (ItemOf Listed)) → ((y : ItemOf Listed) (o : Overlap) → slice_get l 0 ≡ Some y → overlap_of y ≡ Some o → ⊥) → HasHead (looks v l)
head_by v [] f = tt
head_by v (x ∷ l) f = of (overlap_of x) refl
  where
    of : (p : Option Overlap) → overlap_of x ≡ p → overlap_of x ≡ None
    of None e = e
    of (Some o) e = absurd (f x o refl e)

closed_by : (v : View) (l : List (ItemOf Listed)) → ((i : ℕ) (y : ItemOf Listed) (o : Overlap) → slice_get l i ≡ Some y → overlap_of y ≡ Some o → (is_empty (drop (suc i) l) ≡ false) × (o.after ≤ℤ added (drop (suc i) l)))
    → AreClosed (looks v l) × (is_empty l ≡ false → has_item (looks v l) ≡ true)
closed_by v [] f = (tt, λ e. absurd (cc e))
closed_by v (x ∷ l) f = both (closed_by v l (λ i y o e k. f (suc i) y o e k))
  where
    both : AreClosed (looks v l) × (is_empty l ≡ false → has_item (looks v l) ≡ true) → AreClosed (looks v (x ∷ l)) × (is_empty (x ∷ l) ≡ false → has_item (looks v (x ∷ l)) ≡ true)
    both rest =
        let sum = added_total v l in (
          (λ o e. let h = f 0 x o refl e in let a = h.1 in record { after = omega (arith, ints); side = rest.1 h.0 }, rest.0),
          λ e. of (overlap_of x) refl rest,
        )
      where
        of : (p : Option Overlap) → overlap_of x ≡ p → AreClosed (looks v l) × (is_empty l ≡ false → has_item (looks v l) ≡ true) → has_item (looks v (x ∷ l)) ≡ true
        of None e r = rw e refl
        of (Some o) e r = let h = f 0 x o refl e in rw e (r.1 h.0)

-- ---- what isn't refused

-- no transition of the track stands where it may not
pub record IsApart (is_first is_last : Bool) (l : List (ItemOf Listed)) : Type 0 where
  pub begins : is_first ≡ false → (i : ℕ) (y : ItemOf Listed) (o : Overlap) → slice_get l i ≡ Some y → overlap_of y ≡ Some o → begins_early l i o ≡ false
  pub ends : is_last ≡ false → (i : ℕ) (y : ItemOf Listed) (o : Overlap) → slice_get l i ≡ Some y → overlap_of y ≡ Some o → ends_late l i o ≡ false

either_false : (a b c d : Bool) → ((not a && b) || (not c && d)) ≡ false → (a ≡ false → b ≡ false) × (c ≡ false → d ≡ false)
either_false true b true d e = (λ f. absurd (cc f), λ f. absurd (cc f))
either_false true b false d e = (λ f. absurd (cc f), λ f. e)
either_false false true c d e = absurd (cc e)
either_false false false true d e = (λ f. refl, λ f. absurd (cc f))
either_false false false false d e = (λ f. refl, λ f. e)

apart : (is_first is_last : Bool) (l : List (ItemOf Listed)) (k : ℕ) (x : ItemOf Listed) → IsFree (JoinBlocks is_first is_last l) → slice_get l k ≡ Some x → is_enabled x ≡ true → IsApart is_first is_last (items_in x)
apart is_first is_last l k x f e on = record {
  begins = λ g i y o s h. (all i y o s h).0 g;
  ends = λ g i y o s h. (all i y o s h).1 g;
}
  where
    all : (i : ℕ) (y : ItemOf Listed) (o : Overlap) → slice_get (items_in x) i ≡ Some y → overlap_of y ≡ Some o → (is_first ≡ false → begins_early (items_in x) i o ≡ false) × (is_last ≡ false → ends_late (items_in x) i o ≡ false)
    all i y o s h = either_false is_first (begins_early (items_in x) i o) is_last (ends_late (items_in x) i o)
        (cases ((not is_first && begins_early (items_in x) i o) || (not is_last && ends_late (items_in x) i o))
        (λ z. absurd (f (k ∷ i ∷ []) C.Crossing (crossing (k ∷ i ∷ []) k i x y o refl e on s h z))) (λ z. z))

-- ---- the list of an input

none_ready : (rate_kept : FrameRate → FrameRate) (f : ℕ) (kind : List ℕ) (is_first is_last : Bool) (l : List (ItemOf Listed)) (o : Option (ItemOf Listed)) → ((u : ℤ) → shown_by rate_kept o u ≡ Blank)
    → Ready rate_kept f kind is_first is_last l o []
none_ready rate_kept f kind is_first is_last l o dark = record {
  good = tt;
  known = tt;
  shown = λ u. dark u ∙ sym (blank_both (within (pos 0) (pos 0) u));
  opens = λ e. tt;
  head = λ e. tt;
  closed = λ e. tt;
  short = omega (arith, ints);
}
  where
    blank_both : (b : Bool) → cond b Blank Blank ≡ Blank
    blank_both true = refl
    blank_both false = refl

pub plain_sum : (t : TrackOf Listed) (n : ℕ) → IsBare t → length_of (Track t) ≡ Some n → sum_of (lengths_seen (map sight (items_of t.children))) ≡ Some n
plain_sum t n b e =
    let h : option_map (λ (q : Range). q.len) (option_map from_zero (sum_of (lengths t.children))) ≡ Some n = rw b.range at e in
    ap (λ m. sum_of (lengths_seen m)) (sym (sights-items t.children)) ∙ ap sum_of (seen_lengths t.children) ∙ inner (sum_of (lengths t.children)) h
  where
    inner : (o : Option ℕ) → option_map (λ (q : Range). q.len) (option_map from_zero o) ≡ Some n → o ≡ Some n
    inner None m = absurd (cc m)
    inner (Some c) m = m

plain_ticks : (t : TrackOf Listed) (n : ℕ) → IsBare t → sum_of (lengths_seen (map sight (items_of t.children))) ≡ Some n → or_zero (sight (Track t)).length ≡ n
plain_ticks t n b e =
    let h : sum_of (lengths_seen (sights t.children)) ≡ Some n = ap (λ l. sum_of (lengths_seen l)) (sights-items t.children) ∙ e in
    rw (b.range, h) refl

track_ready : (rate_kept : FrameRate → FrameRate) (f : ℕ) (kind : List ℕ) (is_first is_last : Bool) (l : List (ItemOf Listed)) (i : ℕ) (t : TrackOf Listed) → 0 < f
    → slice_get l i ≡ Some (Track t) → is_plain (Track t) ≡ true → bytes_eq t.kind kind ≡ true → AreFair (items_of t.children) → IsMeasured (Track t)
    → (t.enabled ≡ true → IsApart is_first is_last (items_of t.children)) → Ready rate_kept f kind is_first is_last l (Some (Track t)) (cond t.enabled (items_of t.children) [])
track_ready rate_kept f kind is_first is_last l i t positive there plain of_kind fair long apart_when =
    let v : View = viewer rate_kept (kind) in
    let items = items_of t.children in
    let b = bare_of t plain in
    let n = long.ticks in
    let sum = plain_sum t n b long.length in
    let same : t.kind ≡ kind = (bytes_eq-Decides t.kind kind).0 of_kind in
    let own : (u : ℤ) → child_shows rate_kept (Track t) u ≡ cond (t.enabled && within (pos 0) (total (looks v items)) u) (list_shows (looks v items) u) Blank =
    λ u. any_plain rate_kept t n u b sum ∙ ap (λ z. cond (t.enabled && within (pos 0) (total (looks (viewer rate_kept (z)) items)) u) (list_shows (looks (viewer rate_kept (z)) items) u) Blank) same in
    cases t.enabled
    (λ on.
    let a = apart_when on in
    let len : or_zero (sight (Track t)).length ≡ n = plain_ticks t n b sum in
    let most = long.most in
    let top = longest_at l i (Track t) there in
    let up = rounded_low f (longest_root l) positive in
    let total_is : total (looks v items) ≡ pos n = sym (plain_total v t n b sum) ∙ ap pos len in
    let add = added_total v items in
    subst (Ready rate_kept f kind is_first is_last l (Some (Track t))) (ap (λ z. cond z items []) (sym on)) (record {
      good = good_looks v items fair;
      known = sum_known items n sum;
      shown = λ u. own u ∙ rw on refl;
      opens = λ e. opened v items (λ j y o s h. (or_parts (j == 0) (int_lt (added (take j items)) o.before) (a.begins e j y o s h)).1);
      head = λ e. head_by v items (λ y o s h. not_first (a.begins e 0 y o s h));
      closed = λ e. (closed_by v items (λ j y o s h. let z = or_parts (is_empty (drop (suc j) items)) (int_lt (added (drop (suc j) items)) o.after) (a.ends e j y o s h) in (z.0, int_lt-false (added (drop (suc j) items)) o.after z.1))).0;
      short = omega (arith, ints, len, most, top, up, total_is, add);
    }))
    (λ off. subst (Ready rate_kept f kind is_first is_last l (Some (Track t))) (ap (λ z. cond z items []) (sym off))
    (none_ready rate_kept f kind is_first is_last l (Some (Track t)) (λ u. own u ∙ rw off refl)))
  where
    not_first : true ≡ false → ⊥
    not_first e = cc e

    opened : (v : View) (m : List (ItemOf Listed)) → ((j : ℕ) (y : ItemOf Listed) (o : Overlap) → slice_get m j ≡ Some y → overlap_of y ≡ Some o → int_lt (added (take j m)) o.before ≡ false) → AreOpen (pos 0) (looks v m)
    opened v m g = subst (λ z. AreOpen z (looks v m)) (let e : pos 0 -ℤ pos 0 ≡ pos 0 = omega (arith, ints) in e)
        (open_by v m (pos 0) (λ j y o s h. let k = int_lt-false (added (take j m)) o.before (g j y o s h) in omega (arith, ints)))

    plain_total : (v : View) (t : TrackOf Listed) (n : ℕ) → IsBare t → sum_of (lengths_seen (map sight (items_of t.children))) ≡ Some n → pos (or_zero (sight (Track t)).length) ≡ total (looks v (items_of t.children))
    plain_total v t n b e = Rattle.flat_law.proofs.CutOut.plain_known v t n b e

pub ready : (rate_kept : FrameRate → FrameRate) (f : ℕ) (kind : List ℕ) (k : ℕ) (is_first is_last : Bool) (t : Timeline) → 0 < f → IsFit is_first is_last t → IsReady rate_kept f kind k is_first is_last (roots t)
ready rate_kept f kind k is_first is_last t positive fit = of (track_of kind k (roots t)) refl
  where
    track : (i : ℕ) (x : ItemOf Listed) → slice_get (roots t) i ≡ Some x → is_of kind x ≡ true → Ready rate_kept f kind is_first is_last (roots t) (Some x) (own_items (Some x))
    track i (Clip c) e o = absurd (cc o)
    track i (Gap c) e o = absurd (cc o)
    track i (Transition c) e o = absurd (cc o)
    track i (Stack c) e o = absurd (cc o)
    track i (Track c) e o =
        track_ready rate_kept f kind is_first is_last (roots t) i c positive e
        (cases (is_plain (Track c)) (λ z. z) (λ z. absurd (fit.free (i ∷ []) C.Nested (not_plain (i ∷ []) i (Track c) refl e z))))
        o (has_fair t fit.sound.calm i (Track c) e) (measured (Track c) refl (fault_free t i (Track c) fit.sound.faultless e))
        (λ on. apart is_first is_last (roots t) i (Track c) fit.free e on)

    of : (o : Option (ItemOf Listed)) → track_of kind k (roots t) ≡ o → IsReady rate_kept f kind k is_first is_last (roots t)
    of None e = subst (λ z. Ready rate_kept f kind is_first is_last (roots t) z (own_items z)) (sym e) (none_ready rate_kept f kind is_first is_last (roots t) None (λ u. refl))
    of (Some x) e = let a = kth_at kind (roots t) k x e in subst (λ z. Ready rate_kept f kind is_first is_last (roots t) z (own_items z)) (sym e) (track a.0 x a.1 a.2)

all_ready : (rate_kept : FrameRate → FrameRate) (f : ℕ) (kind : List ℕ) (k : ℕ) (is_first : Bool) (t : Timeline) (more : List Timeline) → 0 < f → AreFit is_first t more → AreReady rate_kept f kind k is_first (roots t) (map roots more)
all_ready rate_kept f kind k is_first t [] h a = ready rate_kept f kind k is_first true t h a
all_ready rate_kept f kind k is_first t (m ∷ more) h a = (ready rate_kept f kind k is_first false t h a.0, all_ready rate_kept f kind k false m more h a.1)

-- ---- the law

plain_by : (l : List (ItemOf Listed)) → ((i : ℕ) (x : ItemOf Listed) → slice_get l i ≡ Some x → is_plain x ≡ true) → ArePlainTracks l
plain_by [] f = tt
plain_by (x ∷ l) f = (f 0 x refl, plain_by l (λ i y e. f (suc i) y e))

plain_roots : (is_first is_last : Bool) (t : Timeline) → IsFit is_first is_last t → ArePlainTracks (roots t)
plain_roots is_first is_last t fit = plain_by (roots t) (λ i x e. cases (is_plain x) (λ z. z) (λ z. absurd (fit.free (i ∷ []) C.Nested (not_plain (i ∷ []) i x refl e z))))

all_plain : (is_first : Bool) (t : Timeline) (more : List Timeline) → AreFit is_first t more → AllPlain (roots t ∷ map roots more)
all_plain is_first t [] a = (plain_roots is_first true t a, tt)
all_plain is_first t (m ∷ more) a = (plain_roots is_first false t a.0, all_plain false m more a.1)

pub joined : (t r : Timeline) (more : List Timeline) (rate_kept : FrameRate → FrameRate) (j : ℕ) (s : Slot) (u : ℤ) → AreFit true t more → IsJoined t more r → slice_get (joined_slots t more) j ≡ Some s
    → at_by rate_kept r j u ≡ joined_shows (frame (rate_of t).num (rate_of t).den) rate_kept s.kind s.index (roots t) (map roots more) u
joined t r more rate_kept j s u fit is e =
    at_root rate_kept t r is.tracks j u is.is
    ∙ all_joined rate_kept (rate_of t) (roots t) (map roots more) (joined_slots t more) is.tracks j s u (good_slots [] (roots t ∷ map roots more) (all_plain true t more fit))
    (λ kind k. all_ready rate_kept (frame (rate_of t).num (rate_of t).den) kind k true t more (frame_low (rate_of t)) fit) is.are e
