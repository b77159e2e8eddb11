-- Joined timelines show in each input's stretch what that input shows.
use Rattle.std.proofs.Common.{◌≡◌, refl, sym, subst, ap, ap₂, ◌∙◌, inr, ℕ, zero, suc, ℤ, pos, ◌-ℤ◌, ◌≤ℤ◌, ◌&&◌, Bool, true, false, Option, Some, None, cond, List, [], ◌∷◌, ◌++◌, map, arith}
use Rattle.std.specs.Prelude.{int_lt, slice_get, option_map, filter}
use Rattle.std.proofs.lemmas.Int.{ints, by_lt_z}
use Rattle.tick_time.specs.declared.rates.Rate.{Rate}
use Rattle.tick_time.specs.Rates.{frame}
use Rattle.otio_model.specs.declared.compositions.ItemOf.{ItemOf}
use Rattle.otio_model.specs.declared.compositions.ItemOf.TheVariants.{Clip, Gap, Transition, Stack, Track}
use Rattle.otio_model.specs.declared.compositions.TrackOf.{TrackOf}
use Rattle.otio_model.specs.declared.compositions.Listed.{Listed}
use Rattle.otio_model.specs.Trees.{listed, items_of}
use Rattle.otio_model.specs.Lengths.{sum_of}
use Rattle.coord.specs.Looks.{Blank, Look, FrameRate, item_shows, track_shows, total}
use Rattle.otio_model.specs.Overlaps.{within}
use Rattle.coord.specs.Sights.{viewer, View, sight, looks, lengths_seen}
use Rattle.coord.specs.Programs.{child_shows, shown_by, kind_of}
use Rattle.edits.specs.Splices.{AreGood, AreItems}
use Rattle.edits.specs.Children.{Child, Old, Ranged, child_looks, all_made}
use Rattle.edits.specs.Cuts.{olds}
use Rattle.edits.specs.Edges.{added}
use Rattle.edits.specs.Steady.{are_steady, AreRangedBefore, Sees}
use Rattle.edits_law.proofs.Splice.{cases}
use Rattle.edits_law.proofs.Seams.{items_later}
use Rattle.edits_law.proofs.Shaped.{good_join}
use Rattle.edits_law.proofs.Pieces.{olds_look, append_looks}
use Rattle.coord.proofs.Members.{same_some}
use Rattle.edits_law.proofs.Made.{made_looks, first_of_two}
use Rattle.limits.proofs.IntegerTests.{below-int_lt}
use Rattle.flat.specs.Roots.{is_plain}
use Rattle.flat.specs.Joined.{track_of, own_items, stretch, pad, joined_children, Slot, slots_in, is_new, slots, joined_with, joined_track, joined_tracks, joined_shows}
use Rattle.flat_law.proofs.Givers.{bare_of}
use Rattle.flat_law.proofs.Flat.{items-listed}
use Rattle.flat_law.proofs.CutOut.{AreKnown, known_sum, AreKnownChildren, known_made, any_plain, added_total, ranged_olds, known_olds}
use Rattle.flat_law.proofs.Joins.{AreOpen, HasHead, later_of, open_join, head_join, AreClosed, IsPadded, padded_before, padded_behind}
use Rattle.flat.specs.Roots.{ArePlainTracks}

lt_none : (a b : ℤ) → b ≤ℤ a → int_lt a b ≡ false
lt_none a b h = grind (arith, ints)

-- ---- the list of one input

-- how a list looks that shows what a track does, and that may stand before and behind others
pub record Ready (rate_kept : FrameRate → FrameRate) (f : ℕ) (kind : List ℕ) (is_first is_last : Bool) (l : List (ItemOf Listed)) (o : Option (ItemOf Listed)) (own : List (ItemOf Listed)) : Type 0 where
  pub good : AreGood (looks (viewer rate_kept (kind)) own)
  pub known : AreKnown own
  pub shown : (u : ℤ) → shown_by rate_kept o u ≡ track_shows (looks (viewer rate_kept (kind)) own) u
  pub opens : is_first ≡ false → AreOpen (pos 0) (looks (viewer rate_kept (kind)) own)
  pub head : is_first ≡ false → HasHead (looks (viewer rate_kept (kind)) own)
  pub closed : is_last ≡ false → AreClosed (looks (viewer rate_kept (kind)) own)
  pub short : added own ≤ℤ stretch f l

-- the list of one input
abbrev pub IsReady : (FrameRate → FrameRate) → ℕ → List ℕ → ℕ → Bool → Bool → List (ItemOf Listed) → Type 0
IsReady rate_kept f kind k is_first is_last l = Ready rate_kept f kind is_first is_last l (track_of kind k l) (own_items (track_of kind k l))

abbrev pub AreReady : (FrameRate → FrameRate) → ℕ → List ℕ → ℕ → Bool → List (ItemOf Listed) → List (List (ItemOf Listed)) → Type 0
AreReady rate_kept f kind k is_first l [] = IsReady rate_kept f kind k is_first true l
AreReady rate_kept f kind k is_first l (m ∷ more) = IsReady rate_kept f kind k is_first false l × AreReady rate_kept f kind k false m more

-- ---- the pad

pub record IsPad (p : List Look) (n : ℤ) : Type 0 where
  pub items : AreItems p
  pub dark : (w : ℤ) → item_shows p w ≡ Blank
  pub long : total p ≡ n
  pub good : AreGood p
  pub opens : AreOpen (pos 0) p
  pub head : HasHead p

pad_is : (v : View) (n : ℤ) → pos 0 ≤ℤ n → IsPad (child_looks v (pad n)) n
pad_is v n h = by_lt_z (pos 0) n
    (λ k. let e : int_lt (pos 0) n ≡ true = grind (arith, ints) in rw e (record {
      items = (record { whole = h; item = refl }, tt);
      dark = λ w. blank_both (within (pos 0) n w);
      long = omega (arith, ints);
      good = (record { whole = h; point = λ o f. absurd (cc f); before = λ o f. absurd (cc f); after = λ o f. absurd (cc f) }, tt);
      opens = (λ o f. absurd (cc f), tt);
      head = refl;
    }))
    (λ k. let e : int_lt (pos 0) n ≡ false = grind (arith, ints) in rw e (record { items = tt; dark = λ w. refl; long = omega (arith, ints); good = tt; opens = tt; head = tt }))
  where
    blank_both : (b : Bool) → cond b Blank Blank ≡ Blank
    blank_both true = refl
    blank_both false = refl

-- ---- the joined list

-- what follows others
pub record IsTail (l : List Look) : Type 0 where
  pub good : AreGood l
  pub opens : AreOpen (pos 0) l
  pub head : HasHead l

tail_join : (l r : List Look) → IsTail l → IsTail r → IsTail (l ++ r)
tail_join l r a b = record { good = good_join l r a.good b.good; opens = open_join l r a.good a.opens b.opens; head = head_join l r a.head b.head }

abbrev pub joined_looks : (FrameRate → FrameRate) → ℕ → List ℕ → ℕ → List (ItemOf Listed) → List (List (ItemOf Listed)) → List Look
joined_looks rate_kept f kind k l more = child_looks (viewer rate_kept (kind)) (joined_children f kind k l more)

in_parts : (v : View) (own : List (ItemOf Listed)) (p r : List Child) → child_looks v (olds own ++ (p ++ r)) ≡ looks v own ++ (child_looks v p ++ child_looks v r)
in_parts v own p r = append_looks v (olds own) (p ++ r) ∙ ap₂ (λ a b. a ++ b) (olds_look v own) (append_looks v p r)

own_tail : (rate_kept : FrameRate → FrameRate) (f : ℕ) (kind : List ℕ) (k : ℕ) (is_last : Bool) (l : List (ItemOf Listed)) → IsReady rate_kept f kind k false is_last l
    → IsTail (looks (viewer rate_kept (kind)) (own_items (track_of kind k l)))
own_tail rate_kept f kind k is_last l r = record { good = r.good; opens = r.opens refl; head = r.head refl }

tail_of : (rate_kept : FrameRate → FrameRate) (f : ℕ) (kind : List ℕ) (k : ℕ) (l : List (ItemOf Listed)) (more : List (List (ItemOf Listed))) → AreReady rate_kept f kind k false l more → IsTail (joined_looks rate_kept f kind k l more)
tail_of rate_kept f kind k l [] r = subst IsTail (sym (olds_look (viewer rate_kept (kind)) (own_items (track_of kind k l)))) (own_tail rate_kept f kind k true l r)
tail_of rate_kept f kind k l (m ∷ more) r =
    let v : View = viewer rate_kept (kind) in
    let own = own_items (track_of kind k l) in
    let one = r.0 in
    let short = one.short in
    let p = pad_is v (stretch f l -ℤ added own) (omega (arith, ints)) in
    let rest = tail_of rate_kept f kind k m more r.1 in
    subst IsTail (sym (in_parts v own (pad (stretch f l -ℤ added own)) (joined_children f kind k m more)))
    (tail_join (looks v own) (child_looks v (pad (stretch f l -ℤ added own)) ++ joined_looks rate_kept f kind k m more) (own_tail rate_kept f kind k false l one)
    (tail_join (child_looks v (pad (stretch f l -ℤ added own))) (joined_looks rate_kept f kind k m more) (record { good = p.good; opens = p.opens; head = p.head }) rest))

pub looks_show : (rate_kept : FrameRate → FrameRate) (f : ℕ) (kind : List ℕ) (k : ℕ) (is_first : Bool) (l : List (ItemOf Listed)) (more : List (List (ItemOf Listed))) (u : ℤ) → AreReady rate_kept f kind k is_first l more
    → track_shows (joined_looks rate_kept f kind k l more) u ≡ joined_shows f rate_kept kind k l more u
looks_show rate_kept f kind k is_first l [] u r = ap (λ q. track_shows q u) (olds_look (viewer rate_kept (kind)) (own_items (track_of kind k l))) ∙ sym (r.shown u)
looks_show rate_kept f kind k is_first l (m ∷ more) u r =
    let v : View = viewer rate_kept (kind) in
    let own = own_items (track_of kind k l) in
    let one = r.0 in
    let short = one.short in
    let n = stretch f l in
    let p = pad_is v (n -ℤ added own) (omega (arith, ints)) in
    let rest = tail_of rate_kept f kind k m more r.1 in
    let later = later_of (joined_looks rate_kept f kind k m more) rest.good rest.opens rest.head in
    let sum = added_total v own in let pad_long = p.long in
    let parts : IsPadded (looks v own) (child_looks v (pad (n -ℤ added own))) (joined_looks rate_kept f kind k m more) n = record {
      good = one.good;
      closed = one.closed refl;
      gap = p.items;
      dark = p.dark;
      long = omega (arith, ints);
      rest_good = rest.good;
      rest = later;
      gap_rest = items_later (child_looks v (pad (n -ℤ added own))) (joined_looks rate_kept f kind k m more) p.items later;
    } in
    ap (λ q. track_shows q u) (in_parts v own (pad (n -ℤ added own)) (joined_children f kind k m more))
    ∙ by_lt_z u n
    (λ h. rw (below-int_lt u n h) (padded_before (looks v own) (child_looks v (pad (n -ℤ added own))) (joined_looks rate_kept f kind k m more) n u parts h ∙ sym (one.shown u)))
    (λ h. rw (lt_none u n h) (padded_behind (looks v own) (child_looks v (pad (n -ℤ added own))) (joined_looks rate_kept f kind k m more) n u parts h
    ∙ looks_show rate_kept f kind k false m more (u -ℤ n) r.1))

-- ---- its children as items

steady_append : (a b : List Child) → are_steady a ≡ true → are_steady b ≡ true → are_steady (a ++ b) ≡ true
steady_append [] b e f = f
steady_append (c ∷ a) b e f = of (Rattle.edits.specs.Steady.is_steady c) e (λ g. steady_append a b g f)
  where
    of : (s : Bool) → (s && are_steady a) ≡ true → (are_steady a ≡ true → are_steady (a ++ b) ≡ true) → (s && are_steady (a ++ b)) ≡ true
    of true g h = h g
    of false g h = absurd (cc g)

steady_olds : (l : List (ItemOf Listed)) → are_steady (olds l) ≡ true
steady_olds [] = refl
steady_olds (x ∷ l) = steady_olds l

steady_pad : (n : ℤ) → are_steady (pad n) ≡ true
steady_pad n = cases (int_lt (pos 0) n) (λ e. rw e refl) (λ e. rw e refl)

steady_joined : (f : ℕ) (kind : List ℕ) (k : ℕ) (l : List (ItemOf Listed)) (more : List (List (ItemOf Listed))) → are_steady (joined_children f kind k l more) ≡ true
steady_joined f kind k l [] = steady_olds (own_items (track_of kind k l))
steady_joined f kind k l (m ∷ more) =
    steady_append (olds (own_items (track_of kind k l))) _ (steady_olds (own_items (track_of kind k l)))
    (steady_append (pad (stretch f l -ℤ added (own_items (track_of kind k l)))) _ (steady_pad (stretch f l -ℤ added (own_items (track_of kind k l)))) (steady_joined f kind k m more))

ranged_append : (a b : List Child) → AreRangedBefore a → AreRangedBefore b → AreRangedBefore (a ++ b)
ranged_append [] b e f = f
ranged_append (c ∷ a) b e f = (e.0, ranged_append a b e.1 f)

ranged_pad : (n : ℤ) → AreRangedBefore (pad n)
ranged_pad n = cases (int_lt (pos 0) n) (λ e. rw e (tt, tt)) (λ e. rw e tt)

ranged_joined : (f : ℕ) (kind : List ℕ) (k : ℕ) (l : List (ItemOf Listed)) (more : List (List (ItemOf Listed))) → AreRangedBefore (joined_children f kind k l more)
ranged_joined f kind k l [] = ranged_olds (own_items (track_of kind k l))
ranged_joined f kind k l (m ∷ more) =
    ranged_append (olds (own_items (track_of kind k l))) _ (ranged_olds (own_items (track_of kind k l)))
    (ranged_append (pad (stretch f l -ℤ added (own_items (track_of kind k l)))) _ (ranged_pad (stretch f l -ℤ added (own_items (track_of kind k l)))) (ranged_joined f kind k m more))

known_append : (a b : List Child) → AreKnownChildren a → AreKnownChildren b → AreKnownChildren (a ++ b)
known_append [] b e f = f
known_append ((Old x) ∷ a) b e f = (e.0, known_append a b e.1 f)
known_append ((Ranged x s n) ∷ a) b e f = known_append a b e f

known_pad : (n : ℤ) → AreKnownChildren (pad n)
known_pad n = cases (int_lt (pos 0) n) (λ e. rw e tt) (λ e. rw e tt)

known_joined : (rate_kept : FrameRate → FrameRate) (f : ℕ) (kind : List ℕ) (k : ℕ) (is_first : Bool) (l : List (ItemOf Listed)) (more : List (List (ItemOf Listed))) → AreReady rate_kept f kind k is_first l more
    → AreKnownChildren (joined_children f kind k l more)
known_joined rate_kept f kind k is_first l [] r = known_olds (own_items (track_of kind k l)) r.known
known_joined rate_kept f kind k is_first l (m ∷ more) r = let one = r.0 in
    known_append (olds (own_items (track_of kind k l))) _ (known_olds (own_items (track_of kind k l)) one.known)
    (known_append (pad (stretch f l -ℤ added (own_items (track_of kind k l)))) _ (known_pad (stretch f l -ℤ added (own_items (track_of kind k l)))) (known_joined rate_kept f kind k false m more r.1))

-- ---- one joined track

pub record IsGoodSlot (s : Slot) : Type 0 where
  pub plain : is_plain s.first ≡ true
  pub kind : kind_of s.first ≡ s.kind

mapped : (x y : ItemOf Listed) (o : Option (List (ItemOf Listed))) → option_map (joined_with x) o ≡ Some y → (m : List (ItemOf Listed)) × (o ≡ Some m) × (joined_with x m ≡ y)
mapped x y None e = absurd (cc e)
mapped x y (Some m) e = (m, refl, same_some _ y e)

pub track_joined : (rate_kept : FrameRate → FrameRate) (r : Rate) (l : List (ItemOf Listed)) (more : List (List (ItemOf Listed))) (kind : List ℕ) (k : ℕ) (x y : ItemOf Listed) (u : ℤ)
    → is_plain x ≡ true → kind_of x ≡ kind → AreReady rate_kept (frame r.num r.den) kind k true l more
    → option_map (joined_with x) (all_made r (joined_children (frame r.num r.den) kind k l more)) ≡ Some y
    → child_shows rate_kept y u ≡ joined_shows (frame r.num r.den) rate_kept kind k l more u
track_joined rate_kept r l more kind k (Clip c) y u p same ready e = absurd (cc p)
track_joined rate_kept r l more kind k (Gap c) y u p same ready e = absurd (cc p)
track_joined rate_kept r l more kind k (Transition c) y u p same ready e = absurd (cc p)
track_joined rate_kept r l more kind k (Stack c) y u p same ready e = absurd (cc p)
track_joined rate_kept r l more kind k (Track t) y u p same ready e =
    let f = frame r.num r.den in
    let v : View = viewer rate_kept (t.kind) in
    let w : View = viewer rate_kept (kind) in
    let b = bare_of t p in
    let m = mapped (Track t) y (all_made r (joined_children f kind k l more)) e in
    let new : TrackOf Listed = record t { enabled = true; children = listed m.0 } in
    let is = items-listed m.0 in
    let sum = known_sum m.0 (known_made r (joined_children f kind k l more) m.0 m.1 (known_joined rate_kept f kind k true l more ready)) in
    let new_sum : sum_of (lengths_seen (map sight (items_of new.children))) ≡ Some sum.0 = ap (λ q. sum_of (lengths_seen (map sight q))) is ∙ sum.1 in
    ap (λ z. child_shows rate_kept z u) (sym m.2)
    ∙ any_plain rate_kept new sum.0 u (record { range = b.range; effects = b.effects }) new_sum
    ∙ ap (λ q. track_shows (looks v q) u) is
    ∙ ap (λ z. track_shows (looks (viewer rate_kept (z)) m.0) u) same
    ∙ ap (λ q. track_shows q u) (made_looks w r (joined_children f kind k l more) m.0 m.1 (ranged_joined f kind k l more) (inr (steady_joined f kind k l more)))
    ∙ looks_show rate_kept f kind k true l more u ready

-- ---- all slots

abbrev pub AreGoodSlots : List Slot → Type 0
AreGoodSlots [] = Unit {0}
AreGoodSlots (s ∷ l) = IsGoodSlot s × AreGoodSlots l

good_in : (before l : List (ItemOf Listed)) → ArePlainTracks l → AreGoodSlots (slots_in before l)
good_in before [] p = tt
good_in before (x ∷ l) p = (record { plain = p.0; kind = refl }, good_in (before ++ x ∷ []) l p.1)

good_filter : (test : Slot → Bool) (l : List Slot) → AreGoodSlots l → AreGoodSlots (filter test l)
good_filter test [] g = tt
good_filter test (s ∷ l) g = cases (test s) (λ e. rw e (g.0, good_filter test l g.1)) (λ e. rw e (good_filter test l g.1))

good_append : (a b : List Slot) → AreGoodSlots a → AreGoodSlots b → AreGoodSlots (a ++ b)
good_append [] b g h = h
good_append (s ∷ a) b g h = (g.0, good_append a b g.1 h)

abbrev pub AllPlain : List (List (ItemOf Listed)) → Type 0
AllPlain [] = Unit {0}
AllPlain (l ∷ more) = ArePlainTracks l × AllPlain more

pub good_slots : (earlier inputs : List (List (ItemOf Listed))) → AllPlain inputs → AreGoodSlots (slots earlier inputs)
good_slots earlier [] p = tt
good_slots earlier (l ∷ more) p = good_append (filter (is_new earlier) (slots_in [] l)) _ (good_filter (is_new earlier) (slots_in [] l) (good_in [] l p.0)) (good_slots (earlier ++ l ∷ []) more p.1)

pub all_joined : (rate_kept : FrameRate → FrameRate) (r : Rate) (l : List (ItemOf Listed)) (more : List (List (ItemOf Listed))) (ss : List Slot) (m : List (ItemOf Listed)) (j : ℕ) (s : Slot) (u : ℤ)
    → AreGoodSlots ss → ((kind : List ℕ) (k : ℕ) → AreReady rate_kept (frame r.num r.den) kind k true l more) → joined_tracks r l more ss ≡ Some m → slice_get ss j ≡ Some s
    → shown_by rate_kept (slice_get m j) u ≡ joined_shows (frame r.num r.den) rate_kept s.kind s.index l more u
all_joined rate_kept r l more [] m j s u g ready e f = absurd (cc f)
all_joined rate_kept r l more (q ∷ ss) m zero s u g ready e f =
    let two = first_of_two (joined_track r l more q) (joined_tracks r l more ss) m e in
    let one = g.0 in
    ap (λ z. shown_by rate_kept (slice_get z 0) u) two.4
    ∙ track_joined rate_kept r l more q.kind q.index q.first two.0 u one.plain one.kind (ready q.kind q.index) two.2
    ∙ ap (λ (z : Slot). joined_shows (frame r.num r.den) rate_kept z.kind z.index l more u) (let is : q ≡ s = cc f in is)
all_joined rate_kept r l more (q ∷ ss) m (suc j) s u g ready e f =
    let two = first_of_two (joined_track r l more q) (joined_tracks r l more ss) m e in
    ap (λ z. shown_by rate_kept (slice_get z (suc j)) u) two.4 ∙ all_joined rate_kept r l more ss two.1 j s u g.1 ready two.3 f
