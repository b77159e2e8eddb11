-- The record frames of root children, one after another.
use Rattle.std.proofs.Common.{◌≡◌, refl, sym, ap, ap₂, subst, ◌∙◌, ℕ, zero, suc, ◌+◌, ◌*◌, ◌%◌, ◌<◌, ◌≤◌, ◌^◌, Bool, ℤ, pos, negsuc, ◌+ℤ◌, ◌-ℤ◌, ◌*ℤ◌, ◌≤ℤ◌, ◌<ℤ◌, ◌⊎◌, inl, inr, ◌↔◌, List, [], ◌∷◌, drop, length, map, Option, Some, None, slice_get, arith}
use Rattle.std.specs.Int.{div_ceil}
use Rattle.std.specs.List.{Contains}
use Rattle.std.proofs.Math.IntN.{pos-*ℤ-pos}
use Rattle.std.proofs.Math.Nat.{div-le_self, lt_of_mul-lt-mul_right, min-le_left, mul-le-mul_right}
use Rattle.std.proofs.lemmas.Bool.{cases_lt}
use Rattle.std.proofs.lemmas.Grind.{div_ceil_times}
use Rattle.std.proofs.lemmas.Int.{ints, by_lt_z}
use Rattle.std.proofs.lemmas.Option.{same_Some, slice_get_within}
use Rattle.otio_model.specs.declared.compositions.Clip.{Clip as ClipRow}
use Rattle.otio_model.specs.declared.compositions.ItemOf.{ItemOf}
use Rattle.otio_model.specs.declared.compositions.Listed.{Listed}
use Rattle.otio_model.specs.declared.timelines.Timeline.{Timeline}
use Rattle.otio_model.specs.Counts.{count}
use Rattle.otio_model.specs.Lengths.{added, lengths, length_of, or_zero}
use Rattle.otio_model.specs.Trees.{items_of}
use Rattle.otio_model.proofs.LengthLimits.{few_enough, short_enough}
use Rattle.coord.specs.Looks.{FrameRate, Show}
use Rattle.coord.specs.Programs.{child_shows, frame_ticks, instant, record_rate, shown_by, start_frame}
use Rattle.coord.proofs.Members.{next, none_left}
use Rattle.coord.proofs.SightLemmas.{lengths-items}
use Rattle.show_prog.proofs.Roots.{child_before, child_behind, program_of}
use Rattle.coord.proofs.ChildStarts.{added_more}
use Rattle.pull_list.specs.Found.{AddsChild, AddsShown, AddsUsed, Collects, HasClip, IsShown, IsShownIn, IsUsedBy, clips_of_item, frame_shown}
use Rattle.pull_list.specs.Record.{frames_in}
use Rattle.pull_list.specs.Runs.{Each, Has, IsRun, IsWithin, far}
use Rattle.pull_list.specs.Used.{ClipGroup, IsSeen, IsUsed}
use Rattle.pull_list.specs.Wanted.{clips_of}
use Rattle.pull_list.specs.declared.runs.Run.{Run}
use Rattle.pull_list.proofs.Collecting.{clip_below, collects_as}

-- ---- how many frames

frames_below : (ticks : ℕ) (ns : List (Option ℕ)) → frames_in ticks ns ≤ added ns + length ns
frames_below ticks [] = omega arith
frames_below ticks (n ∷ ns) =
    let a = div-le_self (or_zero n) ticks in let b = min-le_left 1 (or_zero n % ticks) in
    omega (arith, a, b, frames_below ticks ns, added_more n ns)

length_lengths : (xs : List (ItemOf Listed)) → length (map length_of xs) ≡ length xs
length_lengths [] = refl
length_lengths (x ∷ xs) = ap suc (length_lengths xs)

-- the frames of items from an index on
abbrev pub frames_from : ℕ → Listed → ℕ → ℕ
frames_from ticks l i = frames_in ticks (map length_of (drop i (items_of l)))

-- those of one child
abbrev pub frames_of_child : ℕ → ItemOf Listed → ℕ
frames_of_child ticks x = div_ceil (or_zero (length_of x)) ticks

pub frames_all : (ticks : ℕ) (l : Listed) → frames_from ticks l 0 ≡ frames_in ticks (lengths l)
frames_all ticks l = ap (frames_in ticks) (lengths-items l)

pub frames_next : (ticks : ℕ) (l : Listed) (i : ℕ) (x : ItemOf Listed)
    → slice_get (items_of l) i ≡ Some x
    → frames_from ticks l i ≡ frames_of_child ticks x + frames_from ticks l (i + 1)
frames_next ticks l i x e =
    ap (λ (xs : List (ItemOf Listed)). frames_in ticks (map length_of xs)) (next (items_of l) i x e)

pub frames_none : (ticks : ℕ) (l : Listed) (i : ℕ) → length (items_of l) ≤ i
    → frames_from ticks l i ≡ 0
frames_none ticks l i h =
    ap (λ (xs : List (ItemOf Listed)). frames_in ticks (map length_of xs)) (none_left (items_of l) i h)

pub frames_fit : (ticks : ℕ) (l : Listed) → count l < 2 ^ 32 → frames_in ticks (lengths l) < 2 ^ 128
frames_fit ticks l few =
    let a = frames_below ticks (lengths l) in let b = short_enough l few in
    let c = few_enough l few in
    let d : length (lengths l) ≡ length (items_of l) = ap length (sym (lengths-items l))
    ∙ length_lengths (items_of l) in
    omega (arith, a, b, c, d)

member_frames : (ticks : ℕ) (xs : List (ItemOf Listed)) (i : ℕ) (x : ItemOf Listed)
    → slice_get xs i ≡ Some x → frames_of_child ticks x ≤ frames_in ticks (map length_of xs)
member_frames ticks [] zero x e = absurd (cc e)
member_frames ticks [] (suc i) x e = absurd (cc e)
member_frames ticks (y ∷ xs) zero x e =
    let same : frames_of_child ticks y ≡ frames_of_child ticks x =
    ap (frames_of_child ticks) (same_Some y x e) in
    omega (arith, same)
member_frames ticks (y ∷ xs) (suc i) x e = omega (arith, member_frames ticks xs i x e)

-- no child has more frames than all have together
pub frames_one : (ticks : ℕ) (l : Listed) (i : ℕ) (x : ItemOf Listed)
    → slice_get (items_of l) i ≡ Some x → frames_of_child ticks x ≤ frames_in ticks (lengths l)
frames_one ticks l i x e =
    subst (λ ns. frames_of_child ticks x ≤ frames_in ticks ns) (lengths-items l)
    (member_frames ticks (items_of l) i x e)

-- a child has few where all have few together
pub bounded_by : (l : Listed) (ticks frame : ℕ) (n : ℕ) → ticks ≡ frame
    → n ≤ frames_in ticks (lengths l) → (10000000 < frames_in frame (lengths l) → ⊥) → n ≤ 10000000
bounded_by l ticks frame n e one few = by (cases_lt 10000000 (frames_in frame (lengths l)))
  where
    by : (10000000 < frames_in frame (lengths l)) ⊎ (frames_in frame (lengths l) ≤ 10000000)
        → n ≤ 10000000
    by (inl lt) = absurd (few lt)
    by (inr le) =
        let all = subst (λ t. n ≤ frames_in t (lengths l)) e one in omega (arith, all, le)

-- ---- where frames start

-- a frame of an item starts in it
pub frame_in : (len ticks n : ℕ) → 0 < ticks → n < div_ceil len ticks → n * ticks < len
frame_in len ticks n some lt =
    let a = (div_ceil_times len ticks some).1 in
    let b : (n + 1) * ticks ≤ div_ceil len ticks * ticks = mul-le-mul_right ticks (omega (arith, lt)) in
    let c : (n + 1) * ticks ≡ n * ticks + ticks = omega arith in
    omega (arith, a, b, c)

-- the same, as the code reckons it
pub starts_in : (len ticks n : ℕ) (at : ℤ) → 1000000 ≤ ticks → n < div_ceil len ticks
    → at ≡ pos n *ℤ pos ticks → at <ℤ pos len
starts_in len ticks n at some lt f =
    let m = frame_in len ticks n (omega (arith, some)) lt in
    let g = f ∙ pos-*ℤ-pos n ticks in omega (arith, ints, m, g)

-- and what starts in it is one of them
pub in_frame : (len ticks n : ℕ) → 0 < ticks → n * ticks < len → n < div_ceil len ticks
in_frame len ticks n some lt =
    let a = (div_ceil_times len ticks some).0 in
    lt_of_mul-lt-mul_right ticks (omega (arith, a, lt))

-- a whole number of frames that isn't below 0
natural_of : (d : ℤ) (ticks : ℕ) → 0 < ticks → pos 0 ≤ℤ (d *ℤ pos ticks) → (n : ℕ) × (d ≡ pos n)
natural_of (pos n) ticks some low = (n, refl)
natural_of (negsuc n) zero some low = absurd (omega (arith, some))
natural_of (negsuc n) (suc b) some low = absurd (omega (arith, ints, low))

-- ---- one child

pub child_starts : (groups : List ClipGroup) (x : ItemOf Listed) (ticks : ℕ) (old : List Run)
    → Each IsRun old → AddsChild groups x ticks 0 old old
child_starts groups x ticks old runs = record {
  has = λ k v. (λ h. inl h, by k v);
  are_runs = runs;
  within = λ h. h;
  among = λ n g v lt seen. absurd (omega (arith, lt));
}
  where
    by : (k : ℕ) (v : ℤ) → Has old k v ⊎ IsShownIn groups x ticks 0 k v → Has old k v
    by k v (inl h) = h
    by k v (inr h) = let l = h.low in absurd (omega (arith, l))

child_next : (groups : List ClipGroup) (x : ItemOf Listed) (ticks n : ℕ) (old mid new : List Run)
    → AddsChild groups x ticks n old mid
    → AddsShown groups (clips_of_item x) mid new (frame_shown x ticks n)
    → AddsChild groups x ticks (n + 1) old new
child_next groups x ticks n old mid new a b = record {
  has = λ k v. (
    λ h. there k v ((b.takes.has k v).0 h),
    λ h. (b.takes.has k v).1 (back k v h),
  );
  are_runs = b.takes.runs;
  within = λ h. b.takes.within (a.within h);
  among = λ m g v lt seen. by m g v (cases_lt m n) lt seen;
}
  where
    first : (k : ℕ) (v : ℤ) → Has old k v ⊎ IsShownIn groups x ticks n k v
        → Has old k v ⊎ IsShownIn groups x ticks (n + 1) k v
    first k v (inl h) = inl h
    first k v (inr h) = let l = h.low in
        inr (record { frame = h.frame; low = omega (arith, l); shown = h.shown })

    there : (k : ℕ) (v : ℤ) → Has mid k v ⊎ IsShown groups (frame_shown x ticks n) k v
        → Has old k v ⊎ IsShownIn groups x ticks (n + 1) k v
    there k v (inl h) = first k v ((a.has k v).0 h)
    there k v (inr h) = inr (record { frame = n; low = omega arith; shown = h })

    last : (k : ℕ) (v : ℤ) (m : ℕ) → (m < n) ⊎ (n ≤ m) → m < n + 1
        → IsShown groups (frame_shown x ticks m) k v
        → Has mid k v ⊎ IsShown groups (frame_shown x ticks n) k v
    last k v m (inl lt) low h = inl ((a.has k v).1 (inr (record { frame = m; low = lt; shown = h })))
    last k v m (inr le) low h =
        let same : m ≡ n = omega (arith, le, low) in
        inr (subst (λ j. IsShown groups (frame_shown x ticks j) k v) same h)

    back : (k : ℕ) (v : ℤ) → Has old k v ⊎ IsShownIn groups x ticks (n + 1) k v
        → Has mid k v ⊎ IsShown groups (frame_shown x ticks n) k v
    back k v (inl h) = inl ((a.has k v).1 (inl h))
    back k v (inr h) = last k v h.frame (cases_lt h.frame n) h.low h.shown

    by : (m : ℕ) (g : ClipGroup) (v : ℤ) → (m < n) ⊎ (n ≤ m) → m < n + 1
        → IsSeen g v (frame_shown x ticks m) → HasClip (clips_of_item x) g
    by m g v (inl lt) low seen = a.among m g v lt seen
    by m g v (inr le) low seen =
        let same : m ≡ n = omega (arith, le, low) in
        b.among g v (subst (λ j. IsSeen g v (frame_shown x ticks j)) same seen)

pub child_goes : (groups mids : List ClipGroup) (x : ItemOf Listed) (ticks n : ℕ) (old mid new : List Run)
    (u : ℤ) → AddsChild groups x ticks n old mid → mids ≡ groups
    → AddsShown mids (clips_of_item x) mid new (child_shows (λ rate. rate) x u)
    → u ≡ pos n *ℤ pos ticks → AddsChild groups x ticks (n + 1) old new
child_goes groups mids x ticks n old mid new u a e b f =
    child_next groups x ticks n old mid new a
    (subst (λ z. AddsShown groups (clips_of_item x) mid new (child_shows (λ rate. rate) x z)) f
    (subst (λ g. AddsShown g (clips_of_item x) mid new (child_shows (λ rate. rate) x u)) e b))

-- ---- the root children

-- a root child before an index shows the frame
pub record IsRootShown (groups : List ClipGroup) (t : Timeline) (ticks i k : ℕ) (v : ℤ) : Type 0 where
  pub root : ℕ
  pub below : root < i
  pub item : ItemOf Listed
  pub here : slice_get (items_of t.tracks.children) root ≡ Some item
  pub shown : IsShownIn groups item ticks (frames_of_child ticks item) k v

-- the frames of the root children before an index were taken in
pub record AddsRoots (groups : List ClipGroup) (t : Timeline) (ticks i : ℕ) (old new : List Run) : Type 0
  where
    pub has : (k : ℕ) (v : ℤ) → Has new k v ↔ (Has old k v ⊎ IsRootShown groups t ticks i k v)
    pub are_runs : Each IsRun new
    pub within : Each (IsWithin far) old → Each (IsWithin far) new
    pub among : (root : ℕ) (x : ItemOf Listed) → root < i
        → slice_get (items_of t.tracks.children) root ≡ Some x → (n : ℕ) (g : ClipGroup) (v : ℤ)
        → n < frames_of_child ticks x → IsSeen g v (frame_shown x ticks n) → HasClip (clips_of t) g

pub roots_start : (groups : List ClipGroup) (t : Timeline) (ticks : ℕ) (old : List Run)
    → Each IsRun old → AddsRoots groups t ticks 0 old old
roots_start groups t ticks old runs = record {
  has = λ k v. (λ h. inl h, by k v);
  are_runs = runs;
  within = λ h. h;
  among = λ root x lt e n g v l seen. absurd (omega (arith, lt));
}
  where
    by : (k : ℕ) (v : ℤ) → Has old k v ⊎ IsRootShown groups t ticks 0 k v → Has old k v
    by k v (inl h) = h
    by k v (inr h) = let l = h.below in absurd (omega (arith, l))

roots_next : (groups : List ClipGroup) (t : Timeline) (ticks i : ℕ) (x : ItemOf Listed)
    (old mid new : List Run) → slice_get (items_of t.tracks.children) i ≡ Some x
    → AddsRoots groups t ticks i old mid
    → AddsChild groups x ticks (frames_of_child ticks x) mid new
    → AddsRoots groups t ticks (i + 1) old new
roots_next groups t ticks i x old mid new e a b = record {
  has = λ k v. (λ h. there k v ((b.has k v).0 h), λ h. (b.has k v).1 (back k v h));
  are_runs = b.are_runs;
  within = λ h. b.within (a.within h);
  among = λ root y lt f n g v l seen. by root y (cases_lt root i) lt f n g v l seen;
}
  where
    first : (k : ℕ) (v : ℤ) → Has old k v ⊎ IsRootShown groups t ticks i k v
        → Has old k v ⊎ IsRootShown groups t ticks (i + 1) k v
    first k v (inl h) = inl h
    first k v (inr h) = let l = h.below in inr (record {
      root = h.root;
      below = omega (arith, l);
      item = h.item;
      here = h.here;
      shown = h.shown;
    })

    there : (k : ℕ) (v : ℤ)
        → Has mid k v ⊎ IsShownIn groups x ticks (frames_of_child ticks x) k v
        → Has old k v ⊎ IsRootShown groups t ticks (i + 1) k v
    there k v (inl h) = first k v ((a.has k v).0 h)
    there k v (inr h) = inr (record { root = i; below = omega arith; item = x; here = e; shown = h })

    same_item : (root : ℕ) (y : ItemOf Listed) → i ≤ root → root < i + 1
        → slice_get (items_of t.tracks.children) root ≡ Some y → y ≡ x
    same_item root y le lt f =
        let same : root ≡ i = omega (arith, le, lt) in
        same_Some y x (sym f ∙ ap (slice_get (items_of t.tracks.children)) same ∙ e)

    last : (k : ℕ) (v : ℤ) (root : ℕ) (y : ItemOf Listed) → (root < i) ⊎ (i ≤ root) → root < i + 1
        → slice_get (items_of t.tracks.children) root ≡ Some y
        → IsShownIn groups y ticks (frames_of_child ticks y) k v
        → Has mid k v ⊎ IsShownIn groups x ticks (frames_of_child ticks x) k v
    last k v root y (inl lt) low f h =
        inl ((a.has k v).1 (inr (record { root = root; below = lt; item = y; here = f; shown = h })))
    last k v root y (inr le) low f h =
        inr (subst (λ z. IsShownIn groups z ticks (frames_of_child ticks z) k v)
        (same_item root y le low f) h)

    back : (k : ℕ) (v : ℤ) → Has old k v ⊎ IsRootShown groups t ticks (i + 1) k v
        → Has mid k v ⊎ IsShownIn groups x ticks (frames_of_child ticks x) k v
    back k v (inl h) = inl ((a.has k v).1 (inl h))
    back k v (inr h) = last k v h.root h.item (cases_lt h.root i) h.below h.here h.shown

    up : (g : ClipGroup) → HasClip (clips_of_item x) g → HasClip (clips_of t) g
    up g h = record {
      clip = h.clip;
      among = clip_below t.tracks.children i x e h.clip h.among;
      is = h.is;
    }

    by : (root : ℕ) (y : ItemOf Listed) → (root < i) ⊎ (i ≤ root) → root < i + 1
        → slice_get (items_of t.tracks.children) root ≡ Some y → (n : ℕ) (g : ClipGroup) (v : ℤ)
        → n < frames_of_child ticks y → IsSeen g v (frame_shown y ticks n) → HasClip (clips_of t) g
    by root y (inl lt) low f n g v l seen = a.among root y lt f n g v l seen
    by root y (inr le) low f n g v l seen =
        let same = same_item root y le low f in
        up g (b.among n g v (subst (λ z. n < frames_of_child ticks z) same l)
        (subst (λ z. IsSeen g v (frame_shown z ticks n)) same seen))

pub roots_go : (groups mids : List ClipGroup) (t : Timeline) (ticks i : ℕ) (x : ItemOf Listed)
    (old mid new : List Run) → slice_get (items_of t.tracks.children) i ≡ Some x
    → AddsRoots groups t ticks i old mid → mids ≡ groups
    → AddsChild mids x ticks (frames_of_child ticks x) mid new
    → AddsRoots groups t ticks (i + 1) old new
roots_go groups mids t ticks i x old mid new e a f b =
    roots_next groups t ticks i x old mid new e a
    (subst (λ g. AddsChild g x ticks (frames_of_child ticks x) mid new) f b)

-- ---- what a timeline uses

-- a root child shows the frame of the group at one of its record frames
record IsShownAt (t : Timeline) (ticks : ℕ) (g : ClipGroup) (v : ℤ) : Type 0 where
  root : ℕ
  item : ItemOf Listed
  here : slice_get (items_of t.tracks.children) root ≡ Some item
  frame : ℕ
  low : frame < frames_of_child ticks item
  seen : IsSeen g v (frame_shown item ticks frame)

abbrev same_rate : FrameRate → FrameRate
same_rate = λ rate. rate

used_in : (t : Timeline) (ticks : ℕ) (g : ClipGroup) (v : ℤ) (k : ℕ) (at d : ℤ) (x : ItemOf Listed)
    → ticks ≡ frame_ticks (record_rate t) → 0 < ticks → d ≡ at -ℤ start_frame t
    → slice_get (items_of t.tracks.children) k ≡ Some x
    → IsSeen g v (child_shows same_rate x (d *ℤ pos ticks)) → pos 0 ≤ℤ (d *ℤ pos ticks)
    → (d *ℤ pos ticks) <ℤ pos (or_zero (length_of x)) → IsShownAt t ticks g v
used_in t ticks g v k at d x e some f here seen low high =
    let n = natural_of d ticks some low in
    let high' = subst (λ z. (z *ℤ pos ticks) <ℤ pos (or_zero (length_of x))) n.1 high in
    let whole = subst (λ z. z <ℤ pos (or_zero (length_of x))) (pos-*ℤ-pos n.0 ticks) high' in
    let less : n.0 * ticks < or_zero (length_of x) = omega (arith, ints, whole) in record {
      root = k;
      item = x;
      here = here;
      frame = n.0;
      low = in_frame (or_zero (length_of x)) ticks n.0 some less;
      seen = subst (λ z. IsSeen g v (child_shows same_rate x (z *ℤ pos ticks))) n.1 seen;
    }

used_of_child : (t : Timeline) (ticks : ℕ) (g : ClipGroup) (v : ℤ) (k : ℕ) (at d : ℤ) (x : ItemOf Listed)
    → ticks ≡ frame_ticks (record_rate t) → 0 < ticks → d ≡ at -ℤ start_frame t
    → slice_get (items_of t.tracks.children) k ≡ Some x
    → IsSeen g v (child_shows same_rate x (d *ℤ pos ticks)) → IsShownAt t ticks g v
used_of_child t ticks g v k at d x e some f here seen =
    by_lt_z (d *ℤ pos ticks) (pos 0)
    (λ below. absurd (subst (IsSeen g v) (sym (child_before x (d *ℤ pos ticks) below)) seen))
    (λ low. by_lt_z (d *ℤ pos ticks) (pos (or_zero (length_of x)))
    (λ high. used_in t ticks g v k at d x e some f here seen low high)
    (λ behind. absurd (subst (IsSeen g v) (sym (child_behind x (d *ℤ pos ticks) behind)) seen)))

used_by_child : (t : Timeline) (ticks : ℕ) (g : ClipGroup) (v : ℤ) (k : ℕ) (at : ℤ)
    (o : Option (ItemOf Listed)) → ticks ≡ frame_ticks (record_rate t) → 0 < ticks
    → slice_get (items_of t.tracks.children) k ≡ o
    → IsSeen g v (shown_by same_rate o (instant t at)) → IsShownAt t ticks g v
used_by_child t ticks g v k at None e some here seen = absurd seen
used_by_child t ticks g v k at (Some x) e some here seen =
    used_of_child t ticks g v k at (at -ℤ start_frame t) x e some refl here
    (subst (λ n. IsSeen g v (child_shows same_rate x ((at -ℤ start_frame t) *ℤ pos n))) (sym e) seen)

used_at : (t : Timeline) (ticks : ℕ) (g : ClipGroup) (v : ℤ) → ticks ≡ frame_ticks (record_rate t)
    → 0 < ticks → IsUsed t g v → IsShownAt t ticks g v
used_at t ticks g v e some u =
    used_by_child t ticks g v u.child u.at (slice_get (items_of t.tracks.children) u.child) e some
    refl u.seen

at_used : (t : Timeline) (ticks : ℕ) (g : ClipGroup) (v : ℤ) → ticks ≡ frame_ticks (record_rate t)
    → IsShownAt t ticks g v → IsUsed t g v
at_used t ticks g v e s =
    let n : ℤ = start_frame t +ℤ pos s.frame in
    let d : pos s.frame ≡ n -ℤ start_frame t = omega (arith, ints) in
    let same : pos s.frame *ℤ pos ticks ≡ instant t n = ap₂ (λ (a : ℤ) (b : ℕ). a *ℤ pos b) d e in
    record {
      child = s.root;
      at = n;
      seen = subst (IsSeen g v) (program_of t s.root n (pos s.frame *ℤ pos ticks) s.item s.here same)
          s.seen;
    }

pub roots_end : (groups : List ClipGroup) (t : Timeline) (ticks i : ℕ) (old new : List Run)
    → ticks ≡ frame_ticks (record_rate t) → 0 < ticks → length (items_of t.tracks.children) ≤ i
    → AddsRoots groups t ticks i old new → AddsUsed groups t old new
roots_end groups t ticks i old new e some all a = record {
  has = λ k v. (λ h. there k v ((a.has k v).0 h), λ h. (a.has k v).1 (back k v h));
  are_runs = a.are_runs;
  within = a.within;
  among = λ g v u. by g v (used_at t ticks g v e some u);
}
  where
    below : (k : ℕ) (x : ItemOf Listed) → slice_get (items_of t.tracks.children) k ≡ Some x → k < i
    below k x here =
        let l = slice_get_within (items_of t.tracks.children) k x here in omega (arith, l, all)

    there : (k : ℕ) (v : ℤ) → Has old k v ⊎ IsRootShown groups t ticks i k v
        → Has old k v ⊎ IsUsedBy groups t k v
    there k v (inl h) = inl h
    there k v (inr h) = inr (record {
      group = h.shown.shown.group;
      at = h.shown.shown.at;
      used = at_used t ticks h.shown.shown.group v e (record {
        root = h.root;
        item = h.item;
        here = h.here;
        frame = h.shown.frame;
        low = h.shown.low;
        seen = h.shown.shown.seen;
      });
    })

    shown : (k : ℕ) (v : ℤ) (g : ClipGroup) → slice_get groups k ≡ Some g → IsShownAt t ticks g v
        → IsRootShown groups t ticks i k v
    shown k v g at s = record {
      root = s.root;
      below = below s.root s.item s.here;
      item = s.item;
      here = s.here;
      shown = record {
        frame = s.frame;
        low = s.low;
        shown = record { group = g; at = at; seen = s.seen };
      };
    }

    back : (k : ℕ) (v : ℤ) → Has old k v ⊎ IsUsedBy groups t k v
        → Has old k v ⊎ IsRootShown groups t ticks i k v
    back k v (inl h) = inl h
    back k v (inr h) = inr (shown k v h.group h.at (used_at t ticks h.group v e some h.used))

    by : (g : ClipGroup) (v : ℤ) → IsShownAt t ticks g v → HasClip (clips_of t) g
    by g v s = a.among s.root s.item (below s.root s.item s.here) s.here s.frame g v s.low s.seen

-- ---- one frame

pub shown_as : (groups : List ClipGroup) (clips more : List ClipRow) (old new : List Run) (any : Bool)
    (s t : Show) → Collects groups clips old new any s → s ≡ t
    → ((c : ClipRow) → Contains clips c → Contains more c) → AddsShown groups more old new t
shown_as groups clips more old new any s t c e f =
    let k = collects_as groups clips more old new any s t c e f in
    record { takes = k.takes; among = k.among }
