-- Each track of each input is in a joined track.
use Rattle.std.proofs.Common.{◌≡◌, refl, sym, ap, ◌∙◌, ℕ, zero, suc, ◌+◌, Bool, true, false, Option, Some, None, List, [], ◌∷◌, ◌++◌, map, take, length, arith}
use Rattle.std.specs.Prelude.{slice_get, filter}
use Rattle.std.proofs.lemmas.Slice.Eq.{bytes_eq-Decides}
use Rattle.otio_model.specs.declared.compositions.ItemOf.{ItemOf}
use Rattle.otio_model.specs.declared.compositions.ItemOf.TheVariants.{Clip, Gap, Transition, Stack, Track}
use Rattle.otio_model.specs.declared.compositions.Listed.{Listed}
use Rattle.otio_model.specs.declared.timelines.Timeline.{Timeline}
use Rattle.coord.specs.Programs.{kind_of}
use Rattle.edits_law.proofs.Splice.{cases}
use Rattle.flat.specs.Roots.{is_of, is_track, roots}
use Rattle.flat.specs.Joined.{track_of, Slot, slots_in, is_new, slots, joined_slots}
use Rattle.std.proofs.lemmas.Slice.Eq.{bytes_eq-Decides}

abbrev among : List ℕ → List (ItemOf Listed) → ℕ
among kind l = length (filter (is_of kind) l)

kind_is : (kind : List ℕ) (x : ItemOf Listed) → is_of kind x ≡ true → kind_of x ≡ kind
kind_is kind (Clip c) e = absurd (cc e)
kind_is kind (Gap c) e = absurd (cc e)
kind_is kind (Transition c) e = absurd (cc e)
kind_is kind (Stack c) e = absurd (cc e)
kind_is kind (Track c) e = (bytes_eq-Decides c.kind kind).0 e

of_own : (x : ItemOf Listed) → is_track x ≡ true → is_of (kind_of x) x ≡ true
of_own (Clip c) e = absurd (cc e)
of_own (Gap c) e = absurd (cc e)
of_own (Transition c) e = absurd (cc e)
of_own (Stack c) e = absurd (cc e)
of_own (Track c) e = (bytes_eq-Decides c.kind c.kind).1 refl

-- one more of the kind, or none
one_more : (kind : List ℕ) (x : ItemOf Listed) (l : List (ItemOf Listed)) → is_of kind x ≡ true → among kind (l ++ x ∷ []) ≡ among kind l + 1
one_more kind x [] e = rw e refl
one_more kind x (y ∷ l) e = cases (is_of kind y)
    (λ t. let h = one_more kind x l e in rw t (omega (arith, h)))
    (λ t. rw t (one_more kind x l e))

no_more : (kind : List ℕ) (x : ItemOf Listed) (l : List (ItemOf Listed)) → is_of kind x ≡ false → among kind (l ++ x ∷ []) ≡ among kind l
no_more kind x [] e = rw e refl
no_more kind x (y ∷ l) e = cases (is_of kind y)
    (λ t. rw t (ap suc (no_more kind x l e)))
    (λ t. rw t (no_more kind x l e))

-- a slot that stands in a list
pub record Slotted (l : List Slot) (kind : List ℕ) (n : ℕ) : Type 0 where
  pub at : ℕ
  pub slot : Slot
  pub there : slice_get l at ≡ Some slot
  pub kind_same : slot.kind ≡ kind
  pub index_same : slot.index ≡ n

later : (s : Slot) (l : List Slot) (kind : List ℕ) (n : ℕ) → Slotted l kind n → Slotted (s ∷ l) kind n
later s l kind n h = record { at = suc h.at; slot = h.slot; there = h.there; kind_same = h.kind_same; index_same = h.index_same }

in_input : (before l : List (ItemOf Listed)) (kind : List ℕ) (m n : ℕ) (y : ItemOf Listed) → track_of kind m l ≡ Some y → n ≡ among kind before + m → Slotted (slots_in before l) kind n
in_input before [] kind m n y e f = absurd (cc e)
in_input before (x ∷ l) kind m n y e f = cases (is_of kind x)
    (λ t. here m t (rw t at e) f (λ j g h. in_input (before ++ x ∷ []) l kind j n y g h))
    (λ t. later _ _ kind n (in_input (before ++ x ∷ []) l kind m n y (rw t at e) (let g = no_more kind x before t in omega (arith, f, g))))
  where
    here : (j : ℕ) → is_of kind x ≡ true → slice_get (x ∷ filter (is_of kind) l) j ≡ Some y → n ≡ among kind before + j
        → ((j : ℕ) → track_of kind j l ≡ Some y → n ≡ among kind (before ++ x ∷ []) + j → Slotted (slots_in (before ++ x ∷ []) l) kind n) → Slotted (slots_in before (x ∷ l)) kind n
    here zero t g h next = record {
      at = 0;
      slot = record { kind = kind_of x; index = among (kind_of x) before; first = x };
      there = refl;
      kind_same = kind_is kind x t;
      index_same = ap (λ k. among k before) (kind_is kind x t) ∙ (let k : among kind before ≡ n = omega (arith, h) in k);
    }
    here (suc j) t g h next = later _ _ kind n (next j g (let k = one_more kind x before t in omega (arith, h, k)))

in_filter : (test : Slot → Bool) (l : List Slot) (kind : List ℕ) (n : ℕ) (i : ℕ) (s : Slot) → ((q : Slot) → q.kind ≡ kind → q.index ≡ n → test q ≡ true) → slice_get l i ≡ Some s → s.kind ≡ kind → s.index ≡ n → Slotted (filter test l) kind n
in_filter test [] kind n i s f e k m = absurd (cc e)
in_filter test (q ∷ l) kind n zero s f e k m =
    let is : q ≡ s = cc e in
    let t : test q ≡ true = f q (ap (λ (z : Slot). z.kind) is ∙ k) (ap (λ (z : Slot). z.index) is ∙ m) in
    rw t (record { at = 0; slot = q; there = refl; kind_same = ap (λ (z : Slot). z.kind) is ∙ k; index_same = ap (λ (z : Slot). z.index) is ∙ m })
in_filter test (q ∷ l) kind n (suc i) s f e k m = cases (test q)
    (λ t. rw t (later q (filter test l) kind n (in_filter test l kind n i s f e k m)))
    (λ t. rw t (in_filter test l kind n i s f e k m))

get_left : (a b : List Slot) (i : ℕ) (s : Slot) → slice_get a i ≡ Some s → slice_get (a ++ b) i ≡ Some s
get_left [] b i s e = absurd (cc e)
get_left (q ∷ a) b zero s e = e
get_left (q ∷ a) b (suc i) s e = get_left a b i s e

in_left : (a b : List Slot) (kind : List ℕ) (n : ℕ) → Slotted a kind n → Slotted (a ++ b) kind n
in_left a b kind n h = record { at = h.at; slot = h.slot; there = get_left a b h.at h.slot h.there; kind_same = h.kind_same; index_same = h.index_same }

in_right : (a b : List Slot) (kind : List ℕ) (n : ℕ) → Slotted b kind n → Slotted (a ++ b) kind n
in_right [] b kind n h = h
in_right (q ∷ a) b kind n h = later q (a ++ b) kind n (in_right a b kind n h)

-- no input has that track
abbrev HaveNone : List (List (ItemOf Listed)) → List ℕ → ℕ → Type 0
HaveNone [] kind n = Unit {0}
HaveNone (l ∷ more) kind n = (track_of kind n l ≡ None) × HaveNone more kind n

none_append : (a : List (List (ItemOf Listed))) (l : List (ItemOf Listed)) (kind : List ℕ) (n : ℕ) → HaveNone a kind n → track_of kind n l ≡ None → HaveNone (a ++ l ∷ []) kind n
none_append [] l kind n h e = (e, tt)
none_append (m ∷ a) l kind n h e = (h.0, none_append a l kind n h.1 e)

new_by : (earlier : List (List (ItemOf Listed))) (kind : List ℕ) (n : ℕ) → HaveNone earlier kind n → (s : Slot) → s.kind ≡ kind → s.index ≡ n → is_new earlier s ≡ true
new_by [] kind n h s e f = refl
new_by (l ∷ earlier) kind n h s e f =
    let none : track_of s.kind s.index l ≡ None = ap (λ k. track_of k s.index l) e ∙ ap (λ i. track_of kind i l) f ∙ h.0 in
    rw none (new_by earlier kind n h.1 s e f)

covered_by : (earlier inputs : List (List (ItemOf Listed))) (kind : List ℕ) (n i : ℕ) (l : List (ItemOf Listed)) (y : ItemOf Listed) → HaveNone earlier kind n → slice_get inputs i ≡ Some l → track_of kind n l ≡ Some y
    → Slotted (slots earlier inputs) kind n
covered_by earlier [] kind n i l y h e f = absurd (cc e)
covered_by earlier (m ∷ more) kind n i l y h e f = of (track_of kind n m) refl i e (λ j g k. covered_by (earlier ++ m ∷ []) more kind n j l y k g f)
  where
    here : (z : ItemOf Listed) → track_of kind n m ≡ Some z → Slotted (slots earlier (m ∷ more)) kind n
    here z g = let s = in_input [] m kind n n z g (let k : n ≡ 0 + n = omega arith in k) in
        in_left (filter (is_new earlier) (slots_in [] m)) (slots (earlier ++ m ∷ []) more) kind n
        (in_filter (is_new earlier) (slots_in [] m) kind n s.at s.slot (new_by earlier kind n h) s.there s.kind_same s.index_same)

    of : (o : Option (ItemOf Listed)) → track_of kind n m ≡ o → (i : ℕ) → slice_get (m ∷ more) i ≡ Some l
        → ((j : ℕ) → slice_get more j ≡ Some l → HaveNone (earlier ++ m ∷ []) kind n → Slotted (slots (earlier ++ m ∷ []) more) kind n) → Slotted (slots earlier (m ∷ more)) kind n
    of (Some z) g i k next = here z g
    of None g zero k next = let is : m ≡ l = cc k in absurd (cc (sym g ∙ ap (track_of kind n) is ∙ f))
    of None g (suc i) k next = in_right (filter (is_new earlier) (slots_in [] m)) (slots (earlier ++ m ∷ []) more) kind n (next i k (none_append earlier m kind n h g))

kth_own : (kind : List ℕ) (l : List (ItemOf Listed)) (k : ℕ) (x : ItemOf Listed) → slice_get l k ≡ Some x → is_of kind x ≡ true → track_of kind (among kind (take k l)) l ≡ Some x
kth_own kind [] k x e o = absurd (cc e)
kth_own kind (y ∷ l) zero x e o = let is : y ≡ x = cc e in let t : is_of kind y ≡ true = ap (is_of kind) is ∙ o in rw t e
kth_own kind (y ∷ l) (suc k) x e o = cases (is_of kind y) (λ t. rw t (kth_own kind l k x e o)) (λ t. rw t (kth_own kind l k x e o))

pub covered : (t : Timeline) (more : List Timeline) (i k : ℕ) (l : List (ItemOf Listed)) (x : ItemOf Listed) → slice_get (roots t ∷ map roots more) i ≡ Some l → slice_get l k ≡ Some x → is_track x ≡ true
    → (j : ℕ) × (s : Slot) × (slice_get (joined_slots t more) j ≡ Some s) × (s.kind ≡ kind_of x) × (track_of s.kind s.index l ≡ Some x)
covered t more i k l x e f o =
    let own = kth_own (kind_of x) l k x f (of_own x o) in
    let s = covered_by [] (roots t ∷ map roots more) (kind_of x) (among (kind_of x) (take k l)) i l x tt e own in
    (s.at, s.slot, s.there, s.kind_same, ap (λ z. track_of z s.slot.index l) s.kind_same ∙ ap (λ z. track_of (kind_of x) z l) s.index_same ∙ own)
