-- A map of tracks by their kind, filled one track after another.
use Rattle.std.proofs.Common.{◌≡◌, refl, sym, subst, ap, ap₂, ◌∙◌, ℕ, zero, suc, ◌+◌, ◌<◌, ◌^◌, Bool, true, false, cond, Option, Some, None, List, [], ◌∷◌, ◌++◌, length, map, take, drop, vec_len, arith}
use Rattle.std.specs.Prelude.{filter, slice_get, option_map}
use Rattle.std.specs.BTreeMap.{BTreeMap, get_by}
use Rattle.std.specs.Cmp.Lexicographic.{slice_cmp}
use Rattle.std.specs.Ordering.{nat_cmp}
use Rattle.std.specs.Str.{bytes_eq}
use Rattle.std.specs.declared.alloc.Global.{Global}
use Rattle.std.specs.declared.vec.Vec.{Vec}
use denote.Ref.{Bor}
use Rattle.std.proofs.lemmas.List.{map-append, append-nil, length-take-le}
use Rattle.std.proofs.lemmas.Option.{slice_get_within}
use Rattle.std.proofs.lemmas.Slice.Eq.{bytes_eq-Decides}
use Rattle.otio_model.specs.declared.compositions.ItemOf.{ItemOf}
use Rattle.otio_model.specs.declared.compositions.ItemOf.TheVariants.{Clip, Gap, Transition, Stack, Track}
use Rattle.otio_model.specs.declared.compositions.Listed.{Listed}
use Rattle.otio_model.specs.Counts.{count}
use Rattle.otio_model.specs.Trees.{items_of}
use Rattle.coord.specs.Programs.{kind_of}
use Rattle.coord.specs.Soundness.{AreFaultless}
use Rattle.coord.proofs.Members.{child_few}
use Rattle.edits_law.proofs.Splice.{cases}
use Rattle.flat.specs.Joined.{slots_in, track_of}
use Rattle.flat.specs.Roots.{is_of, is_plain, is_track}
use Rattle.pieces.specs.Short.{AreCuttable}
use Rattle.pieces.proofs.Inner.{root_faultless}
use Rattle.flat_stack.proofs.CopyLemmas.{taken_more}
use Rattle.flat.specs.Roots.{ArePlainTracks}
use Rattle.flat_stack.specs.declared.inputs.Seat.{Seat}
use Rattle.flat_stack.specs.Inputs.{Tracks, held, numbers_at, positions, Knows, Updates, slot_of, slots_of}

-- ---- a look-up

pub got_map : {A B : Type 0} (f : A → B) (xs : List A) (i : ℕ)
    → slice_get (map f xs) i ≡ option_map f (slice_get xs i)
got_map f [] zero = refl
got_map f [] (suc i) = refl
got_map f (x ∷ xs) zero = refl
got_map f (x ∷ xs) (suc i) = got_map f xs i

pub found_in : (m : Tracks) (l : List (ItemOf Listed)) (kind : List ℕ) (i : ℕ)
    (v : Vec ℕ Global) (o : Option ℕ) → Knows m l
    → get_by (λ k. slice_cmp nat_cmp kind k.now) m ≡ Some v → slice_get v.items i ≡ o
    → o ≡ slice_get (positions kind 0 l) i
found_in m l kind i v o h e f =
    sym f ∙ ap (λ z. slice_get (held z) i) (sym e) ∙ ap (λ z. slice_get z i) (h kind)

pub none_in : (m : Tracks) (l : List (ItemOf Listed)) (kind : List ℕ) (i : ℕ) → Knows m l
    → get_by (λ k. slice_cmp nat_cmp kind k.now) m ≡ None → None ≡ slice_get (positions kind 0 l) i
none_in m l kind i h e =
    none i ∙ ap (λ z. slice_get (held z) i) (sym e) ∙ ap (λ z. slice_get z i) (h kind)
  where
    none : (i : ℕ) → None ≡ slice_get {X = ℕ} [] i
    none zero = refl
    none (suc i) = refl

-- ---- numbers and the tracks that they lead to

-- the number of what stands at an index, where the first has number i
record IsThere (i n : ℕ) (l : List (ItemOf Listed)) (p : Option (ItemOf Listed)) : Type 0 where
  at : ℕ
  is : n ≡ i + at
  there : slice_get l at ≡ p

abbrev IsFound : ℕ → List (ItemOf Listed) → Option ℕ → Option (ItemOf Listed) → Type 0
IsFound i l None p = p ≡ None
IsFound i l (Some n) p = IsThere i n l p

found_further : (i : ℕ) (y : ItemOf Listed) (l : List (ItemOf Listed)) (o : Option ℕ)
    (p : Option (ItemOf Listed)) → IsFound (suc i) l o p → IsFound i (y ∷ l) o p
found_further i y l None p h = h
found_further i y l (Some n) p h =
    record { at = suc h.at; is = omega (arith, h.is); there = h.there }

abbrev AreFound : List ℕ → ℕ → List (ItemOf Listed) → ℕ → Type 0
AreFound kind i l j =
    IsFound i l (slice_get (positions kind i l) j) (slice_get (filter (is_of kind) l) j)

positions_found : (kind : List ℕ) (i : ℕ) (l : List (ItemOf Listed)) (j : ℕ) → AreFound kind i l j
positions_found kind i [] zero = refl
positions_found kind i [] (suc j) = refl
positions_found kind i (x ∷ l) j = of (is_of kind x) j (λ k. positions_found kind (suc i) l k)
  where
    of : (b : Bool) (j : ℕ) → ((k : ℕ) → AreFound kind (suc i) l k)
        → IsFound i (x ∷ l)
        (slice_get (cond b (i ∷ positions kind (suc i) l) (positions kind (suc i) l)) j)
        (slice_get (cond b (x ∷ filter (is_of kind) l) (filter (is_of kind) l)) j)
    of true zero f = record { at = 0; is = omega arith; there = refl }
    of true (suc j) f =
        found_further i x l (slice_get (positions kind (suc i) l) j)
        (slice_get (filter (is_of kind) l) j) (f j)
    of false j f =
        found_further i x l (slice_get (positions kind (suc i) l) j)
        (slice_get (filter (is_of kind) l) j) (f j)

-- what a number of a kind leads to
pub number_track : (k kind : List ℕ) (j n : ℕ) (l : List (ItemOf Listed)) → k ≡ kind
    → Some n ≡ slice_get (positions k 0 l) j → slice_get l n ≡ track_of kind j l
number_track k kind j n l same e =
    let f : IsThere 0 n l (track_of kind j l) =
    subst (λ o. IsFound 0 l o (track_of kind j l))
    (sym (e ∙ ap (λ z. slice_get (positions z 0 l) j) same)) (positions_found kind 0 l j) in
    ap (λ m. slice_get l m) (let is : n ≡ f.at = omega (arith, f.is) in is) ∙ f.there

pub no_track : (k kind : List ℕ) (j : ℕ) (l : List (ItemOf Listed)) → k ≡ kind
    → None ≡ slice_get (positions k 0 l) j → None ≡ track_of kind j l
no_track k kind j l same e =
    sym (subst (λ o. IsFound 0 l o (track_of kind j l))
    (sym (e ∙ ap (λ z. slice_get (positions z 0 l) j) same)) (positions_found kind 0 l j))

positions_more : (kind : List ℕ) (i : ℕ) (l : List (ItemOf Listed)) (x : ItemOf Listed)
    → positions kind i (l ++ x ∷ [])
    ≡ positions kind i l ++ cond (is_of kind x) ((i + length l) ∷ []) []
positions_more kind i [] x =
    ap (λ n. cond (is_of kind x) (n ∷ []) []) (let e : i ≡ i + 0 = omega arith in e)
positions_more kind i (y ∷ l) x =
    let moved : suc i + length l ≡ i + suc (length l) = omega arith in
    of (is_of kind y) (positions kind (suc i) (l ++ x ∷ [])) (positions kind (suc i) l)
    (cond (is_of kind x) ((i + suc (length l)) ∷ []) [])
    (positions_more kind (suc i) l x
    ∙ ap (λ n. positions kind (suc i) l ++ cond (is_of kind x) (n ∷ []) []) moved)
  where
    of : (b : Bool) (p q r : List ℕ) → p ≡ q ++ r → cond b (i ∷ p) p ≡ cond b (i ∷ q) q ++ r
    of true p q r e = ap (λ z. i ∷ z) e
    of false p q r e = e

positions_last : (kind : List ℕ) (l : List (ItemOf Listed)) (x : ItemOf Listed)
    → positions kind 0 (l ++ x ∷ []) ≡ positions kind 0 l ++ cond (is_of kind x) (length l ∷ []) []
positions_last kind l x =
    positions_more kind 0 l x
    ∙ ap (λ n. positions kind 0 l ++ cond (is_of kind x) (n ∷ []) [])
    (let e : 0 + length l ≡ length l = omega arith in e)

positions_long : (kind : List ℕ) (i : ℕ) (l : List (ItemOf Listed))
    → length (positions kind i l) ≡ length (filter (is_of kind) l)
positions_long kind i [] = refl
positions_long kind i (x ∷ l) = of (is_of kind x) (positions_long kind (suc i) l)
  where
    of : (b : Bool) → length (positions kind (suc i) l) ≡ length (filter (is_of kind) l)
        → length (cond b (i ∷ positions kind (suc i) l) (positions kind (suc i) l))
        ≡ length (cond b (x ∷ filter (is_of kind) l) (filter (is_of kind) l))
    of true e = ap suc e
    of false e = e

-- so many stand before what stands at a number
pub long_taken : {A : Type 0} (l : List A) (i : ℕ) (x : A) → slice_get l i ≡ Some x
    → i ≡ length (take i l)
long_taken l i x e = sym (length-take-le i l (omega (arith, slice_get_within l i x e)))

-- ---- one track more

pub of_kind : (x : ItemOf Listed) (kind : List ℕ) → is_track x ≡ true
    → is_of kind x ≡ bytes_eq (kind_of x) kind
of_kind (Clip c) kind t = absurd (cc t)
of_kind (Gap c) kind t = absurd (cc t)
of_kind (Transition c) kind t = absurd (cc t)
of_kind (Stack c) kind t = absurd (cc t)
of_kind (Track c) kind t = refl

pub same_kind : (a b : List ℕ) → bytes_eq a b ≡ true → a ≡ b
same_kind a b h = (bytes_eq-Decides a b).0 h

known_with : (old mid new : Tracks) (l : List (ItemOf Listed)) (x : ItemOf Listed)
    (w : Vec ℕ Global) → is_track x ≡ true → Knows old l
    → Updates (kind_of x) None old mid → Updates (kind_of x) (Some w) mid new
    → w.items ≡ numbers_at (kind_of x) old ++ length l ∷ [] → Knows new (l ++ x ∷ [])
known_with old mid new l x w t h first second items q = cases (bytes_eq (kind_of x) q)
    (λ e. let is = same_kind (kind_of x) q e in
    let test : is_of q x ≡ true = of_kind x q t ∙ e in
    ap held (second q ∙ ap (λ b. cond b (Some w) (get_by (λ k. slice_cmp nat_cmp q k.now) mid)) e)
    ∙ items ∙ ap (λ z. numbers_at z old ++ length l ∷ []) is ∙ ap (λ z. z ++ length l ∷ []) (h q)
    ∙ ap (λ b. positions q 0 l ++ cond b (length l ∷ []) []) (sym test)
    ∙ sym (positions_last q l x))
    (λ e. let test : is_of q x ≡ false = of_kind x q t ∙ e in
    ap held (second q ∙ ap (λ b. cond b (Some w) (get_by (λ k. slice_cmp nat_cmp q k.now) mid)) e
    ∙ first q ∙ ap (λ b. cond b None (get_by (λ k. slice_cmp nat_cmp q k.now) old)) e)
    ∙ h q ∙ sym (append-nil (positions q 0 l))
    ∙ ap (λ b. positions q 0 l ++ cond b (length l ∷ []) []) (sym test)
    ∙ sym (positions_last q l x))

-- how many of the kind there were, and the map with one more
pub track_added : (old mid new : Tracks) (l : List (ItemOf Listed)) (x : Bor (ItemOf Listed))
    (v w : Vec ℕ Global) (kind : List ℕ) (n number : ℕ) → is_track x.now ≡ true
    → kind ≡ kind_of x.now → Knows old l → v.items ≡ numbers_at kind old
    → Updates kind None old mid → n ≡ vec_len v → w.items ≡ v.items ++ number ∷ []
    → Updates kind (Some w) mid new → number ≡ length l
    → (n ≡ length (filter (is_of (kind_of x.now)) l)) × Knows new (l ++ x.now ∷ [])
track_added old mid new l x v w kind n number t e h value gone len put given counted = (
  len ∙ v.ok.0 ∙ ap length (value ∙ h kind) ∙ positions_long kind 0 l
      ∙ ap (λ k. length (filter (is_of k) l)) e,
  known_with old mid new l x.now w t h (subst (λ k. Updates k None old mid) e gone)
      (subst (λ k. Updates k (Some w) mid new) e given)
      (put ∙ ap (λ z. z ++ number ∷ []) (value ∙ ap (λ k. numbers_at k old) e)
      ∙ ap (λ m. numbers_at (kind_of x.now) old ++ m ∷ []) counted),
)

-- ---- the loop over an input's tracks

-- so many tracks are known and have a seat
pub record AreSeated (m : Tracks) (seats : List Seat) (l : List (ItemOf Listed)) (i : ℕ) : Type 0
  where
    pub known : Knows m (take i l)
    pub slots : slots_of seats ++ slots_in (take i l) (drop i l) ≡ slots_in [] l

pub seated_first : (m : Tracks) (seats : List Seat) (l : List (ItemOf Listed)) → m.entries ≡ []
    → seats ≡ [] → AreSeated m seats l 0
seated_first m seats l e f = record {
  known = λ kind. ap (λ es. held (Rattle.std.specs.Map.lookup (Rattle.std.specs.BTreeMap.is_at (λ k. slice_cmp nat_cmp kind k.now)) es)) e;
  slots = ap (λ z. slots_of z ++ slots_in [] l) f;
}

pub seated_more : (m new : Tracks) (seats more : List Seat) (l : List (ItemOf Listed)) (i : ℕ)
    (x : ItemOf Listed) (s : Seat) → AreSeated m seats l i → slice_get l i ≡ Some x
    → drop i l ≡ x ∷ drop (i + 1) l → s.first.now ≡ x
    → s.index ≡ length (filter (is_of (kind_of x)) (take i l))
    → Knows new (take i l ++ x ∷ []) → more ≡ seats ++ s ∷ [] → AreSeated new more l (i + 1)
seated_more m new seats more l i x s a e f g h k n =
    let next = taken_more l i x e in
    record {
      known = subst (λ z. Knows new z) (sym next) k;
      slots = ap (λ z. slots_of z ++ slots_in (take (i + 1) l) (drop (i + 1) l)) n
          ∙ ap (λ z. z ++ slots_in (take (i + 1) l) (drop (i + 1) l)) (map-append slot_of seats (s ∷ []))
          ∙ Rattle.std.proofs.Common.append_assoc (slots_of seats) (slot_of s ∷ []) (slots_in (take (i + 1) l) (drop (i + 1) l))
          ∙ ap (λ z. slots_of seats ++ (slot_of s ∷ slots_in z (drop (i + 1) l))) next
          ∙ ap₂ (λ (y : ItemOf Listed) n. slots_of seats ++ (record { kind = kind_of y; index = n; first = y } ∷ slots_in (take i l ++ x ∷ []) (drop (i + 1) l))) g h
          ∙ ap (λ z. slots_of seats ++ slots_in (take i l) z) (sym f)
          ∙ a.slots;
    }

pub seated_all : (m : Tracks) (seats : List Seat) (l : List (ItemOf Listed)) (i : ℕ)
    → AreSeated m seats l i → take i l ≡ l → drop i l ≡ [] → Knows m l × (slots_of seats ≡ slots_in [] l)
seated_all m seats l i a e f = (
  subst (λ z. Knows m z) e a.known,
  sym (append-nil (slots_of seats)) ∙ ap (λ z. slots_of seats ++ slots_in (take i l) z) (sym f) ∙ a.slots,
)

pub plain_at : (l : List (ItemOf Listed)) (i : ℕ) (x : ItemOf Listed) → ArePlainTracks l
    → slice_get l i ≡ Some x → is_plain x ≡ true
plain_at [] i x p e = absurd (cc e)
plain_at (y ∷ l) zero x p e =
    let is : y ≡ x = cc e in subst (λ (z : ItemOf Listed). is_plain z ≡ true) is p.0
plain_at (y ∷ l) (suc i) x p e = plain_at l i x p.1 e

pub plain_track : (x : ItemOf Listed) → is_plain x ≡ true → is_track x ≡ true
plain_track (Clip c) e = e
plain_track (Gap c) e = e
plain_track (Transition c) e = e
plain_track (Stack c) e = e
plain_track (Track c) e = refl

pub roots_cuttable : (l : Listed) → count l < 2 ^ 32 → AreFaultless l → AreCuttable (items_of l)
roots_cuttable l few s i x e = record {
  few = child_few l i x e few;
  sound = root_faultless l i x s e [] x refl;
}
