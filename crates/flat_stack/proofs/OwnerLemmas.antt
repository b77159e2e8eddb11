-- Which inputs have a track, kept one input and one track after another.
use Rattle.std.proofs.Common.{◌≡◌, refl, sym, ap, ◌∙◌, get_or, ℕ, zero, suc, ◌+◌, ◌<◌, ◌==◌, ◌&&◌, Bool, true, false, not, cond, Some, None, List, [], ◌∷◌, ◌++◌, length, take, append_assoc, arith}
use Rattle.std.specs.Prelude.{filter, slice_get, is_none}
use Rattle.std.proofs.Math.ListN.{set}
use Rattle.std.specs.BTreeMap.{get_by, is_at}
use Rattle.std.specs.Map.{lookup}
use Rattle.std.specs.Cmp.Lexicographic.{slice_cmp}
use Rattle.std.specs.Ordering.{nat_cmp}
use Rattle.std.specs.Str.{bytes_eq}
use Rattle.std.specs.declared.alloc.Global.{Global}
use Rattle.std.specs.declared.vec.Vec.{Vec}
use Rattle.std.proofs.lemmas.Bool.Decides.{nat_tests}
use Rattle.std.proofs.lemmas.List.{append-nil}
use Rattle.std.proofs.lemmas.List.Elements.{filter-append}
use Rattle.otio_model.specs.declared.compositions.ItemOf.{ItemOf}
use Rattle.otio_model.specs.declared.compositions.Listed.{Listed}
use Rattle.coord.specs.Programs.{kind_of}
use Rattle.coord.proofs.Members.{same_some}
use Rattle.edits_law.proofs.Splice.{cases}
use Rattle.flat.specs.Roots.{is_of}
use Rattle.flat_stack.specs.declared.inputs.Part.{Part}
use Rattle.flat_stack.specs.declared.inputs.Seat.{Seat}
use Rattle.flat_stack.specs.Inputs.{list_of}
use Rattle.flat_stack.specs.Givers.{HasOwners, Owners, Replaces, Rows, has, owns, places, row, rows_at, rows_of}
use Rattle.flat_stack.proofs.CopyLemmas.{taken_more}
use Rattle.flat_stack.proofs.KnowLemmas.{long_taken, of_kind, same_kind}
use Rattle.flat_stack.proofs.MostLemmas.{IsSeatAt}

-- ---- rows

pub no_row : (n : ℕ) → row [] n ≡ []
no_row zero = refl
no_row (suc n) = refl

-- with an empty row more each is as it was
pub row_empty : (rows new : List (Vec ℕ Global)) (v : Vec ℕ Global) (n : ℕ) → v.items ≡ []
    → new ≡ rows ++ v ∷ [] → row new n ≡ row rows n
row_empty rows new v n e f = ap (λ z. row z n) f ∙ same rows n
  where
    same : (rows : List (Vec ℕ Global)) (n : ℕ) → row (rows ++ v ∷ []) n ≡ row rows n
    same [] zero = e
    same [] (suc n) = refl
    same (w ∷ rows) zero = refl
    same (w ∷ rows) (suc n) = same rows n

same_test : (n : ℕ) → (n == n) ≡ true
same_test n = grind (arith, nat_tests)

first_test : (n : ℕ) → (suc n == 0) ≡ false
first_test n = grind (arith, nat_tests)

last_test : (n : ℕ) → (0 == suc n) ≡ false
last_test n = grind (arith, nat_tests)

next_test : (a b : ℕ) → (suc a == suc b) ≡ (a == b)
next_test a b = grind (arith, nat_tests)

-- a number more in the row of an index
pub row_more : (rows : List (Vec ℕ Global)) (i n at : ℕ) (v w : Vec ℕ Global) → i < length rows
    → v ≡ get_or rows i v → w.items ≡ v.items ++ at ∷ []
    → row (set rows i w) n ≡ row rows n ++ cond (n == i) (at ∷ []) []
row_more [] i n at v w h e f = absurd (omega (arith, h))
row_more (u ∷ rows) zero zero at v w h e f =
    f ∙ ap (λ (z : Vec ℕ Global). z.items ++ at ∷ []) e
    ∙ ap (λ b. u.items ++ cond b (at ∷ []) []) (sym (same_test 0))
row_more (u ∷ rows) zero (suc n) at v w h e f =
    sym (append-nil (row rows n)) ∙ ap (λ b. row rows n ++ cond b (at ∷ []) []) (sym (first_test n))
row_more (u ∷ rows) (suc i) zero at v w h e f =
    sym (append-nil u.items) ∙ ap (λ b. u.items ++ cond b (at ∷ []) []) (sym (last_test i))
row_more (u ∷ rows) (suc i) (suc n) at v w h e f =
    row_more rows i n at v w (omega (arith, h)) e f
    ∙ ap (λ b. row rows n ++ cond b (at ∷ []) []) (sym (next_test n i))

-- ---- the map

pub owner_more : (old mid new : Owners) (v w : Rows) (own q : List ℕ) (i n at : ℕ)
    → v.items ≡ rows_at own old → Replaces own None old mid → Replaces own (Some w) mid new
    → row w.items n ≡ row v.items n ++ cond (n == i) (at ∷ []) []
    → row (rows_at q new) n
    ≡ row (rows_at q old) n ++ cond (bytes_eq own q && (n == i)) (at ∷ []) []
owner_more old mid new v w own q i n at value gone put more = cases (bytes_eq own q)
    (λ e. ap (λ o. row (rows_of o) n)
    (put q ∙ ap (λ b. cond b (Some w) (get_by (λ k. slice_cmp nat_cmp q k.now) mid)) e)
    ∙ more
    ∙ ap (λ z. row z n ++ cond (n == i) (at ∷ []) [])
    (value ∙ ap (λ k. rows_at k old) (same_kind own q e))
    ∙ ap (λ b. row (rows_at q old) n ++ cond (b && (n == i)) (at ∷ []) []) (sym e))
    (λ e. ap (λ o. row (rows_of o) n)
    (put q ∙ ap (λ b. cond b (Some w) (get_by (λ k. slice_cmp nat_cmp q k.now) mid)) e
    ∙ gone q ∙ ap (λ b. cond b None (get_by (λ k. slice_cmp nat_cmp q k.now) old)) e)
    ∙ sym (append-nil (row (rows_at q old) n))
    ∙ ap (λ b. row (rows_at q old) n ++ cond (b && (n == i)) (at ∷ []) []) (sym e))

-- ---- numbers of inputs

places_last : (test : Part → Bool) (i : ℕ) (ps : List Part) (p : Part)
    → places test i (ps ++ p ∷ []) ≡ places test i ps ++ cond (test p) ((i + length ps) ∷ []) []
places_last test i [] p =
    ap (λ n. cond (test p) (n ∷ []) []) (let e : i ≡ i + 0 = omega arith in e)
places_last test i (q ∷ ps) p =
    let moved : suc i + length ps ≡ i + suc (length ps) = omega arith in
    of (test q) (places test (suc i) (ps ++ p ∷ [])) (places test (suc i) ps)
    (cond (test p) ((i + suc (length ps)) ∷ []) [])
    (places_last test (suc i) ps p
    ∙ ap (λ n. places test (suc i) ps ++ cond (test p) (n ∷ []) []) moved)
  where
    of : (b : Bool) (l m r : List ℕ) → l ≡ m ++ r → cond b (i ∷ l) l ≡ cond b (i ∷ m) m ++ r
    of true l m r e = ap (λ z. i ∷ z) e
    of false l m r e = e

-- with the input that stands at an index
pub places_next : (test : Part → Bool) (ps : List Part) (i : ℕ) (p : Part) → slice_get ps i ≡ Some p
    → places test 0 (take (i + 1) ps) ≡ places test 0 (take i ps) ++ cond (test p) (i ∷ []) []
places_next test ps i p e =
    ap (places test 0) (taken_more ps i p e) ∙ places_last test 0 (take i ps) p
    ∙ ap (λ n. places test 0 (take i ps) ++ cond (test p) (n ∷ []) [])
    (let k : 0 + length (take i ps) ≡ i = omega (arith, long_taken ps i p e) in k)

-- ---- the tracks of one input

one_more : (at : ℕ) (l : List (ItemOf Listed)) (x : ItemOf Listed) (n : ℕ)
    → cond (not (is_none (slice_get l n))) (at ∷ []) [] ++ cond (n == length l) (at ∷ []) []
    ≡ cond (not (is_none (slice_get (l ++ x ∷ []) n))) (at ∷ []) []
one_more at [] x zero = ap (λ b. cond b (at ∷ []) []) (same_test 0)
one_more at [] x (suc n) = ap (λ b. cond b (at ∷ []) []) (first_test n) ∙ none n
  where
    none : (n : ℕ) → [] ≡ cond (not (is_none (slice_get {X = ItemOf Listed} [] n))) (at ∷ []) []
    none zero = refl
    none (suc n) = refl
one_more at (y ∷ l) x zero = ap (λ b. at ∷ cond b (at ∷ []) []) (last_test (length l))
one_more at (y ∷ l) x (suc n) =
    ap (λ b. cond (not (is_none (slice_get l n))) (at ∷ []) [] ++ cond b (at ∷ []) [])
    (next_test n (length l)) ∙ one_more at l x n

has_more : (kind : List ℕ) (n at : ℕ) (l : List (ItemOf Listed)) (i : ℕ) (s : Seat)
    → IsSeatAt l i s
    → cond (has kind n (take i l)) (at ∷ []) []
    ++ cond (bytes_eq (kind_of s.first.now) kind && (n == s.index)) (at ∷ []) []
    ≡ cond (has kind n (take (i + 1) l)) (at ∷ []) []
has_more kind n at l i s u =
    let x = s.first.now in
    let before = filter (is_of kind) (take i l) in
    let more : filter (is_of kind) (take (i + 1) l) ≡ before ++ cond (is_of kind x) (x ∷ []) [] =
    ap (filter (is_of kind)) (taken_more l i x u.there) ∙ filter-append (is_of kind) (take i l) (x ∷ []) in
    let so_far = cond (has kind n (take i l)) (at ∷ []) [] in
    cases (bytes_eq (kind_of x) kind)
    (λ e. ap (λ b. so_far ++ cond (b && (n == s.index)) (at ∷ []) []) e
    ∙ ap (λ k. so_far ++ cond (n == k) (at ∷ []) [])
    (u.index ∙ ap (λ k. length (filter (is_of k) (take i l))) (same_kind (kind_of x) kind e))
    ∙ one_more at before x n
    ∙ ap (λ z. cond (not (is_none (slice_get z n))) (at ∷ []) [])
    (ap (λ b. before ++ cond b (x ∷ []) []) (sym (of_kind x kind u.track ∙ e)) ∙ sym more))
    (λ e. ap (λ b. so_far ++ cond (b && (n == s.index)) (at ∷ []) []) e ∙ append-nil so_far
    ∙ ap (λ z. cond (not (is_none (slice_get z n))) (at ∷ []) [])
    (sym (append-nil before) ∙ ap (λ b. before ++ cond b (x ∷ []) []) (sym (of_kind x kind u.track ∙ e))
    ∙ sym more))

-- so many tracks of the input of an index are kept
abbrev pub AreOwned : Owners → List Part → ℕ → ℕ → Type 0
AreOwned m ps at i = (p : Part) → slice_get ps at ≡ Some p → (kind : List ℕ) (n : ℕ)
    → row (rows_at kind m) n ≡ places (owns kind n) 0 (take at ps)
    ++ cond (has kind n (take i (list_of p))) (at ∷ []) []

pub owned_first : (m : Owners) (ps : List Part) (at : ℕ) → HasOwners m (take at ps)
    → AreOwned m ps at 0
owned_first m ps at h p e kind n =
    h kind n ∙ sym (append-nil (places (owns kind n) 0 (take at ps)))
    ∙ ap (λ z. places (owns kind n) 0 (take at ps) ++ z) (none n)
  where
    none : (n : ℕ) → [] ≡ cond (has kind n []) (at ∷ []) []
    none zero = refl
    none (suc n) = refl

pub owned_more : (m new : Owners) (ps : List Part) (at i : ℕ) (p : Part) (s : Seat)
    → AreOwned m ps at i → slice_get ps at ≡ Some p → IsSeatAt (list_of p) i s
    → ((kind : List ℕ) (n : ℕ) → row (rows_at kind new) n ≡ row (rows_at kind m) n
    ++ cond (bytes_eq (kind_of s.first.now) kind && (n == s.index)) (at ∷ []) [])
    → AreOwned new ps at (i + 1)
owned_more m new ps at i p s a e u f q g kind n =
    let before = places (owns kind n) 0 (take at ps) in
    f kind n
    ∙ ap (λ z. z ++ cond (bytes_eq (kind_of s.first.now) kind && (n == s.index)) (at ∷ []) [])
    (a p e kind n)
    ∙ append_assoc before (cond (has kind n (take i (list_of p))) (at ∷ []) [])
    (cond (bytes_eq (kind_of s.first.now) kind && (n == s.index)) (at ∷ []) [])
    ∙ ap (λ z. before ++ z) (has_more kind n at (list_of p) i s u)
    ∙ ap (λ (z : Part). before ++ cond (has kind n (take (i + 1) (list_of z))) (at ∷ []) [])
    (same_some p q (sym e ∙ g))

pub owned_all : (m : Owners) (ps : List Part) (at i : ℕ) (p : Part) → AreOwned m ps at i
    → slice_get ps at ≡ Some p → take i (list_of p) ≡ list_of p → HasOwners m (take (at + 1) ps)
owned_all m ps at i p a e f kind n =
    a p e kind n
    ∙ ap (λ z. places (owns kind n) 0 (take at ps) ++ cond (has kind n z) (at ∷ []) []) f
    ∙ sym (places_next (owns kind n) ps at p e)

pub owners_none : (m : Owners) → m.entries ≡ [] → HasOwners m []
owners_none m e kind n =
    ap (λ es. row (rows_of (lookup (is_at (λ k. slice_cmp nat_cmp kind k.now)) es)) n) e ∙ no_row n
