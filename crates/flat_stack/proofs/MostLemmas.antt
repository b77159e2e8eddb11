-- The greatest number of tracks of each kind that one of the inputs so far has.
use Rattle.std.proofs.Common.{◌≡◌, refl, sym, subst, ap, ◌∙◌, ℕ, zero, suc, ◌+◌, ◌≤◌, ◌&&◌, max, Bool, true, false, cond, Some, List, [], ◌∷◌, ◌++◌, length, take, length-append, append_assoc, arith}
use Rattle.std.specs.Prelude.{filter, slice_get, is_none, nat_le}
use Rattle.std.specs.BTreeMap.{get_by, is_at}
use Rattle.std.specs.Map.{lookup}
use Rattle.std.specs.Cmp.Lexicographic.{slice_cmp}
use Rattle.std.specs.Ordering.{nat_cmp}
use Rattle.std.specs.Str.{bytes_eq}
use Rattle.std.proofs.lemmas.Bool.{leb-false, leb-true}
use Rattle.std.proofs.lemmas.Bool.Decides.{nat_tests}
use Rattle.std.proofs.lemmas.List.{append-nil}
use Rattle.std.proofs.lemmas.List.Elements.{filter-append}
use Rattle.otio_model.specs.declared.compositions.ItemOf.{ItemOf}
use Rattle.otio_model.specs.declared.compositions.Listed.{Listed}
use Rattle.otio_model.specs.Lengths.{or_zero}
use Rattle.coord.specs.Programs.{kind_of}
use Rattle.coord.proofs.Members.{same_some}
use Rattle.edits_law.proofs.Splice.{cases}
use Rattle.flat.specs.Joined.{Slot, is_new, slots_in}
use Rattle.flat.specs.Roots.{ArePlainTracks, is_of, is_track}
use Rattle.flat_stack.specs.declared.inputs.Part.{Part}
use Rattle.flat_stack.specs.declared.inputs.Seat.{Seat}
use Rattle.flat_stack.specs.Inputs.{HasMost, Most, Raises, list_of, lists_of, most_at, most_in, slot_of, slots_of}
use Rattle.flat_stack.proofs.CopyLemmas.{taken_more}
use Rattle.flat_stack.proofs.KnowLemmas.{got_map, of_kind, plain_at, plain_track, same_kind}
use Rattle.flat_stack.proofs.SeatLemmas.{lists_more}

-- ---- the track that stands at an index

-- the slot of that index is that of the list's track, which has so many of its kind before it
record IsSlotAt (before l : List (ItemOf Listed)) (i : ℕ) (s : Slot) : Type 0 where
  there : slice_get l i ≡ Some s.first
  kind : s.kind ≡ kind_of s.first
  index : s.index ≡ length (filter (is_of (kind_of s.first)) (before ++ take i l))

slot_at : (before l : List (ItemOf Listed)) (i : ℕ) (s : Slot)
    → slice_get (slots_in before l) i ≡ Some s → IsSlotAt before l i s
slot_at before [] i s e = absurd (cc e)
slot_at before (x ∷ l) zero s e = subst (IsSlotAt before (x ∷ l) 0) (same_some _ s e) (record {
  there = refl;
  kind = refl;
  index = ap (λ z. length (filter (is_of (kind_of x)) z)) (sym (append-nil before));
})
slot_at before (x ∷ l) (suc i) s e =
    let u = slot_at (before ++ x ∷ []) l i s e in
    record {
      there = u.there;
      kind = u.kind;
      index = u.index ∙ ap (λ z. length (filter (is_of (kind_of s.first)) z))
          (append_assoc before (x ∷ []) (take i l));
    }

-- what is known of a seat of an input's tracks
pub record IsSeatAt (l : List (ItemOf Listed)) (i : ℕ) (s : Seat) : Type 0 where
  pub there : slice_get l i ≡ Some s.first.now
  pub track : is_track s.first.now ≡ true
  pub index : s.index ≡ length (filter (is_of (kind_of s.first.now)) (take i l))

pub seat_known : (seats : List Seat) (l : List (ItemOf Listed)) (i : ℕ) (s : Seat)
    → ArePlainTracks l → slots_of seats ≡ slots_in [] l → slice_get seats i ≡ Some s
    → IsSeatAt l i s
seat_known seats l i s p e f =
    let u = slot_at [] l i (slot_of s) (ap (λ z. slice_get z i) (sym e) ∙ got_map slot_of seats i
    ∙ ap (Rattle.std.specs.Prelude.option_map slot_of) f) in
    record {
      there = u.there;
      track = plain_track s.first.now (plain_at l i s.first.now p u.there);
      index = u.index;
    }

slots_long : (before l : List (ItemOf Listed)) → length (slots_in before l) ≡ length l
slots_long before [] = refl
slots_long before (x ∷ l) = ap suc (slots_long (before ++ x ∷ []) l)

seats_as_long : (seats : List Seat) → length (slots_of seats) ≡ length seats
seats_as_long [] = refl
seats_as_long (s ∷ seats) = ap suc (seats_as_long seats)

-- each track has a seat
pub seats_long : (seats : List Seat) (l : List (ItemOf Listed)) → slots_of seats ≡ slots_in [] l
    → length seats ≡ length l
seats_long seats l e = sym (seats_as_long seats) ∙ ap length e ∙ slots_long [] l

filter_short : (test : ItemOf Listed → Bool) (l : List (ItemOf Listed))
    → length (filter test l) ≤ length l
filter_short test [] = omega arith
filter_short test (x ∷ l) = of (test x) (filter_short test l)
  where
    of : (b : Bool) → length (filter test l) ≤ length l
        → length (cond b (x ∷ filter test l) (filter test l)) ≤ suc (length l)
    of true h = omega (arith, h)
    of false h = omega (arith, h)

taken_short : (l : List (ItemOf Listed)) (i : ℕ) → length (take i l) ≤ i
taken_short l zero = omega arith
taken_short [] (suc i) = omega arith
taken_short (x ∷ l) (suc i) = omega (arith, taken_short l i)

-- no track has more of its kind before it than tracks stand before it
pub seat_low : (l : List (ItemOf Listed)) (i : ℕ) (s : Seat) → IsSeatAt l i s → s.index ≤ i
seat_low l i s u =
    omega (
      arith,
      u.index,
      filter_short (is_of (kind_of s.first.now)) (take i l),
      taken_short l i,
    )

-- ---- whether no input so far has a track

none_past : (l : List (ItemOf Listed)) (i : ℕ) → is_none (slice_get l i) ≡ nat_le (length l) i
none_past [] zero = refl
none_past [] (suc i) = grind (arith, nat_tests)
none_past (x ∷ l) zero = grind (arith, nat_tests)
none_past (x ∷ l) (suc i) = none_past l i ∙ grind (arith, nat_tests)

both_within : (a b i : ℕ) → (nat_le a i && nat_le b i) ≡ nat_le (max a b) i
both_within a b i = grind (arith, nat_tests)

is_new-most : (lists : List (List (ItemOf Listed))) (s : Slot)
    → is_new lists s ≡ nat_le (most_in s.kind lists) s.index
is_new-most [] s = grind (arith, nat_tests)
is_new-most (l ∷ lists) s =
    ap (λ b. b && is_new lists s) (none_past (filter (is_of s.kind) l) s.index)
    ∙ ap (λ b. nat_le (length (filter (is_of s.kind) l)) s.index && b) (is_new-most lists s)
    ∙ both_within (length (filter (is_of s.kind) l)) (most_in s.kind lists) s.index

most_last : (kind : List ℕ) (lists : List (List (ItemOf Listed))) (l : List (ItemOf Listed))
    → most_in kind (lists ++ l ∷ []) ≡ max (most_in kind lists) (length (filter (is_of kind) l))
most_last kind [] l = omega arith
most_last kind (m ∷ lists) l = omega (arith, most_last kind lists l)

-- the input's own tracks before it change nothing of that
own_within : (a i : ℕ) → nat_le (max a i) i ≡ nat_le a i
own_within a i = grind (arith, nat_tests)

pub new_by_most : (m : Most) (lists : List (List (ItemOf Listed))) (l : List (ItemOf Listed))
    (i : ℕ) (s : Seat) → HasMost m (lists ++ take i l ∷ []) → IsSeatAt l i s
    → nat_le (most_at (kind_of s.first.now) m) s.index ≡ is_new lists (slot_of s)
new_by_most m lists l i s h u =
    let kind = kind_of s.first.now in
    ap (λ n. nat_le n s.index) (h kind ∙ most_last kind lists (take i l)
    ∙ ap (max (most_in kind lists)) (sym u.index))
    ∙ own_within (most_in kind lists) s.index
    ∙ sym (is_new-most lists (slot_of s))

-- ---- one track more

of_kind_more : (kind : List ℕ) (l : List (ItemOf Listed)) (i : ℕ) (x : ItemOf Listed)
    → slice_get l i ≡ Some x → is_of kind x ≡ true
    → length (filter (is_of kind) (take (i + 1) l)) ≡ length (filter (is_of kind) (take i l)) + 1
of_kind_more kind l i x e t =
    ap (λ z. length (filter (is_of kind) z)) (taken_more l i x e)
    ∙ ap length (filter-append (is_of kind) (take i l) (x ∷ []))
    ∙ ap (λ b. length (filter (is_of kind) (take i l) ++ cond b (x ∷ []) [])) t
    ∙ length-append (filter (is_of kind) (take i l)) (x ∷ [])

other_kind_more : (kind : List ℕ) (l : List (ItemOf Listed)) (i : ℕ) (x : ItemOf Listed)
    → slice_get l i ≡ Some x → is_of kind x ≡ false
    → length (filter (is_of kind) (take (i + 1) l)) ≡ length (filter (is_of kind) (take i l))
other_kind_more kind l i x e t =
    ap (λ z. length (filter (is_of kind) z)) (taken_more l i x e)
    ∙ ap length (filter-append (is_of kind) (take i l) (x ∷ []))
    ∙ ap (λ b. length (filter (is_of kind) (take i l) ++ cond b (x ∷ []) [])) t
    ∙ ap length (append-nil (filter (is_of kind) (take i l)))

-- of the seat's own kind, and of the others
own_more : (n : ℕ) (m : Most) (lists : List (List (ItemOf Listed))) (l : List (ItemOf Listed))
    (i : ℕ) (s : Seat) (kind : List ℕ) → HasMost m (lists ++ take i l ∷ []) → IsSeatAt l i s
    → kind_of s.first.now ≡ kind → n ≡ max (most_at kind m) (s.index + 1)
    → n ≡ most_in kind (lists ++ take (i + 1) l ∷ [])
own_more n m lists l i s kind h u k e =
    let test : is_of kind s.first.now ≡ true =
    of_kind s.first.now kind u.track ∙ ap (λ z. bytes_eq z kind) k ∙ same_bytes kind in
    omega (
      arith,
      e,
      h kind,
      most_last kind lists (take i l),
      most_last kind lists (take (i + 1) l),
      of_kind_more kind l i s.first.now u.there test,
      u.index,
      ap (λ z. length (filter (is_of z) (take i l))) k,
    )
  where
    same_bytes : (a : List ℕ) → bytes_eq a a ≡ true
    same_bytes a = (Rattle.std.proofs.lemmas.Slice.Eq.bytes_eq-Decides a a).1 refl

others_more : (m : Most) (lists : List (List (ItemOf Listed))) (l : List (ItemOf Listed))
    (i : ℕ) (s : Seat) (kind : List ℕ) → HasMost m (lists ++ take i l ∷ []) → IsSeatAt l i s
    → bytes_eq (kind_of s.first.now) kind ≡ false
    → most_at kind m ≡ most_in kind (lists ++ take (i + 1) l ∷ [])
others_more m lists l i s kind h u k =
    omega (
      arith,
      h kind,
      most_last kind lists (take i l),
      most_last kind lists (take (i + 1) l),
      other_kind_more kind l i s.first.now u.there (of_kind s.first.now kind u.track ∙ k),
    )

-- a new one is one more than any input has
pub most_raised : (m new : Most) (lists : List (List (ItemOf Listed))) (l : List (ItemOf Listed))
    (i : ℕ) (s : Seat) → HasMost m (lists ++ take i l ∷ []) → IsSeatAt l i s
    → nat_le (most_at (kind_of s.first.now) m) s.index ≡ true
    → Raises (kind_of s.first.now) (s.index + 1) m new
    → HasMost new (lists ++ take (i + 1) l ∷ [])
most_raised m new lists l i s h u test r kind =
    let less = leb-true (most_at (kind_of s.first.now) m) s.index test in
    cases (bytes_eq (kind_of s.first.now) kind)
    (λ e. let k = same_kind (kind_of s.first.now) kind e in
    own_more (most_at kind new) m lists l i s kind h u k
    (ap or_zero (r kind ∙ ap (λ b. cond b (Some (s.index + 1)) (get_by (λ z. slice_cmp nat_cmp kind z.now) m)) e)
    ∙ omega (arith, less, ap (λ z. most_at z m) k)))
    (λ e. ap or_zero (r kind ∙ ap (λ b. cond b (Some (s.index + 1)) (get_by (λ z. slice_cmp nat_cmp kind z.now) m)) e)
    ∙ others_more m lists l i s kind h u e)

-- another one changes nothing
pub most_kept : (m : Most) (lists : List (List (ItemOf Listed))) (l : List (ItemOf Listed))
    (i : ℕ) (s : Seat) → HasMost m (lists ++ take i l ∷ []) → IsSeatAt l i s
    → nat_le (most_at (kind_of s.first.now) m) s.index ≡ false
    → HasMost m (lists ++ take (i + 1) l ∷ [])
most_kept m lists l i s h u test kind =
    let less = leb-false (most_at (kind_of s.first.now) m) s.index test in
    cases (bytes_eq (kind_of s.first.now) kind)
    (λ e. let k = same_kind (kind_of s.first.now) kind e in
    own_more (most_at kind m) m lists l i s kind h u k
    (omega (arith, less, ap (λ z. most_at z m) k)))
    (λ e. others_more m lists l i s kind h u e)

-- ---- the loops

-- so many tracks of the input of an index are counted
abbrev pub AreCounted : Most → List Part → ℕ → ℕ → Type 0
AreCounted m ps at i = (p : Part) → slice_get ps at ≡ Some p
    → HasMost m (take at (lists_of ps) ++ take i (list_of p) ∷ [])

pub counted_none : (m : Most) → m.entries ≡ [] → HasMost m []
counted_none m e kind =
    ap (λ es. or_zero (lookup (is_at (λ k. slice_cmp nat_cmp kind k.now)) es)) e

pub counted_first : (m : Most) (ps : List Part) (at : ℕ) → HasMost m (take at (lists_of ps))
    → AreCounted m ps at 0
counted_first m ps at h p e kind =
    h kind ∙ omega (arith, most_last kind (take at (lists_of ps)) [])

-- the same of the part that stands there
pub counted_here : (m : Most) (ps : List Part) (at i : ℕ) (p : Part) → slice_get ps at ≡ Some p
    → HasMost m (take at (lists_of ps) ++ take i (list_of p) ∷ []) → AreCounted m ps at i
counted_here m ps at i p e h q f =
    subst (λ z. HasMost m (take at (lists_of ps) ++ take i (list_of z) ∷ []))
    (same_some p q (sym e ∙ f)) h

pub counted_all : (m : Most) (ps : List Part) (at i : ℕ) (p : Part) → AreCounted m ps at i
    → slice_get ps at ≡ Some p → take i (list_of p) ≡ list_of p
    → HasMost m (take (at + 1) (lists_of ps))
counted_all m ps at i p a e f =
    subst (HasMost m) (ap (λ z. take at (lists_of ps) ++ z ∷ []) f ∙ sym (lists_more ps at p e)) (a p e)
