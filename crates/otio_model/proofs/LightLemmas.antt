-- The first item that has a clip, and the last that may show something, in parts and in the whole.
use Rattle.std.proofs.Common.{◌≡◌, ℕ, zero, suc, ◌+◌, ◌-◌, ◌≤◌, ◌<◌, ◌^◌, max, min, List, [], ◌∷◌}
use Rattle.std.proofs.Common.{◌++◌, ◌⊎◌, inl, inr, Bool, true, false, Option, Some, None, refl, ap}
use Rattle.std.proofs.Common.{sym, ◌∙◌, take, drop, length, get_or, map, arith}
use Rattle.std.specs.Prelude.{◌||◌, slice_get, pos, int_lt, option_map}
use Rattle.std.proofs.lemmas.Bool.{and_left, and_right}
use Rattle.std.proofs.lemmas.Int.{ints}
use Rattle.std.proofs.lemmas.Option.{slice_get_past}
use Rattle.limits.proofs.IntegerTests.{above-int_lt, below-int_lt}
use Rattle.otio_model.specs.declared.compositions.ItemOf.{ItemOf}
use Rattle.otio_model.specs.declared.compositions.Listed.{Listed}
use Rattle.otio_model.specs.declared.lists.Piece.{Piece}
use Rattle.otio_model.specs.declared.piece_summary.Kept.{Kept}
use Rattle.otio_model.specs.Clips.{any_clip, any_clip_by, any_lit, any_lit_by, has_clip, is_lit}
use Rattle.otio_model.specs.Lengths.{length_of, or_zero}
use Rattle.otio_model.specs.Lights.{HasNoClip, HasNoLit, IsFirstWithClip, IsLastLit, clip_at, clip_of}
use Rattle.otio_model.specs.Lights.{may_show, shows_at, shows_of}
use Rattle.otio_model.specs.Pieces.{AllPieces, AreNumbered, IsPiece, IsPlaced, IsSpot, all_items, front}
use Rattle.otio_model.specs.Sums.{capped, greatest}
use Rattle.otio_model.proofs.Cuts.{length_more, same_default}
use Rattle.otio_model.proofs.KeptLemmas.{piece_at, taken_all}
use Rattle.otio_model.proofs.PieceNumbers.{items_at}
use Rattle.otio_model.proofs.SeekLemmas.{split-at}
use Rattle.otio_model.proofs.Spots.{get_front, get_past}
use Rattle.otio_model.proofs.Ways.{get_at}
use Rattle.otio_model.proofs.Windows.{taken_short}

-- ---- an item of a piece, in the piece and in all pieces

pub placed_piece : (ps : List Piece) (i : ℕ) (p : Piece) → i < length ps → p ≡ get_or ps i p
    → AllPieces ps → AreNumbered front ps → IsPlaced ps i p
placed_piece ps i p h e a n =
    let next = length_more ps i p h e in
    record {
      is = piece_at ps i p h e a;
      there = h;
      read = e;
      before = items_at ps i p h e n;
      next = next;
      fits = omega (arith, next, taken_short ps (i + 1));
    }

-- the item of all pieces at an index of this piece
pub item_placed : {ps : List Piece} {i : ℕ} {p : Piece} (j : ℕ) → IsPlaced ps i p
    → p.start.items ≤ j → j < p.start.items + length p.items.items
    → slice_get (all_items ps) j ≡ slice_get p.items.items (j - p.start.items)
item_placed {ps = ps} {i = i} {p = p} j f low high =
    let a = all_items (take i ps) in
    let c = all_items (drop (i + 1) ps) in
    let k = j - p.start.items in
    let w : all_items ps ≡ a ++ (p.items.items ++ c) = split-at ps i p f.there
    ∙ ap (λ (x : Piece). a ++ (x.items.items ++ c)) (sym f.read) in
    let at : j ≡ length a + k = omega (arith, low, f.before) in
    ap (slice_get (all_items ps)) at ∙ ap (λ l. slice_get l (length a + k)) w
    ∙ get_past a (p.items.items ++ c) k
    ∙ get_front p.items.items c k (omega (arith, low, high))

below_or_not : (j n : ℕ) → (j < n) ⊎ (n ≤ j)
below_or_not j zero = inr (omega arith)
below_or_not zero (suc n) = inl (omega arith)
below_or_not (suc j) (suc n) = one (below_or_not j n)
  where
    one : (j < n) ⊎ (n ≤ j) → (suc j < suc n) ⊎ (suc n ≤ suc j)
    one (inl h) = inl (omega (arith, h))
    one (inr h) = inr (omega (arith, h))

-- what is false of each member of a list is false of any index
all_indexes : {A : Type 0} (f : Option A → Bool) (xs : List A) → f None ≡ false
    → ((j : ℕ) → j < length xs → f (slice_get xs j) ≡ false) → (j : ℕ)
    → f (slice_get xs j) ≡ false
all_indexes f xs e h j = one (below_or_not j (length xs))
  where
    one : (j < length xs) ⊎ (length xs ≤ j) → f (slice_get xs j) ≡ false
    one (inl k) = h j k
    one (inr k) = ap f (slice_get_past xs j k) ∙ e

-- what is true of an index is true of a member
index_within : {A : Type 0} (f : Option A → Bool) (xs : List A) (i : ℕ) → f None ≡ false
    → f (slice_get xs i) ≡ true → i < length xs
index_within f xs i e h = one (below_or_not i (length xs))
  where
    one : (i < length xs) ⊎ (length xs ≤ i) → i < length xs
    one (inl k) = k
    one (inr k) =
        let both : false ≡ true = sym (ap f (slice_get_past xs i k) ∙ e) ∙ h in absurd (cc both)

pub or_first : (p q : Bool) → (p || q) ≡ false → p ≡ false
or_first true q e = e
or_first false q e = refl

pub or_second : (p q : Bool) → (p || q) ≡ false → q ≡ false
or_second true q e = absurd (cc e)
or_second false q e = e

-- ---- the first with a clip

pub clip_here : (xs : List (ItemOf Listed)) (i : ℕ) (x : ItemOf Listed) → i < length xs
    → x ≡ get_or xs i x → has_clip x ≡ true → clip_at xs i ≡ true
clip_here xs i x h e k = ap clip_of (get_at xs i x h e) ∙ k

pub clip_passed : (xs : List (ItemOf Listed)) (i : ℕ) (x : ItemOf Listed) → i < length xs
    → x ≡ get_or xs i x → has_clip x ≡ false → ((j : ℕ) → j < i → clip_at xs j ≡ false)
    → (j : ℕ) → j < i + 1 → clip_at xs j ≡ false
clip_passed xs i x h e k n j b = one (below_or_not j i)
  where
    one : (j < i) ⊎ (i ≤ j) → clip_at xs j ≡ false
    one (inl l) = n j l
    one (inr l) = let same : j ≡ i = omega (arith, l, b) in
        ap (clip_at xs) same ∙ ap clip_of (get_at xs i x h e) ∙ k

pub clip_none : (xs : List (ItemOf Listed)) (i : ℕ) → length xs ≤ i
    → ((j : ℕ) → j < i → clip_at xs j ≡ false) → HasNoClip xs
clip_none xs i h n = all_indexes clip_of xs refl (λ j k. n j (omega (arith, h, k)))

no_clip_in : (xs : List (ItemOf Listed)) → any_clip_by any_clip xs ≡ false → HasNoClip xs
no_clip_in [] e zero = refl
no_clip_in [] e (suc j) = refl
no_clip_in (x ∷ xs) e zero = or_first (has_clip x) (any_clip_by any_clip xs) e
no_clip_in (x ∷ xs) e (suc j) =
    no_clip_in xs (or_second (has_clip x) (any_clip_by any_clip xs) e) j

-- a piece that keeps no clip has none
pub piece_no_clip : (p : Piece) → IsPiece p → p.kept.clips ≡ false → HasNoClip p.items.items
piece_no_clip p k e = no_clip_in p.items.items (sym (ap (λ (x : Kept). x.clips) k.keeps) ∙ e)

pub clip_within : {xs : List (ItemOf Listed)} {i : ℕ} → IsFirstWithClip xs i → i < length xs
clip_within {xs = xs} {i = i} h = index_within clip_of xs i refl h.there

-- what is found in a piece is found in all
pub clip_found : {ps : List Piece} {i index : ℕ} {p : Piece} → IsPlaced ps i p
    → ((j : ℕ) → j < length (all_items (take i ps)) → clip_at (all_items ps) j ≡ false)
    → IsFirstWithClip p.items.items index
    → IsFirstWithClip (all_items ps) (p.start.items + index)
clip_found {ps = ps} {i = i} {index = index} {p = p} f n h =
    let inside = clip_within h in
    let less : (p.start.items + index) - p.start.items ≡ index = omega arith in
    record {
      there = ap clip_of (item_placed (p.start.items + index) f (omega arith)
          (omega (arith, inside)))
          ∙ ap (clip_at p.items.items) less ∙ h.there;
      none_before = λ j b. one j b (below_or_not j p.start.items);
    }
  where
    one : (j : ℕ) → j < p.start.items + index → (j < p.start.items) ⊎ (p.start.items ≤ j)
        → clip_at (all_items ps) j ≡ false
    one j b (inl k) = n j (omega (arith, k, f.before))
    one j b (inr k) =
        ap clip_of (item_placed j f k (omega (arith, b, clip_within h)))
        ∙ h.none_before (j - p.start.items) (omega (arith, b, k))

-- a search that goes on
pub clip_more : {ps : List Piece} {i : ℕ} {p : Piece} → IsPlaced ps i p
    → ((j : ℕ) → j < length (all_items (take i ps)) → clip_at (all_items ps) j ≡ false)
    → HasNoClip p.items.items → (j : ℕ) → j < length (all_items (take (i + 1) ps))
    → clip_at (all_items ps) j ≡ false
clip_more {ps = ps} {i = i} {p = p} f n h j b = one (below_or_not j p.start.items)
  where
    one : (j < p.start.items) ⊎ (p.start.items ≤ j) → clip_at (all_items ps) j ≡ false
    one (inl k) = n j (omega (arith, k, f.before))
    one (inr k) = ap clip_of (item_placed j f k (omega (arith, b, f.next, f.before)))
        ∙ h (j - p.start.items)

pub clip_nowhere : (ps : List Piece) (i : ℕ) → length ps ≤ i
    → ((j : ℕ) → j < length (all_items (take i ps)) → clip_at (all_items ps) j ≡ false)
    → HasNoClip (all_items ps)
clip_nowhere ps i h n =
    clip_none (all_items ps) (length (all_items (take i ps)))
    (omega (arith, ap (λ l. length (all_items l)) (taken_all ps i h))) n

-- ---- the last that may show something

-- an item is longer than so many ticks where what is kept of its length is more
pub longer : (o : Option ℕ) (n at : ℕ) → Some n ≡ option_map capped o → at < 2 ^ 127
    → int_lt (pos at) (pos n) ≡ int_lt (pos at) (pos (or_zero o))
longer None n at e h = absurd (cc e)
longer (Some m) n at e h = let same : n ≡ capped m = cc e in one same (below_or_not at m)
  where
    one : n ≡ capped m → (at < m) ⊎ (m ≤ at) → int_lt (pos at) (pos n) ≡ int_lt (pos at) (pos m)
    one s (inl k) =
        below-int_lt (pos at) (pos n) (omega (arith, ints, s, h, k))
        ∙ sym (below-int_lt (pos at) (pos m) (omega (arith, ints, k)))
    one s (inr k) =
        above-int_lt (pos at) (pos n) (omega (arith, ints, s, k))
        ∙ sym (above-int_lt (pos at) (pos m) (omega (arith, ints, k)))

pub never_longer : (o : Option ℕ) (at : ℕ) → None ≡ option_map capped o
    → false ≡ int_lt (pos at) (pos (or_zero o))
never_longer None at e = sym (above-int_lt (pos at) (pos 0) (omega (arith, ints)))
never_longer (Some m) at e = absurd (cc e)

pub lit_here : (xs : List (ItemOf Listed)) (at i : ℕ) (x : ItemOf Listed) → i < length xs
    → x ≡ get_or xs i x → may_show x (pos at) ≡ true → shows_at xs (pos at) i ≡ true
lit_here xs at i x h e k = ap (λ o. shows_of o (pos at)) (get_at xs i x h e) ∙ k

pub lit_passed : (xs : List (ItemOf Listed)) (end at n i : ℕ) (x : ItemOf Listed) → i < length xs
    → x ≡ get_or xs i x → n ≡ suc i → may_show x (pos at) ≡ false
    → ((j : ℕ) → n ≤ j → j < end → shows_at xs (pos at) j ≡ false)
    → (j : ℕ) → i ≤ j → j < end → shows_at xs (pos at) j ≡ false
lit_passed xs end at n i x h e s k r j low high = one (below_or_not i j)
  where
    one : (i < j) ⊎ (j ≤ i) → shows_at xs (pos at) j ≡ false
    one (inl l) = r j (omega (arith, s, l)) high
    one (inr l) = let same : j ≡ i = omega (arith, l, low) in
        ap (shows_at xs (pos at)) same ∙ ap (λ o. shows_of o (pos at)) (get_at xs i x h e) ∙ k

no_lit_in : (xs : List (ItemOf Listed)) (at : ℕ) → any_lit_by any_lit xs ≡ false → (j : ℕ)
    → shows_at xs (pos at) j ≡ false
no_lit_in [] at e zero = refl
no_lit_in [] at e (suc j) = refl
no_lit_in (x ∷ xs) at e zero =
    and_left (is_lit x) (int_lt (pos at) (pos (or_zero (length_of x))))
    (or_first (is_lit x) (any_lit_by any_lit xs) e)
no_lit_in (x ∷ xs) at e (suc j) =
    no_lit_in xs at (or_second (is_lit x) (any_lit_by any_lit xs) e) j

greatest-first : (o : Option ℕ) (ns : List (Option ℕ))
    → greatest (o ∷ ns) ≡ max (or_zero o) (greatest ns)
greatest-first None ns = omega arith
greatest-first (Some k) ns = refl

short_in : (xs : List (ItemOf Listed)) (at : ℕ) → greatest (map length_of xs) ≤ at → (j : ℕ)
    → shows_at xs (pos at) j ≡ false
short_in [] at h zero = refl
short_in [] at h (suc j) = refl
short_in (x ∷ xs) at h zero =
    and_right (is_lit x) (int_lt (pos at) (pos (or_zero (length_of x))))
    (above-int_lt (pos at) (pos (or_zero (length_of x)))
    (omega (arith, ints, h, greatest-first (length_of x) (map length_of xs))))
short_in (x ∷ xs) at h (suc j) =
    short_in xs at (omega (arith, h, greatest-first (length_of x) (map length_of xs))) j

-- in a piece that keeps nothing lit, or nothing that is longer, none may show anything
pub piece_unlit : (p : Piece) (end at : ℕ) → IsPiece p → p.kept.lit ≡ false
    → HasNoLit p.items.items end (pos at)
piece_unlit p end at k e j b =
    no_lit_in p.items.items at (sym (ap (λ (x : Kept). x.lit) k.keeps) ∙ e) j

pub piece_short : (p : Piece) (end at : ℕ) → IsPiece p → at < 2 ^ 127
    → p.kept.lengths.longest ≤ at → HasNoLit p.items.items end (pos at)
piece_short p end at k s h j b =
    short_in p.items.items at
    (omega (arith, s, h, ap (λ (x : Kept). x.lengths.longest) k.keeps)) j

pub lit_within : {xs : List (ItemOf Listed)} {end at i : ℕ} → IsLastLit xs end (pos at) i
    → i < length xs
lit_within {xs = xs} {at = at} {i = i} h =
    index_within (λ o. shows_of o (pos at)) xs i refl h.there

-- the piece that has the last one ends behind it
spot_ends : (ps : List Piece) (index k off : ℕ) → IsSpot ps index k off
    → index < length (all_items (take (k + 1) ps))
spot_ends [] index k off s = absurd (omega (arith, s.within))
spot_ends (p ∷ ps) index k off s =
    let q = get_or (p ∷ ps) k p in
    omega (arith, s.before, s.inside p, length_more (p ∷ ps) k q s.within (same_default (p ∷ ps) k p q s.within))

-- none stands from the piece behind that of the last one on
pub lit_start : {ps : List Piece} {end last offset : ℕ} (at : ℕ) → IsSpot ps (end - 1) last offset
    → (j : ℕ) → length (all_items (take (last + 1) ps)) ≤ j → j < end
    → shows_at (all_items ps) (pos at) j ≡ false
lit_start {ps = ps} {end = end} {last = last} {offset = offset} at s j low high =
    absurd (omega (arith, low, high, spot_ends ps (end - 1) last offset s))

-- what is found in a piece is found in all
pub lit_found : {ps : List Piece} {end at i n most index : ℕ} {p : Piece} → IsPlaced ps i p
    → n ≡ suc i → most ≡ min (length p.items.items) (end - p.start.items)
    → ((j : ℕ) → length (all_items (take n ps)) ≤ j → j < end
    → shows_at (all_items ps) (pos at) j ≡ false)
    → IsLastLit p.items.items most (pos at) index
    → IsLastLit (all_items ps) end (pos at) (p.start.items + index)
lit_found {ps = ps} {end = end} {at = at} {i = i} {n = n} {index = index} {p = p} f s m r h =
    let inside = lit_within h in
    let less : (p.start.items + index) - p.start.items ≡ index = omega arith in
    record {
      before = omega (arith, h.before, m);
      there = ap (λ o. shows_of o (pos at)) (item_placed (p.start.items + index) f (omega arith)
          (omega (arith, inside)))
          ∙ ap (shows_at p.items.items (pos at)) less ∙ h.there;
      none_between = λ j low high. one j low high
          (below_or_not j (p.start.items + length p.items.items));
    }
  where
    plus : suc i ≡ i + 1
    plus = omega arith

    one : (j : ℕ) → p.start.items + index < j → j < end
        → (j < p.start.items + length p.items.items) ⊎ (p.start.items + length p.items.items ≤ j)
        → shows_at (all_items ps) (pos at) j ≡ false
    one j low high (inl k) =
        ap (λ o. shows_of o (pos at)) (item_placed j f (omega (arith, low)) k)
        ∙ h.none_between (j - p.start.items) (omega (arith, low))
        (omega (arith, low, high, k, m))
    one j low high (inr k) =
        r j (omega (arith, k, f.next, f.before, ap (λ k. length (all_items (take k ps))) (s ∙ plus)))
        high

-- a search that goes on
pub lit_more : {ps : List Piece} {end i n most : ℕ} {p : Piece} (at : ℕ) → IsPlaced ps i p
    → n ≡ suc i
    → most ≡ min (length p.items.items) (end - p.start.items)
    → ((j : ℕ) → length (all_items (take n ps)) ≤ j → j < end
    → shows_at (all_items ps) (pos at) j ≡ false)
    → HasNoLit p.items.items most (pos at)
    → (j : ℕ) → length (all_items (take i ps)) ≤ j → j < end
    → shows_at (all_items ps) (pos at) j ≡ false
lit_more {ps = ps} {end = end} {i = i} {n = n} {p = p} at f s m r h j low high =
    one (below_or_not j (p.start.items + length p.items.items))
  where
    plus : suc i ≡ i + 1
    plus = omega arith

    one : (j < p.start.items + length p.items.items) ⊎ (p.start.items + length p.items.items ≤ j)
        → shows_at (all_items ps) (pos at) j ≡ false
    one (inl k) =
        ap (λ o. shows_of o (pos at)) (item_placed j f (omega (arith, low, f.before)) k)
        ∙ h (j - p.start.items) (omega (arith, low, high, k, m, f.before))
    one (inr k) =
        r j (omega (arith, k, f.next, f.before, ap (λ k. length (all_items (take k ps))) (s ∙ plus)))
        high
