-- What is kept of lists of items, of one item, and of two lists together.
use Rattle.std.proofs.Common.{◌≡◌, ℕ, ◌<◌, ◌+◌, ◌≤◌, ◌^◌, max, zero, suc, List, [], ◌∷◌, ◌++◌}
use Rattle.std.proofs.Common.{Option, Some, None, refl, ap, sym, ◌∙◌, length, map, take, get_or}
use Rattle.std.proofs.Common.{subst, arith, append-nil}
use Rattle.std.specs.Prelude.{◌-◌, ◌&&◌, ℤ, pos, negsuc, ◌-ℤ◌, ◌≤ℤ◌, option_map}
use Rattle.std.specs.Prelude.{unsigned_abs}
use Rattle.std.proofs.lemmas.Int.{ints}
use Rattle.std.proofs.lemmas.List.{take_more}
use Rattle.limits.specs.Limits.{most_ticks}
use Rattle.tick_time.specs.declared.times.Time.{Time}
use Rattle.otio_model.specs.declared.compositions.ItemOf.{ItemOf}
use Rattle.otio_model.specs.declared.compositions.ItemOf.TheVariants.{Clip, Gap, Transition, Stack}
use Rattle.otio_model.specs.declared.compositions.ItemOf.TheVariants.{Track}
use Rattle.otio_model.specs.declared.compositions.Listed.{Listed}
use Rattle.otio_model.specs.declared.lists.Piece.{Piece}
use Rattle.otio_model.specs.declared.length_sums.Totals.{Totals}
use Rattle.otio_model.specs.declared.piece_summary.Kept.{Kept}
use Rattle.otio_model.specs.Trees.{items_of, listed}
use Rattle.otio_model.proofs.Views.{shown}
use Rattle.otio_model.proofs.LengthLimits.{longest_enough, short_enough}
use Rattle.otio_model.specs.Counts.{count, count_of, counts_by}
use Rattle.otio_model.specs.Falls.{count-listed, counts-append}
use Rattle.otio_model.specs.Lengths.{length_of, lengths, added, or_zero}
use Rattle.otio_model.specs.Sums.{greatest, are_known, capped, totals, with_length}
use Rattle.otio_model.specs.Kept.{capped_count, one_transition, transitions_in, reach_in, kept_of}
use Rattle.otio_model.specs.Kept.{kept_one, joined, joined_totals, offset_reach}
use Rattle.otio_model.specs.Kept.{after_in, after_of, before_in, before_of}
use Rattle.otio_model.specs.Clips.{any_clip, any_lit, has_clip, is_lit}
use Rattle.otio_model.proofs.ClipLemmas.{clips-append, clips-listed, lit-append, lit-listed}
use Rattle.otio_model.proofs.ClipLemmas.{or_false}
use Rattle.otio_model.specs.Pieces.{all_items, AllPieces, IsPiece}
use Rattle.otio_model.proofs.Adding.{lengths-listed, totals_by}
use Rattle.otio_model.proofs.Cuts.{all_items-append}

kept_by : (a b : Kept) → a.lengths ≡ b.lengths → a.transitions ≡ b.transitions → a.reach ≡ b.reach
    → a.before ≡ b.before → a.after ≡ b.after → a.items ≡ b.items → a.clips ≡ b.clips
    → a.lit ≡ b.lit → a ≡ b
kept_by a b l t r f g n c e = λ i. record {
  lengths = l i;
  transitions = t i;
  reach = r i;
  before = f i;
  after = g i;
  items = n i;
  clips = c i;
  lit = e i;
}

-- lists of lengths together
pub added-append : (ms ns : List (Option ℕ)) → added (ms ++ ns) ≡ added ms + added ns
added-append [] ns = omega arith
added-append (None ∷ ms) ns = added-append ms ns
added-append ((Some m) ∷ ms) ns = omega (arith, added-append ms ns)

pub greatest-append : (ms ns : List (Option ℕ)) → greatest (ms ++ ns) ≡ max (greatest ms) (greatest ns)
greatest-append [] ns = omega arith
greatest-append (None ∷ ms) ns = greatest-append ms ns
greatest-append ((Some m) ∷ ms) ns = omega (arith, greatest-append ms ns)

known-append : (ms ns : List (Option ℕ)) → are_known (ms ++ ns) ≡ (are_known ms && are_known ns)
known-append [] ns = refl
known-append (None ∷ ms) ns = refl
known-append ((Some m) ∷ ms) ns = known-append ms ns

totals-append : (ms ns : List (Option ℕ))
    → totals (ms ++ ns) ≡ joined_totals (totals ms) (totals ns)
totals-append ms ns =
    totals_by _ _ (omega (arith, added-append ms ns)) (omega (arith, greatest-append ms ns))
    (known-append ms ns)

pub transitions-append : (xs ys : List (ItemOf Listed))
    → transitions_in (xs ++ ys) ≡ transitions_in xs + transitions_in ys
transitions-append [] ys = omega arith
transitions-append (x ∷ xs) ys = omega (arith, transitions-append xs ys)

pub reach-append : (xs ys : List (ItemOf Listed))
    → reach_in (xs ++ ys) ≡ max (reach_in xs) (reach_in ys)
reach-append [] ys = omega arith
reach-append (x ∷ xs) ys = omega (arith, reach-append xs ys)

pub mapped-append : {A B : Type 0} (f : A → B) (xs ys : List A)
    → map f (xs ++ ys) ≡ map f xs ++ map f ys
mapped-append f [] ys = refl
mapped-append f (x ∷ xs) ys = ap (λ l. f x ∷ l) (mapped-append f xs ys)

-- ---- how far overlaps reach out of a list

added-first : (o : Option ℕ) (ns : List (Option ℕ)) → added (o ∷ ns) ≡ or_zero o + added ns
added-first None ns = omega arith
added-first (Some k) ns = omega arith

size_small : (z : ℤ) → (pos 0 -ℤ pos most_ticks) ≤ℤ z → z ≤ℤ pos most_ticks
    → unsigned_abs z ≤ most_ticks
size_small (pos n) h k = omega (arith, ints, k)
size_small (negsuc n) h k = omega (arith, ints, h)

offset_small : (o : Option Time) → offset_reach o ≤ most_ticks
offset_small None = omega arith
offset_small (Some t) = size_small t.ticks t.low t.high

before_small : (x : ItemOf Listed) → before_of x ≤ most_ticks
before_small (Clip c) = omega arith
before_small (Gap g) = omega arith
before_small (Transition t) = offset_small t.in_offset
before_small (Stack s) = omega arith
before_small (Track t) = omega arith

after_small : (x : ItemOf Listed) → after_of x ≤ most_ticks
after_small (Clip c) = omega arith
after_small (Gap g) = omega arith
after_small (Transition t) = offset_small t.out_offset
after_small (Stack s) = omega arith
after_small (Track t) = omega arith

-- no overlap is longer than a million seconds on one side
before_short : (xs : List (ItemOf Listed)) → before_in xs ≤ most_ticks
before_short [] = omega arith
before_short (x ∷ xs) = omega (arith, before_small x, before_short xs)

after_short : (xs : List (ItemOf Listed)) → after_in xs ≤ most_ticks
after_short [] = omega arith
after_short (x ∷ xs) = omega (arith, after_small x, after_short xs)

before-append : (xs ys : List (ItemOf Listed))
    → before_in (xs ++ ys) ≡ max (before_in xs) (before_in ys - added (map length_of xs))
before-append [] ys = omega arith
before-append (x ∷ xs) ys =
    omega (arith, before-append xs ys, added-first (length_of x) (map length_of xs))

after-append : (xs ys : List (ItemOf Listed))
    → after_in (xs ++ ys) ≡ max (after_in ys) (after_in xs - added (map length_of ys))
after-append [] ys = omega arith
after-append (x ∷ xs) ys = omega (
  arith,
  after-append xs ys,
  added-first (length_of x) (map length_of xs),
  added-first (length_of x) (map length_of (xs ++ ys)),
  ap added (mapped-append length_of xs ys),
  added-append (map length_of xs) (map length_of ys),
)

-- what is kept of two lists together
pub kept-append : (xs ys : List (ItemOf Listed))
    → kept_of (xs ++ ys) ≡ joined (kept_of xs) (kept_of ys)
kept-append xs ys =
    kept_by _ _ (ap totals (mapped-append length_of xs ys)
    ∙ totals-append (map length_of xs) (map length_of ys))
    (omega (arith, transitions-append xs ys)) (reach-append xs ys)
    (omega (arith, before-append xs ys, before_short ys))
    (omega (arith, after-append xs ys, after_short xs)) (omega (arith, counts-append xs ys))
    (clips-append xs ys) (lit-append xs ys)

one_kept : (x : ItemOf Listed) → kept_of (x ∷ []) ≡ kept_one x
one_kept x =
    kept_by _ _ refl (at x) (omega arith) (omega arith) (ends x) (ap capped_count (alone x))
    (or_false (has_clip x)) (or_false (is_lit x))
  where
    ends : (x : ItemOf Listed) → max (after_of x - added (length_of x ∷ [])) 0 ≡ after_of x
    ends (Clip c) = omega arith
    ends (Gap g) = omega arith
    ends (Transition t) = omega arith
    ends (Stack s) = omega arith
    ends (Track t) = omega arith

    alone : (x : ItemOf Listed) → counts_by count (x ∷ []) ≡ count_of x
    alone x = omega arith

    at : (x : ItemOf Listed) → capped_count (one_transition x + 0) ≡ one_transition x
    at (Clip c) = refl
    at (Gap g) = refl
    at (Transition t) = refl
    at (Stack s) = refl
    at (Track t) = refl

-- what is kept of one more item
pub kept_more : (xs : List (ItemOf Listed)) (i : ℕ) (x : ItemOf Listed) → i < length xs
    → x ≡ get_or xs i x → kept_of (take (i + 1) xs) ≡ joined (kept_of (take i xs)) (kept_one x)
kept_more xs i x h e =
    ap kept_of (take_more xs i x h ∙ ap (λ y. take i xs ++ y ∷ []) (sym e))
    ∙ kept-append (take i xs) (x ∷ [])
    ∙ ap (joined (kept_of (take i xs))) (one_kept x)

-- the totals of one length
pub one_length : (x : ItemOf Listed)
    → totals (length_of x ∷ []) ≡ with_length (option_map capped (length_of x)) (totals [])
one_length x = at (length_of x)
  where
    at : (o : Option ℕ) → totals (o ∷ []) ≡ with_length (option_map capped o) (totals [])
    at None = refl
    at (Some n) = totals_by _ _ (omega arith) (omega arith) refl

pub kept_pieces_more : (ps : List Piece) (i : ℕ) (p : Piece) → i < length ps → p ≡ get_or ps i p
    → kept_of (all_items (take (i + 1) ps))
    ≡ joined (kept_of (all_items (take i ps))) (kept_of p.items.items)
kept_pieces_more ps i p h e =
    ap (λ l. kept_of (all_items l)) (take_more ps i p h ∙ ap (λ y. take i ps ++ y ∷ []) (sym e))
    ∙ ap kept_of (all_items-append (take i ps) (p ∷ [])
    ∙ ap (λ l. all_items (take i ps) ++ l) (append-nil p.items.items))
    ∙ kept-append (all_items (take i ps)) p.items.items

pub at_get : (ps : List Piece) (i : ℕ) (d : Piece) → i < length ps → AllPieces ps
    → IsPiece (get_or ps i d)
at_get [] i d h a = absurd (omega arith)
at_get (p ∷ ps) zero d h a = a.0
at_get (p ∷ ps) (suc i) d h a = at_get ps i d (omega arith) a.1

pub piece_at : (ps : List Piece) (i : ℕ) (p : Piece) → i < length ps → p ≡ get_or ps i p
    → AllPieces ps → IsPiece p
piece_at ps i p h e a = subst IsPiece (sym e) (at_get ps i p h a)

pub taken_all : {A : Type 0} (ps : List A) (i : ℕ) → length ps ≤ i → take i ps ≡ ps
taken_all [] zero h = refl
taken_all [] (suc i) h = refl
taken_all (p ∷ ps) zero h = absurd (omega arith)
taken_all (p ∷ ps) (suc i) h = ap (λ l. p ∷ l) (taken_all ps i (omega arith))

-- what is kept of all pieces, one more piece being added
pub kept_next : (ps : List Piece) (i : ℕ) (p : Piece) → i < length ps → p ≡ get_or ps i p
    → AllPieces ps → kept_of (all_items (take (i + 1) ps))
    ≡ joined (kept_of (all_items (take i ps))) p.kept
kept_next ps i p h e a = kept_pieces_more ps i p h e
    ∙ ap (joined (kept_of (all_items (take i ps)))) (sym (piece_at ps i p h e a).keeps)

-- what is kept of a list is kept of the children that it shows
pub totals_kept : (xs : List (ItemOf Listed)) (l : Listed) (k : Kept) → listed xs ≡ l
    → k ≡ kept_of xs → k.lengths ≡ totals (lengths l)
totals_kept xs l k e h = ap (λ (k : Kept). k.lengths) h ∙ ap totals (sym (lengths-listed xs))
    ∙ ap (λ m. totals (lengths m)) e

pub items_shown : (xs : List (ItemOf Listed)) (l : Listed) (k : Kept) → listed xs ≡ l
    → k ≡ kept_of xs → k.items ≡ capped_count (count l)
items_shown xs l k e h = ap (λ (k : Kept). k.items) h ∙ ap capped_count (sym (count-listed xs))
    ∙ ap (λ m. capped_count (count m)) e

pub transitions_shown : (xs : List (ItemOf Listed)) (l : Listed) (k : Kept) → listed xs ≡ l
    → k ≡ kept_of xs → k.transitions ≡ capped_count (transitions_in (items_of l))
transitions_shown xs l k e h = ap (λ (k : Kept). k.transitions) h
    ∙ ap (λ ys. capped_count (transitions_in ys)) (sym (shown xs l e))

pub reach_shown : (xs : List (ItemOf Listed)) (l : Listed) (k : Kept) → listed xs ≡ l
    → k ≡ kept_of xs → k.reach ≡ reach_in (items_of l)
reach_shown xs l k e h = ap (λ (k : Kept). k.reach) h ∙ ap reach_in (sym (shown xs l e))

pub clips_shown : (xs : List (ItemOf Listed)) (l : Listed) (k : Kept) → listed xs ≡ l
    → k ≡ kept_of xs → k.clips ≡ any_clip l
clips_shown xs l k e h = ap (λ (k : Kept). k.clips) h ∙ sym (clips-listed xs) ∙ ap any_clip e

pub lit_shown : (xs : List (ItemOf Listed)) (l : Listed) (k : Kept) → listed xs ≡ l
    → k ≡ kept_of xs → k.lit ≡ any_lit l
lit_shown xs l k e h = ap (λ (k : Kept). k.lit) h ∙ sym (lit-listed xs) ∙ ap any_lit e

-- sums of fewer than 2^32 items are kept whole
pub added_whole : (l : Listed) (t : Totals) → count l < 2 ^ 32 → t ≡ totals (lengths l)
    → t.ticks ≡ added (lengths l)
added_whole l t h e = omega (arith, ap (λ (t : Totals). t.ticks) e, short_enough l h)

pub longest_whole : (l : Listed) (t : Totals) → count l < 2 ^ 32 → t ≡ totals (lengths l)
    → t.longest ≡ greatest (lengths l)
longest_whole l t h e = omega (arith, ap (λ (t : Totals). t.longest) e, longest_enough l h)
