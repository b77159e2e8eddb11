-- No tree is longer than a million seconds for each of its items.
use Rattle.std.proofs.Common.{◌≡◌, ℕ, ◌+◌, ◌*◌, ◌≤◌, ◌<◌, ◌^◌, Bool, true, false, List, [], ◌∷◌}
use Rattle.std.proofs.Common.{Option, Some, None, map, length, refl, ap, sym, arith, subst, ◌∙◌}
use Rattle.std.specs.Prelude.{option_map}
use Rattle.std.specs.Option.{option_or}
use Rattle.limits.specs.Limits.{most_ticks}
use Rattle.tick_time.specs.declared.spans.Span.{Span}
use Rattle.otio_model.specs.declared.compositions.ItemOf.{ItemOf}
use Rattle.otio_model.specs.declared.compositions.ItemOf.TheVariants.{Clip, Gap, Transition, Stack}
use Rattle.otio_model.specs.declared.compositions.ItemOf.TheVariants.{Track}
use Rattle.otio_model.specs.declared.compositions.Listed.{Listed}
use Rattle.otio_model.specs.declared.compositions.Listed.TheViews.{roll-Listed}
use Rattle.otio_model.specs.declared.compositions.Listed.TheFolds.{ind-Listed}
use Rattle.otio_model.specs.Trees.{items_of}
use Rattle.otio_model.proofs.Views.{listed-items}
use Rattle.otio_model.specs.Counts.{count, counts_by, count_of}
use Rattle.otio_model.specs.Falls.{count-listed}
use Rattle.otio_model.specs.Lengths.{Range, range_of, from_zero, clip_range, sum_of, longest_of}
use Rattle.otio_model.specs.Lengths.{added, lengths, length_of, or_zero}
use Rattle.otio_model.specs.Sums.{greatest, are_known, capped, where_known}
use Rattle.otio_model.proofs.LengthBounds.{span_small}
use Rattle.otio_model.proofs.Known.{Known, forgotten}
use Rattle.otio_model.proofs.Adding.{lengths-listed, longest_known, sum_known}

-- the length of a source_range, else of another range
abbrev pub len_of : Option Span → Option Range → ℕ
len_of s o = or_zero (option_map (λ (r : Range). r.len) (option_or (option_map range_of s) o))

pub clip_small : (s a : Option Span) → len_of s (option_map range_of a) ≤ most_ticks
clip_small None None = omega arith
clip_small None (Some a) = span_small a
clip_small (Some s) a = span_small s

pub gap_small : (s : Option Span) → len_of s (Some (from_zero 0)) ≤ most_ticks
gap_small None = omega arith
gap_small (Some s) = span_small s

children_small : (s : Option Span) (o : Option ℕ) (c : ℕ) → or_zero o ≤ c * most_ticks
    → len_of s (option_map from_zero o) ≤ (c + 1) * most_ticks
children_small None None c h = omega arith
children_small None (Some n) c h = omega (arith, h)
children_small (Some s) o c h = omega (arith, span_small s)

-- lengths that so many items may have together
record Within (ns : List (Option ℕ)) (n : ℕ) : Type 0 where
  added : added ns ≤ n * most_ticks
  greatest : greatest ns ≤ n * most_ticks

one_more : (o : Option ℕ) (ns : List (Option ℕ)) (a b : ℕ)
    → or_zero o ≤ a * most_ticks → Within ns b → Within (o ∷ ns) (a + b)
one_more None ns a b h w =
    record { added = omega (arith, w.added); greatest = omega (arith, w.greatest) }
one_more (Some n) ns a b h w =
    record { added = omega (arith, h, w.added); greatest = omega (arith, h, w.greatest) }

where_small : (k : Bool) (n : ℕ) → or_zero (where_known k n) ≤ n
where_small true n = omega arith
where_small false n = omega arith

longest_small : (ns : List (Option ℕ)) (c : ℕ) → Within ns c
    → or_zero (longest_of ns) ≤ c * most_ticks
longest_small ns c w =
    omega (
      arith,
      ap or_zero (longest_known ns),
      where_small (are_known ns) (greatest ns),
      w.greatest,
    )

sum_small : (ns : List (Option ℕ)) (c : ℕ) → Within ns c
    → or_zero (sum_of ns) ≤ c * most_ticks
sum_small ns c w = omega (
  arith,
  ap or_zero (sum_known ns),
  where_small (are_known ns) (added ns),
  w.added,
)

abbrev IsWithin : Listed → Type 0
IsWithin l = Within (lengths l) (count l)

all_within : (ys : List (ItemOf (Known IsWithin)))
    → Within (map length_of (forgotten IsWithin ys)) (counts_by count (forgotten IsWithin ys))
all_within [] = record { added = omega arith; greatest = omega arith }
all_within ((Clip c) ∷ ys) =
    one_more (length_of (Clip c)) _ 1 _ (omega (arith, clip_small c.source_range (clip_range c)))
    (all_within ys)
all_within ((Gap g) ∷ ys) =
    one_more (length_of (Gap g)) _ 1 _ (omega (arith, gap_small g.source_range)) (all_within ys)
all_within ((Transition t) ∷ ys) =
    one_more (length_of (Transition t)) _ 1 _ (omega arith) (all_within ys)
all_within ((Stack s) ∷ ys) =
    let l = s.children.0 in
    one_more (option_map (λ (r : Range). r.len)
    (option_or (option_map range_of s.source_range)
    (option_map from_zero (longest_of (lengths l))))) _ (count l + 1) _
    (children_small s.source_range (longest_of (lengths l)) (count l)
    (longest_small (lengths l) (count l) s.children.1)) (all_within ys)
all_within ((Track s) ∷ ys) =
    let l = s.children.0 in
    one_more (option_map (λ (r : Range). r.len)
    (option_or (option_map range_of s.source_range)
    (option_map from_zero (sum_of (lengths l))))) _ (count l + 1) _
    (children_small s.source_range (sum_of (lengths l)) (count l)
    (sum_small (lengths l) (count l) s.children.1)) (all_within ys)

-- the lengths of children are within their count
within_count : (l : Listed) → IsWithin l
within_count = ind-Listed IsWithin (λ x y is.
    let list : Within (map length_of x.list) (counts_by count x.list) =
    subst (λ z. Within (map length_of z.list) (counts_by count z.list)) is (all_within y.list)
    in
    subst (λ ns. Within ns (count (roll-Listed x))) (sym (lengths-listed x.list))
    (subst (λ n. Within (map length_of x.list) n) (sym (count-listed x.list)) list))

-- fewer than 2^32 items are never too long
item_short : (x : ItemOf Listed) → count_of x < 2 ^ 32 → or_zero (length_of x) < 2 ^ 127
item_short (Clip c) h = omega (arith, clip_small c.source_range (clip_range c))
item_short (Gap g) h = omega (arith, gap_small g.source_range)
item_short (Transition t) h = omega arith
item_short (Stack s) h =
    omega (
      arith,
      h,
      children_small s.source_range (longest_of (lengths s.children))
          (count s.children) (longest_small (lengths s.children) (count s.children)
          (within_count s.children)),
    )
item_short (Track s) h =
    omega (
      arith,
      h,
      children_small s.source_range (sum_of (lengths s.children)) (count s.children)
          (sum_small (lengths s.children) (count s.children) (within_count s.children)),
    )

kept_whole : (o : Option ℕ) → or_zero o < 2 ^ 127 → option_map capped o ≡ o
kept_whole None h = refl
kept_whole (Some n) h = ap Some (omega (arith, h))

-- a length that was read is the item's, and fits
pub read_length : (x : ItemOf Listed) (n : ℕ) → count_of x < 2 ^ 32
    → Some n ≡ option_map capped (length_of x) → (length_of x ≡ Some n) × (n < 2 ^ 127)
read_length x n h e =
    let same : length_of x ≡ Some n = sym (kept_whole (length_of x) (item_short x h)) ∙ sym e in
    (same, subst (λ o. or_zero o < 2 ^ 127) same (item_short x h))

-- fewer than 2^32 items fit as a sum, and are fewer than 2^32 children
pub short_enough : (l : Listed) → count l < 2 ^ 32 → added (lengths l) < 2 ^ 127
short_enough l h = omega (arith, (within_count l).added, h)

pub longest_enough : (l : Listed) → count l < 2 ^ 32 → greatest (lengths l) < 2 ^ 127
longest_enough l h = omega (arith, (within_count l).greatest, h)

length_count : (xs : List (ItemOf Listed)) → length xs ≤ counts_by count xs
length_count [] = omega arith
length_count ((Clip c) ∷ xs) = omega (arith, length_count xs)
length_count ((Gap c) ∷ xs) = omega (arith, length_count xs)
length_count ((Transition c) ∷ xs) = omega (arith, length_count xs)
length_count ((Stack c) ∷ xs) = omega (arith, length_count xs)
length_count ((Track c) ∷ xs) = omega (arith, length_count xs)

pub few_enough : (l : Listed) → count l < 2 ^ 32 → length (items_of l) < 2 ^ 32
few_enough l h = omega (
  arith,
  length_count (items_of l),
  count-listed (items_of l),
  ap count (listed-items l),
  h,
)
