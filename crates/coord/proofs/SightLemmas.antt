-- How children look is how their items look.
use Rattle.std.proofs.Common.{◌≡◌, refl, sym, ap, subst, ◌∙◌, ℕ, pos, List, [], ◌∷◌, map, Option}
use Rattle.std.specs.Prelude.{option_map}
use Rattle.std.specs.Option.{option_or}
use Rattle.tick_time.specs.declared.spans.Span.{Span}
use Rattle.otio_model.specs.declared.compositions.ItemOf.{ItemOf}
use Rattle.otio_model.specs.declared.compositions.ItemOf.TheVariants.{Clip, Gap, Transition, Stack, Track}
use Rattle.otio_model.specs.declared.compositions.Listed.{Listed}
use Rattle.otio_model.specs.declared.compositions.Listed.TheViews.{roll-out-Listed}
use Rattle.otio_model.specs.declared.compositions.Listed.TheFolds.{fold-roll-Listed, map-Listed, ind-Listed}
use Rattle.otio_model.specs.Trees.{listed, items_of}
use Rattle.otio_model.specs.Lengths.{Range, range_of, from_zero, sum_of, longest_of, lengths, length_of, or_zero}
use Rattle.otio_model.proofs.Adding.{lengths-listed}
use Rattle.otio_model.proofs.Known.{Known, forgotten}
use Rattle.coord.specs.Sights.{View, Sight, sight, sights, sights_step, sight_by, lengths_seen, seen, looks}

stepped : (xs : List (ItemOf Listed)) → map (sight_by (λ x. x)) (map-Listed Listed (List Sight) sights (record { list = xs })).list ≡ map sight xs
stepped [] = refl
stepped ((Clip c) ∷ xs) = ap (λ l. sight (Clip c) ∷ l) (stepped xs)
stepped ((Gap g) ∷ xs) = ap (λ l. sight (Gap g) ∷ l) (stepped xs)
stepped ((Transition t) ∷ xs) = ap (λ l. sight (Transition t) ∷ l) (stepped xs)
stepped ((Stack s) ∷ xs) = ap (λ l. sight (Stack s) ∷ l) (stepped xs)
stepped ((Track t) ∷ xs) = ap (λ l. sight (Track t) ∷ l) (stepped xs)

pub sights-listed : (xs : List (ItemOf Listed)) → sights (listed xs) ≡ map sight xs
sights-listed xs = fold-roll-Listed (List Sight) sights_step (record { list = xs }) ∙ stepped xs

pub sights-items : (l : Listed) → sights l ≡ map sight (items_of l)
sights-items l = ap sights (sym (roll-out-Listed l)) ∙ sights-listed (items_of l)

-- the length of a composition by that of its children
abbrev by_length : Option Span → Option ℕ → Option ℕ
by_length s n = option_map (λ (r : Range). r.len)
    (option_or (option_map range_of s) (option_map from_zero n))

abbrev IsSeen : Listed → Type 0
IsSeen l = lengths_seen (sights l) ≡ lengths l

all_seen : (ys : List (ItemOf (Known IsSeen))) → lengths_seen (map sight (forgotten IsSeen ys)) ≡ map length_of (forgotten IsSeen ys)
all_seen [] = refl
all_seen ((Clip c) ∷ ys) = ap (λ l. length_of (Clip c) ∷ l) (all_seen ys)
all_seen ((Gap g) ∷ ys) = ap (λ l. length_of (Gap g) ∷ l) (all_seen ys)
all_seen ((Transition t) ∷ ys) = ap (λ l. length_of (Transition t) ∷ l) (all_seen ys)
all_seen ((Stack s) ∷ ys) =
    ap (λ ns. by_length s.source_range (longest_of ns) ∷ lengths_seen (map sight (forgotten IsSeen ys))) s.children.1
    ∙ ap (λ l. by_length s.source_range (longest_of (lengths s.children.0)) ∷ l) (all_seen ys)
all_seen ((Track t) ∷ ys) =
    ap (λ ns. by_length t.source_range (sum_of ns) ∷ lengths_seen (map sight (forgotten IsSeen ys))) t.children.1
    ∙ ap (λ l. by_length t.source_range (sum_of (lengths t.children.0)) ∷ l) (all_seen ys)

-- the lengths that children are seen to have are theirs
pub seen_lengths : (l : Listed) → lengths_seen (sights l) ≡ lengths l
seen_lengths = ind-Listed IsSeen (λ x y is.
    let list : lengths_seen (map sight x.list) ≡ map length_of x.list = subst (λ z. lengths_seen (map sight z.list) ≡ map length_of z.list) is (all_seen y.list) in
    ap lengths_seen (sights-listed x.list) ∙ list ∙ sym (lengths-listed x.list))

seen_each : (v : View) (xs : List (ItemOf Listed)) → map (seen v) (map sight xs) ≡ looks v xs
seen_each v [] = refl
seen_each v (x ∷ xs) = ap (λ l. seen v (sight x) ∷ l) (seen_each v xs)

-- children look as their items do
pub looks-items : (v : View) (l : Listed) → map (seen v) (sights l) ≡ looks v (items_of l)
looks-items v l = ap (map (seen v)) (sights-items l) ∙ seen_each v (items_of l)

-- the lengths of children are those of their items
pub lengths-items : (l : Listed) → map length_of (items_of l) ≡ lengths l
lengths-items l = sym (lengths-listed (items_of l)) ∙ ap lengths (roll-out-Listed l)

-- the length that an item is seen to have is its own
pub length_seen : (x : ItemOf Listed) → (sight x).length ≡ length_of x
length_seen (Clip c) = refl
length_seen (Gap g) = refl
length_seen (Transition t) = refl
length_seen (Stack s) = ap (λ ns. by_length s.source_range (longest_of ns)) (seen_lengths s.children)
length_seen (Track t) = ap (λ ns. by_length t.source_range (sum_of ns)) (seen_lengths t.children)

-- the length that an item's look has
pub look_length : (v : View) (x : ItemOf Listed) (n : ℕ) → n ≡ or_zero (length_of x) → (seen v (sight x)).length ≡ pos n
look_length v x n e = ap (λ o. pos (or_zero o)) (length_seen x) ∙ ap (λ k. pos k) (sym e)
