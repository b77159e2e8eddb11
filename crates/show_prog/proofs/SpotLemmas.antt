-- The lines of clips, child by child.
use Rattle.std.proofs.Common.{◌≡◌, ℕ, ◌+◌, ◌≤◌, List, [], ◌∷◌, ◌++◌, Some, refl, sym, ap, ◌∙◌, append_assoc, append-nil, length, drop, map, slice_get}
use Rattle.std.specs.List.{flat_map}
use Rattle.std.proofs.lemmas.Grind.{flat_map-append}
use Rattle.std.proofs.lemmas.List.Concat.{flat_map-cons}
use Rattle.otio_model.specs.declared.compositions.Clip.{Clip as ClipRow}
use Rattle.otio_model.specs.declared.compositions.ItemOf.{ItemOf}
use Rattle.otio_model.specs.declared.compositions.ItemOf.TheVariants.{Clip, Gap, Transition, Stack, Track}
use Rattle.otio_model.specs.declared.compositions.Listed.{Listed}
use Rattle.otio_model.specs.declared.compositions.Listed.TheFolds.{fold-roll-Listed, map-Listed}
use Rattle.otio_model.specs.declared.compositions.Listed.TheViews.{roll-out-Listed}
use Rattle.otio_model.specs.Trees.{items_of}
use Rattle.coord.proofs.Members.{next, none_left}
use Rattle.show_prog.specs.declared.clip_rows.Told.{Told}
use Rattle.show_prog.specs.Spots.{Spot, from_place, below_index, spots_from, spots_step, spots, spots_of}
use Rattle.show_prog.specs.ListingTexts.{spot_line, spot_lines}

same_spots : (i : ℕ) (xs : List (ItemOf Listed))
    → spots_from (λ (s : List Spot). s) i (map-Listed Listed (List Spot) spots (record { list = xs })).list
    ≡ spots_from spots i xs
same_spots i [] = refl
same_spots i ((Clip c) ∷ xs) = ap (λ (l : List Spot). below_index i (spots_of (Clip c)) ++ l) (same_spots (i + 1) xs)
same_spots i ((Gap g) ∷ xs) = same_spots (i + 1) xs
same_spots i ((Transition t) ∷ xs) = same_spots (i + 1) xs
same_spots i ((Stack s) ∷ xs) = ap (λ (l : List Spot). below_index i (spots s.children) ++ l) (same_spots (i + 1) xs)
same_spots i ((Track t) ∷ xs) = ap (λ (l : List Spot). below_index i (spots t.children) ++ l) (same_spots (i + 1) xs)

-- the clips of children are those of their list
pub spots_are : (l : Listed) → spots_from spots 0 (items_of l) ≡ spots l
spots_are l = sym (fold-roll-Listed (List Spot) spots_step (record { list = items_of l }) ∙ same_spots 0 (items_of l))
    ∙ ap spots (roll-out-Listed l)

-- all lines, before the first child
pub lines_first : (told : Told) (place : List ℕ) (l : Listed)
    → spot_lines told place (spots l) ≡ spot_lines told place (spots_from spots 0 (items_of l))
lines_first told place l = ap (spot_lines told place) (sym (spots_are l))

-- the lines of the next child, and those behind it
pub lines_next : (told : Told) (place : List ℕ) (xs : List (ItemOf Listed)) (i : ℕ) (x : ItemOf Listed) → slice_get xs i ≡ Some x
    → spot_lines told place (spots_from spots i (drop i xs))
    ≡ spot_lines told place (below_index i (spots_of x)) ++ spot_lines told place (spots_from spots (i + 1) (drop (i + 1) xs))
lines_next told place xs i x e =
    ap (λ (ys : List (ItemOf Listed)). spot_lines told place (spots_from spots i ys)) (next xs i x e)
    ∙ flat_map-append (λ (s : Spot). spot_line told (from_place place s)) (below_index i (spots_of x))
    (spots_from spots (i + 1) (drop (i + 1) xs))

-- no line is left at the end
pub lines_end : (told : Told) (place : List ℕ) (xs : List (ItemOf Listed)) (i : ℕ) → length xs ≤ i
    → spot_lines told place (spots_from spots i (drop i xs)) ≡ []
lines_end told place xs i h = ap (λ (ys : List (ItemOf Listed)). spot_lines told place (spots_from spots i ys)) (none_left xs i h)

-- lines seen from a child's place are those of the clips below its index
pub lines_below : (told : Told) (place : List ℕ) (i : ℕ) (found : List Spot)
    → spot_lines told (place ++ i ∷ []) found ≡ spot_lines told place (below_index i found)
lines_below told place i [] = refl
lines_below told place i (s ∷ found) =
    let inner : Spot → List ℕ = λ r. spot_line told (from_place (place ++ i ∷ []) r) in
    let outer : Spot → List ℕ = λ r. spot_line told (from_place place r) in
    flat_map-cons inner s found
    ∙ ap (λ (p : List ℕ). spot_line told (record { place = p; clip = s.clip }) ++ flat_map inner found) (append_assoc place (i ∷ []) s.place)
    ∙ ap (λ (l : List ℕ). outer (from_place (i ∷ []) s) ++ l) (lines_below told place i found)
    ∙ sym (flat_map-cons outer (from_place (i ∷ []) s) (map (from_place (i ∷ [])) found))

-- the line of one clip
pub lines_clip : (told : Told) (place : List ℕ) (c : ClipRow)
    → spot_line told (record { place = place; clip = c }) ≡ spot_lines told place (spots_of (Clip c))
lines_clip told place c =
    let inner : Spot → List ℕ = λ r. spot_line told (from_place place r) in
    ap (λ (p : List ℕ). spot_line told (record { place = p; clip = c })) (sym (append-nil place))
    ∙ sym (append-nil (inner (record { place = []; clip = c })))
    ∙ sym (flat_map-cons inner (record { place = []; clip = c }) [])
