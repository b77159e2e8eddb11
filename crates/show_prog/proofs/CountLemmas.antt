-- Items counted by their kinds, child by child.
use Rattle.std.proofs.Common.{◌≡◌, ℕ, ◌+◌, ◌≤◌, List, [], ◌∷◌, Some, refl, sym, ap, ◌∙◌, length, drop, slice_get, arith}
use Rattle.otio_model.specs.declared.compositions.ItemOf.{ItemOf}
use Rattle.otio_model.specs.declared.compositions.ItemOf.TheVariants.{Clip, Gap, Transition, Stack, Track}
use Rattle.otio_model.specs.declared.compositions.Listed.{Listed}
use Rattle.otio_model.specs.declared.compositions.Listed.TheFolds.{fold-roll-Listed, map-Listed}
use Rattle.otio_model.specs.declared.compositions.Listed.TheViews.{roll-out-Listed}
use Rattle.otio_model.specs.Trees.{items_of}
use Rattle.otio_model.specs.Counts.{count, count_of, counts_by as sizes}
use Rattle.otio_model.specs.Falls.{count-listed}
use Rattle.coord.proofs.Members.{next, none_left}
use Rattle.show_prog.specs.declared.counting.Counts.{Counts}
use Rattle.show_prog.specs.Counted.{nothing, together, counts_in, counts_step, counts, counts_of, total}

same_counts : (xs : List (ItemOf Listed))
    → counts_in (λ (c : Counts). c) (map-Listed Listed Counts counts (record { list = xs })).list ≡ counts_in counts xs
same_counts [] = refl
same_counts ((Clip c) ∷ xs) = ap (together (counts_of (Clip c))) (same_counts xs)
same_counts ((Gap g) ∷ xs) = ap (together (counts_of (Gap g))) (same_counts xs)
same_counts ((Transition t) ∷ xs) = ap (together (counts_of (Transition t))) (same_counts xs)
same_counts ((Stack s) ∷ xs) = ap (together (counts_of (Stack s))) (same_counts xs)
same_counts ((Track t) ∷ xs) = ap (together (counts_of (Track t))) (same_counts xs)

counts_are : (l : Listed) → counts_in counts (items_of l) ≡ counts l
counts_are l = sym (fold-roll-Listed Counts counts_step (record { list = items_of l }) ∙ same_counts (items_of l)) ∙ ap counts (roll-out-Listed l)

together_assoc : (a b c : Counts) → together (together a b) c ≡ together a (together b c)
together_assoc a b c =
    let tracks : (a.tracks + b.tracks) + c.tracks ≡ a.tracks + (b.tracks + c.tracks) = omega arith in
    let stacks : (a.stacks + b.stacks) + c.stacks ≡ a.stacks + (b.stacks + c.stacks) = omega arith in
    let clips : (a.clips + b.clips) + c.clips ≡ a.clips + (b.clips + c.clips) = omega arith in
    let gaps : (a.gaps + b.gaps) + c.gaps ≡ a.gaps + (b.gaps + c.gaps) = omega arith in
    let transitions : (a.transitions + b.transitions) + c.transitions ≡ a.transitions + (b.transitions + c.transitions) = omega arith in
    λ i. record { tracks = tracks i; stacks = stacks i; clips = clips i; gaps = gaps i; transitions = transitions i }

together_nothing : (a : Counts) → together a nothing ≡ a
together_nothing a =
    let tracks : a.tracks + 0 ≡ a.tracks = omega arith in
    let stacks : a.stacks + 0 ≡ a.stacks = omega arith in
    let clips : a.clips + 0 ≡ a.clips = omega arith in
    let gaps : a.gaps + 0 ≡ a.gaps = omega arith in
    let transitions : a.transitions + 0 ≡ a.transitions = omega arith in
    λ i. record { tracks = tracks i; stacks = stacks i; clips = clips i; gaps = gaps i; transitions = transitions i }

nothing_together : (a : Counts) → together nothing a ≡ a
nothing_together a =
    let tracks : 0 + a.tracks ≡ a.tracks = omega arith in
    let stacks : 0 + a.stacks ≡ a.stacks = omega arith in
    let clips : 0 + a.clips ≡ a.clips = omega arith in
    let gaps : 0 + a.gaps ≡ a.gaps = omega arith in
    let transitions : 0 + a.transitions ≡ a.transitions = omega arith in
    λ i. record { tracks = tracks i; stacks = stacks i; clips = clips i; gaps = gaps i; transitions = transitions i }

-- so many children were counted: with those that are left they are all, and no more items than there are
pub record IsCounted (l : Listed) (i : ℕ) (all : Counts) : Type 0 where
  pub value : together all (counts_in counts (drop i (items_of l))) ≡ counts l
  pub few : total all + sizes count (drop i (items_of l)) ≤ count l

sizes_are : (l : Listed) → sizes count (items_of l) ≡ count l
sizes_are l = sym (count-listed (items_of l)) ∙ ap count (roll-out-Listed l)

-- none is counted yet
pub none_counted : (l : Listed) → IsCounted l 0 nothing
none_counted l = record { value = nothing_together (counts_in counts (items_of l)) ∙ counts_are l; few = omega (arith, sizes_are l) }

-- the next child
pub one_counted : (l : Listed) (i : ℕ) (x : ItemOf Listed) (all here new : Counts) → slice_get (items_of l) i ≡ Some x → here ≡ counts_of x → total here ≤ count_of x
    → new ≡ together all here → IsCounted l i all → IsCounted l (i + 1) new
one_counted l i x all here new e is few more known =
    let rest = drop (i + 1) (items_of l) in
    let split = next (items_of l) i x e in
    let size : sizes count (drop i (items_of l)) ≡ count_of x + sizes count rest = ap (sizes count) split in
    let left : counts_in counts (drop i (items_of l)) ≡ together (counts_of x) (counts_in counts rest) = ap (counts_in counts) split in
    let sum : total new ≡ total all + total here = ap total more ∙ omega arith in
    record {
      value = ap (λ (c : Counts). together c (counts_in counts rest)) more ∙ together_assoc all here (counts_in counts rest) ∙ ap (λ (c : Counts). together all (together c (counts_in counts rest))) is ∙ ap (together all) (sym left) ∙ known.value;
      few = omega (arith, known.few, size, sum, few);
    }

-- and what it adds is little
pub one_few : (l : Listed) (i : ℕ) (x : ItemOf Listed) (all here : Counts) → slice_get (items_of l) i ≡ Some x → total here ≤ count_of x
    → IsCounted l i all → total all + total here ≤ count l
one_few l i x all here e few known =
    let size : sizes count (drop i (items_of l)) ≡ count_of x + sizes count (drop (i + 1) (items_of l)) = ap (sizes count) (next (items_of l) i x e) in
    omega (arith, known.few, size, few)

-- all are counted
pub all_counted : (l : Listed) (i : ℕ) (all : Counts) → length (items_of l) ≤ i → IsCounted l i all → all ≡ counts l
all_counted l i all h known =
    sym (together_nothing all) ∙ ap (λ (xs : List (ItemOf Listed)). together all (counts_in counts xs)) (sym (none_left (items_of l) i h)) ∙ known.value
