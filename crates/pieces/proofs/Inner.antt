-- What is known of the children of an item, and of the children at the top.
use Rattle.std.proofs.Common.{◌≡◌, ap, ◌∙◌, ℕ, ◌<◌, ◌^◌, Some, [], ◌∷◌, length, arith}
use Rattle.std.specs.Prelude.{slice_get, option_and_then}
use Rattle.otio_model.specs.declared.compositions.ItemOf.{ItemOf}
use Rattle.otio_model.specs.declared.compositions.ItemOf.TheVariants.{Clip, Gap, Transition, Stack, Track}
use Rattle.otio_model.specs.declared.compositions.Listed.{Listed}
use Rattle.otio_model.specs.Counts.{count, count_of}
use Rattle.otio_model.specs.Trees.{items_of, children_of, below}
use Rattle.otio_model.proofs.LengthLimits.{few_enough}
use Rattle.coord.specs.Soundness.{AreFaultless, IsFaultlessItem}
use Rattle.coord.proofs.Members.{child_few, same_some}
use Rattle.pieces.specs.Short.{AreCuttable}

pub inner_few : (x : ItemOf Listed) (c : Listed) → children_of x ≡ Some c → count_of x < 2 ^ 32
    → count c < 2 ^ 32
inner_few (Clip y) c e h = absurd (cc e)
inner_few (Gap y) c e h = absurd (cc e)
inner_few (Transition y) c e h = absurd (cc e)
inner_few (Stack y) c e h =
    let f : count y.children ≡ count c = ap count (same_some y.children c e) in omega (arith, h, f)
inner_few (Track y) c e h =
    let f : count y.children ≡ count c = ap count (same_some y.children c e) in omega (arith, h, f)

pub inner_short : (x : ItemOf Listed) (c : Listed) → children_of x ≡ Some c → count_of x < 2 ^ 32
    → length (items_of c) < 2 ^ 32
inner_short x c e h = let k = few_enough c (inner_few x c e h) in omega (arith, k)

pub inner_cuttable : (x : ItemOf Listed) (c : Listed) → children_of x ≡ Some c → IsFaultlessItem x
    → count_of x < 2 ^ 32 → AreCuttable (items_of c)
inner_cuttable x c e s h i y f = record {
  few = child_few c i y f (inner_few x c e h);
  sound = s (i ∷ []) y
      (ap (option_and_then (λ l. option_and_then (below []) (slice_get (items_of l) i))) e
      ∙ ap (option_and_then (below [])) f);
}

pub root_faultless : (l : Listed) (i : ℕ) (x : ItemOf Listed) → AreFaultless l
    → slice_get (items_of l) i ≡ Some x → IsFaultlessItem x
root_faultless l i x s e p y f = s (i ∷ p) y (ap (option_and_then (below p)) e ∙ f)
