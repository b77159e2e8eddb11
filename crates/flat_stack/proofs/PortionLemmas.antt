-- What stands in the joined tracks that are planned.
use Rattle.std.proofs.Common.{◌≡◌, refl, sym, ap, ◌∙◌, ℕ, ◌≤◌, Some, List, [], ◌∷◌, ◌++◌, map, append_assoc}
use Rattle.std.specs.Prelude.{slice_get, option_and_then, option_map}
use Rattle.std.proofs.lemmas.List.{append-nil}
use Rattle.tick_time.specs.declared.rates.Rate.{Rate}
use Rattle.otio_model.specs.declared.compositions.ItemOf.{ItemOf}
use Rattle.otio_model.specs.declared.compositions.Listed.{Listed}
use Rattle.otio_model.specs.declared.timelines.Timeline.{Timeline}
use Rattle.otio_model.specs.Timelines.{bare}
use Rattle.coord.proofs.Members.{same_some}
use Rattle.flat.specs.Joined.{Slot}
use Rattle.flat.specs.Roots.{roots, with_roots}
use Rattle.flat_stack.specs.declared.inputs.Part.{Part}
use Rattle.flat_stack.specs.declared.planned_tracks.PlannedTrack.{PlannedTrack}
use Rattle.flat_stack.specs.declared.planned_tracks.Portion.{Portion}
use Rattle.flat_stack.specs.declared.planned_tracks.Portion.TheVariants.{Moved}
use Rattle.flat_stack.specs.Inputs.{IsWithin, given, inputs_of, list_of, track_counts, tracks_from}
use Rattle.flat_stack.specs.Portions.{IsPlanned, items_or, planned_track, portion_items, portions_items}
use Rattle.flat_stack.proofs.JoinLemmas.{IsAll, first_of, within_some}
use Rattle.flat_stack.proofs.KnowLemmas.{got_map}

portions_append : (inputs : List Timeline) (a b : List Portion)
    → portions_items inputs (a ++ b) ≡ portions_items inputs a ++ portions_items inputs b
portions_append inputs [] b = refl
portions_append inputs (p ∷ a) b =
    ap (λ z. portion_items inputs p ++ z) (portions_append inputs a b)
    ∙ sym (append_assoc (portion_items inputs p) (portions_items inputs a) (portions_items inputs b))

-- with one portion more its items stand behind the others
pub portion_last : (inputs : List Timeline) (old new : List Portion) (p : Portion)
    → new ≡ old ++ p ∷ []
    → portions_items inputs new ≡ portions_items inputs old ++ portion_items inputs p
portion_last inputs old new p e =
    ap (portions_items inputs) e ∙ portions_append inputs old (p ∷ [])
    ∙ ap (λ z. portions_items inputs old ++ z) (append-nil (portion_items inputs p))

-- what an input gives is that of its track
pub own_put : (ps : List Part) (i n : ℕ) (p q : Part) (s : Slot) (old new : List Portion)
    → slice_get ps i ≡ Some p → slice_get ps i ≡ Some q
    → items_or (slice_get (list_of p) n) ≡ given s p → new ≡ old ++ Moved i n ∷ []
    → portions_items (inputs_of ps) new ≡ portions_items (inputs_of ps) old ++ given s q
own_put ps i n p q s old new e f h put =
    let moved : portion_items (inputs_of ps) (Moved i n) ≡ given s p =
    ap (λ o. items_or (option_and_then (λ (t : Timeline). slice_get (roots t) n) o))
    (got_map (λ (z : Part). z.input.now) ps i ∙ ap (option_map (λ (z : Part). z.input.now)) e) ∙ h in
    portion_last (inputs_of ps) old new (Moved i n) put
    ∙ ap (λ z. portions_items (inputs_of ps) old ++ z)
    (moved ∙ ap (λ (z : Part). given s z) (same_some p q (sym e ∙ f)))

pub none_put : (ps : List Part) (i : ℕ) (p q : Part) (s : Slot) (all : List (ItemOf Listed))
    → slice_get ps i ≡ Some p → slice_get ps i ≡ Some q → given s p ≡ [] → all ≡ all ++ given s q
none_put ps i p q s all e f h =
    sym (append-nil all)
    ∙ ap (λ z. all ++ z) (sym h ∙ ap (λ (z : Part). given s z) (same_some p q (sym e ∙ f)))

-- the inputs are joined as it is planned
pub plans_join : (l : List Timeline) (t : Timeline) (r : Rate) (ps : List Part) (ss : List Slot)
    (plans : List PlannedTrack) (most : ℕ) (j : Timeline) → IsAll l t r ps ss
    → tracks_from r ps ss ≡ Some (map (planned_track (inputs_of ps)) plans)
    → track_counts ps ss ≤ most → IsPlanned l plans j → IsWithin l most (Some j)
plans_join l t r ps ss plans most j a e h k =
    let m = first_of l t a.there in
    within_some l t r ps ss j most a (record {
      tracks = map (planned_track (inputs_of ps)) plans;
      are = e;
      is = k t m.0 m.1 ∙ ap (λ z. bare (with_roots (map (planned_track z) plans) t)) (sym a.inputs);
    }) h
