-- A timeline without its transitions is writable.
use Rattle.std.proofs.Common.{◌≡◌, refl, sym, subst, ap, ◌∙◌, false, List, [], ◌∷◌, map}
use Rattle.std.specs.List.{list_any}
use Rattle.otio_model.specs.declared.compositions.ItemOf.{ItemOf}
use Rattle.otio_model.specs.declared.compositions.ItemOf.TheVariants as I
use Rattle.otio_model.specs.declared.compositions.Listed.{Listed}
use Rattle.otio_model.specs.declared.compositions.StackOf.{StackOf}
use Rattle.otio_model.specs.declared.compositions.TrackOf.{TrackOf}
use Rattle.otio_model.specs.declared.timelines.Timeline.{Timeline}
use Rattle.otio_model.specs.Misplaced.{side_by_side}
use Rattle.otio_model.specs.Trees.{is_transition, items_of, listed}
use Rattle.otio_model.proofs.Views.{items-listed}
use Rattle.coord.specs.Soundness.{IsSound}
use Rattle.edits_law.proofs.Splice.{cases}
use Rattle.flat.specs.Straight.{IsStraight, straight, without}
use Rattle.flat_law.proofs.OthersSound.{straight_sound}
use Rattle.flat_law.proofs.Straight.{step_in, step_out, straight-items, whole_item}
use Rattle.schema_rows.specs.declared.schemas.Schema.TheVariants as S
use Rattle.object_law.specs.Writable as W
use Rattle.object_law.specs.Writable.{AreEffects, AreItems, AreMarkers, AreOthers, IsItem}
use Rattle.object_law.specs.Writable.{IsTimeline}
use Rattle.writable_law.proofs.WritableChildren.{AreWritable, each_item}
use Rattle.flat_law.proofs.Things.{AreThings, same_bare, sound_with, things_apart}
use Rattle.flat_law.proofs.Things.{things_items}

-- ---- a list without its transitions

without_things : (l : List (ItemOf Listed)) → AreWritable l → AreThings (without l)
without_things [] h = tt
without_things (x ∷ l) h = cases (is_transition x)
    (λ t. subst AreThings (sym (step_out x l t)) (without_things l h.1))
    (λ t. subst AreThings (sym (step_in x l t))
    (record { writable = h.0; thing = t }, without_things l h.1))

-- ---- all levels

inner_items : (l : Listed) → items_of (straight l) ≡ map whole_item (items_of l)
inner_items l = ap items_of (straight-items l) ∙ items-listed (map whole_item (items_of l))

whole_kind : (x : ItemOf Listed) → is_transition (whole_item x) ≡ is_transition x
whole_kind (I.Clip c) = refl
whole_kind (I.Gap c) = refl
whole_kind (I.Transition c) = refl
whole_kind (I.Stack c) = refl
whole_kind (I.Track c) = refl

same_any : (l : List (ItemOf Listed))
    → list_any is_transition (map whole_item l) ≡ list_any is_transition l
same_any [] = refl
same_any (x ∷ l) = rw (whole_kind x, same_any l) refl

stack_with : (s : StackOf Listed) → AreOthers S.Stack s.rest → AreEffects s.effects
    → AreMarkers s.markers → list_any is_transition (items_of s.children) ≡ false
    → AreItems (map whole_item (items_of s.children))
    → W.IsStack (record s { children = straight s.children })
stack_with s o effects markers none items =
    W.stack_of (record s { children = straight s.children }) o effects markers
    (ap (list_any is_transition) (inner_items s.children) ∙ same_any (items_of s.children) ∙ none)
    (subst AreItems (sym (inner_items s.children)) items)

track_with : (t : TrackOf Listed) → AreOthers S.Track t.rest → AreEffects t.effects
    → AreMarkers t.markers → AreItems (map whole_item (items_of t.children))
    → W.IsTrack (record t { children = listed (without (items_of (straight t.children))) })
track_with t o effects markers items =
    let l = without (items_of (straight t.children)) in
    let things : AreThings l = without_things (items_of (straight t.children))
    (each_item _ (subst AreItems (sym (inner_items t.children)) items)) in
    W.track_of (record t { children = listed l }) o effects markers
    (ap side_by_side (items-listed l) ∙ things_apart l things)
    (subst AreItems (sym (items-listed l)) (things_items l things))

no_whole : (l : List (ItemOf Listed)) → l ≡ [] → AreItems (map whole_item l)
no_whole l e = subst (λ m. AreItems (map whole_item m)) (sym e) (W.no_items [] refl)

more_whole : (l : List (ItemOf Listed)) (x : ItemOf Listed) (m : List (ItemOf Listed))
    → l ≡ x ∷ m → IsItem (whole_item x) → AreItems (map whole_item m)
    → AreItems (map whole_item l)
more_whole l x m e h k = subst (λ q. AreItems (map whole_item q)) (sym e)
    (W.more_items (whole_item x ∷ map whole_item m) (whole_item x) (map whole_item m) refl h k)

mutual
  whole_is : (x : ItemOf Listed) → IsItem x → IsItem (whole_item x)
  whole_is x (W.clip _ c e h) = W.clip (whole_item x) c (ap whole_item e) h
  whole_is x (W.gap _ g e h) = W.gap (whole_item x) g (ap whole_item e) h
  whole_is x (W.transition _ t e h) = W.transition (whole_item x) t (ap whole_item e) h
  whole_is x (W.stack _ s e h) =
      W.stack (whole_item x) (record s { children = straight s.children }) (ap whole_item e)
      (stack_whole s h)
  whole_is x (W.track _ t e h) =
      W.track (whole_item x)
      (record t { children = listed (without (items_of (straight t.children))) })
      (ap whole_item e) (track_whole t h)

  stack_whole : (s : StackOf Listed) → W.IsStack s
      → W.IsStack (record s { children = straight s.children })
  stack_whole s (W.stack_of _ o effects markers none items) =
      stack_with s o effects markers none (items_whole (items_of s.children) items)

  track_whole : (t : TrackOf Listed) → W.IsTrack t
      → W.IsTrack (record t { children = listed (without (items_of (straight t.children))) })
  track_whole t (W.track_of _ o effects markers apart items) =
      track_with t o effects markers (items_whole (items_of t.children) items)

  items_whole : (l : List (ItemOf Listed)) → AreItems l → AreItems (map whole_item l)
  items_whole l (W.no_items _ e) = no_whole l e
  items_whole l (W.more_items _ x m e h k) = more_whole l x m e (whole_is x h) (items_whole m k)

-- ---- the timeline

pub straight_is : (t r : Timeline) → IsTimeline t → IsStraight t r → IsTimeline r
straight_is t r h e =
    same_bare (record t { tracks = record t.tracks { children = straight t.tracks.children } }) r e
    (h.0, stack_whole t.tracks h.1)

pub straightened_sound : (t r : Timeline) → IsSound t → IsTimeline t → IsStraight t r → IsSound r
straightened_sound t r s h e =
    sound_with r (straight_sound t r s.faultless e) (straight_is t r h e)
