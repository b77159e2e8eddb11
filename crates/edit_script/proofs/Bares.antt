-- What an edit makes of a timeline doesn't depend on the memory that the timeline keeps to spare.
use Rattle.std.proofs.Common.{◌≡◌, refl, sym, ap, subst, ◌∙◌, ℕ, ◌<◌, List, [], ◌∷◌, inl, inr, Option, Some, None}
use Rattle.std.specs.Prelude.{cond, int_lt, is_none, not, option_map, ◌&&◌, ◌*ℤ◌, ◌-ℤ◌, pos}
use Rattle.otio_model.specs.declared.compositions.ItemOf.{ItemOf}
use Rattle.otio_model.specs.declared.compositions.Listed.{Listed}
use Rattle.otio_model.specs.declared.edit_types.Edit.{Edit}
use Rattle.otio_model.specs.declared.edit_types.EditFault.{EditFault}
use Rattle.otio_model.specs.declared.patches.Patch.{Patch}
use Rattle.otio_model.specs.declared.timelines.Timeline.{Timeline}
use Rattle.limits.specs.Limits.{most_items}
use Rattle.otio_model.specs.Counts.{count}
use Rattle.otio_model.specs.Patches.{applied, target, with_list}
use Rattle.otio_model.specs.Timelines.{bare}
use Rattle.edits.specs.Children.{all_made}
use Rattle.edits.specs.Edits.{edited}
use Rattle.edits.specs.After.{after, at_of, frame_of, list_of, place_of, rate_of, with_items}
use Rattle.otio_model.specs.declared.edit_types.EditFault.TheVariants as F
use Rattle.edits.specs.Edges.{Held, added, held_at, is_zero}
use Rattle.edits.specs.Refusals.{asks_item, early_fault, first_fault, has_no_neighbour, is_empty, is_filled_item, is_phased, is_wrong_speed, long, place_fault, test, unpinned}
use Rattle.edits.specs.Refusals.{HasLong, HasMany, IsAfter, IsRefused, IsTooLong, at_once, too_long, too_many}

after_by : (t : Timeline) (e : Edit) (o : Option (List (ItemOf Listed)))
    → option_map (with_items (bare t) e) o ≡ option_map bare (option_map (with_items t e) o)
after_by t e None = refl
after_by t e (Some l) = refl

pub after_bare : (t : Timeline) (e : Edit) → after (bare t) e ≡ option_map bare (after t e)
after_bare t e = after_by t e (all_made (rate_of t) (edited (frame_of t) e (list_of t e)))

applied_by : (p : Patch) (t : Timeline) (o : Option Listed)
    → elim o as (λ _. Timeline) [ None ↦ bare t | Some l ↦ with_list p l (bare t) ]
    ≡ bare (elim o as (λ _. Timeline) [ None ↦ t | Some l ↦ with_list p l t ])
applied_by p t None = refl
applied_by p t (Some l) = refl

pub applied_bare : (p : Patch) (t : Timeline) → applied p (bare t) ≡ bare (applied p t)
applied_bare p t = applied_by p t (target p t)

-- ---- the tests up to that of pinned lengths

place_bare : (p : List ℕ) (t : Timeline) → place_fault p (bare t) ≡ place_fault p t
place_bare [] t = refl
place_bare (i ∷ p) t = refl

free_bare : (p : List ℕ) (t : Timeline) → unpinned p (bare t) ≡ unpinned p t
free_bare [] t = refl
free_bare (i ∷ p) t = refl

-- the tests, where the last one names this place
abbrev tests : Timeline → Edit → Option Held → Option (List ℕ) → Option EditFault
tests t e h free =
    test (int_lt (at_of e) (pos 0)) F.Negative
    (test (asks_item e && is_none h) F.NoItem
    (test (is_filled_item e h) F.NotGap
    (test (is_empty e) F.Empty
    (test (has_no_neighbour e h) F.NoNeighbour
    (test (is_wrong_speed e h) F.Speed
    (test (not (is_phased (frame_of t) e (list_of t e))) F.Phase
    (cond (is_zero (long (edited (frame_of t) e (list_of t e)) -ℤ added (list_of t e))) None
    (option_map F.Unpinned free))))))))

early_bare : (t : Timeline) (e : Edit) → early_fault (bare t) e ≡ early_fault t e
early_bare t e =
    let h = held_at (list_of t e) (at_of e *ℤ frame_of t) in
    ap (λ a. first_fault a (tests t e h (unpinned (place_of e) (bare t))))
    (place_bare (place_of e) t)
    ∙ ap (λ f. first_fault (place_fault (place_of e) t) (tests t e h f)) (free_bare (place_of e) t)

-- ---- the timeline after an edit, where it is known of the bare one

record After (t : Timeline) (e : Edit) (s : Timeline) : Type 0 where
  whole : Timeline
  made : after t e ≡ Some whole
  same : s ≡ bare whole

after_whole : (t : Timeline) (e : Edit) (s : Timeline) → after (bare t) e ≡ Some s → After t e s
after_whole t e s made = by (after t e) refl
  where
    by : (o : Option Timeline) → after t e ≡ o → After t e s
    by None f = absurd (let g : None ≡ Some s = ap (option_map bare) (sym f) ∙ sym (after_bare t e)
        ∙ made in cc g)
    by (Some u) f = let g : Some (bare u) ≡ Some s = ap (option_map bare) (sym f)
        ∙ sym (after_bare t e) ∙ made in
        record { whole = u; made = f; same = cc g }

after_some : (t : Timeline) (e : Edit) (s : Timeline) → after t e ≡ Some s
    → after (bare t) e ≡ Some (bare s)
after_some t e s made = after_bare t e ∙ ap (option_map bare) made

long_on : (t : Timeline) (e : Edit) → IsTooLong t e → IsTooLong (bare t) e
long_on t e (inl h) = inl h
long_on t e (inr h) = inr (bare h.0, after_some t e h.0 h.1, h.2)

long_off : (t : Timeline) (e : Edit) → IsTooLong (bare t) e → IsTooLong t e
long_off t e (inl h) = inl h
long_off t e (inr h) = let a = after_whole t e h.0 h.1 in
    inr (a.whole, a.made, subst HasLong a.same h.2)

many_on : (t : Timeline) (e : Edit) → HasMany t e → HasMany (bare t) e
many_on t e h = (bare h.0, after_some t e h.0 h.1, h.2)

many_off : (t : Timeline) (e : Edit) → HasMany (bare t) e → HasMany t e
many_off t e h = let a = after_whole t e h.0 h.1 in
    (a.whole, a.made, subst (λ (s : Timeline). most_items < count s.tracks.children) a.same h.2)

-- ---- what is said of an edit holds of the bare timeline

pub accepted_bare : (t : Timeline) (e : Edit) (p : Patch) → IsAfter t e (applied p t)
    → IsAfter (bare t) e (applied p (bare t))
accepted_bare t e p a = record {
  early = early_bare t e ∙ a.early;
  short = λ h. a.short (long_off t e h);
  few = λ h. a.few (many_off t e h);
  made = after_some t e (applied p t) a.made ∙ ap (λ s. Some s) (sym (applied_bare p t));
}

pub refused_bare : (t : Timeline) (e : Edit) (why : EditFault) → IsRefused t e why
    → IsRefused (bare t) e why
refused_bare t e why (at_once f) = at_once (early_bare t e ∙ f)
refused_bare t e why (too_long f l s) = too_long (early_bare t e ∙ f) (long_on t e l) s
refused_bare t e why (too_many f l m s) =
    too_many (early_bare t e ∙ f) (λ h. l (long_off t e h)) (many_on t e m) s
