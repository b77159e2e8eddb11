-- Where an accepted edit changes nothing.
use Rattle.std.proofs.Common.{◌≡◌, ◌≢◌, refl, sym, ap, subst, ◌∙◌, ℕ, ℤ, List, [], ◌∷◌, Some, None, slice_get}
use Rattle.std.specs.Prelude.{option_map, option_and_then}
use Rattle.otio_model.specs.declared.compositions.TrackOf.{TrackOf}
use Rattle.otio_model.specs.declared.compositions.ItemOf.{ItemOf}
use Rattle.otio_model.specs.declared.compositions.ItemOf.TheVariants.{Clip, Gap, Transition, Stack, Track}
use Rattle.otio_model.specs.declared.compositions.Listed.{Listed}
use Rattle.otio_model.specs.declared.timelines.Timeline.{Timeline}
use Rattle.otio_model.specs.declared.edit_types.Edit.{Edit}
use Rattle.otio_model.specs.Trees.{listed, items_of, below, item_at}
use Rattle.otio_model.specs.Edits.{deeper, with_at}
use Rattle.coord.specs.Looks.{FrameRate}
use Rattle.coord.specs.Programs.{at_by}
use Rattle.edits.specs.After.{place_of}
use Rattle.edits.specs.Refusals.{IsAfter}
use Rattle.edits_law.specs.Down.{down}
use Rattle.edits_law.specs.Kept.{KeepsLength}
use Rattle.edits_law.proofs.Unreached.{way, got_changed, items_with, unreached, others}
use Rattle.edits_law.proofs.Depth.{leads}
use Rattle.edits_law.proofs.AnyDepth.{made}

child_below : (i : ℕ) (place : List ℕ) (m l : Listed) (y z : ItemOf Listed) → slice_get (items_of l) i ≡ Some y → below place (deeper (with_at place m) y) ≡ Some z
    → option_and_then (below place) (slice_get (items_of (with_at (i ∷ place) m l)) i) ≡ Some z
child_below i place m l y z e h =
    ap (λ xs. option_and_then (below place) (slice_get xs i)) (items_with i place m l)
    ∙ ap (option_and_then (below place)) (got_changed (deeper (with_at place m)) i (items_of l) ∙ ap (option_map (deeper (with_at place m))) e)
    ∙ h

-- the track with its new children stands at the place
new_below : (place : List ℕ) (m : Listed) (x : ItemOf Listed) (c : TrackOf Listed) → below place x ≡ Some (Track c) → below place (deeper (with_at place m) x) ≡ Some (Track (record c { children = m }))
new_below [] m x c e = subst (λ (z : ItemOf Listed). below [] (deeper (with_at [] m) z) ≡ Some (Track (record c { children = m }))) (let d : Track c ≡ x = cc (sym e) in d) refl
new_below (i ∷ place) m (Clip a) c e = absurd (cc e)
new_below (i ∷ place) m (Gap a) c e = absurd (cc e)
new_below (i ∷ place) m (Transition a) c e = absurd (cc e)
new_below (i ∷ place) m (Stack s) c e = let d = way i place (items_of s.children) (Track c) e in child_below i place m s.children d.child (Track (record c { children = m })) d.there (new_below place m d.child c d.leads)
new_below (i ∷ place) m (Track s) c e = let d = way i place (items_of s.children) (Track c) e in child_below i place m s.children d.child (Track (record c { children = m })) d.there (new_below place m d.child c d.leads)

new_there : (i : ℕ) (place : List ℕ) (m l : Listed) (c : TrackOf Listed) → item_at (i ∷ place) l ≡ Some (Track c) → item_at (i ∷ place) (with_at (i ∷ place) m l) ≡ Some (Track (record c { children = m }))
new_there i place m l c e = let d = way i place (items_of l) (Track c) e in child_below i place m l d.child (Track (record c { children = m })) d.there (new_below place m d.child c d.leads)

first_is : (i k : ℕ) (place : List ℕ) (p : List ℕ) → p ≡ i ∷ place → slice_get p 0 ≡ Some k → i ≡ k
first_is i k place p e f = cc (ap (λ q. slice_get q 0) (sym e) ∙ f)

pub edit_unreached : (rate_kept : FrameRate → FrameRate) (t : Timeline) (e : Edit) (new : Timeline) (k : ℕ) (u : ℤ) → IsAfter t e new → KeepsLength t e new → slice_get (place_of e) 0 ≡ Some k
    → down t (place_of e) u ≡ None → at_by rate_kept new k u ≡ at_by rate_kept t k u
edit_unreached rate_kept t e new k u a h f d =
    let p = leads t e a.early in
    let m = made t e new a.made in
    let children : new.tracks.children ≡ with_at (p.first ∷ p.rest) (listed m.items) t.tracks.children = ap (λ (z : Timeline). z.tracks.children) (sym m.give) ∙ ap (λ q. with_at q (listed m.items) t.tracks.children) p.place in
    let there : item_at (place_of e) new.tracks.children ≡ Some (Track (record p.track { children = listed m.items })) =
    ap (λ q. item_at q new.tracks.children) p.place ∙ ap (item_at (p.first ∷ p.rest)) children ∙ new_there p.first p.rest (listed m.items) t.tracks.children p.track p.there in
    let was : item_at (place_of e) t.tracks.children ≡ Some (Track p.track) = ap (λ q. item_at q t.tracks.children) p.place ∙ p.there in
    subst (λ j. at_by rate_kept new j u ≡ at_by rate_kept t j u) (first_is p.first k p.rest (place_of e) p.place f)
    (unreached rate_kept t new p.first p.rest p.track (listed m.items) u children p.there (sym (h (Track p.track) (Track (record p.track { children = listed m.items })) was there)) (ap (λ q. down t q u) (sym p.place) ∙ d))

pub edit_others : (rate_kept : FrameRate → FrameRate) (t : Timeline) (e : Edit) (new : Timeline) (k : ℕ) (u : ℤ) → IsAfter t e new → slice_get (place_of e) 0 ≢ Some k → at_by rate_kept new k u ≡ at_by rate_kept t k u
edit_others rate_kept t e new k u a n =
    let p = leads t e a.early in
    let m = made t e new a.made in
    others rate_kept t new p.first k p.rest (listed m.items) u (ap (λ (z : Timeline). z.tracks.children) (sym m.give) ∙ ap (λ q. with_at q (listed m.items) t.tracks.children) p.place)
    (λ f. n (ap (λ q. slice_get q 0) p.place ∙ ap Some f))
