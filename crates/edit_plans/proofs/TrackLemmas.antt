-- The track that a place leads to.
use Rattle.std.proofs.Common.{◌≡◌, refl, sym, ap, subst, ◌∙◌, ℕ, ◌<◌, ◌^◌}
use Rattle.std.proofs.Common.{List, [], ◌∷◌, ◌++◌, Option, Some, None, length, arith}
use Rattle.std.specs.Prelude.{option_and_then, cond}
use Rattle.otio_model.specs.declared.compositions.ItemOf.{ItemOf}
use Rattle.otio_model.specs.declared.compositions.ItemOf.TheVariants.{Clip, Gap, Transition, Stack}
use Rattle.otio_model.specs.declared.compositions.ItemOf.TheVariants.{Track}
use Rattle.otio_model.specs.declared.compositions.TrackOf.{TrackOf}
use Rattle.otio_model.specs.declared.compositions.Listed.{Listed}
use Rattle.otio_model.specs.declared.edit_types.Edit.{Edit}
use Rattle.otio_model.specs.declared.edit_types.EditFault.{EditFault}
use Rattle.otio_model.specs.declared.edit_types.EditFault.TheVariants as F
use Rattle.otio_model.specs.declared.timelines.Timeline.{Timeline}
use Rattle.otio_model.specs.Counts.{count}
use Rattle.otio_model.specs.Falls.{child_counts, count-listed}
use Rattle.otio_model.specs.Edits.{list_at}
use Rattle.otio_model.specs.Trees.{listed, items_of, children_of, item_at, below}
use Rattle.otio_model.proofs.Leads.{track_list}
use Rattle.otio_model.proofs.LengthLimits.{few_enough}
use Rattle.coord.specs.Soundness.{IsSound}
use Rattle.edits.specs.After.{list_of, place_of}
use Rattle.edits.specs.Refusals.{is_track, place_fault}
use Rattle.edits_law.proofs.Anywhere.{count_at}
use Rattle.edits_law.proofs.Premises.{step}
use Rattle.pieces.specs.Short.{AreCuttable}

-- a place without a fault leads to a track
pub record OnTrack (place : List ℕ) (l : Listed) : Type 0 where
  pub track : TrackOf Listed
  pub there : item_at place l ≡ Some (Track track)
  pub list : list_at place l ≡ Some track.children

abbrev judged : Option (ItemOf Listed) → Option EditFault
judged o = elim o [ None ↦ Some F.Place | Some x ↦ cond (is_track x) None (Some F.NotTrack) ]

pub on_track : (place : List ℕ) (t : Timeline) → place_fault place t ≡ None
    → OnTrack place t.tracks.children
on_track [] t e = absurd (cc e)
on_track (i ∷ place) t e = by (item_at (i ∷ place) t.tracks.children) refl e
  where
    by : (o : Option (ItemOf Listed)) → item_at (i ∷ place) t.tracks.children ≡ o → judged o ≡ None
        → OnTrack (i ∷ place) t.tracks.children
    by None f h = absurd (cc h)
    by (Some (Clip c)) f h = absurd (cc h)
    by (Some (Gap c)) f h = absurd (cc h)
    by (Some (Transition c)) f h = absurd (cc h)
    by (Some (Stack c)) f h = absurd (cc h)
    by (Some (Track k)) f h = record {
      track = k;
      there = f;
      list =
          track_list (i ∷ place) t.tracks.children k f;
    }

-- nothing else stands there
pub some_children : (place : List ℕ) (t : Timeline) → place_fault place t ≡ None
    → option_and_then children_of (item_at place t.tracks.children) ≡ None → ⊥
some_children place t e f =
    let o = on_track place t e in
    let none : Path (Option Listed) (children_of (Track o.track)) None =
    ap (option_and_then children_of) (sym o.there) ∙ f in
    cc none

pub children_are : (place : List ℕ) (t : Timeline) (c : Listed) → place_fault place t ≡ None
    → option_and_then children_of (item_at place t.tracks.children) ≡ Some c
    → list_at place t.tracks.children ≡ Some c
children_are place t c e f =
    let o = on_track place t e in o.list ∙ ap (option_and_then children_of) (sym o.there) ∙ f

pub list_is : (t : Timeline) (e : Edit) (place : List ℕ) (c : Listed) → place_of e ≡ place
    → list_at place t.tracks.children ≡ Some c → items_of c ≡ list_of t e
list_is t e place c f g =
    let h : list_at (place_of e) t.tracks.children ≡ Some c =
    ap (λ p. list_at p t.tracks.children) f ∙ g in
    sym (ap (λ (o : Option Listed). elim o [ None ↦ [] | Some l ↦ items_of l ]) h)

-- the children there are no more than all
pub list_few : (place : List ℕ) (l c : Listed) → list_at place l ≡ Some c → count l < 2 ^ 32
    → count c < 2 ^ 32
list_few place l c e h =
    let k = count_at place (listed []) l c e in
    let n : count (listed []) ≡ 0 = count-listed [] in
    omega (arith, k, n, h)

-- ---- each child stands at a place

pub child_at : (place : List ℕ) (l d : Listed) (j : ℕ) (q : List ℕ) (x : ItemOf Listed)
    → list_at place l ≡ Some d → item_at (j ∷ q) d ≡ Some x → item_at (place ++ (j ∷ q)) l ≡ Some x
child_at [] l d j q x e f = let same : d ≡ l = cc (sym e) in
    subst (λ (z : Listed). item_at (j ∷ q) z ≡ Some x) same f
child_at (i ∷ []) l d j q x e f =
    let s = step i [] l d e in
    ap (option_and_then (below (j ∷ q))) s.there ∙ ap (option_and_then (item_at (j ∷ q))) s.inside
    ∙ child_at [] s.children d j q x s.leads f
child_at (i ∷ k ∷ place) l d j q x e f =
    let s = step i (k ∷ place) l d e in
    ap (option_and_then (below (k ∷ (place ++ (j ∷ q))))) s.there
    ∙ ap (option_and_then (item_at (k ∷ (place ++ (j ∷ q))))) s.inside
    ∙ child_at (k ∷ place) s.children d j q x s.leads f

pub list_sound : (place : List ℕ) (t : Timeline) (c : Listed)
    → list_at place t.tracks.children ≡ Some c → IsSound t → count t.tracks.children < 2 ^ 32
    → AreCuttable (items_of c)
list_sound place t c e s h i x f =
    let k = child_counts c i x f in
    let n = list_few place t.tracks.children c e h in
    record {
      few = omega (arith, k, n);
      sound = s.faultless.items (place ++ (i ∷ [])) x
          (child_at place t.tracks.children c i [] x e (ap (option_and_then (below [])) f));
    }

pub list_short : (place : List ℕ) (l c : Listed) → list_at place l ≡ Some c → count l < 2 ^ 32
    → length (items_of c) < 2 ^ 32
list_short place l c e h = few_enough c (list_few place l c e h)
