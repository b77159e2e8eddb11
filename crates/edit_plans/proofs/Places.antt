-- Faults of places.
use Rattle.std.proofs.Common.{◌≡◌, refl, sym, ap, ◌∙◌, ℕ, ◌≤◌, Bool, true, false, cond, List, [], ◌∷◌, Option, Some, None, length, arith}
use Rattle.otio_model.specs.declared.compositions.ItemOf.{ItemOf}
use Rattle.otio_model.specs.declared.compositions.Listed.{Listed}
use Rattle.otio_model.specs.declared.timelines.Timeline.{Timeline}
use Rattle.otio_model.specs.declared.edit_types.EditFault.{EditFault}
use Rattle.otio_model.specs.declared.edit_types.EditFault.TheVariants as F
use Rattle.otio_model.specs.Trees.{item_at}
use Rattle.edits.specs.Refusals.{is_track, place_fault}

-- the fault of what a place leads to
abbrev there_fault : Option (ItemOf Listed) → Option EditFault
there_fault None = Some F.Place
there_fault (Some x) = cond (is_track x) None (Some F.NotTrack)

elim_is : (o : Option (ItemOf Listed)) → ◌≡◌ {A = Option EditFault}
    (elim o [ None ↦ Some F.Place | Some x ↦ cond (is_track x) None (Some F.NotTrack) ])
    (there_fault o)
elim_is None = refl
elim_is (Some x) = refl

pub no_place : (p : List ℕ) (t : Timeline) (n : ℕ) → n ≡ length p → n ≡ 0
    → Some F.NotTrack ≡ place_fault p t
no_place [] t n e f = refl
no_place (i ∷ p) t n e f = absurd (omega (arith, e, f))

pub lost : (p : List ℕ) (t : Timeline) (n : ℕ) → n ≡ length p → 1 ≤ n
    → item_at p t.tracks.children ≡ None → Some F.Place ≡ place_fault p t
lost [] t n e f h = absurd (omega (arith, e, f))
lost (i ∷ p) t n e f h = sym (elim_is (item_at (i ∷ p) t.tracks.children) ∙ ap there_fault h)

pub no_track : (p : List ℕ) (t : Timeline) (n : ℕ) (x : ItemOf Listed) (b : Bool) → n ≡ length p
    → 1 ≤ n → item_at p t.tracks.children ≡ Some x → b ≡ is_track x → b ≡ false
    → Some F.NotTrack ≡ place_fault p t
no_track [] t n x b e f h k m = absurd (omega (arith, e, f))
no_track (i ∷ p) t n x b e f h k m = sym (elim_is (item_at (i ∷ p) t.tracks.children)
    ∙ ap there_fault h ∙ ap (λ c. cond c None (Some F.NotTrack)) (sym k ∙ m))

pub a_track : (p : List ℕ) (t : Timeline) (n : ℕ) (x : ItemOf Listed) (b : Bool) → n ≡ length p
    → 1 ≤ n → item_at p t.tracks.children ≡ Some x → b ≡ is_track x → b ≡ true
    → None ≡ place_fault p t
a_track [] t n x b e f h k m = absurd (omega (arith, e, f))
a_track (i ∷ p) t n x b e f h k m = sym (elim_is (item_at (i ∷ p) t.tracks.children)
    ∙ ap there_fault h ∙ ap (λ c. cond c None (Some F.NotTrack)) (sym k ∙ m))

pub ruleset places = (no_place, lost, no_track, a_track)
