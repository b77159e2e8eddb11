-- How places are written, index by index.
use Rattle.std.proofs.Common.{◌≡◌, ℕ, List, [], ◌∷◌, ◌++◌, codes, decimal, refl, sym, ap, ◌∙◌, append_assoc, append-nil}
use Rattle.show_prog.specs.declared.places.Way.{Way, Root, Child}
use Rattle.show_prog.specs.declared.places.Way.TheOpen.{Way-F}
use Rattle.show_prog.specs.declared.places.Way.TheFolds.{fold-roll-Way}
use Rattle.otio_model.specs.PlaceTexts.{more_indexes, place_text}
use Rattle.show_prog.specs.Places.{lead_text, place_of, way_step}

pub place_of-Root : place_of Root ≡ []
unfolding Rattle.show_prog.specs.declared.places.Way.TheViews.roll-Way denote.Hole.Carrier.roll
place_of-Root = fold-roll-Way (List ℕ) way_step Way-F.Root

pub place_of-Child : (outer : _) (index : ℕ)
    → place_of (Child outer index) ≡ place_of outer.now ++ index ∷ []
unfolding Rattle.show_prog.specs.declared.places.Way.TheViews.roll-Way denote.Hole.Carrier.roll
place_of-Child outer index = fold-roll-Way (List ℕ) way_step (Way-F.Child outer index)

-- one index more before a further one
pub lead_more : (place : List ℕ) (i : ℕ)
    → lead_text place ++ (decimal i ++ codes "/") ≡ lead_text (place ++ i ∷ [])
lead_more [] i = refl
lead_more (j ∷ place) i = append_assoc (decimal j) (codes "/" ++ lead_text place) (decimal i ++ codes "/")
    ∙ ap (λ (l : List ℕ). decimal j ++ (codes "/" ++ l)) (lead_more place i)

more_last : (place : List ℕ) (i : ℕ)
    → codes "/" ++ (lead_text place ++ decimal i) ≡ more_indexes (place ++ i ∷ [])
more_last [] i = ap (λ (l : List ℕ). codes "/" ++ l) (sym (append-nil (decimal i)))
more_last (j ∷ place) i = ap (λ (l : List ℕ). codes "/" ++ l)
    (append_assoc (decimal j) (codes "/" ++ lead_text place) (decimal i)
    ∙ ap (λ (l : List ℕ). decimal j ++ l) (more_last place i))

-- the last index behind the others
pub place_last : (place : List ℕ) (i : ℕ)
    → lead_text place ++ decimal i ≡ place_text (place ++ i ∷ [])
place_last [] i = sym (append-nil (decimal i))
place_last (j ∷ place) i = append_assoc (decimal j) (codes "/" ++ lead_text place) (decimal i)
    ∙ ap (λ (l : List ℕ). decimal j ++ l) (more_last place i)
