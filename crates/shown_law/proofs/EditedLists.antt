-- The list of an edited track shows what the edit's law says.
use Rattle.std.proofs.Common.{◌≡◌, ℕ, ℤ, List, [], ◌∷◌, Option, Some, None, refl, sym, ap, ◌∙◌, inl}
use Rattle.otio_model.specs.declared.timelines.Timeline.{Timeline}
use Rattle.otio_model.specs.declared.edit_types.Edit.{Edit}
use Rattle.otio_model.specs.declared.compositions.ItemOf.{ItemOf}
use Rattle.otio_model.specs.declared.compositions.Listed.{Listed}
use Rattle.otio_model.specs.Trees.{items_of, listed}
use Rattle.otio_model.specs.Edits.{list_at}
use Rattle.otio_model.proofs.Leads.{track_list}
use Rattle.otio_model.proofs.Lenses.{get_put}
use Rattle.otio_model.proofs.Views.{items-listed}
use Rattle.coord.specs.Agreement.{Agree}
use Rattle.coord.specs.Looks.{list_shows}
use Rattle.coord.specs.Sights.{View, exact, looks}
use Rattle.coord.specs.Soundness.{IsSound}
use Rattle.coord.proofs.AgreementLemmas.{plain}
use Rattle.edits.specs.After.{frame_of, list_of, place_of, with_items}
use Rattle.edits.specs.Edits.{edited}
use Rattle.edits.specs.Laws.{law}
use Rattle.edits.specs.Refusals.{IsAfter, early_fault}
use Rattle.edits.specs.Steady.{Sees}
use Rattle.edits_law.specs.Editable.{HasEditItem}
use Rattle.edits_law.proofs.AgreedLaws.{law_fades, shows_fade}
use Rattle.edits_law.proofs.AnyDepth.{made}
use Rattle.edits_law.proofs.Depth.{leads}
use Rattle.edits_law.proofs.EditShown.{edit_shows}
use Rattle.edits_law.proofs.Premises.{premises}

-- the track of an edit that no early test refuses has a list
list_there : (t : Timeline) (e : Edit) → early_fault t e ≡ None
    → (l : Listed) × (list_at (place_of e) t.tracks.children ≡ Some l)
list_there t e f =
    let p = leads t e f in (
      p.track.children,
      ap (λ q. list_at q t.tracks.children) p.place
          ∙ track_list (p.first ∷ p.rest) t.tracks.children p.track p.there,
    )

-- the list that is put there stands there
new_list : (t : Timeline) (e : Edit) (m : List (ItemOf Listed)) → early_fault t e ≡ None
    → list_of (with_items t e m) e ≡ m
new_list t e m f =
    let l = list_there t e f in
    ap (λ (o : Option Listed). elim o [ None ↦ [] | Some c ↦ items_of c ])
    (get_put (place_of e) (listed m) t.tracks.children l.0 l.1)
    ∙ items-listed m

pub lists_show : (v : View) (t new : Timeline) (e : Edit) (w : ℤ) → IsSound t → HasEditItem e
    → IsAfter t e new → Sees v (edited (frame_of t) e (list_of t e))
    → list_shows (looks v (list_of new e)) w ≡ law v (frame_of t) e (list_of t e) w
lists_show v t new e w s i a k =
    let p = premises t e s i in
    let d = made t e new a.made in
    ap (λ n. list_shows (looks v (list_of n e)) w) (sym d.give)
    ∙ ap (λ l. list_shows (looks v l) w) (new_list t e d.items a.early)
    ∙ edit_shows v t e d.items w a.early p.fair p.suits d.are p.ranged k

pub lists_agree : (t new : Timeline) (e : Edit) (w : ℤ) (kind : List ℕ) → IsSound t → HasEditItem e
    → IsAfter t e new
    → Agree (list_shows (looks (exact kind) (list_of new e)) w)
    (law (exact kind) (frame_of t) e (list_of t e) w)
lists_agree t new e w kind s i a =
    sym (shows_fade kind (list_of new e) w)
    ∙ lists_show (plain kind) t new e w s i a (inl (λ x y. refl))
    ∙ law_fades kind (frame_of t) e (list_of t e) w
