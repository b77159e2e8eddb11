-- Each accepted edit, at any place.
use Rattle.coord.specs.Soundness.{IsSound}
use Rattle.std.proofs.Common.{◌≡◌, refl, sym, ap, ◌∙◌, ◌⊎◌, inl, inr, ℕ, ℤ, true, List, Option, Some, None}
use Rattle.std.specs.Prelude.{option_map}
use Rattle.otio_model.specs.declared.compositions.ItemOf.{ItemOf}
use Rattle.otio_model.specs.declared.compositions.Listed.{Listed}
use Rattle.otio_model.specs.declared.timelines.Timeline.{Timeline}
use Rattle.otio_model.specs.declared.edit_types.Edit.{Edit}
use Rattle.coord.specs.Looks.{FrameRate}
use Rattle.coord.specs.Programs.{rate_24, at, at_by}
use Rattle.coord.specs.Agreement.{unrated}
use Rattle.coord.proofs.AgreementLemmas.{program_agrees}
use Rattle.edits.specs.Children.{all_made}
use Rattle.edits.specs.After.{rate_of, frame_of, list_of, with_items, after}
use Rattle.edits.specs.Edits.{edited}
use Rattle.edits.specs.Refusals.{IsAfter}
use Rattle.edits.specs.Steady.{are_steady}
use Rattle.edits_law.specs.Through.{through, through_by}
use Rattle.edits_law.specs.Editable.{HasEditItem}
use Rattle.edits_law.proofs.Premises.{premises}
use Rattle.edits_law.proofs.Depth.{new_lawful, edits_through}
use Rattle.edits_law.proofs.AgreedLaws.{shown_agrees}

pub record Made (t : Timeline) (e : Edit) (s : Timeline) : Type 0 where
  pub items : List (ItemOf Listed)
  pub are : all_made (rate_of t) (edited (frame_of t) e (list_of t e)) ≡ Some items
  pub give : with_items t e items ≡ s

pub made : (t : Timeline) (e : Edit) (s : Timeline) → after t e ≡ Some s → Made t e s
made t e s a = of (all_made (rate_of t) (edited (frame_of t) e (list_of t e))) refl a
  where
    of : (o : Option (List (ItemOf Listed))) → all_made (rate_of t) (edited (frame_of t) e (list_of t e)) ≡ o → option_map (with_items t e) o ≡ Some s → Made t e s
    of None f g = absurd (cc g)
    of (Some m) f g = record { items = m; are = f; give = cc g }

by_mark : (rate_kept : FrameRate → FrameRate) (t : Timeline) (e : Edit) (s : Timeline) (k : ℕ) (u : ℤ) → IsSound t → HasEditItem e → IsAfter t e s
    → ((a b : FrameRate) → rate_kept a ≡ rate_kept b) ⊎ (are_steady (edited (frame_of t) e (list_of t e)) ≡ true) → at_by rate_kept s k u ≡ through_by rate_kept t e k u
by_mark rate_kept t e s k u d i a w =
    let p = premises t e d i in
    let m = made t e s a.made in
    ap (λ z. at_by rate_kept z k u) (sym m.give)
    ∙ edits_through rate_kept t e m.items k u a.early (new_lawful rate_kept t e m.items a.early p.fair p.suits m.are p.ranged p.known (λ kind. w))

pub steady_equal : (t : Timeline) (e : Edit) (s : Timeline) (k : ℕ) (u : ℤ) → IsSound t → HasEditItem e → IsAfter t e s
    → are_steady (edited (frame_of t) e (list_of t e)) ≡ true → at s k u ≡ through t e k u
steady_equal t e s k u d i a w = by_mark (λ rate. rate) t e s k u d i a (inr w)

pub all_agree : (t : Timeline) (e : Edit) (s : Timeline) (k : ℕ) (u : ℤ) → IsSound t → HasEditItem e → IsAfter t e s → unrated (at s k u) ≡ unrated (through t e k u)
all_agree t e s k u d i a =
    program_agrees s k u ∙ by_mark (λ rate. rate_24) t e s k u d i a (inl (λ a b. refl)) ∙ sym (shown_agrees t e k u)
