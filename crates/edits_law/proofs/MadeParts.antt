-- What the items are that children make.
use Rattle.std.proofs.Common.{◌≡◌, refl, sym, ap, subst, ◌∙◌, Bool, Option, Some, None}
use Rattle.std.proofs.Common.{List, [], ◌∷◌, ℤ}
use Rattle.std.specs.Prelude.{option_map}
pub use Rattle.std.proofs.lemmas.Option.{same_Some as same_item}
use Rattle.tick_time.specs.declared.rates.Rate.{Rate}
use Rattle.tick_time.specs.declared.spans.Span.{Span}
use Rattle.otio_model.specs.declared.compositions.ItemOf.{ItemOf}
use Rattle.otio_model.specs.declared.compositions.ItemOf.TheVariants.{Clip, Gap, Transition, Stack}
use Rattle.otio_model.specs.declared.compositions.ItemOf.TheVariants.{Track}
use Rattle.otio_model.specs.declared.compositions.Listed.{Listed}
use Rattle.otio_model.specs.Trees.{is_transition}
use Rattle.edits.specs.Nears.{near, span_of}
use Rattle.edits.specs.Children.{Child, Old, Ranged, with_range, made, all_made, with_first}
use Rattle.edits.specs.Children.{start_rate, length_rate}
use Rattle.edits.specs.Cuts.{olds}
use Rattle.edits_law.proofs.Apart.{Apart, flag}

-- an item that was given a range
pub record IsRanged (x y : ItemOf Listed) : Type 0 where
  pub span : Span
  pub is : with_range span x ≡ y

pub ranged_item : (r : Rate) (x : ItemOf Listed) (s n : ℤ) (y : ItemOf Listed)
    → made r (Ranged x s n) ≡ Some y → IsRanged x y
ranged_item r x s n y e = of (span_of (near s (start_rate r x)) (near n (length_rate r x))) e
  where
    of : (o : Option Span) → option_map (λ w. with_range w x) o ≡ Some y → IsRanged x y
    of None f = absurd (cc f)
    of (Some w) f = record { span = w; is = same_item (with_range w x) y f }

-- the first child makes the first item, and the others the others
pub record AreParts (r : Rate) (c : Child) (l : List Child) (m : List (ItemOf Listed)) : Type 0
  where
    pub first : ItemOf Listed
    pub others : List (ItemOf Listed)
    pub first_is : made r c ≡ Some first
    pub others_are : all_made r l ≡ Some others
    pub all : first ∷ others ≡ m

same_list : (l m : List (ItemOf Listed)) → Some l ≡ Some m → l ≡ m
same_list l m e = cc e

pub made_parts : (r : Rate) (c : Child) (l : List Child) (m : List (ItemOf Listed))
    → all_made r (c ∷ l) ≡ Some m → AreParts r c l m
made_parts r c l m e = of (made r c) (all_made r l) refl refl e
  where
    of : (o : Option (ItemOf Listed)) (q : Option (List (ItemOf Listed))) → made r c ≡ o
        → all_made r l ≡ q → with_first o q ≡ Some m → AreParts r c l m
    of None q f g h = absurd (cc h)
    of (Some x) None f g h = absurd (cc h)
    of (Some x) (Some n) f g h =
        record { first = x; others = n; first_is = f; others_are = g; all = same_list (x ∷ n) m h }

pub made_none : (r : Rate) (m : List (ItemOf Listed)) → all_made r [] ≡ Some m → [] ≡ m
made_none r m e = same_list [] m e

-- ---- transitions among them

kind_kept : (w : Span) (x : ItemOf Listed) → is_transition (with_range w x) ≡ is_transition x
kind_kept w (Clip c) = refl
kind_kept w (Gap c) = refl
kind_kept w (Transition c) = refl
kind_kept w (Stack c) = refl
kind_kept w (Track c) = refl

made_flag : (r : Rate) (c : Child) (y : ItemOf Listed) → made r c ≡ Some y
    → flag c ≡ is_transition y
made_flag r (Old x) y e = ap (λ (z : ItemOf Listed). is_transition z) (same_item x y e)
made_flag r (Ranged x s n) y e =
    let m = ranged_item r x s n y e in
    sym (kind_kept m.span x) ∙ ap (λ (z : ItemOf Listed). is_transition z) m.is

pub made_apart : (p : Bool) (r : Rate) (l : List Child) (m : List (ItemOf Listed))
    → all_made r l ≡ Some m → Apart p l → Apart p (olds m)
made_apart p r [] m e k = subst (λ q. Apart p (olds q)) (made_none r m e) tt
made_apart p r (c ∷ l) m e k =
    let d = made_parts r c l m e in
    let f = made_flag r c d.first d.first_is in
    subst (λ q. Apart p (olds q)) d.all (
      λ g. sym f ∙ k.0 g,
      made_apart (is_transition d.first) r l d.others d.others_are (subst (λ q. Apart q l) f k.1),
    )
