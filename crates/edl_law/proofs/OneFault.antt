-- A list is refused by one fault at most.
use Rattle.std.proofs.Common.{◌≡◌, ◌≢◌, refl, sym, ◌∙◌, ◌≤◌, Some, arith}
use Rattle.limits.specs.Limits.{most_items}
use Rattle.edl_list.specs.declared.list.EventList.{EventList}
use Rattle.edl_frames.specs.declared.faults.ConformFault.{ConformFault}
use Rattle.edl_frames.specs.declared.faults.ConformFault.TheVariants.{NoReel, Rate, Outside, Items, Memory}
use Rattle.media_rows.specs.Rows.{MediaRows}
use Rattle.edl_frames.specs.Refused.{first_fault, IsAccepted}
use Rattle.edl_frames.specs.Counted.{item_count}
use Rattle.edl_frames.specs.Faults.{IsConformFault}

-- a fault of an event is the first one, and too many items are refused where there is none
data Told (list : EventList) (media : MediaRows) (f : ConformFault) : Type 0 where
  first : first_fault list.rate media list.events ≡ Some f → Told list media f
  many : IsAccepted list media → f ≡ Items → Told list media f

told : (list : EventList) (media : MediaRows) (f : ConformFault) → IsConformFault list media f
    → f ≢ Memory → Told list media f
told list media (NoReel line) i some = first i
told list media (Rate line) i some = first i
told list media (Outside line) i some = first i
told list media Items i some = many i.0 refl
told list media Memory i some = absurd (some refl)

pub one_fault : (list : EventList) (media : MediaRows) (f g : ConformFault)
    → IsConformFault list media f → IsConformFault list media g → f ≢ Memory → g ≢ Memory → f ≡ g
one_fault list media f g i j p q = by (told list media f i p) (told list media g j q)
  where
    by : Told list media f → Told list media g → f ≡ g
    by (first d) (first e) = cc (sym d ∙ e)
    by (first d) (many e h) = absurd (cc (sym d ∙ e))
    by (many d h) (first e) = absurd (cc (sym d ∙ e))
    by (many d h) (many e k) = h ∙ sym k

pub no_fault : (list : EventList) (media : MediaRows) (f : ConformFault)
    → IsConformFault list media f → f ≢ Memory → IsAccepted list media
    → item_count list ≤ most_items → ⊥
no_fault list media (NoReel line) i some held few = cc (sym held ∙ i)
no_fault list media (Rate line) i some held few = cc (sym held ∙ i)
no_fault list media (Outside line) i some held few = cc (sym held ∙ i)
no_fault list media Items i some held few = omega (arith, i.1, few)
no_fault list media Memory i some held few = some refl
