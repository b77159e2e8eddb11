-- An edit of a list as what it puts between two instants: what its plan owes.
use Rattle.std.proofs.Common.{◌≡◌, inl, refl, sym, ap, subst, ◌∙◌, ℕ, ◌+◌, ◌≤◌, ℤ, pos, ◌+ℤ◌, ◌-ℤ◌, ◌≤ℤ◌, Bool, true, false, cond, List, Option, Some, None, length, arith}
use Rattle.std.specs.Prelude.{option_map}
use Rattle.std.specs.Int.{int_max}
use Rattle.std.proofs.lemmas.Int.{ints}
use Rattle.tick_time.specs.declared.rates.Rate.{Rate}
use Rattle.otio_model.specs.declared.compositions.ItemOf.{ItemOf}
use Rattle.otio_model.specs.declared.compositions.Listed.{Listed}
use Rattle.otio_model.specs.declared.timelines.Timeline.{Timeline}
use Rattle.otio_model.specs.declared.edit_types.Edit.{Edit}
use Rattle.otio_model.specs.declared.edit_types.EditFault.{EditFault}
use Rattle.otio_model.specs.declared.edit_types.EditFault.TheVariants as F
use Rattle.otio_model.specs.Edits.{replaced}
use Rattle.edits.specs.Children.{Child, all_made, has_far}
use Rattle.edits.specs.Cuts.{put_between, strip}
use Rattle.edits.specs.After.{frame_of, list_of, place_of, rate_of}
use Rattle.edits.specs.Edges.{added, is_zero}
use Rattle.edits.specs.Edits.{edited}
use Rattle.edits.specs.Narrow.{touched}
use Rattle.edits.specs.Refusals.{cuts_ends, early_fault, IsRefused, long, pin_fault, too_long, at_once, unpinned}
use Rattle.edits.specs.Zones.{touches}
use Rattle.edit_plans.proofs.LongLemmas.{long_between}
use Rattle.edit_plans.specs.Planned.{IsMiddle}
use Rattle.edit_plans.specs.Pins.{pin_by}
use Rattle.edit_ops.specs.Zoned.{IsZoned, change, cuts_then, phase_by}

-- ---- the test of pinned lengths

long_edited : (t : Timeline) (e : Edit) (p : List ℕ) (from to ticks : ℤ) (n : List Child)
    (put : List (ItemOf Listed)) (early : Option EditFault)
    → IsZoned t e p from to n put ticks early
    → pos 0 ≤ℤ from → pos 0 ≤ℤ to → long (edited (frame_of t) e (list_of t e))
    ≡ (from +ℤ ticks) +ℤ int_max (pos 0) (added (list_of t e) -ℤ to)
long_edited t e p from to ticks n put early z h k =
    ap long z.edited ∙ long_between (list_of t e) from to n h k
    ∙ ap (λ m. (from +ℤ m) +ℤ int_max (pos 0) (added (list_of t e) -ℤ to)) (sym z.long)

pub pin_is : (t : Timeline) (e : Edit) (p : List ℕ) (l : List (ItemOf Listed))
    (from to ticks total more : ℤ) (n : List Child) (put : List (ItemOf Listed))
    (early : Option EditFault) → IsZoned t e p from to n put ticks early
    → l ≡ list_of t e → total ≡ added l → pos 0 ≤ℤ from → pos 0 ≤ℤ to
    → more ≡ change total from ticks to → pin_fault t e ≡ pin_by more p t
pin_is t e p l from to ticks total more n put early z s m h k c =
    let sum : total ≡ added (list_of t e) = m ∙ ap added s in
    let same : long (edited (frame_of t) e (list_of t e)) -ℤ added (list_of t e) ≡ more =
    ap (λ y. y -ℤ added (list_of t e)) (long_edited t e p from to ticks n put early z h k)
    ∙ ap (λ y. change y from ticks to) (sym sum) ∙ sym c in
    ap (λ y. cond (is_zero y) None (option_map F.Unpinned (unpinned (place_of e) t))) same
    ∙ ap (λ q. pin_by more q t) z.there

-- ---- what comes in place of the children that are touched

pub zone_made : (t : Timeline) (e : Edit) (p : List ℕ) (rate : Rate) (l new : List (ItemOf Listed))
    (at count : ℕ) (from to ticks : ℤ) (n : List Child) (put : List (ItemOf Listed))
    (early : Option EditFault) → IsZoned t e p from to n put ticks early → rate ≡ rate_of t
    → l ≡ list_of t e
    → ((m : List Child) → all_made rate m ≡ Some put
    → all_made rate (put_between (strip l from to) from m to) ≡ Some (replaced at count new l))
    → all_made (rate_of t) (edited (frame_of t) e (list_of t e))
    ≡ Some (replaced at count new (list_of t e))
zone_made t e p rate l new at count from to ticks n put early z r s f =
    let made : all_made rate n ≡ Some put = ap (λ q. all_made q n) r ∙ z.made in
    let one : all_made rate (put_between (strip (list_of t e) from to) from n to)
    ≡ Some (replaced at count new (list_of t e)) =
    subst (λ m. all_made rate (put_between (strip m from to) from n to)
    ≡ Some (replaced at count new m)) s (f n made) in
    ap (all_made (rate_of t)) z.edited
    ∙ ap (λ q. all_made q (put_between (strip (list_of t e) from to) from n to)) (sym r) ∙ one

pub zone_out : (t : Timeline) (e : Edit) (p : List ℕ) (l : List (ItemOf Listed)) (count : ℕ)
    (from to ticks : ℤ) (n : List Child) (put : List (ItemOf Listed)) (early : Option EditFault)
    → IsZoned t e p from to n put ticks early → l ≡ list_of t e
    → count ≡ length (touched l from to)
    → count ≤ touches (frame_of t) e (list_of t e) + 2
zone_out t e p l count from to ticks n put early z s c =
    let k : count ≡ touches (frame_of t) e (list_of t e) =
    c ∙ ap (λ m. length (touched m from to)) s ∙ sym z.touches in
    omega (arith, k)

pub zone_in : (t : Timeline) (e : Edit) (p : List ℕ) (l : List (ItemOf Listed)) (new : ℕ)
    (from to ticks : ℤ)
    (n : List Child) (put : List (ItemOf Listed)) (early : Option EditFault)
    → IsZoned t e p from to n put ticks early → l ≡ list_of t e
    → new ≤ length (touched l from to) + 1 + length put
    → new ≤ touches (frame_of t) e (list_of t e) + 4
zone_in t e p l new from to ticks n put early z s h =
    let k : length (touched l from to) ≡ touches (frame_of t) e (list_of t e) =
    ap (λ m. length (touched m from to)) s ∙ sym z.touches in
    let few = z.few in
    omega (arith, k, few, h)

pub zone_far : (t : Timeline) (e : Edit) (p : List ℕ) (l : List (ItemOf Listed)) (from to ticks : ℤ)
    (n : List Child) (put : List (ItemOf Listed)) (early : Option EditFault)
    → IsZoned t e p from to n put ticks early → l ≡ list_of t e → early_fault t e ≡ None
    → ((m : List Child) → has_far (put_between (strip l from to) from m to) ≡ true)
    → IsRefused t e F.TooLong
zone_far t e p l from to ticks n put early z s k f =
    too_long k (inl (ap has_far z.edited
    ∙ subst (λ m. has_far (put_between (strip m from to) from n to) ≡ true) s (f n))) refl

-- ---- the same edit, with instants and numbers as they are known

pub zoned_as : (t : Timeline) (e : Edit) (p : List ℕ) (from to a b ticks k : ℤ) (n : List Child)
    (put m : List (ItemOf Listed)) (early other : Option EditFault)
    → IsZoned t e p from to n put ticks early → a ≡ from → b ≡ to → k ≡ ticks → m ≡ put
    → early ≡ other → IsZoned t e p a b n m k other
zoned_as t e p from to a b ticks k n put m early other z f g h i j =
    subst (λ y. IsZoned t e p y b n m k other) (sym f)
    (subst (λ y. IsZoned t e p from y n m k other) (sym g)
    (subst (λ y. IsZoned t e p from to n m y other) (sym h)
    (subst (λ y. IsZoned t e p from to n y ticks other) (sym i)
    (subst (λ y. IsZoned t e p from to n put ticks y) j z))))

-- ---- the whole plan

-- what the plan's middle is made of
pub record IsPassed (t : Timeline) (p : List ℕ) (rate : Rate) (l : List (ItemOf Listed))
    (from to : ℤ) (put new : List (ItemOf Listed)) (at count : ℕ) : Type 0 where
  pub counts : rate ≡ rate_of t
  pub list : (e : Edit) → place_of e ≡ p → l ≡ list_of t e
  pub made : (m : List Child) → all_made rate m ≡ Some put
      → all_made rate (put_between (strip l from to) from m to) ≡ Some (replaced at count new l)
  pub goes : count ≡ length (touched l from to)
  pub within : at + count ≤ length l
  pub few : length new ≤ length (touched l from to) + 1 + length put

pub zone_middle : (t : Timeline) (e : Edit) (p : List ℕ) (rate : Rate)
    (l put new : List (ItemOf Listed)) (from to ticks : ℤ) (at count : ℕ) (n : List Child)
    (early : Option EditFault) → IsPassed t p rate l from to put new at count
    → IsZoned t e p from to n put ticks early → early_fault t e ≡ None
    → IsMiddle t e p at count new
zone_middle t e p rate l put new from to ticks at count n early q z k =
    let s = q.list e z.there in
    let within : at + count ≤ length (list_of t e) =
    subst (λ m. at + count ≤ length m) s q.within in
    record {
      there = z.there;
      item = z.item;
      early = k;
      within = within;
      made = zone_made t e p rate l new at count from to ticks n put early z q.counts s q.made;
      few_out = zone_out t e p l count from to ticks n put early z s q.goes;
      few_in = zone_in t e p l (length new) from to ticks n put early z s q.few;
    }

-- no test refuses the edit, where the one of pinned lengths doesn't
pub zone_early : (t : Timeline) (e : Edit) (p : List ℕ) (l put : List (ItemOf Listed))
    (from to ticks total more : ℤ) (n : List Child) (o : Option EditFault)
    → ((d : Edit) → place_of d ≡ p → l ≡ list_of t d)
    → IsZoned t e p from to n put ticks (pin_fault t e) → total ≡ added l → pos 0 ≤ℤ from
    → from ≤ℤ to → more ≡ change total from ticks to → pin_by more p t ≡ o
    → early_fault t e ≡ o
zone_early t e p l put from to ticks total more n o f z m h k c g =
    z.tests
    ∙ pin_is t e p l from to ticks total more n put (pin_fault t e) z (f e z.there) m h
    (omega (arith, ints)) c
    ∙ g

-- ---- as the code counts

pub zone_done : (t : Timeline) (p : List ℕ) (rate : Rate) (l put new : List (ItemOf Listed))
    (a b from to : ℤ) (at count : ℕ) → rate ≡ rate_of t
    → ((e : Edit) → place_of e ≡ p → l ≡ list_of t e)
    → ((m : List Child) → all_made rate m ≡ Some put
    → all_made rate (put_between (strip l a b) a m b) ≡ Some (replaced at count new l))
    → count ≡ length (touched l a b) → at + count ≤ length l
    → length new ≤ length (touched l a b) + 1 + length put → a ≡ from → b ≡ to
    → (e : Edit) (n : List Child) (k : ℤ) → IsZoned t e p from to n put k None
    → IsMiddle t e p at count new
zone_done t p rate l put new a b from to at count r f made out within few g h e n k z =
    zone_middle t e p rate l put new a b k at count n None
    (record { counts = r; list = f; made = made; goes = out; within = within; few = few })
    (zoned_as t e p from to a b k k n put put None None z g h refl refl refl) z.tests

pub far_known : (t : Timeline) (p : List ℕ) (l put : List (ItemOf Listed)) (a b from to : ℤ)
    → ((e : Edit) → place_of e ≡ p → l ≡ list_of t e)
    → ((m : List Child) → has_far (put_between (strip l a b) a m b) ≡ true) → a ≡ from → b ≡ to
    → (e : Edit) (n : List Child) (k : ℤ) → IsZoned t e p from to n put k None
    → IsRefused t e F.TooLong
far_known t p l put a b from to f far g h e n k z =
    zone_far t e p l a b k n put None
    (zoned_as t e p from to a b k k n put put None None z g h refl refl refl) (f e z.there)
    z.tests far

-- what the test of pinned lengths comes to
pub pin_known : (t : Timeline) (p : List ℕ) (l put : List (ItemOf Listed))
    (from to ticks a m total more : ℤ) (res : Option EditFault)
    → ((e : Edit) → place_of e ≡ p → l ≡ list_of t e) → total ≡ added l → pos 0 ≤ℤ from
    → from ≤ℤ to → more ≡ change a from ticks to → pin_by m p t ≡ res → a ≡ total → m ≡ more
    → (e : Edit) (n : List Child) → IsZoned t e p from to n put ticks (pin_fault t e)
    → pin_fault t e ≡ res
pin_known t p l put from to ticks a m total more res f sum low high o y ga gm e n z =
    pin_is t e p l from to ticks total more n put (pin_fault t e) z (f e z.there) sum low
    (omega (arith, ints, low, high)) (o ∙ ap (λ y. change y from ticks to) ga)
    ∙ ap (λ y. pin_by y p t) (sym gm) ∙ y

pub pin_passed : {t : Timeline} {e : Edit} {p : List ℕ} {from to ticks : ℤ} {n : List Child}
    {put : List (ItemOf Listed)} → IsZoned t e p from to n put ticks (pin_fault t e)
    → pin_fault t e ≡ None → IsZoned t e p from to n put ticks None
pin_passed {t} {e} {p} {from} {to} {ticks} {n} {put} z k =
    subst (λ y. IsZoned t e p from to n put ticks y) k z

pub pin_refused : {t : Timeline} {e : Edit} {p : List ℕ} {from to ticks : ℤ} {n : List Child}
    {put : List (ItemOf Listed)} {fault : EditFault}
    → IsZoned t e p from to n put ticks (pin_fault t e) → pin_fault t e ≡ Some fault
    → IsRefused t e fault
pin_refused z k = at_once (z.tests ∙ k)

-- what the test of cuts comes to
cuts_same : (t : Timeline) (e : Edit) (l : List (ItemOf Listed)) (from to : ℤ) (w : Bool)
    → l ≡ list_of t e → w ≡ cuts_ends l from to
    → cuts_then t e from to ≡ phase_by w (pin_fault t e)
cuts_same t e l from to w s c =
    ap (λ y. phase_by (cuts_ends y from to) (pin_fault t e)) (sym s)
    ∙ ap (λ y. phase_by y (pin_fault t e)) (sym c)

pub cuts_passed : {t : Timeline} {p : List ℕ} {l put : List (ItemOf Listed)}
    {from to ticks : ℤ} {w : Bool} → ((e : Edit) → place_of e ≡ p → l ≡ list_of t e)
    → w ≡ cuts_ends l from to → w ≡ true
    → (e : Edit) (n : List Child) → IsZoned t e p from to n put ticks (cuts_then t e from to)
    → IsZoned t e p from to n put ticks (pin_fault t e)
cuts_passed {t} {p} {l} {put} {from} {to} {ticks} {w} f o y e n z =
    subst (λ q. IsZoned t e p from to n put ticks q)
    (cuts_same t e l from to w (f e z.there) o ∙ ap (λ q. phase_by q (pin_fault t e)) y) z

pub cuts_refused : {t : Timeline} {p : List ℕ} {l put : List (ItemOf Listed)}
    {from to ticks : ℤ} {w : Bool} → ((e : Edit) → place_of e ≡ p → l ≡ list_of t e)
    → w ≡ cuts_ends l from to → w ≡ false
    → (e : Edit) (n : List Child) → IsZoned t e p from to n put ticks (cuts_then t e from to)
    → IsRefused t e F.Phase
cuts_refused {t} {p} {l} {put} {from} {to} {ticks} {w} f o y e n z =
    at_once (z.tests ∙ cuts_same t e l from to w (f e z.there) o
    ∙ ap (λ q. phase_by q (pin_fault t e)) y)
