-- The rates that a media list has of the sides of events that it holds.
use Rattle.std.proofs.Common.{◌≡◌, refl, sym, ap, ap₂, ◌∙◌, subst, pos, ◌||◌, Bool, true, false, not, cond, List, [], ◌∷◌, ◌++◌, Option, Some, None, arith}
use Rattle.std.specs.Prelude.{All}
use Rattle.std.specs.List.{list_any}
use Rattle.tick_time.specs.declared.rates.Rate.{Rate}
use Rattle.tick_time.proofs.BoolLemmas.{both}
use Rattle.edl_list.specs.declared.list.Reel.{Reel}
use Rattle.edl_list.specs.declared.list.Reel.TheVariants.{Black, Named}
use Rattle.edl_list.specs.declared.list.Side.{Side}
use Rattle.edl_list.specs.declared.list.Cross.{Cross}
use Rattle.edl_list.specs.declared.list.Cross.TheVariants.{Cut, Dissolve, Wipe}
use Rattle.edl_list.specs.declared.list.Event.{Event}
use Rattle.media_rows.specs.declared.row.MediaRow.{MediaRow}
use Rattle.coord.specs.Keys.{frame_rate}
use Rattle.media_rows.specs.Rows.{MediaRows, row_of}
use Rattle.edl_frames.specs.declared.faults.ConformFault.{ConformFault}
use Rattle.edl_frames.specs.Conformed.{Pair, pair_of, pair_as, wipe_type}
use Rattle.edl_frames.specs.Refused.{Use, use_of, uses_of, outgoing_use, reel_row, if_listed, is_same_rate, is_unlisted, has_other_rate, is_outside, event_fault, first_fault}
use Rattle.std.proofs.lemmas.Bool.Decides.{Decides-int_eq}
use Rattle.std.specs.Ordering.{int_eq}
use Rattle.std.specs.Prelude.{codes, ◌-ℤ◌}
use Rattle.std.proofs.lemmas.List.Elements.{All-cons}

some_is : {X : Type 0} (x y : X) → Some x ≡ Some y → x ≡ y
some_is x y e = ap (λ o. elim o [ None ↦ x | Some z ↦ z ]) e

-- what is listed of a reel has the list's rate
abbrev pub IsListed : Rate → MediaRows → Reel → Type 0
IsListed rate media Black = Unit {0}
IsListed rate media (Named reel) = (row : MediaRow) → row_of media reel ≡ Some row
    → frame_rate row.rate ≡ frame_rate rate

-- ---- events that a media list holds

pub any_first : {X : Type 0} (p : X → Bool) (x : X) (xs : List X) → list_any p (x ∷ xs) ≡ false
    → (p x ≡ false) × (list_any p xs ≡ false)
any_first p x xs e = by (p x) refl e
  where
    by : (b : Bool) → p x ≡ b → (b || list_any p xs) ≡ false
        → (p x ≡ false) × (list_any p xs ≡ false)
    by true f g = absurd (cc g)
    by false f g = (f, g)

-- each element of a list passes
pub any_last : {X : Type 0} (p : X → Bool) (xs : List X) (y : X)
    → list_any p (xs ++ (y ∷ [])) ≡ false → (list_any p xs ≡ false) × (p y ≡ false)
any_last p [] y e = (refl, (any_first p y [] e).0)
any_last p (x ∷ xs) y e =
    let f = any_first p x (xs ++ (y ∷ [])) e in
    let g = any_last p xs y f.1 in
    (ap₂ (λ a b. a || b) f.0 g.0, g.1)

pub tests_fail : {X : Type 0} (a b c : Bool) (x y z : X)
    → cond a (Some x) (cond b (Some y) (cond c (Some z) None)) ≡ None
    → (a ≡ false) × (b ≡ false) × (c ≡ false)
tests_fail true b c x y z e = absurd (cc e)
tests_fail false true c x y z e = absurd (cc e)
tests_fail false false true x y z e = absurd (cc e)
tests_fail false false false x y z e = (refl, refl, refl)

-- a test that doesn't fail passes
pub passes : (t : Bool) → not t ≡ false → t ≡ true
passes true e = refl
passes false e = absurd (cc e)

same_rates : (rate : Rate) (row : MediaRow) → not (is_same_rate row.rate rate) ≡ false
    → frame_rate row.rate ≡ frame_rate rate
same_rates rate row e =
    let p = both (int_eq row.rate.num rate.num) (int_eq row.rate.den rate.den)
    (passes (is_same_rate row.rate rate) e) in
    let a = (Decides-int_eq row.rate.num rate.num).0 p.0 in
    let b = (Decides-int_eq row.rate.den rate.den).0 p.1 in
    λ i. record { num = a i; den = b i }

-- the test on the rate of a row
abbrev other : Rate → MediaRow → Bool
other rate row = not (is_same_rate row.rate rate)

listed_by : (rate : Rate) (media : MediaRows) (r : Reel)
    → if_listed (other rate) (reel_row media r) ≡ false → IsListed rate media r
listed_by rate media Black e = tt
listed_by rate media (Named reel) e =
    λ row f. same_rates rate row (ap (if_listed (other rate)) (sym f) ∙ e)

-- no side of an event that its media list holds has another rate
no_other : (rate : Rate) (media : MediaRows) (e : Event) → event_fault rate media e ≡ None
    → (list_any (has_other_rate rate media) (outgoing_use e.cross) ≡ false)
    × (has_other_rate rate media (use_of e.to (e.rec_out -ℤ e.rec_in)) ≡ false)
no_other rate media e h =
    any_last (has_other_rate rate media) (outgoing_use e.cross)
    (use_of e.to (e.rec_out -ℤ e.rec_in))
    (tests_fail (list_any (is_unlisted media) (uses_of e))
    (list_any (has_other_rate rate media) (uses_of e))
    (list_any (is_outside rate media) (uses_of e)) _ _ _ h).1

-- the side that is shown and the one that goes out are listed
pub to_listed : (rate : Rate) (media : MediaRows) (e : Event) → event_fault rate media e ≡ None
    → IsListed rate media e.to.reel
to_listed rate media e h = listed_by rate media e.to.reel (no_other rate media e h).1

pub from_listed : (rate : Rate) (media : MediaRows) (e : Event) (p : Pair)
    → event_fault rate media e ≡ None → pair_of e.cross ≡ Some p
    → IsListed rate media p.from.reel
from_listed rate media e p h f = by e.cross (no_other rate media e h).0 f
  where
    one : (u : Use) (q : Pair) → u.side ≡ q.from → q ≡ p
        → list_any (has_other_rate rate media) (u ∷ []) ≡ false
        → IsListed rate media p.from.reel
    one u q g k l =
        subst (λ (s : Side). IsListed rate media s.reel) (g ∙ ap (λ (z : Pair). z.from) k)
        (listed_by rate media u.side.reel (any_first (has_other_rate rate media) u [] l).0)

    by : (c : Cross) → list_any (has_other_rate rate media) (outgoing_use c) ≡ false
        → pair_of c ≡ Some p → IsListed rate media p.from.reel
    by Cut l g = absurd (cc g)
    by (Dissolve n from) l g =
        one (use_of from (pos n)) (pair_as (codes "SMPTE_Dissolve") n from) refl (some_is _ p g) l
    by (Wipe i n from) l g =
        one (use_of from (pos n)) (pair_as (wipe_type i) n from) refl (some_is _ p g) l

-- each event that the media list holds has no fault
abbrev pub HasNoFault : Rate → MediaRows → Event → Type 0
HasNoFault rate media e = event_fault rate media e ≡ None

pub all_accepted : (rate : Rate) (media : MediaRows) (es : List Event)
    → first_fault rate media es ≡ None → All (HasNoFault rate media) es
all_accepted rate media [] h = λ k d l. absurd (omega (arith, l))
all_accepted rate media (e ∷ es) h =
    by (event_fault rate media e) refl (all_accepted rate media es) h
  where
    by : (o : Option ConformFault) → event_fault rate media e ≡ o
        → (first_fault rate media es ≡ None → All (HasNoFault rate media) es)
        → ◌≡◌ {A = Option ConformFault}
        (elim o [ None ↦ first_fault rate media es | Some fault ↦ Some fault ]) None
        → All (HasNoFault rate media) (e ∷ es)
    by None f k g = All-cons (HasNoFault rate media) e es f (k g)
    by (Some fault) f k g = absurd (cc g)
