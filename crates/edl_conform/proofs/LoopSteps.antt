-- Loops over the events of a list.
use Rattle.std.proofs.Common.{◌≡◌, refl, sym, ap, ap₂, subst, ◌∙◌, ℕ, ◌+◌, ◌<◌, ◌≤◌, ℤ, pos, ◌-ℤ◌, Bool, true, false, ◌||◌, not, cond, List, [], ◌∷◌, ◌++◌, length, drop, get_or, Option, Some, None, to_z, of_z, FitsSigned, arith}
use Rattle.std.specs.Int.{w64}
use Rattle.std.specs.List.{list_any}
use Rattle.std.proofs.lemmas.Int.{ints}
use Rattle.std.proofs.lemmas.Option.{slice_get-get_or}
use Rattle.std.proofs.lemmas.List.{drop_all}
use Rattle.tick_time.specs.declared.rates.Rate.{Rate}
use Rattle.otio_model.specs.declared.compositions.ItemOf.{ItemOf}
use Rattle.otio_model.specs.declared.compositions.Listed.{Listed}
use Rattle.edl_list.specs.declared.list.Channel.{Channel}
use Rattle.edl_list.specs.declared.list.Event.{Event}
use Rattle.edl_list.specs.declared.list.Side.{Side}
use Rattle.edl_list.specs.declared.list.EventList.{EventList}
use Rattle.edl_list.specs.Laws.{IsTimed}
use Rattle.coord.proofs.Members.{next}
use Rattle.edl_frames.specs.declared.faults.ConformFault.{ConformFault}
use Rattle.edl_frames.specs.declared.faults.ConformFault.TheVariants as F
use Rattle.edl_frames.specs.Faults.{IsConformFault}
use Rattle.media_rows.specs.declared.row.MediaRow.{MediaRow}
use Rattle.edl_frames.specs.Shown.{is_on, on_channel, source_frame}
use Rattle.media_rows.specs.Rows.{MediaRows}
use Rattle.edl_frames.specs.Conformed.{AreItems}
use Rattle.edl_frames.specs.Refused.{Use, use_of, outgoing_use, event_fault, first_fault}
use Rattle.edl_frames.specs.Refused.{has_other_rate, if_listed, is_outside, is_row_outside, is_same_rate, is_unlisted, reel_row, uses_of}
use Rattle.edl_conform.specs.Steps.{AddsEvent, IsUnderWay}
use Rattle.edl_conform.specs.Uses.{first_reason, uses_fault}
use Rattle.edl_conform.proofs.ItemSteps.{goes_on, at_end, filter_in}

pub next_at : {A : Type 0} (xs : List A) (i : ℕ) (x : A) → i < length xs → x ≡ get_or xs i x
    → drop i xs ≡ x ∷ drop (i + 1) xs
next_at xs i x h e = next xs i x (slice_get-get_or xs i x h ∙ ap (λ z. Some z) (sym e))

-- a frame number that makes a time is kept in 64 bits
pub kept : (rate : Rate) (z : ℤ) → IsTimed rate z → to_z w64 (of_z w64 z) ≡ z
kept rate z t = omega (arith, ints, t.low, t.high)

pub kept_as : (rate : Rate) (x z : ℤ) → x ≡ z → IsTimed rate z → to_z w64 (of_z w64 x) ≡ z
kept_as rate x z e t = omega (arith, ints, e, t.low, t.high)

pub kept_length : (rate : Rate) (from to : ℤ) → FitsSigned w64 from → FitsSigned w64 to
    → IsTimed rate (to -ℤ from)
    → to_z w64 (of_z w64 (to_z w64 (of_z w64 to) -ℤ to_z w64 (of_z w64 from))) ≡ to -ℤ from
kept_length rate from to a b t = omega (arith, ints, a, b, t.low, t.high)

-- ---- the items of a channel

pub step_on : (rate : Rate) (media : MediaRows) (first at out : ℤ) (c : Channel)
    (all l rest : List Event) (before : Option Event) (e : Event) (old new : List (ItemOf Listed))
    → l ≡ e ∷ rest → is_on c e ≡ true → (IsTimed rate e.rec_out → out ≡ e.rec_out)
    → IsUnderWay rate media first all (on_channel c l) before at old
    → AddsEvent rate media before at e old new
    → IsUnderWay rate media first all (on_channel c rest) (Some e) out new
step_on rate media first at out c all l rest before e old new f h o w a =
    let here = subst (λ z. IsUnderWay rate media first all z before at old)
    (ap (on_channel c) f ∙ filter_in c e rest true h) w in
    subst (λ z. IsUnderWay rate media first all (on_channel c rest) (Some e) z new)
    (sym (o here.ahead.0.event.behind))
    (goes_on rate media first at all (on_channel c rest) before e old new here a)

pub step_off : (rate : Rate) (media : MediaRows) (first at : ℤ) (c : Channel)
    (all l rest : List Event) (before : Option Event) (e : Event) (items : List (ItemOf Listed))
    → l ≡ e ∷ rest → is_on c e ≡ false
    → IsUnderWay rate media first all (on_channel c l) before at items
    → IsUnderWay rate media first all (on_channel c rest) before at items
step_off rate media first at c all l rest before e items f h w =
    subst (λ z. IsUnderWay rate media first all z before at items)
    (ap (on_channel c) f ∙ filter_in c e rest false h) w

pub step_end : (rate : Rate) (media : MediaRows) (first at : ℤ) (c : Channel)
    (all events : List Event) (i : ℕ) (before : Option Event) (items : List (ItemOf Listed))
    → length events ≤ i → IsUnderWay rate media first all (on_channel c (drop i events)) before at items
    → AreItems rate media None first all items
step_end rate media first at c all events i before items h w =
    at_end rate media first at all before items
    (subst (λ z. IsUnderWay rate media first all z before at items)
    (ap (on_channel c) (drop_all i events h)) w)

-- ---- refusals

-- the first of equal reasons
pub same_reason : (line : ℕ) (p q r a b c : Bool) → p ≡ a → q ≡ b → r ≡ c
    → first_reason line a b c ≡ first_reason line p q r
same_reason line p q r a b c d e f = λ k. first_reason line (sym d k) (sym e k) (sym f k)

-- what a test of the sides says, by that of each side
pub of_one : (p q t : Bool) → q ≡ p → t ≡ (q || false) → (p || false) ≡ t
of_one p q t e f = ap (λ b. b || false) (sym e) ∙ sym f

pub of_two : (p q a b t : Bool) → a ≡ p → b ≡ q → t ≡ (a || (b || false))
    → (p || (q || false)) ≡ t
of_two p q a b t e f g = ap₂ (λ x y. x || (y || false)) (sym e) (sym f) ∙ sym g

-- tests of the row of a side
pub other_rate : (rate : Rate) (media : MediaRows) (side : Side) (n : ℤ) (row : Option MediaRow)
    (b : Bool) → b ≡ if_listed (λ r. not (is_same_rate r.rate rate)) row
    → row ≡ reel_row media side.reel → b ≡ has_other_rate rate media (use_of side n)
other_rate rate media side n row b e f =
    e ∙ ap (if_listed (λ r. not (is_same_rate r.rate rate))) f

pub outside : (rate : Rate) (media : MediaRows) (side : Side) (m n : ℤ) (row : Option MediaRow)
    (b : Bool)
    → b ≡ if_listed (is_row_outside (source_frame rate side (pos 0))
    (source_frame rate side (m -ℤ pos 1))) row
    → row ≡ reel_row media side.reel → m ≡ n → b ≡ is_outside rate media (use_of side n)
outside rate media side m n row b e f g =
    e ∙ ap (if_listed (is_row_outside (source_frame rate side (pos 0))
    (source_frame rate side (m -ℤ pos 1)))) f
    ∙ ap (λ z. is_outside rate media (use_of side z)) g

-- the fault of an event that begins in this way
pub fault_of_uses : (rate : Rate) (media : MediaRows) (e : Event) (o : List Use)
    → outgoing_use e.cross ≡ o
    → uses_fault rate media e.line (o ++ use_of e.to (e.rec_out -ℤ e.rec_in) ∷ [])
    ≡ event_fault rate media e
fault_of_uses rate media e o h =
    ap (λ l. uses_fault rate media e.line (l ++ use_of e.to (e.rec_out -ℤ e.rec_in) ∷ [])) (sym h)

-- that of one that begins with so many frames of a side
pub fault_of_pair : (rate : Rate) (media : MediaRows) (e : Event) (from side : Side) (m n : ℤ)
    (frames : ℕ)
    → outgoing_use e.cross ≡ use_of from (pos frames) ∷ [] → side ≡ from → m ≡ pos frames
    → n ≡ e.rec_out -ℤ e.rec_in
    → uses_fault rate media e.line (use_of side m ∷ use_of e.to n ∷ [])
    ≡ event_fault rate media e
fault_of_pair rate media e from side m n frames h s p q =
    (λ k. uses_fault rate media e.line (use_of (s k) (p k) ∷ use_of e.to (q k) ∷ []))
    ∙ fault_of_uses rate media e (use_of from (pos frames) ∷ []) h

pub passes : (rate : Rate) (media : MediaRows) (all l rest : List Event) (e : Event)
    → l ≡ e ∷ rest → event_fault rate media e ≡ None
    → first_fault rate media l ≡ first_fault rate media all
    → first_fault rate media rest ≡ first_fault rate media all
passes rate media all l rest e f h w =
    sym (ap (first_fault rate media) f ∙ ap
    (λ q. elim q [ None ↦ first_fault rate media rest | Some fault ↦ Some fault ]) h) ∙ w

pub found : (rate : Rate) (media : MediaRows) (all l rest : List Event) (e : Event)
    (fault : ConformFault)
    → l ≡ e ∷ rest → event_fault rate media e ≡ Some fault
    → first_fault rate media l ≡ first_fault rate media all
    → Some fault ≡ first_fault rate media all
found rate media all l rest e fault f h w =
    sym (ap (first_fault rate media) f ∙ ap
    (λ q. elim q [ None ↦ first_fault rate media rest | Some fault ↦ Some fault ]) h) ∙ w

-- no event has too many items as its fault
event_never : (rate : Rate) (media : MediaRows) (e : Event)
    → event_fault rate media e ≡ Some F.Items → ⊥
event_never rate media e h = by (list_any (is_unlisted media) (uses_of e))
    (list_any (has_other_rate rate media) (uses_of e))
    (list_any (is_outside rate media) (uses_of e)) h
  where
    by : (a b c : Bool)
        → cond a (Some (F.NoReel e.line))
        (cond b (Some (F.Rate e.line)) (cond c (Some (F.Outside e.line)) None)) ≡ Some F.Items
        → ⊥
    by true b c k = absurd (cc k)
    by false true c k = absurd (cc k)
    by false false true k = absurd (cc k)
    by false false false k = absurd (cc k)

later_never : (rate : Rate) (media : MediaRows) (e : Event) (es : List Event)
    → (first_fault rate media es ≡ Some F.Items → ⊥)
    → first_fault rate media (e ∷ es) ≡ Some F.Items → ⊥
later_never rate media e es r h = by (event_fault rate media e) refl h
  where
    by : (o : Option ConformFault) → event_fault rate media e ≡ o
        → elim o [ None ↦ first_fault rate media es | Some fault ↦ Some fault ] ≡ Some F.Items → ⊥
    by None g k = r k
    by (Some fault) g k = event_never rate media e (g ∙ k)

never_items : (rate : Rate) (media : MediaRows) (es : List Event)
    → first_fault rate media es ≡ Some F.Items → ⊥
never_items rate media [] h = absurd (cc h)
never_items rate media (e ∷ es) h = later_never rate media e es (never_items rate media es) h

-- the fault of the first event that has one is the list's
pub list_fault : (list : EventList) (media : MediaRows) (fault : ConformFault)
    → first_fault list.rate media list.events ≡ Some fault → IsConformFault list media fault
list_fault list media (F.NoReel line) h = h
list_fault list media (F.Rate line) h = h
list_fault list media (F.Outside line) h = h
list_fault list media F.Items h = absurd (never_items list.rate media list.events h)
list_fault list media F.Memory h = tt
