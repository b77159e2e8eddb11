-- The walk along a channel's track and its events.
use Rattle.std.proofs.Common.{◌≡◌, ◌<◌, ◌≤◌, ◌+◌, ◌-◌, ◌*◌, ◌==◌, ◌||◌, inl, inr, not, min, nat_lt, ℕ, zero, suc, ℤ, pos, negsuc, ◌-ℤ◌, ◌*ℤ◌, ◌≤ℤ◌, Bool, true, false, List, [], ◌∷◌, ◌++◌, Option, Some, None, length, drop, slice_get, slice_index_or, unsigned_abs, refl, sym, ap, subst, ◌∙◌, append_assoc, append-nil, arith}
use Rattle.std.specs.Prelude.{AllPairs, MatchOption}
use Rattle.std.proofs.lemmas.Int.{ints}
use Rattle.std.proofs.lemmas.Bool.Decides.{nat_tests}
use Rattle.std.proofs.lemmas.Option.{get_or_from_slice_get, slice_get-get_or}
use Rattle.limits.specs.Limits.{most_ticks}
use Rattle.tick_time.specs.Rates.{frame}
use Rattle.otio_model.specs.declared.compositions.ItemOf.{ItemOf}
use Rattle.otio_model.specs.declared.compositions.Listed.{Listed}
use Rattle.otio_model.specs.Lengths.{length_of, or_zero}
use Rattle.coord.proofs.Members.{next, got_below, none_left, same_some}
use Rattle.edl_list.specs.declared.list.Channel.{Channel}
use Rattle.edl_list.specs.declared.list.Event.{Event}
use Rattle.edl_list.specs.declared.list.EventList.{EventList}
use Rattle.edl_list.specs.Formed.{AreInOrder, IsEvent, IsWellFormed}
use Rattle.edl_list.specs.Laws.{IsTimed}
use Rattle.edl_list.specs.Speeds.{count_of, day_of}
use Rattle.edl_list.proofs.DayLemmas.{IsPacedDay, day_paced, timed}
use Rattle.edl_frames.specs.Conformed.{first_record}
use Rattle.edl_frames.specs.Shown.{is_on}
use Rattle.edl_law.proofs.EventRanges.{first_is}
use Rattle.note_text.specs.Noted.{AreNotedChildren, IsItemAt, IsNotedItem, end, noted, other, said_of}
use Rattle.note_text.specs.declared.notes.Note.{Note}
use Rattle.note_text.specs.Belonging.{HaveSameOwn}
use Rattle.edl_notes.specs.Walks.{AreEarlier, BeginsAt, IsNext, IsNotedBy, is_earlier, ticks_before}

-- ---- tests

-- on the channel and earlier
early_on : (p : Bool) (t s : ℕ) → p ≡ true → (not p || nat_lt t s) ≡ true → t < s
early_on true t s e h = grind (arith, nat_tests, h)
early_on false t s e h = absurd (cc e)

-- not earlier
late_by : (p : Bool) (t s : ℕ) → (not p || nat_lt t s) ≡ false → (p ≡ true) × (s ≤ t)
late_by true t s h = (refl, grind (arith, nat_tests, h))
late_by false t s h = absurd (cc h)

later_on : (p : Bool) (t s u : ℕ) → s ≤ u → (not p || nat_lt t s) ≡ true → (not p || nat_lt t u) ≡ true
later_on true t s u le h = grind (arith, nat_tests, le, h)
later_on false t s u le h = refl

-- events that were earlier stay so
pub earlier_later : (list : EventList) (c : Channel) (s u at : ℕ) → s ≤ u → AreEarlier list c s at → AreEarlier list c u at
earlier_later list c s u at le h i e below there = later_on (is_on c e) (ticks_before list e) s u le (h i e below there)

-- one more event that is earlier
pub earlier_next : (list : EventList) (c : Channel) (s at : ℕ) (d : Event) → slice_get list.events at ≡ Some d → is_earlier list c s d ≡ true → AreEarlier list c s at → AreEarlier list c s (at + 1)
earlier_next list c s at d is t h i e below there = by (i == at) refl
  where
    by : (b : Bool) → (i == at) ≡ b → is_earlier list c s e ≡ true
    by true f =
        let same : i ≡ at = grind (arith, nat_tests, f) in
        let one : d ≡ e = same_some d e (sym is ∙ ap (slice_get list.events) (sym same) ∙ there) in
        subst (λ x. is_earlier list c s x ≡ true) one t
    by false f = h i e (grind (arith, nat_tests, f, below)) there

-- ---- ticks

ticks_rise : (n : ℕ) (y z : ℤ) → pos 0 ≤ℤ y → y ≤ℤ z → unsigned_abs (y *ℤ pos n) ≤ unsigned_abs (z *ℤ pos n)
ticks_rise n (pos a) (pos b) l h = let k : a ≤ b = omega (arith, ints, h) in times_le a b n k
  where
    times_le : (a b n : ℕ) → a ≤ b → unsigned_abs (pos a *ℤ pos n) ≤ unsigned_abs (pos b *ℤ pos n)
    times_le a b n k = let d : (b - a) + a ≡ b = omega (arith, k) in let e = ap (λ x. x * n) d in omega (arith, e)
ticks_rise n (negsuc a) z l h = absurd (omega (arith, ints, l))
ticks_rise n (pos a) (negsuc b) l h = absurd (omega (arith, ints, h))

-- ---- the event of an item

pub no_length : (list : EventList) (c : Channel) (start : ℕ) (x : ItemOf Listed) → or_zero (length_of x) ≡ 0 → (index : ℕ) (e : Event) → BeginsAt list c start x index e → ⊥
no_length list c start x z index e b = let l = b.lasts in omega (arith, z, l)

in_order : (list : EventList) (i j : ℕ) (d e : Event) → AllPairs AreInOrder list.events → i < j → slice_get list.events i ≡ Some d → slice_get list.events j ≡ Some e → d.rec_in ≤ℤ e.rec_in
in_order list i j d e order lt at_i at_j =
    let di = get_or_from_slice_get list.events i d d at_i in
    let ej = get_or_from_slice_get list.events j e d at_j in
    let o : AreInOrder d e = subst (λ x. AreInOrder d x) ej (subst (λ x. AreInOrder x (slice_index_or list.events j d)) di (order i j d lt (got_below list.events j e at_j))) in
    elim o [ inl h ↦ omega (arith, ints, h) | inr h ↦ (let g = h.0 in omega (arith, ints, g)) ]

-- what is known of each event's record in
abbrev pub AreTimed : EventList → Type 0
AreTimed list = (i : ℕ) (e : Event) → slice_get list.events i ≡ Some e → IsTimed list.rate (e.rec_in -ℤ first_record list.events)

ticks_order : (list : EventList) (i j : ℕ) (d e : Event) → AllPairs AreInOrder list.events → AreTimed list → i < j → slice_get list.events i ≡ Some d → slice_get list.events j ≡ Some e → ticks_before list d ≤ ticks_before list e
ticks_order list i j d e order timed lt at_i at_j =
    let up = in_order list i j d e order lt at_i at_j in
    let low = (timed i d at_i).low in
    ticks_rise (frame list.rate.num list.rate.den) (d.rec_in -ℤ first_record list.events) (e.rec_in -ℤ first_record list.events) low (omega (arith, ints, up))

-- the next event begins at another instant, so no event begins here
pub other_start : (list : EventList) (c : Channel) (start at : ℕ) (x : ItemOf Listed) (d : Event) → AllPairs AreInOrder list.events → AreTimed list → IsNext list c start at → slice_get list.events at ≡ Some d
    → (ticks_before list d ≡ start → ⊥) → (index : ℕ) (e : Event) → BeginsAt list c start x index e → ⊥
other_start list c start at x d order timed n is f index e b = by (nat_lt index at) (index == at) refl refl
  where
    by : (p q : Bool) → nat_lt index at ≡ p → (index == at) ≡ q → ⊥
    by true q g h =
        let lt : index < at = grind (arith, nat_tests, g) in
        let early = early_on (is_on c e) (ticks_before list e) start b.on (n.before index e lt b.event) in
        let same = b.starts in omega (arith, early, same)
    by false true g h =
        let k : index ≡ at = grind (arith, nat_tests, h) in
        let one : d ≡ e = same_some d e (sym is ∙ ap (slice_get list.events) (sym k) ∙ b.event) in
        f (ap (ticks_before list) one ∙ b.starts)
    by false false g h =
        let lt : at < index = grind (arith, nat_tests, g, h) in
        let late = late_by (is_on c d) (ticks_before list d) start (n.here d is) in
        let low = late.1 in
        let up = ticks_order list at index d e order timed lt is b.event in
        let same = b.starts in
        f (omega (arith, low, up, same))

-- there is no further event, so none begins here
pub no_start : (list : EventList) (c : Channel) (start at : ℕ) (x : ItemOf Listed) → IsNext list c start at → slice_get list.events at ≡ None
    → (index : ℕ) (e : Event) → BeginsAt list c start x index e → ⊥
no_start list c start at x n is index e b = by (nat_lt index at) refl
  where
    by : (p : Bool) → nat_lt index at ≡ p → ⊥
    by true g =
        let lt : index < at = grind (arith, nat_tests, g) in
        let early = early_on (is_on c e) (ticks_before list e) start b.on (n.before index e lt b.event) in
        let same = b.starts in omega (arith, early, same)
    by false g =
        let le : at ≤ index = grind (arith, nat_tests, g) in
        let below = got_below list.events index e b.event in
        absurd (cc (sym is ∙ slice_get-get_or list.events at e (omega (arith, le, below))))

-- the next event begins here
pub here_start : (list : EventList) (c : Channel) (start at : ℕ) (x : ItemOf Listed) (d : Event) → IsNext list c start at → slice_get list.events at ≡ Some d → 0 < or_zero (length_of x)
    → ticks_before list d ≡ start → BeginsAt list c start x at d
here_start list c start at x d n is lasts same =
    record { event = is; on = (late_by (is_on c d) (ticks_before list d) start (n.here d is)).0; lasts = lasts; starts = same }

-- ---- instants up to the greatest number of 128 bits

-- the greatest number of 128 bits
abbrev pub most_counted : ℕ
most_counted = 340282366920938463463374607431768211455

-- so many ticks, as far as they can be counted
abbrev pub IsCapped : ℕ → ℕ → Type 0
IsCapped exact n = n ≡ min exact most_counted

capped_by : (m exact n long next : ℕ) → n ≡ min exact m → next ≡ min (n + long) m → next ≡ min (exact + long) m
capped_by m exact n long next h k = omega (arith, h, k)

capped_next : (exact n long next : ℕ) → IsCapped exact n → next ≡ min (n + long) most_counted → IsCapped (exact + long) next
capped_next exact n long next h k = capped_by most_counted exact n long next h k

capped_at : (m most exact n t : ℕ) → most < m → n ≡ min exact m → t ≤ most → t ≡ n → t ≡ exact
capped_at m most exact n t b h l e = omega (arith, b, h, l, e)

at_capped : (m most exact n t : ℕ) → most < m → n ≡ min exact m → t ≤ most → t ≡ exact → t ≡ n
at_capped m most exact n t b h l e = omega (arith, b, h, l, e)

rises_by : (m n long next : ℕ) (exact : ℕ) → n ≡ min exact m → next ≡ min (n + long) m → n ≤ next
rises_by m n long next exact h k = omega (arith, h, k)

most_below : most_ticks < most_counted
most_below = omega arith

capped_is : (exact n t : ℕ) → IsCapped exact n → t ≤ most_ticks → t ≡ n → t ≡ exact
capped_is exact n t h l e = capped_at most_counted most_ticks exact n t most_below h l e

is_capped : (exact n t : ℕ) → IsCapped exact n → t ≤ most_ticks → t ≡ exact → t ≡ n
is_capped exact n t h l e = at_capped most_counted most_ticks exact n t most_below h l e

ticks_small : (n m : ℕ) (z : ℤ) → pos 0 ≤ℤ z → (z *ℤ pos n) ≤ℤ pos m → (unsigned_abs (z *ℤ pos n) ≤ m) × (pos (unsigned_abs (z *ℤ pos n)) ≡ z *ℤ pos n)
ticks_small n m (pos a) l h = (omega (arith, ints, h), refl)
ticks_small n m (negsuc a) l h = absurd (omega (arith, ints, l))

same_pos : (a b : ℕ) → pos a ≡ pos b → a ≡ b
same_pos a b e = ap unsigned_abs e

item_at : (list : EventList) (c : Channel) (exact start : ℕ) (x : ItemOf Listed) (index : ℕ) (e : Event) → AreTimed list → IsCapped exact start → BeginsAt list c start x index e → IsItemAt list c (pos exact) x index e
item_at list c exact start x index e timed capped b =
    let t = timed index e b.event in
    let small = ticks_small (frame list.rate.num list.rate.den) most_ticks (e.rec_in -ℤ first_record list.events) t.low t.range.high in
    record {
      event = b.event;
      on = b.on;
      lasts = b.lasts;
      starts = ap (λ n. pos n) (sym (capped_is exact start (ticks_before list e) capped small.0 b.starts)) ∙ small.1;
    }

begins_at : (list : EventList) (c : Channel) (exact start : ℕ) (x : ItemOf Listed) (index : ℕ) (e : Event) → AreTimed list → IsCapped exact start → IsItemAt list c (pos exact) x index e → BeginsAt list c start x index e
begins_at list c exact start x index e timed capped b =
    let t = timed index e b.event in
    let small = ticks_small (frame list.rate.num list.rate.den) most_ticks (e.rec_in -ℤ first_record list.events) t.low t.range.high in
    record {
      event = b.event;
      on = b.on;
      lasts = b.lasts;
      starts = is_capped exact start (ticks_before list e) capped small.0 (same_pos (ticks_before list e) exact (small.1 ∙ sym b.starts));
    }

-- ---- the children one after another

-- what was found of a child: the place of the event whose item it is, or that it is that of none
abbrev pub IsFound : EventList → Channel → ℕ → ItemOf Listed → Option ℕ → Type 0
IsFound list c start x None = (index : ℕ) (e : Event) → BeginsAt list c start x index e → ⊥
IsFound list c start x (Some index) = (e : Event) × BeginsAt list c start x index e

pub as_found : (list : EventList) (c : Channel) (start : ℕ) (x : ItemOf Listed) (event : Option ℕ) → MatchOption event ((index : ℕ) (e : Event) → BeginsAt list c start x index e → ⊥) (λ index. (e : Event) × BeginsAt list c start x index e) → IsFound list c start x event
as_found list c start x None h = h
as_found list c start x (Some index) h = h

pub record HasWalked (list : EventList) (c : Channel) (order : List Note) (items : List (ItemOf Listed)) (i start at : ℕ) (copies : List (ItemOf Listed)) : Type 0 where
  pub exact : ℕ
  pub capped : IsCapped exact start
  pub earlier : AreEarlier list c start at
  pub way : (notes : List Note) → HaveSameOwn notes order → (rest : List (ItemOf Listed)) → AreNotedChildren list notes c (pos exact) (drop i items) rest → AreNotedChildren list notes c (pos 0) items (copies ++ rest)

pub walk_begins : (list : EventList) (c : Channel) (order : List Note) (items : List (ItemOf Listed)) → HasWalked list c order items 0 0 0 []
walk_begins list c order items = record {
  exact = 0;
  capped = omega arith;
  earlier = λ i e below there. absurd (omega (arith, below));
  way = λ notes same rest h. h;
}

one_child : (list : EventList) (c : Channel) (notes : List Note) (exact start : ℕ) (x y : ItemOf Listed) (xs ys : List (ItemOf Listed)) (event : Option ℕ) → AreTimed list → IsCapped exact start
    → IsFound list c start x event → IsNotedBy list notes event x y → AreNotedChildren list notes c (pos (exact + or_zero (length_of x))) xs ys → AreNotedChildren list notes c (pos exact) (x ∷ xs) (y ∷ ys)
one_child list c notes exact start x y xs ys None timed capped none is more =
    subst (λ z. AreNotedChildren list notes c (pos exact) (x ∷ xs) (z ∷ ys)) (sym is)
    (other (pos exact) x xs ys (λ index e k. none index e (begins_at list c exact start x index e timed capped k)) more)
one_child list c notes exact start x y xs ys (Some index) timed capped found is more =
    let same : is.0 ≡ found.0 = same_some is.0 found.0 (sym is.1 ∙ found.1.event) in
    noted (pos exact) x y xs ys index found.0 (item_at list c exact start x index found.0 timed capped found.1)
    (subst (λ e. IsNotedItem list.rate e (said_of index notes) x y) same is.2) more

pub walk_more : (list : EventList) (c : Channel) (order : List Note) (items : List (ItemOf Listed)) (i start at later here : ℕ) (x y : ItemOf Listed) (event : Option ℕ) (copies new : List (ItemOf Listed)) → AreTimed list
    → slice_get items i ≡ Some x → IsNext list c start here → IsFound list c start x event → ((notes : List Note) → HaveSameOwn notes order → IsNotedBy list notes event x y)
    → later ≡ min (start + or_zero (length_of x)) most_counted → new ≡ copies ++ y ∷ []
    → HasWalked list c order items i start at copies → HasWalked list c order items (i + 1) later here new
walk_more list c order items i start at later here x y event copies new timed is next_is found noted_by rises push w = record {
  exact = w.exact + or_zero (length_of x);
  capped = capped_next w.exact start (or_zero (length_of x)) later w.capped rises;
  earlier = earlier_later list c start later here (rises_by most_counted start (or_zero (length_of x)) later w.exact w.capped rises) next_is.before;
  way = λ notes same rest h.
      let step : AreNotedChildren list notes c (pos w.exact) (drop i items) (y ∷ rest) =
      subst (λ l. AreNotedChildren list notes c (pos w.exact) l (y ∷ rest)) (sym (next items i x is))
      (one_child list c notes w.exact start x y (drop (i + 1) items) rest event timed w.capped found (noted_by notes same) h) in
      subst (AreNotedChildren list notes c (pos 0) items) (sym (ap (λ l. l ++ rest) push ∙ append_assoc copies (y ∷ []) rest)) (w.way notes same (y ∷ rest) step);
}

pub walk_ends : (list : EventList) (c : Channel) (order : List Note) (items : List (ItemOf Listed)) (i start at : ℕ) (copies : List (ItemOf Listed)) → length items ≤ i → HasWalked list c order items i start at copies
    → (notes : List Note) → HaveSameOwn notes order → AreNotedChildren list notes c (pos 0) items copies
walk_ends list c order items i start at copies le w notes same =
    subst (AreNotedChildren list notes c (pos 0) items) (append-nil copies)
    (w.way notes same [] (subst (λ l. AreNotedChildren list notes c (pos w.exact) l []) (sym (none_left items i le)) (end (pos w.exact))))

-- ---- a well formed list

event_is : (list : EventList) (i : ℕ) (e : Event) → IsWellFormed list → slice_get list.events i ≡ Some e → IsEvent (day_of list.rate) e
event_is list i e w there = subst (IsEvent (day_of list.rate)) (get_or_from_slice_get list.events i e e there) (w.events i e (got_below list.events i e there))

list_paced : (list : EventList) (i : ℕ) (e : Event) → IsWellFormed list → slice_get list.events i ≡ Some e → IsPacedDay list.rate
list_paced list i e w there = elim w.timecode [
  | inl h ↦ (let l = got_below list.events i e there in let n = ap (λ (es : List Event). length es) h in absurd (omega (arith, l, n)))
  | inr h ↦ day_paced list.rate h
]

pub counts_frames : (list : EventList) (i : ℕ) (e : Event) → IsWellFormed list → slice_get list.events i ≡ Some e → 1 ≤ count_of list.rate
counts_frames list i e w there = (list_paced list i e w there).some

first_before : (list : EventList) (i : ℕ) (e : Event) → IsWellFormed list → slice_get list.events i ≡ Some e → (pos 0 ≤ℤ first_record list.events) × (first_record list.events ≤ℤ e.rec_in)
first_before list i e w there = by list.events refl
  where
    by : (es : List Event) → list.events ≡ es → (pos 0 ≤ℤ first_record list.events) × (first_record list.events ≤ℤ e.rec_in)
    by [] f = let l = got_below list.events i e there in let n = ap (λ (es : List Event). length es) f in absurd (omega (arith, l, n))
    by (d ∷ es) f =
        let head : slice_get list.events 0 ≡ Some d = ap (λ l. slice_get l 0) f in
        let first : first_record list.events ≡ d.rec_in = ap first_record f ∙ first_is d es (subst (AllPairs AreInOrder) f w.order) in
        let low = (event_is list 0 d w head).rec_in.low in
        let up : d.rec_in ≤ℤ e.rec_in = after i there d head in
        (omega (arith, ints, first, low), omega (arith, ints, first, up))
      where
        after : (k : ℕ) → slice_get list.events k ≡ Some e → (d : Event) → slice_get list.events 0 ≡ Some d → d.rec_in ≤ℤ e.rec_in
        after zero g d h = let same : d ≡ e = same_some d e (sym h ∙ g) in let k = ap (λ (x : Event). x.rec_in) same in omega (arith, ints, k)
        after (suc k) g d h = in_order list 0 (suc k) d e w.order (omega arith) h g

pub all_timed : (list : EventList) → IsWellFormed list → AreTimed list
all_timed list w i e there =
    let p = list_paced list i e w there in
    let b = first_before list i e w there in
    let low = b.0 in
    let up = b.1 in
    let high = (event_is list i e w there).rec_in.high in
    timed list.rate (e.rec_in -ℤ first_record list.events) p (omega (arith, ints, up)) (omega (arith, ints, low, high))

pub event_of_list : (list : EventList) (i : ℕ) (e : Event) → IsWellFormed list → slice_get list.events i ≡ Some e → IsEvent (day_of list.rate) e
event_of_list = event_is

pub first_of : (es : List Event) (e : Event) → 1 ≤ length es → AllPairs AreInOrder es → e ≡ slice_index_or es 0 e → first_record es ≡ e.rec_in
first_of [] e l order is = absurd (omega (arith, l))
first_of (d ∷ es) e l order is = first_is d es order ∙ ap (λ (x : Event). x.rec_in) (sym is)

pub is_less : (a b : ℕ) → nat_lt a b ≡ true → a < b
is_less a b e = grind (arith, nat_tests, e)

pub past_end : (list : EventList) (c : Channel) (start at : ℕ) → length list.events ≤ at → AreEarlier list c start at → IsNext list c start at
past_end list c start at le h = record { before = h; here = λ e there. let l = got_below list.events at e there in absurd (omega (arith, l, le)) }
