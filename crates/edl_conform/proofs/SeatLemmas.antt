-- Of what stands behind a child, reasons and events see the first alone.
use Rattle.std.proofs.Common.{◌≡◌, refl, sym, ap, ◌∙◌, ℕ, zero, suc, ◌+◌, ℤ, List, [], ◌∷◌, drop, take, slice_get}
use Rattle.std.specs.Option.{option_copied, option_to_list}
use Rattle.otio_model.specs.declared.compositions.ItemOf.{ItemOf}
use Rattle.otio_model.specs.declared.compositions.Listed.{Listed}
use Rattle.otio_model.specs.Trees.{items_of}
use Rattle.edl_list.specs.declared.list.Channel.{Channel}
use Rattle.edl_frames.specs.Jobs as D
use Rattle.edl_frames.specs.Seats as T
use Rattle.edl_frames.specs.ChildEvents as E
use Rattle.edl_frames.specs.ChildReasons as C
use Rattle.edl_conform.specs.declared.child_context.Past.{Past}
use Rattle.edl_conform.specs.declared.child_context.ChildContext.{ChildContext}
use Rattle.edl_conform.specs.Stated.{stated_past, stated_seat}
use Rattle.edl_conform.specs.Seated.{IsSeatAt, seat_with}

reason_first : (j : D.Job) (c : Channel) (x : ItemOf Listed) (at : ℤ) (past : T.Past)
    (l : List (ItemOf Listed))
    → C.reason_of j c (seat_with x at past l) ≡ C.reason_of j c (seat_with x at past (take 1 l))
reason_first j c x at past [] = refl
reason_first j c x at past (y ∷ l) = refl

event_first : (j : D.Job) (c : Channel) (x : ItemOf Listed) (at : ℤ) (past : T.Past)
    (l : List (ItemOf Listed))
    → E.event_of j c (seat_with x at past l) ≡ E.event_of j c (seat_with x at past (take 1 l))
event_first j c x at past [] = refl
event_first j c x at past (y ∷ l) = refl

-- the first behind an index is the one there
first_at : {A : Type 0} (xs : List A) (i : ℕ) → take 1 (drop i xs) ≡ option_to_list (slice_get xs i)
first_at [] zero = refl
first_at [] (suc i) = refl
first_at (x ∷ xs) zero = refl
first_at (x ∷ xs) (suc i) = first_at xs i

behind_is : (l : Listed) (i : ℕ) (past : Past) (seat : ChildContext) → IsSeatAt l i past seat
    → take 1 (drop (i + 1) (items_of l)) ≡ option_to_list (option_copied seat.next)
behind_is l i past seat s = first_at (items_of l) (i + 1) ∙ ap option_to_list (sym s.next)

-- so the reason of a child at an index is that of the seat
pub reason_at : (l : Listed) (i : ℕ) (past : Past) (seat : ChildContext) → IsSeatAt l i past seat
    → (j : D.Job) (c : Channel)
    → C.reason_of j c
    (seat_with seat.item.now seat.start (stated_past past) (drop (i + 1) (items_of l)))
    ≡ C.reason_of j c (stated_seat seat)
reason_at l i past seat s j c =
    reason_first j c seat.item.now seat.start (stated_past past) (drop (i + 1) (items_of l))
    ∙ ap (λ xs. C.reason_of j c (seat_with seat.item.now seat.start (stated_past past) xs))
    (behind_is l i past seat s)
    ∙ ap (λ p. C.reason_of j c
    (seat_with seat.item.now seat.start (stated_past p) (option_to_list (option_copied seat.next))))
    (sym s.before)

-- and its event too
pub event_at : (l : Listed) (i : ℕ) (past : Past) (seat : ChildContext) → IsSeatAt l i past seat
    → (j : D.Job) (c : Channel)
    → E.event_of j c
    (seat_with seat.item.now seat.start (stated_past past) (drop (i + 1) (items_of l)))
    ≡ E.event_of j c (stated_seat seat)
event_at l i past seat s j c =
    event_first j c seat.item.now seat.start (stated_past past) (drop (i + 1) (items_of l))
    ∙ ap (λ xs. E.event_of j c (seat_with seat.item.now seat.start (stated_past past) xs))
    (behind_is l i past seat s)
    ∙ ap (λ p. E.event_of j c
    (seat_with seat.item.now seat.start (stated_past p) (option_to_list (option_copied seat.next))))
    (sym s.before)
