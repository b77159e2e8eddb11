-- The children of a track, one after another.
use Rattle.std.proofs.Common.{◌≡◌, refl, sym, ap, ◌∙◌, ℕ, zero, suc, ◌+◌, ◌≤◌, ℤ, pos, ◌+ℤ◌, List, [], ◌∷◌, ◌++◌, length, drop, Option, Some, None, append_assoc, add-one, filter_map}
use Rattle.std.specs.Prelude.{slice_get}
use Rattle.std.specs.Option.{option_to_list}
use Rattle.std.specs.List.{cons_option}
use Rattle.std.proofs.lemmas.List.{append-nil}
use Rattle.otio_model.specs.declared.compositions.ItemOf.{ItemOf}
use Rattle.otio_model.specs.declared.compositions.Listed.{Listed}
use Rattle.edl_list.specs.declared.list.Channel.{Channel}
use Rattle.edl_list.specs.declared.list.Event.{Event}
use Rattle.coord.specs.Sights.{overlap_of}
use Rattle.coord.proofs.Members.{next, none_left}
use Rattle.edl_frames.specs.declared.reasons.Why.{Why}
use Rattle.edl_frames.specs.Jobs.{Job}
use Rattle.edl_frames.specs.Seats.{Past, Seat, length_in, past_by, seats, head}
use Rattle.edl_frames.specs.ChildEvents.{event_of}
use Rattle.edl_frames.specs.ChildReasons.{reason_of}
use Rattle.edl_frames.specs.Carried.{examine_seats, first_said}
use Rattle.edl_conform.specs.Walk.{IsWalking, IsWalked, said_below}
use Rattle.edl_conform.proofs.FirstSaid.{skipped, said_here}

-- a child as it stands at an index, of which only the first behind it is seen
pub record IsHere (items : List (ItemOf Listed)) (i : ℕ) (at : ℤ) (past : Past) (s : Seat)
    : Type 0 where
  pub item : slice_get items i ≡ Some s.item
  pub start : s.start ≡ at
  pub past_is : s.past ≡ past
  pub next_is : s.next ≡ option_to_list (slice_get items (i + 1))

-- the same child with all that stands behind it
abbrev pub whole : List (ItemOf Listed) → ℤ → Past → Seat → ℕ → Seat
whole items at past s i =
    record { item = s.item; start = at; past = past; next = drop (i + 1) items }

first_behind : (items : List (ItemOf Listed)) (i : ℕ) (l : List (ItemOf Listed))
    → drop i items ≡ l → option_to_list (slice_get items i) ≡ option_to_list (slice_get l 0)
first_behind [] zero l e = ap (λ l. option_to_list (slice_get l 0)) e
first_behind [] (suc i) l e = ap (λ l. option_to_list (slice_get l 0)) e
first_behind (x ∷ xs) zero l e = ap (λ l. option_to_list (slice_get l 0)) e
first_behind (x ∷ xs) (suc i) l e = first_behind xs i l e

-- what reasons and events see of what stands behind a child
reason_first : (j : Job) (c : Channel) (x : ItemOf Listed) (at : ℤ) (past : Past)
    (l : List (ItemOf Listed))
    → reason_of j c (record {
      item = x;
      start = at;
      past = past;
      next = option_to_list (slice_get l 0);
    }) ≡ reason_of j c (record { item = x; start = at; past = past; next = l })
reason_first j c x at past [] = refl
reason_first j c x at past (y ∷ l) = refl

event_first : (j : Job) (c : Channel) (x : ItemOf Listed) (at : ℤ) (past : Past)
    (l : List (ItemOf Listed))
    → event_of j c (record {
      item = x;
      start = at;
      past = past;
      next = option_to_list (slice_get l 0);
    }) ≡ event_of j c (record { item = x; start = at; past = past; next = l })
event_first j c x at past [] = refl
event_first j c x at past (y ∷ l) = refl

seen : (items : List (ItemOf Listed)) (i : ℕ) (at : ℤ) (past : Past) (s : Seat)
    → IsHere items i at past s
    → s ≡ record {
      item = s.item;
      start = at;
      past = past;
      next = option_to_list (slice_get (drop (i + 1) items) 0);
    }
seen items i at past s h =
    λ k. record {
      item = s.item;
      start = h.start k;
      past = h.past_is k;
      next = (h.next_is ∙ first_behind items (i + 1) (drop (i + 1) items) refl) k;
    }

whole_reason : (j : Job) (c : Channel) (items : List (ItemOf Listed)) (i : ℕ) (at : ℤ)
    (past : Past) (s : Seat) → IsHere items i at past s
    → reason_of j c s ≡ reason_of j c (whole items at past s i)
whole_reason j c items i at past s h =
    ap (reason_of j c) (seen items i at past s h)
    ∙ reason_first j c s.item at past (drop (i + 1) items)

pub whole_event : (j : Job) (c : Channel) (items : List (ItemOf Listed)) (i : ℕ) (at : ℤ)
    (past : Past) (s : Seat) → IsHere items i at past s
    → event_of j c s ≡ event_of j c (whole items at past s i)
whole_event j c items i at past s h =
    ap (event_of j c) (seen items i at past s h)
    ∙ event_first j c s.item at past (drop (i + 1) items)

-- the child and those behind it
pub seats_from : (items : List (ItemOf Listed)) (i : ℕ) (at : ℤ) (past : Past) (s : Seat)
    → IsHere items i at past s
    → seats at past (drop i items) ≡ whole items at past s i
    ∷ seats (at +ℤ length_in s.item) (past_by (overlap_of s.item) s.item at past)
    (drop (i + 1) items)
seats_from items i at past s h = ap (seats at past) (next items i s.item h.item)

-- ---- steps

pub begins : (j : Job) (c : Channel) (items : List (ItemOf Listed)) (past : Past)
    (old : List Event) → past ≡ head → IsWalking j c items 0 (pos 0) past old old
begins j c items past old e = record {
  said = λ k. ap (λ p. first_said (examine_seats j c k 0 (seats (pos 0) p items))) (sym e);
  events = ap (λ p. old ++ filter_map (event_of j c) (seats (pos 0) p items)) e;
}

-- one more child of which nothing is said
pub goes_on : (j : Job) (c : Channel) (items : List (ItemOf Listed)) (i : ℕ) (at v : ℤ)
    (past after : Past) (s : Seat) (old now new : List Event)
    → IsHere items i at past s → reason_of j c s ≡ None
    → new ≡ now ++ option_to_list (event_of j c s)
    → v ≡ at +ℤ length_in s.item → after ≡ past_by (overlap_of s.item) s.item s.start s.past
    → IsWalking j c items i at past old now → IsWalking j c items (i + 1) v after old new
goes_on j c items i at v past after s old now new h none put ends passed way = record {
  said = λ k.
      way.said k
      ∙ ap (λ l. first_said (examine_seats j c k i l)) (seats_from items i at past s h)
      ∙ skipped (k ∷ i ∷ [], reason_of j c (whole items at past s i))
      (examine_seats j c k (suc i) rest)
      (sym (whole_reason j c items i at past s h) ∙ none)
      ∙ ap (λ n. first_said (examine_seats j c k n rest)) (sym (add-one i))
      ∙ ap (λ l. first_said (examine_seats j c k (i + 1) l)) behind;
  events =
      ap (λ l. l ++ filter_map (event_of j c) (seats v after (drop (i + 1) items))) put
      ∙ ap (λ l. (now ++ option_to_list (event_of j c s)) ++ filter_map (event_of j c) l)
      (sym behind)
      ∙ append_assoc now (option_to_list (event_of j c s)) (filter_map (event_of j c) rest)
      ∙ ap (λ l. now ++ l)
      (listed (event_of j c s) (filter_map (event_of j c) rest)
      ∙ ap (λ o. cons_option o (filter_map (event_of j c) rest))
      (whole_event j c items i at past s h))
      ∙ ap (λ l. now ++ filter_map (event_of j c) l) (sym (seats_from items i at past s h))
      ∙ way.events;
}
  where
    rest : List Seat
    rest = seats (at +ℤ length_in s.item) (past_by (overlap_of s.item) s.item at past)
        (drop (i + 1) items)

    behind : rest ≡ seats v after (drop (i + 1) items)
    behind =
        ap (λ z. seats z (past_by (overlap_of s.item) s.item at past) (drop (i + 1) items))
        (sym ends)
        ∙ ap (λ p. seats v p (drop (i + 1) items))
        (sym (passed ∙ ap (λ z. past_by (overlap_of s.item) s.item z s.past) h.start
        ∙ ap (λ p. past_by (overlap_of s.item) s.item at p) h.past_is))

    listed : (o : Option Event) (es : List Event) → option_to_list o ++ es ≡ cons_option o es
    listed None es = refl
    listed (Some e) es = refl

-- a child of which something is said
pub stops : (j : Job) (c : Channel) (items : List (ItemOf Listed)) (i : ℕ) (at : ℤ) (past : Past)
    (s : Seat) (old now : List Event) (why : Why)
    → IsHere items i at past s → reason_of j c s ≡ Some why
    → IsWalking j c items i at past old now
    → (k : ℕ) → said_below j c k items ≡ Some (k ∷ i ∷ [], why)
stops j c items i at past s old now why h said way k =
    way.said k
    ∙ ap (λ l. first_said (examine_seats j c k i l)) (seats_from items i at past s h)
    ∙ said_here (k ∷ i ∷ [], reason_of j c (whole items at past s i))
    (examine_seats j c k (suc i) (seats (at +ℤ length_in s.item)
    (past_by (overlap_of s.item) s.item at past) (drop (i + 1) items))) why
    (sym (whole_reason j c items i at past s h) ∙ said)

-- behind the last child
pub ends : (j : Job) (c : Channel) (items : List (ItemOf Listed)) (i : ℕ) (at : ℤ) (past : Past)
    (old now : List Event) → length items ≤ i → IsWalking j c items i at past old now
    → IsWalked j c items old now None
ends j c items i at past old now all way =
    let none = none_left items i all in (
      λ k. way.said k ∙ ap (λ l. first_said (examine_seats j c k i (seats at past l))) none,
      sym (append-nil now)
          ∙ ap (λ l. now ++ filter_map (event_of j c) (seats at past l)) (sym none) ∙ way.events,
    )
