-- The first event that isn't such a one.
use Rattle.std.proofs.Common.{◌≡◌, ◌<◌, ◌≤◌, ◌+◌, ◌↔◌, ℕ, suc, Bool, true, false, List, ◌∷◌, ◌++◌, Some, IsTrue, All, length, take, drop, get_or, sym, ap, subst, ◌∙◌, refl, drop-cons}
use Rattle.std.proofs.lemmas.Bool.{false≢true}
use Rattle.std.proofs.lemmas.List.{take-append-drop, take_all}
use Rattle.std.proofs.lemmas.List.Elements.{All-more, All-same}
use Rattle.edl_list.specs.declared.list.Event.{Event}
use Rattle.edl_text.specs.Labelled.{IsFirstNot}

split_at : (events : List Event) (i : ℕ) (event : Event) → i < length events
    → event ≡ get_or events i event → events ≡ take i events ++ event ∷ drop (suc i) events
split_at events i event within is =
    sym (take-append-drop i events) ∙ ap (λ l. take i events ++ l)
    (drop-cons events i event within ∙ ap (λ x. x ∷ drop (suc i) events) (sym is))

pub first_not : (Is : Event → Type 0) (events : List Event) (i : ℕ) (event : Event) (t : Bool)
    → i < length events → event ≡ get_or events i event → All Is (take i events)
    → (IsTrue t ↔ Is event) → t ≡ false → IsFirstNot Is events (Some event.line)
first_not Is events i event t within is before test fails = (
  take i events,
  drop (suc i) events,
  event,
  split_at events i event within is,
  refl,
  before,
  λ h. false≢true (sym fails ∙ test.1 h),
)

pub more_are : (Is : Event → Type 0) (events : List Event) (i : ℕ) (event : Event) (t : Bool)
    → i < length events → event ≡ get_or events i event → All Is (take i events)
    → (IsTrue t ↔ Is event) → t ≡ true → All Is (take (i + 1) events)
more_are Is events i event t within is before test passes =
    All-more Is events i event within before (subst Is is (test.0 passes))

pub all_are : (Is : Event → Type 0) (events : List Event) (i : ℕ) → length events ≤ i
    → All Is (take i events) → All Is events
all_are Is events i past h = All-same Is events (take i events) (sym (take_all i events past)) h
