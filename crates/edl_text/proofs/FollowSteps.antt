-- Events of one channel that follow one another, and one more.
use Rattle.std.proofs.Common.{◌≡◌, ◌⊎◌, ◌↔◌, Bool, true, false, IsTrue, ◌+◌, ◌<◌, ℕ, ℤ, ◌≤ℤ◌, ◌<ℤ◌, List, [], ◌∷◌, ◌++◌, take, length, get_or, inl, inr, sym, subst, arith}
use Rattle.std.specs.List.{All, AllPairs}
use Rattle.std.proofs.lemmas.Int.{ints}
use Rattle.std.proofs.lemmas.Bool.{false≢true}
use Rattle.std.proofs.lemmas.List.Elements.{All-nil, All-push}
use Rattle.std.proofs.lemmas.List.Quantifiers.{all_pairs_push}
use Rattle.edl_list.specs.declared.list.Channel.{Channel}
use Rattle.edl_list.specs.declared.list.Event.{Event}
use Rattle.edl_text.specs.Overlaps.{AreRead}
use Rattle.edl_text.specs.StateSpans.{AreApartOn, Follow}
use Rattle.edl_text.proofs.SpanSteps.{front_more}
use Rattle.edl_text.proofs.WholeNumbers.{below_or_not}

pub follow_none : (end : ℤ) (channel : Channel) → Follow end channel []
follow_none end channel = record {
  behind = All-nil (λ (e : Event). e.channel ≡ channel → e.rec_out ≤ℤ end);
  apart = λ i j d l m. absurd (omega (arith, m));
}

-- an event of another channel
other_more : (end : ℤ) (channel : Channel) (events : List Event) (event : Event)
    → (event.channel ≡ channel → ⊥) → Follow end channel events
    → Follow end channel (events ++ event ∷ [])
other_more end channel events event other f = record {
  behind = All-push (λ e. e.channel ≡ channel → e.rec_out ≤ℤ end) events event f.behind
      (λ h. absurd (other h));
  apart = all_pairs_push (AreApartOn channel) events event f.apart (λ i d l a b. absurd (other b));
}

-- an event of the channel that begins at the end of the last one or behind it
one_more : (end : ℤ) (channel : Channel) (events : List Event) (event : Event)
    → event.rec_in <ℤ event.rec_out → end ≤ℤ event.rec_in → Follow end channel events
    → Follow event.rec_out channel (events ++ event ∷ [])
one_more end channel events event some behind f = record {
  behind = All-push (λ e. e.channel ≡ channel → e.rec_out ≤ℤ event.rec_out) events event
      (λ i d l on. let before = f.behind i d l on in omega (arith, ints, before, some, behind))
      (λ _. omega (arith, ints));
  apart = all_pairs_push (AreApartOn channel) events event f.apart
      (λ i d l a b. inl (let before = f.behind i d l a in omega (arith, ints, before, behind)));
}

pub follow_other : (end now : ℤ) (channel : Channel) (events : List Event) (i : ℕ) (event : Event)
    → i < length events → get_or events i event ≡ event → now ≡ end
    → (event.channel ≡ channel → ⊥) → Follow end channel (take i events)
    → Follow now channel (take (i + 1) events)
follow_other end now channel events i event within is same other f =
    subst (λ z. Follow z channel (take (i + 1) events)) (sym same)
    (subst (λ l. Follow end channel l) (sym (front_more events i event within is))
    (other_more end channel (take i events) event other f))

pub follow_more : (end now : ℤ) (channel : Channel) (events : List Event) (i : ℕ) (event : Event)
    → AreRead events → i < length events → get_or events i event ≡ event → now ≡ event.rec_out
    → end ≤ℤ event.rec_in → Follow end channel (take i events)
    → Follow now channel (take (i + 1) events)
follow_more end now channel events i event read within is same behind f =
    let some : event.rec_in <ℤ event.rec_out =
    subst (λ e. e.rec_in <ℤ e.rec_out) is (read.some i event within) in
    subst (λ z. Follow z channel (take (i + 1) events)) (sym same)
    (subst (λ l. Follow event.rec_out channel l) (sym (front_more events i event within is))
    (one_more end channel (take i events) event some behind f))

-- a test that fails
pub not_before : (t : Bool) (start end : ℤ) → t ≡ false → (IsTrue t ↔ (start <ℤ end)) → end ≤ℤ start
not_before true start end e h = cc
not_before false start end e h = by (below_or_not start end)
  where
    by : (start <ℤ end) ⊎ (end ≤ℤ start) → end ≤ℤ start
    by (inl l) = absurd (false≢true (h.1 l))
    by (inr l) = l
