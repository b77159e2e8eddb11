-- Spans of one channel that are one behind another, and one more.
use Rattle.std.proofs.Common.{◌≡◌, ◌≢◌, ◌⊎◌, ◌+◌, ◌<◌, ℕ, ℤ, ◌≤ℤ◌, List, [], ◌∷◌, ◌++◌, take, length, get_or, inl, inr, refl, sym, ap, subst, ◌∙◌, arith}
use Rattle.std.specs.List.{All, AllPairs, Contains}
use Rattle.std.specs.List.Sorted.{IsPermutation}
use Rattle.std.proofs.lemmas.Int.{ints}
use Rattle.std.proofs.lemmas.List.{get_or_default, take_more}
use Rattle.std.proofs.lemmas.List.Elements.{All-nil, All-push, Contains-append_left, Contains-push}
use Rattle.std.proofs.lemmas.List.Quantifiers.{all_pairs_push}
use Rattle.std.proofs.lemmas.List.Sorted.{Contains-permutation}
use Rattle.edl_list.specs.declared.list.Channel.{Channel}
use Rattle.edl_list.specs.declared.list.Event.{Event}
use Rattle.edl_text.specs.Overlaps.{AreRead, WasReadBefore}
use Rattle.edl_text.specs.StateSpans.{AreApartOn, AreClear, AreInTurn, HasSpans, span_of}
use Rattle.edl_text.proofs.SpanSteps.{front_more}
use Rattle.std.proofs.lemmas.Bool.{cases_order}

pub in_turn_none : (end : ℤ) → AreInTurn end []
in_turn_none end = record {
  behind = All-nil (λ (s : (ℤ × ℤ) × ℕ). s.0.1 ≤ℤ end);
  clear = λ i j d l m. absurd (omega (arith, m));
}

-- one more span
turn_more : (end : ℤ) (spans : List ((ℤ × ℤ) × ℕ)) (s : (ℤ × ℤ) × ℕ) → end ≤ℤ s.0.0 → s.0.0 ≤ℤ s.0.1 → AreInTurn end spans → AreInTurn s.0.1 (spans ++ s ∷ [])
turn_more end spans s behind some t = record {
  behind = All-push (λ x. x.0.1 ≤ℤ s.0.1) spans s
      (λ i d l. let before = t.behind i d l in omega (arith, ints, before, some, behind))
      (omega (arith, ints));
  clear = all_pairs_push AreClear spans s t.clear
      (λ i d l. inl (let before = t.behind i d l in omega (arith, ints, before, behind)));
}

front_of : (spans : List ((ℤ × ℤ) × ℕ)) (i : ℕ) (s : (ℤ × ℤ) × ℕ) → i < length spans → get_or spans i s ≡ s → take (i + 1) spans ≡ take i spans ++ s ∷ []
front_of spans i s within is = take_more spans i s within ∙ ap (λ e. take i spans ++ e ∷ []) is

pub in_turn_more : (end now : ℤ) (spans : List ((ℤ × ℤ) × ℕ)) (i : ℕ) (s : (ℤ × ℤ) × ℕ) → i < length spans → get_or spans i s ≡ s → now ≡ s.0.1
    → (end ≤ℤ s.0.0) × (s.0.0 ≤ℤ s.0.1) → AreInTurn end (take i spans) → AreInTurn now (take (i + 1) spans)
in_turn_more end now spans i s within is same h t =
    subst (λ z. AreInTurn z (take (i + 1) spans)) (sym same)
    (subst (λ l. AreInTurn s.0.1 l) (sym (front_of spans i s within is)) (turn_more end (take i spans) s h.0 h.1 t))

-- the same of a span behind an index
pub in_turn_next : (end now : ℤ) (spans : List ((ℤ × ℤ) × ℕ)) (i : ℕ) (d : (ℤ × ℤ) × ℕ) → i < length spans → now ≡ (get_or spans i d).0.1
    → (end ≤ℤ (get_or spans i d).0.0) × ((get_or spans i d).0.0 ≤ℤ (get_or spans i d).0.1) → AreInTurn end (take i spans) → AreInTurn now (take (i + 1) spans)
in_turn_next end now spans i d within same h t =
    in_turn_more end now spans i (get_or spans i d) within (get_or_default spans i (get_or spans i d) d within) same h t

-- the span of one more event
pub spans_more : (channel : Channel) (events : List Event) (i : ℕ) (event : Event) (old new : List ((ℤ × ℤ) × ℕ)) (s : (ℤ × ℤ) × ℕ) → i < length events → get_or events i event ≡ event
    → new ≡ old ++ s ∷ [] → s ≡ span_of event → HasSpans channel (take i events) old → HasSpans channel (take (i + 1) events) new
spans_more channel events i event old new s within is pushed same h =
    let all = λ (e : Event). e.channel ≡ channel → Contains new (span_of e) in
    subst (λ l. HasSpans channel l new) (sym (front_more events i event within is))
    (All-push all (take i events) event
    (λ k d l on. rw pushed (Contains-append_left old (s ∷ []) (span_of (get_or (take i events) k d)) (h k d l on)))
    (λ on. rw (pushed, ← same) (Contains-push old s)))

pub spans_other : (channel : Channel) (events : List Event) (i : ℕ) (event : Event) (old new : List ((ℤ × ℤ) × ℕ)) → i < length events → get_or events i event ≡ event
    → new ≡ old → (event.channel ≡ channel → ⊥) → HasSpans channel (take i events) old → HasSpans channel (take (i + 1) events) new
spans_other channel events i event old new within is same other h =
    subst (λ n. HasSpans channel (take (i + 1) events) n) (sym same)
    (subst (λ l. HasSpans channel l old) (sym (front_more events i event within is))
    (All-push (λ (e : Event). e.channel ≡ channel → Contains old (span_of e)) (take i events) event h (λ on. absurd (other on))))

-- two events of one channel have two lines
two_lines : (channel : Channel) (a b : Event) → WasReadBefore a b → a.channel ≡ channel → b.channel ≡ channel → a.line < b.line
two_lines channel a b (inl h) p q = h
two_lines channel a b (inr h) p q = absurd (h.1 (p ∙ sym q))

-- a span among others, at any default
there : (spans : List ((ℤ × ℤ) × ℕ)) (s d : (ℤ × ℤ) × ℕ) (x : Contains spans s) → get_or spans x.0 d ≡ s
there spans s d x = get_or_default spans x.0 d s x.1 ∙ x.2

-- spans at two places are clear of one another
clear_by : (spans : List ((ℤ × ℤ) × ℕ)) (s t : (ℤ × ℤ) × ℕ) → s.1 < t.1 → AllPairs AreClear spans → (x : Contains spans s) (y : Contains spans t)
    → (x.0 ≡ y.0) ⊎ ((x.0 < y.0) ⊎ (y.0 < x.0)) → AreClear s t
clear_by spans s t lines clear x y (inl e) =
    let same : s ≡ t = sym (there spans s s x) ∙ ap (λ k. get_or spans k s) e ∙ there spans t s y in
    let line : s.1 ≡ t.1 = ap (λ z. z.1) same in
    absurd (omega (arith, lines, line))
clear_by spans s t lines clear x y (inr (inl h)) =
    subst (λ q. AreClear s q) (there spans t s y)
    (subst (λ p. AreClear p (get_or spans y.0 s)) (there spans s s x) (clear x.0 y.0 s h y.1))
clear_by spans s t lines clear x y (inr (inr h)) =
    flip (subst (λ p. AreClear t p) (there spans s s x)
    (subst (λ q. AreClear q (get_or spans x.0 s)) (there spans t s y) (clear y.0 x.0 s h x.1)))
  where
    flip : AreClear t s → AreClear s t
    flip (inl l) = inr l
    flip (inr l) = inl l

-- events whose spans are clear of one another once they are sorted
pub sorted_apart : (channel : Channel) (events : List Event) (spans sorted : List ((ℤ × ℤ) × ℕ)) → AreRead events → HasSpans channel events spans → IsPermutation spans sorted → AllPairs AreClear sorted
    → AllPairs (AreApartOn channel) events
sorted_apart channel events spans sorted read has same clear i j d below short = λ p q.
    let a = get_or events i d in
    let b = get_or events j d in
    let lines = two_lines channel a b (read.order i j d below short) p q in
    let x = Contains-permutation spans sorted (span_of a) same (has i d (omega (arith, below, short)) p) in
    let y = Contains-permutation spans sorted (span_of b) same (has j d short q) in
    clear_by sorted (span_of a) (span_of b) lines clear x y (cases_order x.0 y.0)
