-- The events that the notes of a line belong to.
use Rattle.std.proofs.Common.{◌≡◌, ◌<◌, ◌+◌, ◌-◌, ◌==◌, ◌&&◌, not, cond, ℕ, suc, Bool, true, false, List, [], ◌∷◌, ◌++◌, length, take, slice_index_or, slice_get, filter, option_map, unwrap_or, refl, sym, ap, ◌∙◌, append_assoc, append-nil, arith}
use Rattle.std.specs.Ordering.{nat_cmp}
use Rattle.std.specs.List.Sorted.{IsStableByKey, IsNonDecreasingBy}
use Rattle.std.proofs.lemmas.List.{length-take-le, take_more, get_or_default}
use Rattle.tick_time.specs.declared.rates.Rate.{Rate}
use Rattle.edl_list.specs.declared.list.Event.{Event}
use Rattle.edl_frames.specs.Conformed.{is_black}
use Rattle.note_text.specs.Belonging.{does_count, notes_from, notes_said}
use Rattle.note_text.specs.StateOwners.{owners_from, gives, notes_given, AreOwners}
use Rattle.note_text.specs.declared.notes.Said.{Said}
use Rattle.note_text.specs.declared.notes.Note.{Note}
use Rattle.note_text.specs.declared.notes.Heard.{Heard}
use Rattle.note_text.specs.declared.reading.Owner.{Owner}
use Rattle.note_text.proofs.KeyRuns.{run-kept_by_sort}

owners_push : (k : ℕ) (es : List Event) (e : Event) → owners_from k (es ++ e ∷ []) ≡ owners_from k es ++ owners_from (k + length es) (e ∷ [])
owners_push k [] e = let z : k + 0 ≡ k = omega arith in ap (λ n. owners_from n (e ∷ [])) (sym z)
owners_push k (x ∷ es) e = by (is_black x.to.reel) (owners_push (suc k) es e ∙ ap (λ n. owners_from (suc k) es ++ owners_from n (e ∷ [])) (let z : suc k + length es ≡ k + length (x ∷ es) = omega arith in z))
  where
    by : (b : Bool) → owners_from (suc k) (es ++ e ∷ []) ≡ owners_from (suc k) es ++ owners_from (k + length (x ∷ es)) (e ∷ [])
        → cond b (owners_from (suc k) (es ++ e ∷ [])) (record { line = x.line; index = k } ∷ owners_from (suc k) (es ++ e ∷ []))
        ≡ cond b (owners_from (suc k) es) (record { line = x.line; index = k } ∷ owners_from (suc k) es) ++ owners_from (k + length (x ∷ es)) (e ∷ [])
    by true h = h
    by false h = ap (λ l. record { line = x.line; index = k } ∷ l) h

owners_next : (es : List Event) (i : ℕ) (e : Event) → i < length es → e ≡ slice_index_or es i e
    → owners_from 0 (take (i + 1) es) ≡ owners_from 0 (take i es) ++ owners_from i (e ∷ [])
owners_next es i e within is =
    let taken : take (i + 1) es ≡ take i es ++ e ∷ [] = take_more es i e within ∙ ap (λ x. take i es ++ x ∷ []) (sym is) in
    let s = length-take-le i es (omega (arith, within)) in
    let long : 0 + length (take i es) ≡ i = omega (arith, s) in
    ap (owners_from 0) taken ∙ owners_push 0 (take i es) e ∙ ap (λ n. owners_from 0 (take i es) ++ owners_from n (e ∷ [])) long

-- one event more, which isn't black
pub owners_more : (es : List Event) (i : ℕ) (e : Event) (old new : List Owner) → i < length es → e ≡ slice_index_or es i e
    → is_black e.to.reel ≡ false → new ≡ old ++ record { line = e.line; index = i } ∷ [] → old ≡ owners_from 0 (take i es)
    → new ≡ owners_from 0 (take (i + 1) es)
owners_more es i e old new within is shows push h =
    let one : owners_from i (e ∷ []) ≡ record { line = e.line; index = i } ∷ [] = rw shows refl in
    push ∙ ap (λ l. l ++ record { line = e.line; index = i } ∷ []) h ∙ ap (λ l. owners_from 0 (take i es) ++ l) (sym one) ∙ sym (owners_next es i e within is)

-- one event more, which is black
pub owners_same : (es : List Event) (i : ℕ) (e : Event) (old : List Owner) → i < length es → e ≡ slice_index_or es i e
    → is_black e.to.reel ≡ true → old ≡ owners_from 0 (take i es) → old ≡ owners_from 0 (take (i + 1) es)
owners_same es i e old within is hides h =
    let none_of : owners_from i (e ∷ []) ≡ [] = rw hides refl in
    h ∙ sym (owners_next es i e within is ∙ ap (λ l. owners_from 0 (take i es) ++ l) none_of ∙ append-nil (owners_from 0 (take i es)))

given_push : (rate : Rate) (es : List Event) (said : Said) (os : List Owner) (o : Owner)
    → notes_given rate es said (os ++ o ∷ []) ≡ notes_given rate es said os ++ notes_given rate es said (o ∷ [])
given_push rate es said [] o = refl
given_push rate es said (x ∷ os) o = by (gives rate es said x.index) (given_push rate es said os o)
  where
    by : (b : Bool) → notes_given rate es said (os ++ o ∷ []) ≡ notes_given rate es said os ++ notes_given rate es said (o ∷ [])
        → cond b (record { event = x.index; said = said } ∷ notes_given rate es said (os ++ o ∷ [])) (notes_given rate es said (os ++ o ∷ []))
        ≡ cond b (record { event = x.index; said = said } ∷ notes_given rate es said os) (notes_given rate es said os) ++ notes_given rate es said (o ∷ [])
    by true h = ap (λ l. record { event = x.index; said = said } ∷ l) h
    by false h = h

given_next : (rate : Rate) (es : List Event) (said : Said) (os : List Owner) (i : ℕ) (o : Owner) → i < length os → o ≡ slice_index_or os i o
    → notes_given rate es said (take (i + 1) os) ≡ notes_given rate es said (take i os) ++ notes_given rate es said (o ∷ [])
given_next rate es said os i o within is =
    let taken : take (i + 1) os ≡ take i os ++ o ∷ [] = take_more os i o within ∙ ap (λ x. take i os ++ x ∷ []) (sym is) in
    ap (notes_given rate es said) taken ∙ given_push rate es said (take i os) o

-- one owner more, for which it counts
pub given_more : (rate : Rate) (es : List Event) (said : Said) (os : List Owner) (i : ℕ) (o : Owner) (first old new : List Note)
    → i < length os → o ≡ slice_index_or os i o → gives rate es said o.index ≡ true → new ≡ old ++ record { event = o.index; said = said } ∷ []
    → old ≡ first ++ notes_given rate es said (take i os) → new ≡ first ++ notes_given rate es said (take (i + 1) os)
given_more rate es said os i o first old new within is counts push h =
    let one : notes_given rate es said (o ∷ []) ≡ record { event = o.index; said = said } ∷ [] = rw counts refl in
    push ∙ ap (λ l. l ++ record { event = o.index; said = said } ∷ []) h ∙ append_assoc first (notes_given rate es said (take i os)) (record { event = o.index; said = said } ∷ [])
    ∙ ap (λ l. first ++ l) (ap (λ l. notes_given rate es said (take i os) ++ l) (sym one) ∙ sym (given_next rate es said os i o within is))

-- one owner more, for which it doesn't
pub given_same : (rate : Rate) (es : List Event) (said : Said) (os : List Owner) (i : ℕ) (o : Owner) (first old : List Note)
    → i < length os → o ≡ slice_index_or os i o → gives rate es said o.index ≡ false
    → old ≡ first ++ notes_given rate es said (take i os) → old ≡ first ++ notes_given rate es said (take (i + 1) os)
given_same rate es said os i o first old within is counts h =
    let none_of : notes_given rate es said (o ∷ []) ≡ [] = rw counts refl in
    h ∙ ap (λ l. first ++ l) (sym (given_next rate es said os i o within is ∙ ap (λ l. notes_given rate es said (take i os) ++ l) none_of ∙ append-nil (notes_given rate es said (take i os))))

-- what the owners of a line have of what is said there is what events have of it
all_given : (rate : Rate) (all es : List Event) (heard : Heard) (k : ℕ) → ((i : ℕ) → slice_get es i ≡ slice_get all (i + k))
    → notes_given rate all heard.said (filter (λ (o : Owner). o.line == heard.line) (owners_from k es)) ≡ notes_from rate k es heard
all_given rate all [] heard k h = refl
all_given rate all (e ∷ es) heard k h =
    let more = all_given rate all es heard (suc k) (λ i. h (suc i) ∙ ap (slice_get all) (let z : suc i + k ≡ i + suc k = omega arith in z)) in
    let from : k ≡ 0 + k = omega arith in
    let here : gives rate all heard.said k ≡ does_count rate e heard.said = ap (gives rate all heard.said) from ∙ ap (λ o. unwrap_or (option_map (λ (x : Event). does_count rate x heard.said) o) false) (sym (h 0)) in
    by (is_black e.to.reel) (e.line == heard.line) (does_count rate e heard.said) refl refl here more
  where
    by : (b l t : Bool) → is_black e.to.reel ≡ b → (e.line == heard.line) ≡ l → gives rate all heard.said k ≡ t
        → notes_given rate all heard.said (filter (λ (o : Owner). o.line == heard.line) (owners_from (suc k) es)) ≡ notes_from rate (suc k) es heard
        → notes_given rate all heard.said (filter (λ (o : Owner). o.line == heard.line) (cond b (owners_from (suc k) es) (record { line = e.line; index = k } ∷ owners_from (suc k) es)))
        ≡ cond (l && (not b && t)) (record { event = k; said = heard.said } ∷ notes_from rate (suc k) es heard) (notes_from rate (suc k) es heard)
    by true true t eb el et m = m
    by true false t eb el et m = m
    by false true true eb el et m = rw (el, et) (ap (λ l. record { event = k; said = heard.said } ∷ l) m)
    by false true false eb el et m = rw (el, et) m
    by false false t eb el et m = rw el m

said_push : (rate : Rate) (es : List Event) (hs : List Heard) (h : Heard) → notes_said rate es (hs ++ h ∷ []) ≡ notes_said rate es hs ++ notes_from rate 0 es h
said_push rate es [] h = append-nil (notes_from rate 0 es h)
said_push rate es (x ∷ hs) h =
    ap (λ l. notes_from rate 0 es x ++ l) (said_push rate es hs h) ∙ sym (append_assoc (notes_from rate 0 es x) (notes_said rate es hs) (notes_from rate 0 es h))

-- one line more
pub said_next : (rate : Rate) (es : List Event) (hs : List Heard) (i : ℕ) (h : Heard) (owners : List Owner) (old new : List Note) → i < length hs → h ≡ slice_index_or hs i h
    → AreOwners es owners → new ≡ old ++ notes_given rate es h.said (filter (λ (o : Owner). o.line == h.line) owners)
    → old ≡ notes_said rate es (take i hs) → new ≡ notes_said rate es (take (i + 1) hs)
said_next rate es hs i h owners old new within is are put before =
    let taken : take (i + 1) hs ≡ take i hs ++ h ∷ [] = take_more hs i h within ∙ ap (λ x. take i hs ++ x ∷ []) (sym is) in
    let same : notes_given rate es h.said (filter (λ (o : Owner). o.line == h.line) owners) ≡ notes_from rate 0 es h =
    ap (notes_given rate es h.said) (are.same h.line) ∙ all_given rate es es h 0 (λ j. ap (slice_get es) (let z : j ≡ j + 0 = omega arith in z)) in
    put ∙ ap (λ l. l ++ notes_given rate es h.said (filter (λ (o : Owner). o.line == h.line) owners)) before ∙ ap (λ l. notes_said rate es (take i hs) ++ l) same
    ∙ sym (ap (notes_said rate es) taken ∙ said_push rate es (take i hs) h)

pub owners_are : (es : List Event) (owners sorted : List Owner) → owners ≡ owners_from 0 es → IsStableByKey (λ (o : Owner). o.line) nat_cmp owners sorted
    → IsNonDecreasingBy (λ (o : Owner). o.line) sorted → AreOwners es sorted
owners_are es owners sorted is stable up = record {
  rising = up;
  same = λ line. run-kept_by_sort (λ (o : Owner). o.line) owners sorted stable line ∙ ap (filter (λ (o : Owner). o.line == line)) is;
}

-- the same of the owner at a place
pub given_more_at : (rate : Rate) (es : List Event) (said copy : Said) (os : List Owner) (i : ℕ) (d : Owner) (first old new : List Note)
    → i < length os → true ≡ gives rate es said (slice_index_or os i d).index → copy ≡ said → new ≡ old ++ record { event = (slice_index_or os i d).index; said = copy } ∷ []
    → old ≡ first ++ notes_given rate es said (take i os) → new ≡ first ++ notes_given rate es said (take (i + 1) os)
given_more_at rate es said copy os i d first old new within counts same push h =
    let o : Owner = slice_index_or os i d in
    given_more rate es said os i o first old new within (get_or_default os i d o within) (sym counts)
    (push ∙ ap (λ s. old ++ record { event = o.index; said = s } ∷ []) same) h

pub given_same_at : (rate : Rate) (es : List Event) (said : Said) (os : List Owner) (i : ℕ) (d : Owner) (first old new : List Note)
    → i < length os → false ≡ gives rate es said (slice_index_or os i d).index → new ≡ old
    → old ≡ first ++ notes_given rate es said (take i os) → new ≡ first ++ notes_given rate es said (take (i + 1) os)
given_same_at rate es said os i d first old new within counts is h =
    let o : Owner = slice_index_or os i d in
    is ∙ given_same rate es said os i o first old within (get_or_default os i d o within) (sym counts) h
