-- The events of one channel, and the least record in.
use Rattle.std.proofs.Common.{◌≡◌, refl, sym, suc, ℤ, ◌≤ℤ◌, Bool, true, false, cond, List, [], ◌∷◌, arith}
use Rattle.std.specs.Prelude.{All, AllPairs, filter}
use Rattle.std.specs.Int.{int_min}
use Rattle.std.proofs.lemmas.List.Elements.{All-cons, All-head, All-filter}
use Rattle.std.proofs.lemmas.Int.{ints, clamps}
use Rattle.edl_list.specs.declared.list.Channel.{Channel}
use Rattle.edl_list.specs.declared.list.Channel.TheVariants.{V, A, A2}
use Rattle.edl_list.specs.declared.list.Event.{Event}
use Rattle.edl_list.specs.Formed.{rank}
use Rattle.edl_frames.specs.Shown.{is_on, on_channel}
use Rattle.edl_frames.specs.Conformed.{least_in, first_record}

-- ---- the least record in

least_low : (z : ℤ) (es : List Event) → least_in z es ≤ℤ z
least_low z [] = omega (arith, ints)
least_low z (e ∷ es) =
    let l = least_low (int_min z e.rec_in) es in omega (arith, ints, clamps, l)

least_all : (z : ℤ) (es : List Event) → All (λ (e : Event). least_in z es ≤ℤ e.rec_in) es
least_all z [] = λ k d l. absurd (omega (arith, l))
least_all z (e ∷ es) =
    let l = least_low (int_min z e.rec_in) es in
    All-cons (λ (x : Event). least_in z (e ∷ es) ≤ℤ x.rec_in) e es
    (omega (arith, ints, clamps, l)) (least_all (int_min z e.rec_in) es)

pub first_all : (es : List Event) → All (λ (e : Event). first_record es ≤ℤ e.rec_in) es
first_all [] = λ k d l. absurd (omega (arith, l))
first_all (e ∷ es) = All-cons (λ (x : Event). least_in e.rec_in es ≤ℤ x.rec_in) e es
    (least_low e.rec_in es) (least_all e.rec_in es)

-- ---- the events of a channel

same_rank : (a b : Channel) → rank a ≡ rank b → a ≡ b
same_rank V V e = refl
same_rank A A e = refl
same_rank A2 A2 e = refl
same_rank V A e = absurd (omega (arith, e))
same_rank V A2 e = absurd (omega (arith, e))
same_rank A V e = absurd (omega (arith, e))
same_rank A A2 e = absurd (omega (arith, e))
same_rank A2 V e = absurd (omega (arith, e))
same_rank A2 A e = absurd (omega (arith, e))

on_one : (c : Channel) (e : Event) → is_on c e ≡ true → e.channel ≡ c
on_one c e h =
    let n : rank c ≡ rank e.channel = grind (arith, h) in same_rank e.channel c (sym n)

pub all_on : (c : Channel) (es : List Event)
    → All (λ (e : Event). e.channel ≡ c) (filter (is_on c) es)
all_on c [] = λ k d l. absurd (omega (arith, l))
all_on c (e ∷ es) = by (is_on c e) refl (all_on c es)
  where
    by : (b : Bool) → is_on c e ≡ b → All (λ (e : Event). e.channel ≡ c) (filter (is_on c) es)
        → All (λ (e : Event). e.channel ≡ c)
        (cond b (e ∷ filter (is_on c) es) (filter (is_on c) es))
    by true f g = All-cons (λ (e : Event). e.channel ≡ c) e (filter (is_on c) es) (on_one c e f) g
    by false f g = g

pub tail_pairs : (R : Event → Event → Type 0) (e : Event) (es : List Event)
    → AllPairs R (e ∷ es) → AllPairs R es
tail_pairs R e es h = λ i j d l m. h (suc i) (suc j) d (omega (arith, l)) (omega (arith, m))

-- no event of the list begins before a record frame
abbrev pub BeginsFrom : ℤ → List Event → Type 0
BeginsFrom at [] = Unit {0}
BeginsFrom at (e ∷ es) = at ≤ℤ e.rec_in

pub begins_all : (at : ℤ) (es : List Event) → All (λ (e : Event). at ≤ℤ e.rec_in) es
    → BeginsFrom at es
begins_all at [] h = tt
begins_all at (e ∷ es) h = All-head (λ (e : Event). at ≤ℤ e.rec_in) e es h

-- no event of a channel begins before the least record in
pub channel_begins : (c : Channel) (es : List Event)
    → BeginsFrom (first_record es) (on_channel c es)
channel_begins c es =
    begins_all (first_record es) (on_channel c es)
    (All-filter (is_on c) (λ (e : Event). first_record es ≤ℤ e.rec_in) es (first_all es))
