-- Labels that can be written, and those past the day.
use Rattle.std.proofs.Common.{◌≡◌, ◌≤◌, ◌↔◌, ℕ, ℤ, Bool, true, false, List, [], Some, None, Option, Result, Ok, Err, IsTrue, IsOk, unwrap_or, slice_get, unsigned_abs, sym, ap, subst, ◌∙◌, arith, length, option_map, cond, nat_le, not, ◌==◌, to_z, of_z, w64, refl}
use Rattle.std.proofs.lemmas.Bool.{false≢true}
use Rattle.std.proofs.lemmas.Option.{slice_get_within}
use Rattle.std.specs.Option.{option_and_then}
use Rattle.tick_time.specs.declared.rates.Rate.{Rate}
use Rattle.smpte_tc.specs.declared.modes.Mode.{Mode}
use Rattle.smpte_tc.specs.declared.faults.TcFault.{TcFault}
use Rattle.smpte_tc.specs.declared.faults.TcFault.TheVariants.{Form, Field, Dropped, Day, NoTimecode}
use Rattle.smpte_tc.specs.Modes.{mode_of, mode as plain}
use Rattle.smpte_tc.specs.Day.{labels_of, mark_of, day_of as addresses_of, counted_of, is_counted}
use Rattle.smpte_tc.specs.Answers.{WritesAt}
use Rattle.std.proofs.lemmas.Int.{ints}
use Rattle.std.proofs.lemmas.Bool.Decides.{nat_tests}
use Rattle.std.proofs.lemmas.List.Filters.{length-filter_both}
use Rattle.smpte_tc.proofs.Counting.{length-day}
use Rattle.tick_time.specs.Rates.{nominal, relative_count}
use Rattle.edl_list.specs.Formed.{IsFrame}
use Rattle.edl_list.specs.Speeds.{day_of}
use Rattle.smpte_tc.proofs.Labels.{counted_by_label}
use Rattle.edl_text.specs.Columns.{label_text}
use Rattle.edl_list.specs.Labelled.{IsBelowDay}

label_at : Option Mode → ℤ → List ℕ
label_at o n = unwrap_or (option_and_then (λ mode. slice_get (labels_of mode) (unsigned_abs n)) o) []

text_by : (o : Option Mode) (n : ℤ) (text : List ℕ) → WritesAt o n (Ok text) → text ≡ label_at o n
unfolding label_at
text_by None n text h = cc
text_by (Some mode) n text h =
    sym (ap (λ z. unwrap_or (slice_get (labels_of mode) (unsigned_abs z)) []) h.1 ∙ ap (λ o. unwrap_or o []) h.2.stands)

-- a label that is written is the text of its frame number
pub text_written : (rate : Rate) (drop : Bool) (n : ℤ) (text : List ℕ) → WritesAt (mode_of rate drop) n (Ok text) → text ≡ label_text rate drop n
unfolding label_text label_at
text_written rate drop n text h = text_by (mode_of rate drop) n text h

both_by : (o : Option Mode) (n : ℤ) (text : List ℕ) (fault : TcFault) → WritesAt o n (Ok text) → WritesAt o n (Err fault) → ⊥
both_by None n text fault h e = absurd (cc)
both_by (Some mode) n text Form h e = e
both_by (Some mode) n text Field h e = e
both_by (Some mode) n text Dropped h e = e
both_by (Some mode) n text NoTimecode h e = e
both_by (Some mode) n text Day h e =
    let found = counted_by_label (mark_of mode) mode h.0 text h.2 in
    let inside = slice_get_within _ h.0 found.0 found.1.there in
    let past = e h.0 h.1 in
    omega (arith, inside, past)

-- a number isn't both of the day and past it
pub not_both : (rate : Rate) (drop : Bool) (n : ℤ) (fault : TcFault) → IsBelowDay rate drop n → WritesAt (mode_of rate drop) n (Err fault) → ⊥
not_both rate drop n fault h e = both_by (mode_of rate drop) n h.label fault h.written e

taken_by : (rate : Rate) (drop : Bool) (n : ℤ) (r : Result (List ℕ) TcFault) → IsBelowDay rate drop n → WritesAt (mode_of rate drop) n r → IsOk r
taken_by rate drop n (Ok text) h w = refl
taken_by rate drop n (Err fault) h w = absurd (not_both rate drop n fault h w)

-- a label is written for a number of the day
pub is_taken : (rate : Rate) (drop : Bool) (n : ℤ) (r : Result (List ℕ) TcFault) → IsBelowDay rate drop n → WritesAt (mode_of rate drop) n r → IsOk r
is_taken rate drop n r h w = taken_by rate drop n r h w

pub text_taken : (rate : Rate) (drop : Bool) (n : ℤ) (r : Result (List ℕ) TcFault) (text : List ℕ) → WritesAt (mode_of rate drop) n r → r ≡ Ok text → text ≡ label_text rate drop n
text_taken rate drop n r text w e = text_written rate drop n text (subst (λ x. WritesAt (mode_of rate drop) n x) e w)

-- where none is written, the number is past the day
pub is_past : (rate : Rate) (drop : Bool) (n : ℤ) (fault : TcFault) → WritesAt (mode_of rate drop) n (Err fault) → IsTrue false ↔ IsBelowDay rate drop n
is_past rate drop n fault w = (λ h. absurd (false≢true h), λ h. absurd (not_both rate drop n fault h w))

-- a count of frames, where there is one, is at most 60
abbrev Few : Option ℤ → Type 0
Few None = Unit {0}
Few (Some count) = unsigned_abs count ≤ 60

few_by : (b : Bool) (x y : Option ℤ) → Few x → Few y → Few (cond b x y)
few_by true x y p q = p
few_by false x y p q = q

few_relative : (num : ℕ) → Few (relative_count num)
few_relative num =
    few_by (num == 15000) _ _ (omega arith) (few_by (num == 24000) _ _ (omega arith) (few_by (num == 30000) _ _ (omega arith)
    (few_by (num == 48000) _ _ (omega arith) (few_by (num == 60000) _ _ (omega arith) tt))))

few_whole : (num : ℤ) (b : Bool) → nat_le (unsigned_abs num) 60 ≡ b → Few (cond b (Some num) None)
few_whole num true h = grind (arith, nat_tests)
few_whole num false h = tt

few_nominal : (num den : ℤ) → Few (nominal num den)
few_nominal num den =
    few_by (unsigned_abs den == 1001) _ _ (few_relative (unsigned_abs num))
    (few_by (unsigned_abs den == 1) _ _ (few_whole num (nat_le (unsigned_abs num) 60) refl) tt)

counted_few : (mode : Mode) → mode.nominal ≤ 60 → length (counted_of mode) ≤ 5184000
unfolding counted_of
counted_few mode few =
    let all = length-day mode.nominal in
    let both = length-filter_both (is_counted mode) (λ a. not (is_counted mode a)) (λ a. refl) (addresses_of mode.nominal) in
    omega (arith, all, both)

day_by : (o : Option ℤ) → Few o → unwrap_or (option_map (λ mode. length (counted_of mode)) (option_map (λ count. plain (unsigned_abs count) 0) o)) 0 ≤ 5184000
day_by None few = omega arith
day_by (Some count) few = counted_few (plain (unsigned_abs count) 0) few

-- a day has at most 5184000 frames
pub day_small : (rate : Rate) → day_of rate ≤ 5184000
day_small rate = day_by (nominal rate.num rate.den) (few_nominal rate.num rate.den)

-- a frame number of a day as it is kept in 64 bits
pub frame_kept : (rate : Rate) (n : ℤ) → IsFrame (day_of rate) n → to_z w64 (of_z w64 n) ≡ n
frame_kept rate n h =
    let small = day_small rate in
    let low = h.low in
    let high = h.high in
    omega (arith, ints, small, low, high)

pub below_kept : (rate : Rate) (drop : Bool) (n : ℤ) → IsFrame (day_of rate) n → IsBelowDay rate drop n → IsBelowDay rate drop (to_z w64 (of_z w64 n))
below_kept rate drop n h b = subst (IsBelowDay rate drop) (sym (frame_kept rate n h)) b

pub text_kept : (rate : Rate) (drop : Bool) (n : ℤ) (text : List ℕ) → IsFrame (day_of rate) n → text ≡ label_text rate drop (to_z w64 (of_z w64 n)) → text ≡ label_text rate drop n
text_kept rate drop n text h e = e ∙ ap (label_text rate drop) (frame_kept rate n h)

pub test_kept : (rate : Rate) (drop : Bool) (n : ℤ) (b : Bool) → IsFrame (day_of rate) n → (IsTrue b ↔ IsBelowDay rate drop (to_z w64 (of_z w64 n))) → IsTrue b ↔ IsBelowDay rate drop n
test_kept rate drop n b h t = subst (λ z. IsTrue b ↔ IsBelowDay rate drop z) (frame_kept rate n h) t

-- a test that fails, of what another statement needs
pub untrue : {X Y : Type 0} {t : Bool} → (IsTrue t ↔ X) → t ≡ false → (Y → X) → IsTrue false ↔ Y
untrue test fails needs = (λ h. absurd (false≢true h), λ y. sym fails ∙ test.1 (needs y))
