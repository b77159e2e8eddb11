-- A whole numeral that the machine takes at once, with the comma behind it.
use Rattle.std.proofs.Common.{◌≡◌, ℕ, suc, ◌+◌, ◌<◌, ◌≤◌, ◌⊎◌, inl, inr, List, [], ◌∷◌, length, take, get_or, true, false, Ok, Option, Some, None, refl, sym, ap, ◌∙◌, subst, arith}
use Rattle.std.proofs.lemmas.Bool.Decides.{nat_tests}
use Rattle.std.specs.Prelude.{◌==◌, ◌||◌}
use Rattle.std.specs.Char.{is_ascii_digit}
use Rattle.std.specs.Str.{is_utf8}
use Rattle.json_value.specs.declared.Json.TheVariants.{Num}
use Rattle.json_text.specs.State.Machine.{MachineState, state, value, number, number_goes, in_number, behind_placed, begin, next_place, ends, run, run_on, step}
use Rattle.json_text.specs.State.Runs.{IsNumeral, Skims, place_behind}
use Rattle.json_text.specs.State.Stands.{state_of, levels_of, hand_of}
use Rattle.json_text.specs.declared.machine.Machine.{Machine}
use Rattle.json_text.specs.State.Opened.{Unclosed}
use Rattle.json_text.specs.declared.state.Place.{Place}
use Rattle.json_text.specs.declared.state.Hand.TheVariants.{Value}
use Rattle.json_text.proofs.Ascii.{AreAtMost, at_most_utf8}
use Rattle.json_text.proofs.NumberLemmas.{NotNumber, no_place}
use Rattle.json_text.proofs.RunLemmas.{run_more, run_number}
use Rattle.json_text.proofs.Utf8Lemmas.{order}

-- a byte above ASCII stands in no numeral
high_byte : (b : ℕ) → 128 ≤ b → NotNumber b
high_byte b h =
    let digit : is_ascii_digit b ≡ false = grind (arith, nat_tests) in
    let point : (b == 46) ≡ false = grind (arith, nat_tests) in
    let letter : (b == 101 || b == 69) ≡ false = grind (arith, nat_tests) in
    let sign : (b == 43 || b == 45) ≡ false = grind (arith, nat_tests) in
    let nought : (b == 48) ≡ false = grind (arith, nat_tests) in
    (digit, point, letter, sign, nought)

at_most : (place last : Place) (bs : List ℕ) → place_behind (Some place) bs ≡ Some last → AreAtMost 127 bs
at_most place last [] e = tt
at_most place last (b ∷ bs) e = by (order b 128) (next_place place b) refl e (λ p g. at_most p last bs g)
  where
    by : (b < 128) ⊎ (128 ≤ b) → (o : Option Place) → next_place place b ≡ o → place_behind o bs ≡ Some last
        → ((p : Place) → place_behind (Some p) bs ≡ Some last → AreAtMost 127 bs) → AreAtMost 127 (b ∷ bs)
    by h None f g on = let k : None ≡ Some last = g in cc k
    by (inl h) (Some p) f g on = (omega (arith, h), on p g)
    by (inr h) (Some p) f g on = let k : None ≡ Some p = sym (no_place place b (high_byte b h)) ∙ f in cc k

one_more : (n : ℕ) → suc n ≡ 1 + n
one_more n = omega arith

-- the bytes of a whole numeral
pub whole_numeral : (bytes rest : List ℕ) (first n : ℕ) (place last : Place) → bytes ≡ first ∷ rest → first < 128
    → ((levels : List Unclosed) → begin 127 levels value first ≡ Ok (state levels (number (first ∷ []) place)))
    → n < length rest → get_or rest n 0 ≡ 44 → place_behind (Some place) (take n rest) ≡ Some last → ends last ≡ true → IsNumeral (1 + n) bytes
whole_numeral bytes rest first n place last is low starts l comma goes e = subst (λ k. IsNumeral k bytes) (one_more n) (subst (IsNumeral (suc n)) (sym is) (record {
  within = omega (arith, l);
  comma = comma;
  utf8 = at_most_utf8 (first ∷ take n rest) (omega (arith, low), at_most place last (take n rest) goes);
  place = last;
  whole = e;
  ran = λ levels. ap (λ r. run_on 127 r (take n rest)) (starts levels) ∙ run_number 127 levels place last (first ∷ []) (take n rest) goes;
}))

comma_ends : (levels : List Unclosed) (t : List ℕ) (place : Place) → ends place ≡ true → is_utf8 t ≡ true → in_number levels t place 44 ≡ behind_placed levels (Num t) 44
comma_ends levels t place e u = ap (number_goes levels t place 44) (no_place place 44 (refl, refl, refl, refl, refl)) ∙ rw (e, u) refl

pub numeral_skims : (old : Machine) (new : MachineState) (bytes t : List ℕ) (n : ℕ) → old.hand ≡ Value → IsNumeral n bytes → t ≡ take n bytes
    → behind_placed (levels_of old) (Num t) 44 ≡ Ok new → Skims (n + 1) (state_of old) bytes new
numeral_skims old new bytes t n e w is to = record {
  within = omega (arith, w.within);
  ran = ap (λ h. run 127 (state (levels_of old) (hand_of h old.text.items old.root)) (take (n + 1) bytes)) e
      ∙ run_more 127 (state (levels_of old) value) (state (levels_of old) (number (take n bytes) w.place)) bytes n w.within (w.ran (levels_of old))
      ∙ ap (λ b. step 127 (levels_of old) (number (take n bytes) w.place) b) w.comma
      ∙ comma_ends (levels_of old) (take n bytes) w.place w.whole w.utf8
      ∙ ap (λ x. behind_placed (levels_of old) (Num x) 44) (sym is) ∙ to;
}
