-- One byte outside strings: where it goes on, it is ASCII, and only a quote leads into a string; and what one level more changes.
use Rattle.std.proofs.Common.{◌≡◌, ℕ, suc, ◌<◌, ◌≤◌, List, [], ◌∷◌, ◌++◌, length, Option, Some, None, Result, Ok, Err, Bool, true, false, refl, sym, ◌∙◌, arith, cond, subst, ◌⊎◌, inl, inr}
use Rattle.std.proofs.lemmas.Bool.Decides.{nat_tests}
use Rattle.std.specs.Prelude.{◌≢◌, ◌==◌, nat_lt}
use Rattle.std.specs.Char.{is_ascii_digit}
use Rattle.std.specs.Str.{is_utf8}
use Rattle.sequences.specs.Pairs.{merged}
use Rattle.json_value.specs.declared.Json.{Json}
use Rattle.json_value.specs.declared.Json.TheVariants.{Null, Bool as JsonOfBool, Num, List as JsonOfList, Map as JsonOfMap}
use Rattle.json_text.specs.Grammar.{is_whitespace}
use Rattle.json_text.specs.State.Machine.{plain, escape, code, high, slash, low, tail, Hand, value, first_item, first_name, next_name, colon, behind, done, word, number, text, MachineState, state, placed, skipped, opened, begin, behind_in, at_end, behind_placed, name_begins, in_word, next_place, ends, number_goes, in_number, step}
use Rattle.json_text.specs.declared.state.Stop.{Stop}
use Rattle.json_text.specs.declared.state.Stop.TheVariants.{Syntax, Utf8, Depth}
use Rattle.json_text.specs.declared.state.Place.{Place}
use Rattle.json_text.specs.declared.state.Place.TheVariants.{Minus, Nought, Whole}
use Rattle.json_text.specs.declared.state.Role.{Role}
use Rattle.json_text.specs.declared.state.Role.TheVariants.{Name, Content}
use Rattle.json_text.specs.State.Opened.{Unclosed}
use Rattle.json_text.specs.State.Opened.{list as LevelOfList, map as LevelOfMap}
use Rattle.json_text.proofs.Basics.{is_byte, is_below, is_least, below_is, chosen₂}
use Rattle.json_text.proofs.NumberLemmas.{NotNumber, no_place}
use Rattle.json_text.proofs.Steps.{blank_cases}
use Rattle.json_text.proofs.Finishes.{IsState}

abbrev pub IsOutside : Hand → Type 0
IsOutside value = Unit {0}
IsOutside first_item = Unit {0}
IsOutside first_name = Unit {0}
IsOutside next_name = Unit {0}
IsOutside colon = Unit {0}
IsOutside behind = Unit {0}
IsOutside (done x) = Unit {0}
IsOutside (word x left) = Unit {0}
IsOutside (number t place) = Unit {0}
IsOutside (text role t part) = ⊥

-- the hand is not inside a character
abbrev pub IsWhole : Hand → Type 0
IsWhole value = Unit {0}
IsWhole first_item = Unit {0}
IsWhole first_name = Unit {0}
IsWhole next_name = Unit {0}
IsWhole colon = Unit {0}
IsWhole behind = Unit {0}
IsWhole (done x) = Unit {0}
IsWhole (word x left) = Unit {0}
IsWhole (number t place) = Unit {0}
IsWhole (text role t plain) = Unit {0}
IsWhole (text role t escape) = Unit {0}
IsWhole (text role t (code digits)) = Unit {0}
IsWhole (text role t (high h)) = Unit {0}
IsWhole (text role t (slash h)) = Unit {0}
IsWhole (text role t (low h digits)) = Unit {0}
IsWhole (text role t (tail ranges)) = ⊥

-- what is true of a state that a byte outside strings leads to
pub record WentOn (limit b : ℕ) (s : MachineState) : Type 0 where
  pub ascii : b < 128
  pub whole : IsWhole s.hand
  pub outside : b ≢ 34 → IsOutside s.hand
  pub no_hash : b ≢ 35
  pub few : length s.levels ≤ limit

-- a step outside strings, and the same step with one level more
pub record OutStep (limit b : ℕ) (r q : Result MachineState Stop) : Type 0 where
  pub goes : (s : MachineState) → r ≡ Ok s → WentOn limit b s × (q ≡ Ok s)
  pub syntax : r ≡ Err Syntax → q ≡ Err Syntax
  pub utf8 : r ≡ Err Utf8 → ⊥
  pub depth : r ≡ Err Depth → (s : MachineState) × (q ≡ Ok s)

module _ (limit b : ℕ) where
  on : (s : MachineState) → WentOn limit b s → OutStep limit b (Ok s) (Ok s)
  on s w = record {
    goes = λ t e. let f : s ≡ t = cc e in (subst (WentOn limit b) f w, e);
    syntax = λ e. cc e;
    utf8 = λ e. cc e;
    depth = λ e. cc e;
  }

  off : OutStep limit b (Err Syntax) (Err Syntax)
  off = record { goes = λ t e. cc e; syntax = λ e. refl; utf8 = λ e. cc e; depth = λ e. cc e }

  -- a byte that isn't above `z`, nor a quote or a hash
  is_plain : (levels : List Unclosed) (hand : Hand) → length levels ≤ limit → b < 128 → b ≢ 35 → IsWhole hand → IsOutside hand → OutStep limit b (Ok (state levels hand)) (Ok (state levels hand))
  is_plain levels hand f a h w o = on (state levels hand) (record { ascii = a; whole = w; outside = λ n. o; no_hash = h; few = f })

  same_byte : (d : ℕ) → (b == d) ≡ true → d < 128 → d ≢ 35 → (b < 128) × (b ≢ 35)
  same_byte d e l n = let f = is_byte b d e in (omega arith, λ k. n (sym f ∙ k))

  at_byte : (d : ℕ) (levels : List Unclosed) (hand : Hand) → length levels ≤ limit → (b == d) ≡ true → d < 128 → d ≢ 35 → IsWhole hand → IsOutside hand → OutStep limit b (Ok (state levels hand)) (Ok (state levels hand))
  at_byte d levels hand f e l n w o = let k = same_byte d e l n in is_plain levels hand f k.0 k.1 w o

  out_placed : (levels : List Unclosed) (x : Json) → length levels ≤ limit → b < 128 → b ≢ 35 → OutStep limit b (Ok (placed levels x)) (Ok (placed levels x))
  out_placed [] x f a h = is_plain [] (done x) f a h tt tt
  out_placed (LevelOfList xs ∷ ls) x f a h = is_plain (LevelOfList (xs ++ (x ∷ [])) ∷ ls) behind f a h tt tt
  out_placed (LevelOfMap ps name ∷ ls) x f a h = is_plain (LevelOfMap (ps ++ ((name, x) ∷ [])) [] ∷ ls) behind f a h tt tt

  blank_plain : is_whitespace b ≡ true → (b < 128) × (b ≢ 35)
  blank_plain e = by (blank_cases b e)
    where
      by : (b ≡ 32) ⊎ ((b ≡ 10) ⊎ ((b ≡ 13) ⊎ (b ≡ 9))) → (b < 128) × (b ≢ 35)
      by (inl e) = (omega arith, λ k. absurd (omega arith))
      by (inr (inl e)) = (omega arith, λ k. absurd (omega arith))
      by (inr (inr (inl e))) = (omega arith, λ k. absurd (omega arith))
      by (inr (inr (inr e))) = (omega arith, λ k. absurd (omega arith))

  out_skipped : (levels : List Unclosed) (stay : Hand) → length levels ≤ limit → IsWhole stay → IsOutside stay → OutStep limit b (skipped levels stay b) (skipped levels stay b)
  out_skipped levels stay f w o = chosen₂ (OutStep limit b) (is_whitespace b) (λ e. let k = blank_plain e in is_plain levels stay f k.0 k.1 w o) (λ e. off)

  out_quote : (levels : List Unclosed) (role : Role) → length levels ≤ limit → (b == 34) ≡ true → OutStep limit b (Ok (state levels (text role [] plain))) (Ok (state levels (text role [] plain)))
  out_quote levels role f e =
      let n = is_byte b 34 e in
      on (state levels (text role [] plain)) (record { ascii = omega arith; whole = tt; outside = λ k. absurd (k n); no_hash = λ k. absurd (omega arith); few = f })

  out_opened : (d : ℕ) (levels : List Unclosed) (level : Unclosed) (hand : Hand) → length levels ≤ limit → (b == d) ≡ true → d < 128 → d ≢ 35 → IsWhole hand → IsOutside hand
      → OutStep limit b (opened limit levels level hand) (opened (suc limit) levels level hand)
  out_opened d levels level hand f e l n w o = by (nat_lt (length levels) limit) refl (below_is (length levels) (suc limit) (omega arith))
    where
      by : (p : Bool) → nat_lt (length levels) limit ≡ p → nat_lt (length levels) (suc limit) ≡ true → OutStep limit b (cond p (Ok (state (level ∷ levels) hand)) (Err Depth)) (cond (nat_lt (length levels) (suc limit)) (Ok (state (level ∷ levels) hand)) (Err Depth))
      by true g h =
          let k = is_below (length levels) limit g in
          let r = at_byte d (level ∷ levels) hand (omega arith) e l n w o in
          subst (λ t. OutStep limit b (Ok (state (level ∷ levels) hand)) (cond t (Ok (state (level ∷ levels) hand)) (Err Depth))) (sym h) r
      by false g h =
          subst (λ t. OutStep limit b (Err Depth) (cond t (Ok (state (level ∷ levels) hand)) (Err Depth))) (sym h)
          (record { goes = λ s e. cc e; syntax = λ e. cc e; utf8 = λ e. cc e; depth = λ e. (state (level ∷ levels) hand, refl) })

  digit_plain : is_ascii_digit b ≡ true → (b < 128) × (b ≢ 35)
  digit_plain e = (grind (arith, nat_tests), grind (arith, nat_tests))

  ne : (d : ℕ) → d < 35 ⊎ (35 < d) → d ≢ 35
  ne d (inl h) k = omega arith
  ne d (inr h) k = omega arith

  out_begin : (levels : List Unclosed) (stay : Hand) → length levels ≤ limit → IsWhole stay → IsOutside stay → OutStep limit b (begin limit levels stay b) (begin (suc limit) levels stay b)
  out_begin levels stay f w o =
      chosen₂ (OutStep limit b) (b == 34) (λ e. out_quote levels Content f e) (λ e.
      chosen₂ (OutStep limit b) (b == 91) (λ e. out_opened 91 levels (LevelOfList []) first_item f e (omega arith) (ne 91 (inr (omega arith))) tt tt) (λ e.
      chosen₂ (OutStep limit b) (b == 123) (λ e. out_opened 123 levels (LevelOfMap [] []) first_name f e (omega arith) (ne 123 (inr (omega arith))) tt tt) (λ e.
      chosen₂ (OutStep limit b) (b == 110) (λ e. at_byte 110 levels (word Null (117 ∷ 108 ∷ 108 ∷ [])) f e (omega arith) (ne 110 (inr (omega arith))) tt tt) (λ e.
      chosen₂ (OutStep limit b) (b == 116) (λ e. at_byte 116 levels (word (JsonOfBool true) (114 ∷ 117 ∷ 101 ∷ [])) f e (omega arith) (ne 116 (inr (omega arith))) tt tt) (λ e.
      chosen₂ (OutStep limit b) (b == 102) (λ e. at_byte 102 levels (word (JsonOfBool false) (97 ∷ 108 ∷ 115 ∷ 101 ∷ [])) f e (omega arith) (ne 102 (inr (omega arith))) tt tt) (λ e.
      chosen₂ (OutStep limit b) (b == 45) (λ e. at_byte 45 levels (number (b ∷ []) Minus) f e (omega arith) (ne 45 (inr (omega arith))) tt tt) (λ e.
      chosen₂ (OutStep limit b) (b == 48) (λ e. at_byte 48 levels (number (b ∷ []) Nought) f e (omega arith) (ne 48 (inr (omega arith))) tt tt) (λ e.
      chosen₂ (OutStep limit b) (is_ascii_digit b) (λ e. let k = digit_plain e in is_plain levels (number (b ∷ []) Whole) f k.0 k.1 tt tt) (λ e. out_skipped levels stay f w o)))))))))

  out_behind : (levels : List Unclosed) → length levels ≤ limit → OutStep limit b (behind_in levels b) (behind_in levels b)
  out_behind [] f = off
  out_behind (LevelOfList xs ∷ ls) f =
      chosen₂ (OutStep limit b) (b == 44) (λ e. at_byte 44 (LevelOfList xs ∷ ls) value f e (omega arith) (ne 44 (inr (omega arith))) tt tt) (λ e.
      chosen₂ (OutStep limit b) (b == 93) (λ e. let k = same_byte 93 e (omega arith) (ne 93 (inr (omega arith))) in out_placed ls (JsonOfList xs) (omega arith) k.0 k.1) (λ e.
      chosen₂ (OutStep limit b) (is_whitespace b) (λ e. let k = blank_plain e in is_plain (LevelOfList xs ∷ ls) behind f k.0 k.1 tt tt) (λ e. off)))
  out_behind (LevelOfMap ps name ∷ ls) f =
      chosen₂ (OutStep limit b) (b == 44) (λ e. at_byte 44 (LevelOfMap ps name ∷ ls) next_name f e (omega arith) (ne 44 (inr (omega arith))) tt tt) (λ e.
      chosen₂ (OutStep limit b) (b == 125) (λ e. let k = same_byte 125 e (omega arith) (ne 125 (inr (omega arith))) in out_placed ls (JsonOfMap (merged ps)) (omega arith) k.0 k.1) (λ e.
      chosen₂ (OutStep limit b) (is_whitespace b) (λ e. let k = blank_plain e in is_plain (LevelOfMap ps name ∷ ls) behind f k.0 k.1 tt tt) (λ e. off)))

  out_end : (levels : List Unclosed) (x : Json) → length levels ≤ limit → OutStep limit b (at_end levels x b) (at_end levels x b)
  out_end [] x f = out_skipped [] (done x) f tt tt
  out_end (l ∷ ls) x f = off

  out_follow : (levels : List Unclosed) (x : Json) → length levels ≤ limit → OutStep limit b (behind_placed levels x b) (behind_placed levels x b)
  out_follow [] x f = out_end [] x f
  out_follow (LevelOfList xs ∷ ls) x f = out_behind (LevelOfList (xs ++ (x ∷ [])) ∷ ls) f
  out_follow (LevelOfMap ps name ∷ ls) x f = out_behind (LevelOfMap (ps ++ ((name, x) ∷ [])) [] ∷ ls) f

  out_word : (levels : List Unclosed) (x : Json) (left : List ℕ) → length levels ≤ limit → IsState levels (word x left) → OutStep limit b (in_word levels x left b) (in_word levels x left b)
  out_word levels x [] f h = off
  out_word levels x (w ∷ []) f h =
      let l = h.0 in
      let m = h.1 in
      chosen₂ (OutStep limit b) (b == w) (λ e. let k = same_byte w e (omega arith) (λ n. omega arith) in out_placed levels x f k.0 k.1) (λ e. off)
  out_word levels x (w ∷ d ∷ ws) f h =
      let l = h.0 in
      let m = h.1 in
      chosen₂ (OutStep limit b) (b == w) (λ e. at_byte w levels (word x (d ∷ ws)) f e (omega arith) (λ n. omega arith) tt tt) (λ e. off)

  not_number_high : 128 ≤ b ⊎ (b ≡ 35) → NotNumber b
  not_number_high (inl h) = (grind (arith, nat_tests), grind (arith, nat_tests), grind (arith, nat_tests), grind (arith, nat_tests), grind (arith, nat_tests))
  not_number_high (inr e) = subst NotNumber (sym e) (refl, refl, refl, refl, refl)

  place_plain : (place next : Place) → next_place place b ≡ Some next → (b < 128) × (b ≢ 35)
  place_plain place next e = (by (nat_lt b 128) refl, λ k. let g : None ≡ Some next = sym (no_place place b (not_number_high (inr k))) ∙ e in cc g)
    where
      by : (p : Bool) → nat_lt b 128 ≡ p → b < 128
      by true f = is_below b 128 f
      by false f = let g : None ≡ Some next = sym (no_place place b (not_number_high (inl (is_least b 128 f)))) ∙ e in cc g

  out_number : (levels : List Unclosed) (t : List ℕ) (place : Place) → length levels ≤ limit → OutStep limit b (in_number levels t place b) (in_number levels t place b)
  out_number levels t place f = by (next_place place b) refl
    where
      by : (o : Option Place) → next_place place b ≡ o → OutStep limit b (number_goes levels t place b o) (number_goes levels t place b o)
      by (Some next) e = let k = place_plain place next e in is_plain levels (number (t ++ (b ∷ [])) next) f k.0 k.1 tt tt
      by None e = chosen₂ (OutStep limit b) (ends place) (λ e. chosen₂ (OutStep limit b) (is_utf8 t) (λ e. out_follow levels (Num t) f) (λ e. off)) (λ e. off)

  out_name : (levels : List Unclosed) (stay : Hand) → length levels ≤ limit → IsWhole stay → IsOutside stay → OutStep limit b (name_begins levels stay b) (name_begins levels stay b)
  out_name levels stay f w o = chosen₂ (OutStep limit b) (b == 34) (λ e. out_quote levels Name f e) (λ e. out_skipped levels stay f w o)

  pub out_step : (levels : List Unclosed) (hand : Hand) → length levels ≤ limit → IsState levels hand → IsOutside hand → OutStep limit b (step limit levels hand b) (step (suc limit) levels hand b)
  out_step levels value f h o = out_begin levels value f tt tt
  out_step [] first_item f h o = off
  out_step (LevelOfMap ps name ∷ ls) first_item f h o = off
  out_step (LevelOfList xs ∷ ls) first_item f h o =
      chosen₂ (OutStep limit b) (b == 93) (λ e. let k = same_byte 93 e (omega arith) (ne 93 (inr (omega arith))) in out_placed ls (JsonOfList xs) (omega arith) k.0 k.1) (λ e. out_begin (LevelOfList xs ∷ ls) first_item f tt tt)
  out_step [] first_name f h o = off
  out_step (LevelOfList xs ∷ ls) first_name f h o = off
  out_step (LevelOfMap ps name ∷ ls) first_name f h o =
      chosen₂ (OutStep limit b) (b == 125) (λ e. let k = same_byte 125 e (omega arith) (ne 125 (inr (omega arith))) in out_placed ls (JsonOfMap (merged ps)) (omega arith) k.0 k.1) (λ e. out_name (LevelOfMap ps name ∷ ls) first_name f tt tt)
  out_step levels next_name f h o = out_name levels next_name f tt tt
  out_step levels colon f h o = chosen₂ (OutStep limit b) (b == 58) (λ e. at_byte 58 levels value f e (omega arith) (ne 58 (inr (omega arith))) tt tt) (λ e. out_skipped levels colon f tt tt)
  out_step levels behind f h o = out_behind levels f
  out_step levels (done x) f h o = out_end levels x f
  out_step levels (word x left) f h o = out_word levels x left f h
  out_step levels (number t place) f h o = out_number levels t place f
  out_step levels (text role t part) f h o = absurd o
