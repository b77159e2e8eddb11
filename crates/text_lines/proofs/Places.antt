-- Where a byte or a blank stands first.
use Rattle.std.proofs.Common.{◌≡◌, refl, ◌+◌, ◌<◌, ◌==◌, ◌||◌, ◌≤◌, ℕ, Bool, List, ◌∷◌, ◌++◌, Some, None, false, MatchOption, take, drop, length, position, get_or, sym, ap, subst, ◌∙◌, add-one, drop-cons, take-append-drop, arith}
use Rattle.std.proofs.lemmas.Grind.{common_steps}
use Rattle.std.specs.declared.option.Option.{Option}
use Rattle.std.specs.List.{position_or_len}
use Rattle.std.proofs.lemmas.List.Quantifiers.{position-Some}
use Rattle.std.proofs.lemmas.List.Sums.{fails_before_first}
use Rattle.text_lines.specs.First.{HasNone, IsFirst, HasNoBlank, IsFirstBlank, is_blank}

found : (byte : ℕ) (bytes : List ℕ) (i : ℕ) → position (λ b. b == byte) bytes ≡ Some i → IsFirst byte bytes i
found byte bytes i h =
    let p = position-Some (λ b. b == byte) bytes i 0 h in
    let is : get_or bytes i 0 ≡ byte = grind (arith, p.1) in
    let cons : drop i bytes ≡ get_or bytes i 0 ∷ drop (i + 1) bytes = let within : i < length bytes = p.0 in rw (add-one, drop-cons bytes i 0) refl in
    record {
      within = p.0;
      before = λ k d k_in. let below : k < i = grind (arith, common_steps, k_in) in subst (λ x. (x == byte) ≡ false) (grind (arith, common_steps)) (p.2 k below);
      split = sym (take-append-drop i bytes) ∙ ap (λ l. take i bytes ++ l) (cons ∙ ap (λ x. x ∷ drop (i + 1) bytes) is);
    }

missing : (p : ℕ → Bool) (bytes : List ℕ) → position p bytes ≡ None → (k d : ℕ) → k < length bytes → p (get_or bytes k d) ≡ false
missing p bytes h k d k_in =
    let past : length bytes ≤ position_or_len p bytes = grind (arith, common_steps, h) in
    fails_before_first p bytes k d (omega (arith, past, k_in))

-- the first place of a byte, or that there is none
pub first_is : (byte : ℕ) (bytes : List ℕ) (o : Option ℕ) → o ≡ position (λ b. b == byte) bytes → MatchOption o (HasNone byte bytes) (IsFirst byte bytes)
first_is byte bytes None h = missing (λ b. b == byte) bytes (sym h)
first_is byte bytes (Some i) h = found byte bytes i (sym h)

found_blank : (bytes : List ℕ) (i : ℕ) → position is_blank bytes ≡ Some i → IsFirstBlank bytes i
found_blank bytes i h =
    let p = position-Some is_blank bytes i 0 h in
    let cons : drop i bytes ≡ get_or bytes i 0 ∷ drop (i + 1) bytes = let within : i < length bytes = p.0 in rw (add-one, drop-cons bytes i 0) refl in
    record {
      blank = get_or bytes i 0;
      is = p.1;
      within = p.0;
      before = λ k d k_in. let below : k < i = grind (arith, common_steps, k_in) in subst (λ x. is_blank x ≡ false) (grind (arith, common_steps)) (p.2 k below);
      split = sym (take-append-drop i bytes) ∙ ap (λ l. take i bytes ++ l) cons;
    }

-- the first place of a blank, or that there is none
pub first_blank_is : (bytes : List ℕ) (o : Option ℕ) → o ≡ position is_blank bytes → MatchOption o (HasNoBlank bytes) (IsFirstBlank bytes)
first_blank_is bytes None h = missing is_blank bytes (sym h)
first_blank_is bytes (Some i) h = found_blank bytes i (sym h)

-- a blank is a space or a tab
pub blank_is : (b : ℕ) → is_blank b ≡ ((b == 32) || (b == 9))
unfolding is_blank
blank_is b = refl
