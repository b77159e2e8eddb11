-- One byte: what finishes the machine before it, and after it.
use Rattle.std.proofs.Common.{◌≡◌, ℕ, suc, ◌-◌, ◌<◌, ◌≤◌, List, [], ◌∷◌, ◌++◌, length, Option, Some, None, Result, Ok, Err, Bool, true, false, refl, sym, ap, ◌∙◌, append_assoc, append-nil, arith, cond, subst, ◌⊎◌, inl, inr, ◌||◌}
use Rattle.std.proofs.lemmas.Bool.Decides.{nat_tests}
use Rattle.std.proofs.lemmas.Str.{is_utf8-from_IsUtf8}
use Rattle.std.specs.Prelude.{◌==◌, nat_lt}
use Rattle.std.specs.Char.{is_ascii_digit}
use Rattle.std.specs.Str.{IsUtf8, is_utf8}
use Rattle.sequences.specs.Pairs.{merged}
use Rattle.json_value.specs.declared.Json.{Json}
use Rattle.json_value.specs.declared.Json.TheVariants.{Null, Bool as JsonOfBool, Num, Str, List as JsonOfList, Map as JsonOfMap}
use Rattle.json_text.specs.Grammar.{is_whitespace, Chars, Colon, colon_blank, colon_here, Value, blank, null, yes, no, number as number_of, string as string_of, list as list_of, map as map_of, Items, items_blank, items_none, items_some, MoreItems, more_items_blank, more_items_done, more_items_next, Pairs, pairs_blank, pairs_none, pairs_some, MorePairs, more_pairs_blank, more_pairs_done, more_pairs_next, Pair, pair_blank, pair_named}
use Rattle.json_text.specs.State.Machine.{plain, Hand, value, first_item, first_name, next_name, colon, behind, done, word, number, text, MachineState, state, placed, skipped, opened, begin, begin_word, begin_number, behind_in, at_end, behind_placed, item_first, name_begins, name_first, name_next, at_colon, in_word, next_place, ends, number_goes, in_number, step}
use Rattle.json_text.specs.declared.state.Stop.{Stop}
use Rattle.json_text.specs.declared.state.Stop.TheVariants.{Syntax, Depth}
use Rattle.json_text.specs.declared.state.Place.{Place}
use Rattle.json_text.specs.declared.state.Place.TheVariants.{Minus, Nought, Whole}
use Rattle.json_text.specs.declared.state.Role.TheVariants.{Name, Content}
use Rattle.json_text.specs.State.Opened.{Unclosed}
use Rattle.json_text.specs.State.Opened.{list as LevelOfList, map as LevelOfMap}
use Rattle.json_text.proofs.Basics.{head_same, tail_same, is_byte, other_is, is_below, below_is, same_is}
use Rattle.json_text.proofs.NumberLemmas.{first_place, Completed, numeral_to, numeral_from, NotNumber, no_place, not_number, either}
use Rattle.json_text.proofs.Finishes.{Rest, OfBehind, OfValue, OfFirstItem, OfFirstName, OfNextName, OfColon, OfDone, OfWord, Completes, OfNumber, Finishes, Goes, IsState}
use Rattle.json_text.proofs.TextSteps.{Same, text_same}

-- a choice by the byte, at the byte itself
moved : (limit : ℕ) (go : ℕ → Result MachineState Stop) (c : List ℕ) (v : Json) {b d : ℕ} → b ≡ d → Goes limit (go d) c v → Goes limit (go b) c v
moved limit go c v e h = subst (λ x. Goes limit (go x) c v) (sym e) h

-- ---- white space
pub blank_cases : (b : ℕ) → is_whitespace b ≡ true → (b ≡ 32) ⊎ ((b ≡ 10) ⊎ ((b ≡ 13) ⊎ (b ≡ 9)))
blank_cases b = by (b == 32) (b == 10) (b == 13) (b == 9) refl refl refl refl
  where
    by : (p q r s : Bool) → (b == 32) ≡ p → (b == 10) ≡ q → (b == 13) ≡ r → (b == 9) ≡ s → (p || q || r || s) ≡ true → (b ≡ 32) ⊎ ((b ≡ 10) ⊎ ((b ≡ 13) ⊎ (b ≡ 9)))
    by true q r s e f g h k = inl (is_byte b 32 e)
    by false true r s e f g h k = inr (inl (is_byte b 10 f))
    by false false true s e f g h k = inr (inr (inl (is_byte b 13 g)))
    by false false false true e f g h k = inr (inr (inr (is_byte b 9 h)))
    by false false false false e f g h k = cc k

-- what holds at each byte of white space
pub at_blank : (P : ℕ → Type 0) (b : ℕ) → is_whitespace b ≡ true → P 32 → P 10 → P 13 → P 9 → P b
at_blank P b e h₁ h₂ h₃ h₄ = by (blank_cases b e)
  where
    by : (b ≡ 32) ⊎ ((b ≡ 10) ⊎ ((b ≡ 13) ⊎ (b ≡ 9))) → P b
    by (inl e) = subst P (sym e) h₁
    by (inr (inl e)) = subst P (sym e) h₂
    by (inr (inr (inl e))) = subst P (sym e) h₃
    by (inr (inr (inr e))) = subst P (sym e) h₄

-- a byte that is white space is none that isn't
blank_not : (b d : ℕ) → is_whitespace b ≡ true → is_whitespace d ≡ false → (b == d) ≡ false
blank_not b d e f = other_is b d (λ k. let g : true ≡ false = sym e ∙ ap is_whitespace k ∙ f in cc g)

skipped_to : (limit : ℕ) (levels : List Unclosed) (stay : Hand) (b : ℕ) (c : List ℕ) (v : Json) → is_whitespace b ≡ true → Finishes limit levels stay c v → Goes limit (skipped levels stay b) c v
skipped_to limit levels stay b c v e h = rw e h

skipped_from : (limit : ℕ) (levels : List Unclosed) (stay : Hand) (b : ℕ) (c : List ℕ) (v : Json) → Goes limit (skipped levels stay b) c v → (is_whitespace b ≡ true) × Finishes limit levels stay c v
skipped_from limit levels stay b c v = by (is_whitespace b) refl
  where
    by : (p : Bool) → is_whitespace b ≡ p → Goes limit (cond p (Ok (state levels stay)) (Err Syntax)) c v → (is_whitespace b ≡ true) × Finishes limit levels stay c v
    by true e h = (e, h)
    by false e h = absurd h

-- ---- a value that was put where it belongs
placed_to : (limit : ℕ) (levels : List Unclosed) (x : Json) (c : List ℕ) (v : Json) → Rest limit levels x c v → Goes limit (Ok (placed levels x)) c v
placed_to limit [] x c v h = h
placed_to limit (LevelOfList xs ∷ ls) x c v h = h
placed_to limit (LevelOfMap ps name ∷ ls) x c v h = h

placed_from : (limit : ℕ) (levels : List Unclosed) (x : Json) (c : List ℕ) (v : Json) → Goes limit (Ok (placed levels x)) c v → Rest limit levels x c v
placed_from limit [] x c v h = h
placed_from limit (LevelOfList xs ∷ ls) x c v h = h
placed_from limit (LevelOfMap ps name ∷ ls) x c v h = h

more_one : (xs : List Json) (x : Json) (others : List Json) → xs ++ (x ∷ others) ≡ (xs ++ (x ∷ [])) ++ others
more_one xs x others = sym (append_assoc xs (x ∷ []) others)

more_pair : (ps : List (List ℕ × Json)) (p : List ℕ × Json) (others : List (List ℕ × Json)) → ps ++ (p ∷ others) ≡ (ps ++ (p ∷ [])) ++ others
more_pair ps p others = sym (append_assoc ps (p ∷ []) others)

-- ---- behind a value of a list or an object
item_to : (limit : ℕ) (xs : List Json) (ls : List Unclosed) (b : ℕ) (c : List ℕ) (v : Json) (others : List Json) (rest : List ℕ)
    → MoreItems (limit - suc (length ls)) (b ∷ c) others rest → Rest limit ls (JsonOfList (xs ++ others)) rest v → Goes limit (behind_in (LevelOfList xs ∷ ls) b) c v
item_to limit xs ls b c v others rest (more_items_blank r bytes items rest' d m e f k) h =
    let is = ap is_whitespace (head_same e) ∙ f in
    let p = blank_not b 44 is refl in
    let q = blank_not b 93 is refl in
    rw (p, q, is) (others, rest, subst (λ x. MoreItems (limit - suc (length ls)) x others rest) (sym (tail_same e)) k, h)
item_to limit xs ls b c v others rest (more_items_done r bytes items rest' e f) h =
    moved limit (behind_in (LevelOfList xs ∷ ls)) c v (head_same e)
    (placed_to limit ls (JsonOfList xs) c v (subst (λ x. Rest limit ls (JsonOfList xs) x v) (sym (tail_same e)) (subst (λ x. Rest limit ls (JsonOfList x) rest v) (ap (λ x. xs ++ x) f ∙ append-nil xs) h)))
item_to limit xs ls b c v others rest (more_items_next r bytes items rest' m mid first others' e f k l) h =
    moved limit (behind_in (LevelOfList xs ∷ ls)) c v (head_same e) (
      first,
      mid,
      subst (λ x. Value (limit - suc (length ls)) x first mid) (sym (tail_same e)) k,
      (others', rest, l, subst (λ x. Rest limit ls (JsonOfList x) rest v) (ap (λ x. xs ++ x) f ∙ more_one xs first others') h),
    )

item_from : (limit : ℕ) (xs : List Json) (ls : List Unclosed) (b : ℕ) (c : List ℕ) (v : Json) → Goes limit (behind_in (LevelOfList xs ∷ ls) b) c v → OfBehind limit (LevelOfList xs ∷ ls) (b ∷ c) v
item_from limit xs ls b c v = by (b == 44) (b == 93) (is_whitespace b) refl refl refl
  where
    comma : b ≡ 44 → OfValue limit (LevelOfList xs ∷ ls) c v → OfBehind limit (LevelOfList xs ∷ ls) (b ∷ c) v
    comma e (first, mid, is, (others, rest, are, h)) = (
      first ∷ others,
      rest,
      more_items_next _ (b ∷ c) _ _ c mid first others (ap (λ x. x ∷ c) e) refl is are,
      subst (λ x. Rest limit ls (JsonOfList x) rest v) (sym (more_one xs first others)) h,
    )

    by : (p q r : Bool) → (b == 44) ≡ p → (b == 93) ≡ q → is_whitespace b ≡ r
        → Goes limit (cond p (Ok (state (LevelOfList xs ∷ ls) value)) (cond q (Ok (placed ls (JsonOfList xs))) (cond r (Ok (state (LevelOfList xs ∷ ls) behind)) (Err Syntax)))) c v
        → OfBehind limit (LevelOfList xs ∷ ls) (b ∷ c) v
    by true q r e f g h = comma (is_byte b 44 e) h
    by false true r e f g h = (
      [],
      c,
      more_items_done _ (b ∷ c) [] c (ap (λ x. x ∷ c) (is_byte b 93 f)) refl,
      subst (λ x. Rest limit ls (JsonOfList x) c v) (sym (append-nil xs)) (placed_from limit ls (JsonOfList xs) c v h),
    )
    by false false true e f g h = (h.0, h.1, more_items_blank _ (b ∷ c) h.0 h.1 b c refl g h.2, h.3)
    by false false false e f g h = absurd h

pair_to : (limit : ℕ) (ps : List (List ℕ × Json)) (name : List ℕ) (ls : List Unclosed) (b : ℕ) (c : List ℕ) (v : Json) (others : List (List ℕ × Json)) (rest : List ℕ)
    → MorePairs (limit - suc (length ls)) (b ∷ c) others rest → Rest limit ls (JsonOfMap (merged (ps ++ others))) rest v → Goes limit (behind_in (LevelOfMap ps name ∷ ls) b) c v
pair_to limit ps name ls b c v others rest (more_pairs_blank r bytes pairs rest' d m e f k) h =
    let is = ap is_whitespace (head_same e) ∙ f in
    let p = blank_not b 44 is refl in
    let q = blank_not b 125 is refl in
    rw (p, q, is) (others, rest, subst (λ x. MorePairs (limit - suc (length ls)) x others rest) (sym (tail_same e)) k, h)
pair_to limit ps name ls b c v others rest (more_pairs_done r bytes pairs rest' e f) h =
    moved limit (behind_in (LevelOfMap ps name ∷ ls)) c v (head_same e)
    (placed_to limit ls (JsonOfMap (merged ps)) c v
    (subst (λ x. Rest limit ls (JsonOfMap (merged ps)) x v) (sym (tail_same e)) (subst (λ x. Rest limit ls (JsonOfMap (merged x)) rest v) (ap (λ x. ps ++ x) f ∙ append-nil ps) h)))
pair_to limit ps name ls b c v others rest (more_pairs_next r bytes pairs rest' m mid n x others' e f k l) h =
    moved limit (behind_in (LevelOfMap ps name ∷ ls)) c v (head_same e) (
      n,
      x,
      mid,
      subst (λ y. Pair (limit - suc (length ls)) y n x mid) (sym (tail_same e)) k,
      (others', rest, l, subst (λ y. Rest limit ls (JsonOfMap (merged y)) rest v) (ap (λ y. ps ++ y) f ∙ more_pair ps (n, x) others') h),
    )

pair_from : (limit : ℕ) (ps : List (List ℕ × Json)) (name : List ℕ) (ls : List Unclosed) (b : ℕ) (c : List ℕ) (v : Json) → Goes limit (behind_in (LevelOfMap ps name ∷ ls) b) c v → OfBehind limit (LevelOfMap ps name ∷ ls) (b ∷ c) v
pair_from limit ps name ls b c v = by (b == 44) (b == 125) (is_whitespace b) refl refl refl
  where
    comma : b ≡ 44 → OfNextName limit (LevelOfMap ps name ∷ ls) c v → OfBehind limit (LevelOfMap ps name ∷ ls) (b ∷ c) v
    comma e (n, x, mid, is, (others, rest, are, h)) = (
      (n, x) ∷ others,
      rest,
      more_pairs_next _ (b ∷ c) _ _ c mid n x others (ap (λ y. y ∷ c) e) refl is are,
      subst (λ y. Rest limit ls (JsonOfMap (merged y)) rest v) (sym (more_pair ps (n, x) others)) h,
    )

    by : (p q r : Bool) → (b == 44) ≡ p → (b == 125) ≡ q → is_whitespace b ≡ r
        → Goes limit (cond p (Ok (state (LevelOfMap ps name ∷ ls) next_name)) (cond q (Ok (placed ls (JsonOfMap (merged ps)))) (cond r (Ok (state (LevelOfMap ps name ∷ ls) behind)) (Err Syntax)))) c v
        → OfBehind limit (LevelOfMap ps name ∷ ls) (b ∷ c) v
    by true q r e f g h = comma (is_byte b 44 e) h
    by false true r e f g h = (
      [],
      c,
      more_pairs_done _ (b ∷ c) [] c (ap (λ x. x ∷ c) (is_byte b 125 f)) refl,
      subst (λ x. Rest limit ls (JsonOfMap (merged x)) c v) (sym (append-nil ps)) (placed_from limit ls (JsonOfMap (merged ps)) c v h),
    )
    by false false true e f g h = (h.0, h.1, more_pairs_blank _ (b ∷ c) h.0 h.1 b c refl g h.2, h.3)
    by false false false e f g h = absurd h

behind_same : (limit : ℕ) (levels : List Unclosed) (b : ℕ) (c : List ℕ) (v : Json) → Same (OfBehind limit levels (b ∷ c) v) (Goes limit (behind_in levels b) c v)
behind_same limit [] b c v = (λ h. absurd h, λ h. absurd h)
behind_same limit (LevelOfList xs ∷ ls) b c v = (λ h. item_to limit xs ls b c v h.0 h.1 h.2 h.3, item_from limit xs ls b c v)
behind_same limit (LevelOfMap ps name ∷ ls) b c v = (λ h. pair_to limit ps name ls b c v h.0 h.1 h.2 h.3, pair_from limit ps name ls b c v)

-- ---- behind the whole value
done_same : (limit : ℕ) (levels : List Unclosed) (x : Json) (b : ℕ) (c : List ℕ) (v : Json) → Same (OfDone levels x (b ∷ c) v) (Goes limit (at_end levels x b) c v)
done_same limit [] x b c v = (λ h. skipped_to limit [] (done x) b c v h.0.0 (h.0.1, h.1), λ h. let k = skipped_from limit [] (done x) b c v h in ((k.0, k.1.0), k.1.1))
done_same limit (l ∷ ls) x b c v = (λ h. absurd h, λ h. absurd h)

-- behind a value
follow_same : (limit : ℕ) (levels : List Unclosed) (x : Json) (b : ℕ) (c : List ℕ) (v : Json) → Same (Rest limit levels x (b ∷ c) v) (Goes limit (behind_placed levels x b) c v)
follow_same limit [] x b c v = done_same limit [] x b c v
follow_same limit (LevelOfList xs ∷ ls) x b c v = behind_same limit (LevelOfList (xs ++ (x ∷ [])) ∷ ls) b c v
follow_same limit (LevelOfMap ps name ∷ ls) x b c v = behind_same limit (LevelOfMap (ps ++ ((name, x) ∷ [])) [] ∷ ls) b c v

-- ---- in a word
word_to : (limit : ℕ) (levels : List Unclosed) (x : Json) (w : ℕ) (left : List ℕ) (b : ℕ) (c : List ℕ) (v : Json) (rest : List ℕ) → b ∷ c ≡ w ∷ (left ++ rest) → Rest limit levels x rest v → Goes limit (in_word levels x (w ∷ left) b) c v
word_to limit levels x w [] b c v rest e h = let t : (b == w) ≡ true = same_is b w (head_same e) in rw t (placed_to limit levels x c v (subst (λ y. Rest limit levels x y v) (sym (tail_same e)) h))
word_to limit levels x w (d ∷ left) b c v rest e h = let t : (b == w) ≡ true = same_is b w (head_same e) in rw t (rest, tail_same e, h)

word_from : (limit : ℕ) (levels : List Unclosed) (x : Json) (w : ℕ) (left : List ℕ) (b : ℕ) (c : List ℕ) (v : Json) → Goes limit (in_word levels x (w ∷ left) b) c v → OfWord limit levels x (w ∷ left) (b ∷ c) v
word_from limit levels x w [] b c v = by (b == w) refl
  where
    by : (p : Bool) → (b == w) ≡ p → Goes limit (cond p (Ok (placed levels x)) (Err Syntax)) c v → OfWord limit levels x (w ∷ []) (b ∷ c) v
    by true e h = (c, ap (λ y. y ∷ c) (is_byte b w e), placed_from limit levels x c v h)
    by false e h = absurd h
word_from limit levels x w (d ∷ left) b c v = by (b == w) refl
  where
    by : (p : Bool) → (b == w) ≡ p → Goes limit (cond p (Ok (state levels (word x (d ∷ left)))) (Err Syntax)) c v → OfWord limit levels x (w ∷ d ∷ left) (b ∷ c) v
    by true e h = (h.0, ap (λ y. y ∷ c) (is_byte b w e) ∙ ap (λ y. w ∷ y) h.1, h.2)
    by false e h = absurd h

word_same : (limit : ℕ) (levels : List Unclosed) (x : Json) (left : List ℕ) (b : ℕ) (c : List ℕ) (v : Json) → Same (OfWord limit levels x left (b ∷ c) v) (Goes limit (in_word levels x left b) c v)
word_same limit levels x [] b c v = (λ h. absurd h, λ h. absurd h)
word_same limit levels x (w ∷ left) b c v = (λ h. word_to limit levels x w left b c v h.0 h.1 h.2, word_from limit levels x w left b c v)

-- ---- in a numeral
after_more : (limit : ℕ) (ls : List Unclosed) (xs : List Json) (b : ℕ) (c : List ℕ) (others : List Json) (rest : List ℕ) → MoreItems limit (b ∷ c) others rest → NotNumber b
after_more limit ls xs b c others rest (more_items_blank r bytes items rest' d m e f k) =
    at_blank NotNumber b (ap is_whitespace (head_same e) ∙ f) (refl, refl, refl, refl, refl) (refl, refl, refl, refl, refl) (refl, refl, refl, refl, refl) (refl, refl, refl, refl, refl)
after_more limit ls xs b c others rest (more_items_done r bytes items rest' e f) = not_number b 93 (refl, refl, refl, refl, refl) (head_same e)
after_more limit ls xs b c others rest (more_items_next r bytes items rest' m mid first others' e f k l) = not_number b 44 (refl, refl, refl, refl, refl) (head_same e)

after_pairs : (room : ℕ) (b : ℕ) (c : List ℕ) (others : List (List ℕ × Json)) (rest : List ℕ) → MorePairs room (b ∷ c) others rest → NotNumber b
after_pairs room b c others rest (more_pairs_blank r bytes items rest' d m e f k) =
    at_blank NotNumber b (ap is_whitespace (head_same e) ∙ f) (refl, refl, refl, refl, refl) (refl, refl, refl, refl, refl) (refl, refl, refl, refl, refl) (refl, refl, refl, refl, refl)
after_pairs room b c others rest (more_pairs_done r bytes items rest' e f) = not_number b 125 (refl, refl, refl, refl, refl) (head_same e)
after_pairs room b c others rest (more_pairs_next r bytes items rest' m mid n x others' e f k l) = not_number b 44 (refl, refl, refl, refl, refl) (head_same e)

after_value : (limit : ℕ) (levels : List Unclosed) (x : Json) (b : ℕ) (c : List ℕ) (v : Json) → Rest limit levels x (b ∷ c) v → NotNumber b
after_value limit [] x b c v h = at_blank NotNumber b h.0.0 (refl, refl, refl, refl, refl) (refl, refl, refl, refl, refl) (refl, refl, refl, refl, refl) (refl, refl, refl, refl, refl)
after_value limit (LevelOfList xs ∷ ls) x b c v h = after_more (limit - suc (length ls)) ls xs b c h.0 h.1 h.2
after_value limit (LevelOfMap ps name ∷ ls) x b c v h = after_pairs (limit - suc (length ls)) b c h.0 h.1 h.2

number_to : (limit : ℕ) (levels : List Unclosed) (t : List ℕ) (place : Place) (b : ℕ) (c : List ℕ) (v : Json) → IsUtf8 t → (more rest : List ℕ) → b ∷ c ≡ more ++ rest → Completes (Some place) more → Rest limit levels (Num (t ++ more)) rest v
    → Goes limit (in_number levels t place b) c v
number_to limit levels t place b c v u [] rest e k h =
    let h' : Rest limit levels (Num t) (b ∷ c) v = subst (λ y. Rest limit levels (Num t) y v) (sym e) (subst (λ y. Rest limit levels (Num y) rest v) (append-nil t) h) in
    let p = no_place place b (after_value limit levels (Num t) b c v h') in
    let q = is_utf8-from_IsUtf8 t u in
    rw (p, k, q) ((follow_same limit levels (Num t) b c v).0 h')
number_to limit levels t place b c v u (x ∷ more) rest e k h = by (next_place place b) (subst (λ y. Completes (next_place place y) more) (sym (head_same e)) k)
  where
    by : (o : Option Place) → Completes o more → Goes limit (number_goes levels t place b o) c v
    by None k = absurd k
    by (Some p) k = (
      more,
      rest,
      tail_same e,
      k,
      subst (λ y. Rest limit levels (Num y) rest v) (sym (append_assoc t (b ∷ []) more)) (subst (λ y. Rest limit levels (Num (t ++ (y ∷ more))) rest v) (sym (head_same e)) h),
    )

number_from : (limit : ℕ) (levels : List Unclosed) (t : List ℕ) (place : Place) (b : ℕ) (c : List ℕ) (v : Json) → IsUtf8 t → Goes limit (in_number levels t place b) c v → OfNumber limit levels t place (b ∷ c) v
number_from limit levels t place b c v u = by (next_place place b) refl
  where
    ended : (p : Bool) → ends place ≡ p → Goes limit (cond p (cond (is_utf8 t) (behind_placed levels (Num t) b) (Err Syntax)) (Err Syntax)) c v → OfNumber limit levels t place (b ∷ c) v
    ended true e h =
        let g : Goes limit (behind_placed levels (Num t) b) c v = rw (is_utf8-from_IsUtf8 t u) at h in
        ([], b ∷ c, refl, e, subst (λ y. Rest limit levels (Num y) (b ∷ c) v) (sym (append-nil t)) ((follow_same limit levels (Num t) b c v).1 g))
    ended false e h = absurd h

    by : (o : Option Place) → next_place place b ≡ o → Goes limit (number_goes levels t place b o) c v → OfNumber limit levels t place (b ∷ c) v
    by (Some p) e h = (
      b ∷ h.0,
      h.1,
      ap (λ y. b ∷ y) h.2,
      subst (λ o. Completes o h.0) (sym e) h.3,
      subst (λ y. Rest limit levels (Num y) h.1 v) (append_assoc t (b ∷ []) h.0) h.4,
    )
    by None e h = ended (ends place) refl h

-- ---- a value begins
opened_to : (limit : ℕ) (levels : List Unclosed) (level : Unclosed) (hand : Hand) (c : List ℕ) (v : Json) → length levels < limit → Finishes limit (level ∷ levels) hand c v → Goes limit (opened limit levels level hand) c v
opened_to limit levels level hand c v l h = rw (below_is (length levels) limit l) h

opened_from : (limit : ℕ) (levels : List Unclosed) (level : Unclosed) (hand : Hand) (c : List ℕ) (v : Json) → Goes limit (opened limit levels level hand) c v → (length levels < limit) × Finishes limit (level ∷ levels) hand c v
opened_from limit levels level hand c v = by (nat_lt (length levels) limit) refl
  where
    by : (p : Bool) → nat_lt (length levels) limit ≡ p → Goes limit (cond p (Ok (state (level ∷ levels) hand)) (Err Depth)) c v → (length levels < limit) × Finishes limit (level ∷ levels) hand c v
    by true e h = (is_below _ _ e, h)
    by false e h = absurd h

room_below : (limit n inner : ℕ) → limit - n ≡ suc inner → n < limit
room_below limit n inner e = omega arith

room_inner : (limit n inner : ℕ) → limit - n ≡ suc inner → inner ≡ limit - suc n
room_inner limit n inner e = omega arith

room_made : (limit n : ℕ) → n < limit → limit - n ≡ suc (limit - suc n)
room_made limit n h = omega arith

-- a first byte of a numeral
first_number : (limit : ℕ) (levels : List Unclosed) (stay : Hand) (b : ℕ) (c : List ℕ) (v : Json) (more rest : List ℕ) → Completes (first_place b) more → c ≡ more ++ rest → Rest limit levels (Num (b ∷ more)) rest v
    → Goes limit (begin limit levels stay b) c v
first_number limit levels stay b c v more rest k e h = by (either (b == 45) (Some Minus) (cond (b == 48) (Some Nought) (cond (is_ascii_digit b) (Some Whole) None)) more k)
  where
    digit : is_ascii_digit b ≡ true → (b == 45) ≡ false → (b == 48) ≡ false → Completes (Some Whole) more → Goes limit (begin limit levels stay b) c v
    digit i p q k' =
        let n : (48 ≤ b) × (b ≤ 57) = (grind (arith, nat_tests), grind (arith, nat_tests)) in
        let l = n.0 in
        let m = n.1 in
        let x1 : (b == 34) ≡ false = other_is b 34 (λ z. absurd (omega arith)) in
        let x2 : (b == 91) ≡ false = other_is b 91 (λ z. absurd (omega arith)) in
        let x3 : (b == 123) ≡ false = other_is b 123 (λ z. absurd (omega arith)) in
        let x4 : (b == 110) ≡ false = other_is b 110 (λ z. absurd (omega arith)) in
        let x5 : (b == 116) ≡ false = other_is b 116 (λ z. absurd (omega arith)) in
        let x6 : (b == 102) ≡ false = other_is b 102 (λ z. absurd (omega arith)) in
        rw (x1, x2, x3, x4, x5, x6, p, q, i) (more, rest, e, k', h)

    by₂ : (b == 45) ≡ false → ((b == 48) ≡ false) × Completes (cond (is_ascii_digit b) (Some Whole) None) more → Goes limit (begin limit levels stay b) c v
    by₂ p q = elim (either (is_ascii_digit b) (Some Whole) None more q.1) as (λ _. Goes limit (begin limit levels stay b) c v) [ inl r ↦ digit r.0 p q.0 r.1 | inr r ↦ absurd r.1 ]

    by₁ : (b == 45) ≡ false → (((b == 48) ≡ true) × Completes (Some Nought) more) ⊎ (((b == 48) ≡ false) × Completes (cond (is_ascii_digit b) (Some Whole) None) more) → Goes limit (begin limit levels stay b) c v
    by₁ p (inl q) = let n = is_byte b 48 q.0 in moved limit (begin limit levels stay) c v n (more, rest, e, q.1, subst (λ y. Rest limit levels (Num (y ∷ more)) rest v) n h)
    by₁ p (inr q) = by₂ p q

    by : (((b == 45) ≡ true) × Completes (Some Minus) more) ⊎ (((b == 45) ≡ false) × Completes (cond (b == 48) (Some Nought) (cond (is_ascii_digit b) (Some Whole) None)) more) → Goes limit (begin limit levels stay b) c v
    by (inl p) = let n = is_byte b 45 p.0 in moved limit (begin limit levels stay) c v n (more, rest, e, p.1, subst (λ y. Rest limit levels (Num (y ∷ more)) rest v) n h)
    by (inr p) = by₁ p.0 (either (b == 48) (Some Nought) (cond (is_ascii_digit b) (Some Whole) None) more p.1)

pub begin_blank : (limit : ℕ) (levels : List Unclosed) (stay : Hand) (b : ℕ) → is_whitespace b ≡ true → begin limit levels stay b ≡ Ok (state levels stay)
begin_blank limit levels stay b e = at_blank (λ x. begin limit levels stay x ≡ Ok (state levels stay)) b e refl refl refl refl

begin_to : (limit : ℕ) (levels : List Unclosed) (stay : Hand) (b : ℕ) (c : List ℕ) (v : Json) (x : Json) (rest : List ℕ) → Value (limit - length levels) (b ∷ c) x rest → Rest limit levels x rest v
    → (Value (limit - length levels) c x rest → Finishes limit levels stay c v) → Goes limit (begin limit levels stay b) c v
begin_to limit levels stay b c v x rest (blank r bytes y rest' d m e f k) h keeps =
    let is = ap is_whitespace (head_same e) ∙ f in
    subst (λ z. Goes limit z c v) (sym (begin_blank limit levels stay b is)) (keeps (subst (λ z. Value (limit - length levels) z x rest) (sym (tail_same e)) k))
begin_to limit levels stay b c v x rest (null r bytes y rest' e f) h keeps = moved limit (begin limit levels stay) c v (head_same e) (rest, tail_same e, subst (λ z. Rest limit levels z rest v) f h)
begin_to limit levels stay b c v x rest (yes r bytes y rest' e f) h keeps = moved limit (begin limit levels stay) c v (head_same e) (rest, tail_same e, subst (λ z. Rest limit levels z rest v) f h)
begin_to limit levels stay b c v x rest (no r bytes y rest' e f) h keeps = moved limit (begin limit levels stay) c v (head_same e) (rest, tail_same e, subst (λ z. Rest limit levels z rest v) f h)
begin_to limit levels stay b c v x rest (number_of r bytes y rest' spelled e f k) h keeps = by spelled e (numeral_to spelled k) (subst (λ z. Rest limit levels z rest v) f h)
  where
    by : (s : List ℕ) → b ∷ c ≡ s ++ rest → Completed s → Rest limit levels (Num s) rest v → Goes limit (begin limit levels stay b) c v
    by [] e k h = absurd k
    by (d ∷ more) e k h =
        first_number limit levels stay b c v more rest (subst (λ z. Completes (first_place z) more) (sym (head_same e)) k) (tail_same e)
        (subst (λ z. Rest limit levels (Num (z ∷ more)) rest v) (sym (head_same e)) h)
begin_to limit levels stay b c v x rest (string_of r bytes y rest' m t e f k) h keeps =
    moved limit (begin limit levels stay) c v (head_same e) (t, rest, subst (λ z. Chars z t rest) (sym (tail_same e)) k, subst (λ z. Rest limit levels z rest v) f h)
begin_to limit levels stay b c v x rest (list_of r bytes y rest' inner m items n e f k) h keeps =
    moved limit (begin limit levels stay) c v (head_same e) (opened_to limit levels (LevelOfList []) first_item c v (room_below limit (length levels) inner n) (
      items,
      rest,
      subst (λ z. Items z c items rest) (room_inner limit (length levels) inner n) (subst (λ z. Items inner z items rest) (sym (tail_same e)) k),
      subst (λ z. Rest limit levels z rest v) f h,
    ))
begin_to limit levels stay b c v x rest (map_of r bytes y rest' inner m pairs n e f k) h keeps =
    moved limit (begin limit levels stay) c v (head_same e) (opened_to limit levels (LevelOfMap [] []) first_name c v (room_below limit (length levels) inner n) (
      pairs,
      rest,
      subst (λ z. Pairs z c pairs rest) (room_inner limit (length levels) inner n) (subst (λ z. Pairs inner z pairs rest) (sym (tail_same e)) k),
      subst (λ z. Rest limit levels z rest v) f h,
    ))

-- what a step at the start of a value comes from: a value, or white space
module _ (limit : ℕ) (levels : List Unclosed) (stay : Hand) (b : ℕ) (c : List ℕ) (v : Json) where
  a_number : (place : Place) → first_place b ≡ Some place → OfNumber limit levels (b ∷ []) place c v → OfValue limit levels (b ∷ c) v
  a_number place e h =
      (Num (b ∷ h.0), h.1, number_of _ (b ∷ c) (Num (b ∷ h.0)) h.1 (b ∷ h.0) (ap (λ y. b ∷ y) h.2) refl (numeral_from (b ∷ h.0) (subst (λ o. Completes o h.0) (sym e) h.3)), h.4)

  a_list : b ≡ 91 → length levels < limit → OfFirstItem limit (LevelOfList [] ∷ levels) c v → OfValue limit levels (b ∷ c) v
  a_list e l h = (JsonOfList h.0, h.1, list_of _ (b ∷ c) (JsonOfList h.0) h.1 (limit - suc (length levels)) c h.0 (room_made limit (length levels) l) (ap (λ y. y ∷ c) e) refl h.2, h.3)

  a_map : b ≡ 123 → length levels < limit → OfFirstName limit (LevelOfMap [] [] ∷ levels) c v → OfValue limit levels (b ∷ c) v
  a_map e l h = (JsonOfMap (merged h.0), h.1, map_of _ (b ∷ c) (JsonOfMap (merged h.0)) h.1 (limit - suc (length levels)) c h.0 (room_made limit (length levels) l) (ap (λ y. y ∷ c) e) refl h.2, h.3)

  number_began : Goes limit (begin_number levels stay b) c v → OfValue limit levels (b ∷ c) v ⊎ ((is_whitespace b ≡ true) × Finishes limit levels stay c v)
  number_began = by (b == 45) (b == 48) (is_ascii_digit b) refl refl refl
    where
      by : (p q r : Bool) → (b == 45) ≡ p → (b == 48) ≡ q → is_ascii_digit b ≡ r
          → Goes limit (cond p (Ok (state levels (number (b ∷ []) Minus))) (cond q (Ok (state levels (number (b ∷ []) Nought))) (cond r (Ok (state levels (number (b ∷ []) Whole))) (skipped levels stay b)))) c v
          → OfValue limit levels (b ∷ c) v ⊎ ((is_whitespace b ≡ true) × Finishes limit levels stay c v)
      by true q r e f g h = inl (a_number Minus (rw e refl) h)
      by false true r e f g h = inl (a_number Nought (rw (e, f) refl) h)
      by false false true e f g h = inl (a_number Whole (rw (e, f, g) refl) h)
      by false false false e f g h = inr (skipped_from limit levels stay b c v h)

  word_began : Goes limit (begin_word levels stay b) c v → OfValue limit levels (b ∷ c) v ⊎ ((is_whitespace b ≡ true) × Finishes limit levels stay c v)
  word_began = by (b == 110) (b == 116) (b == 102) refl refl refl
    where
      by : (p q r : Bool) → (b == 110) ≡ p → (b == 116) ≡ q → (b == 102) ≡ r
          → Goes limit (cond p (Ok (state levels (word Null (117 ∷ 108 ∷ 108 ∷ [])))) (cond q (Ok (state levels (word (JsonOfBool true) (114 ∷ 117 ∷ 101 ∷ [])))) (cond r (Ok (state levels (word (JsonOfBool false) (97 ∷ 108 ∷ 115 ∷ 101 ∷ [])))) (begin_number levels stay b)))) c v
          → OfValue limit levels (b ∷ c) v ⊎ ((is_whitespace b ≡ true) × Finishes limit levels stay c v)
      by true q r e f g h = inl (Null, h.0, null _ (b ∷ c) Null h.0 (ap (λ y. y ∷ c) (is_byte b 110 e) ∙ ap (λ y. 110 ∷ y) h.1) refl, h.2)
      by false true r e f g h = inl (JsonOfBool true, h.0, yes _ (b ∷ c) (JsonOfBool true) h.0 (ap (λ y. y ∷ c) (is_byte b 116 f) ∙ ap (λ y. 116 ∷ y) h.1) refl, h.2)
      by false false true e f g h = inl (JsonOfBool false, h.0, no _ (b ∷ c) (JsonOfBool false) h.0 (ap (λ y. y ∷ c) (is_byte b 102 g) ∙ ap (λ y. 102 ∷ y) h.1) refl, h.2)
      by false false false e f g h = number_began h

  began : Goes limit (begin limit levels stay b) c v → OfValue limit levels (b ∷ c) v ⊎ ((is_whitespace b ≡ true) × Finishes limit levels stay c v)
  began = by (b == 34) (b == 91) (b == 123) refl refl refl
    where
      by : (p q r : Bool) → (b == 34) ≡ p → (b == 91) ≡ q → (b == 123) ≡ r
          → Goes limit (cond p (Ok (state levels (text Content [] plain))) (cond q (opened limit levels (LevelOfList []) first_item) (cond r (opened limit levels (LevelOfMap [] []) first_name) (begin_word levels stay b)))) c v
          → OfValue limit levels (b ∷ c) v ⊎ ((is_whitespace b ≡ true) × Finishes limit levels stay c v)
      by true q r e f g h = inl (Str h.0, h.1, string_of _ (b ∷ c) (Str h.0) h.1 c h.0 (ap (λ y. y ∷ c) (is_byte b 34 e)) refl h.2, h.3)
      by false true r e f g h = let o = opened_from limit levels (LevelOfList []) first_item c v h in inl (a_list (is_byte b 91 f) o.0 o.1)
      by false false true e f g h = let o = opened_from limit levels (LevelOfMap [] []) first_name c v h in inl (a_map (is_byte b 123 g) o.0 o.1)
      by false false false e f g h = word_began h

value_same : (limit : ℕ) (levels : List Unclosed) (b : ℕ) (c : List ℕ) (v : Json) → Same (OfValue limit levels (b ∷ c) v) (Goes limit (begin limit levels value b) c v)
value_same limit levels b c v = (λ h. begin_to limit levels value b c v h.0 h.1 h.2 h.3 (λ k. (h.0, h.1, k, h.3)), λ g. from (began limit levels value b c v g))
  where
    from : OfValue limit levels (b ∷ c) v ⊎ ((is_whitespace b ≡ true) × OfValue limit levels c v) → OfValue limit levels (b ∷ c) v
    from (inl h) = h
    from (inr h) = (h.1.0, h.1.1, blank _ (b ∷ c) h.1.0 h.1.1 b c refl h.0 h.1.2, h.1.3)

-- ---- behind the bracket of a list
not_bracket : (room : ℕ) (b : ℕ) (c : List ℕ) (x : Json) (rest : List ℕ) → Value room (b ∷ c) x rest → (b == 93) ≡ false
not_bracket room b c x rest (blank r bytes y rest' d m e f k) = blank_not b 93 (ap is_whitespace (head_same e) ∙ f) refl
not_bracket room b c x rest (null r bytes y rest' e f) = ap (λ z. z == 93) (head_same e)
not_bracket room b c x rest (yes r bytes y rest' e f) = ap (λ z. z == 93) (head_same e)
not_bracket room b c x rest (no r bytes y rest' e f) = ap (λ z. z == 93) (head_same e)
not_bracket room b c x rest (number_of r bytes y rest' spelled e f k) = by spelled e (numeral_to spelled k)
  where
    by : (s : List ℕ) → b ∷ c ≡ s ++ rest → Completed s → (b == 93) ≡ false
    by [] e k = absurd k
    by (d ∷ more) e k = other_is b 93 (λ z. subst (λ y. Completes (first_place y) more) (sym (head_same e) ∙ z) k)
not_bracket room b c x rest (string_of r bytes y rest' m t e f k) = ap (λ z. z == 93) (head_same e)
not_bracket room b c x rest (list_of r bytes y rest' inner m items n e f k) = ap (λ z. z == 93) (head_same e)
not_bracket room b c x rest (map_of r bytes y rest' inner m pairs n e f k) = ap (λ z. z == 93) (head_same e)

first_item_to : (limit : ℕ) (xs : List Json) (ls : List Unclosed) (b : ℕ) (c : List ℕ) (v : Json) (items : List Json) (rest : List ℕ)
    → Items (limit - suc (length ls)) (b ∷ c) items rest → Rest limit ls (JsonOfList (xs ++ items)) rest v → Goes limit (item_first limit (LevelOfList xs ∷ ls) b) c v
first_item_to limit xs ls b c v items rest (items_blank r bytes is rest' d m e f k) h =
    let i = ap is_whitespace (head_same e) ∙ f in
    let p = blank_not b 93 i refl in
    rw p (subst (λ z. Goes limit z c v) (sym (begin_blank limit (LevelOfList xs ∷ ls) first_item b i)) (items, rest, subst (λ z. Items (limit - suc (length ls)) z items rest) (sym (tail_same e)) k, h))
first_item_to limit xs ls b c v items rest (items_none r bytes is rest' e f) h =
    moved limit (item_first limit (LevelOfList xs ∷ ls)) c v (head_same e)
    (placed_to limit ls (JsonOfList xs) c v (subst (λ x. Rest limit ls (JsonOfList xs) x v) (sym (tail_same e)) (subst (λ x. Rest limit ls (JsonOfList x) rest v) (ap (λ x. xs ++ x) f ∙ append-nil xs) h)))
first_item_to limit xs ls b c v items rest (items_some r bytes is rest' mid first others f k l) h =
    let p = not_bracket _ b c first mid k in
    rw p (begin_to limit (LevelOfList xs ∷ ls) first_item b c v first mid k
    (others, rest, l, subst (λ x. Rest limit ls (JsonOfList x) rest v) (ap (λ x. xs ++ x) f ∙ more_one xs first others) h)
    (λ k'. (items, rest, items_some _ c items rest mid first others f k' l, h)))

first_item_from : (limit : ℕ) (xs : List Json) (ls : List Unclosed) (b : ℕ) (c : List ℕ) (v : Json) → Goes limit (item_first limit (LevelOfList xs ∷ ls) b) c v → OfFirstItem limit (LevelOfList xs ∷ ls) (b ∷ c) v
first_item_from limit xs ls b c v = by (b == 93) refl
  where
    from : OfValue limit (LevelOfList xs ∷ ls) (b ∷ c) v ⊎ ((is_whitespace b ≡ true) × OfFirstItem limit (LevelOfList xs ∷ ls) c v) → OfFirstItem limit (LevelOfList xs ∷ ls) (b ∷ c) v
    from (inl (x, mid, k, (others, rest, l, h))) = (x ∷ others, rest, items_some _ (b ∷ c) (x ∷ others) rest mid x others refl k l, subst (λ y. Rest limit ls (JsonOfList y) rest v) (sym (more_one xs x others)) h)
    from (inr (e, (items, rest, k, h))) = (items, rest, items_blank _ (b ∷ c) items rest b c refl e k, h)

    by : (p : Bool) → (b == 93) ≡ p → Goes limit (cond p (Ok (placed ls (JsonOfList xs))) (begin limit (LevelOfList xs ∷ ls) first_item b)) c v → OfFirstItem limit (LevelOfList xs ∷ ls) (b ∷ c) v
    by true e h = (
      [],
      c,
      items_none _ (b ∷ c) [] c (ap (λ x. x ∷ c) (is_byte b 93 e)) refl,
      subst (λ x. Rest limit ls (JsonOfList x) c v) (sym (append-nil xs)) (placed_from limit ls (JsonOfList xs) c v h),
    )
    by false e h = from (began limit (LevelOfList xs ∷ ls) first_item b c v h)

first_item_same : (limit : ℕ) (levels : List Unclosed) (b : ℕ) (c : List ℕ) (v : Json) → Same (OfFirstItem limit levels (b ∷ c) v) (Goes limit (item_first limit levels b) c v)
first_item_same limit [] b c v = (λ h. absurd h, λ h. absurd h)
first_item_same limit (LevelOfMap ps name ∷ ls) b c v = (λ h. absurd h, λ h. absurd h)
first_item_same limit (LevelOfList xs ∷ ls) b c v = (λ h. first_item_to limit xs ls b c v h.0 h.1 h.2 h.3, first_item_from limit xs ls b c v)

-- ---- names
named_to : (limit : ℕ) (ps : List (List ℕ × Json)) (old : List ℕ) (ls : List Unclosed) (stay : Hand) (b : ℕ) (c : List ℕ) (v : Json) (name : List ℕ) (x : Json) (mid : List ℕ)
    → Pair (limit - suc (length ls)) (b ∷ c) name x mid → Rest limit (LevelOfMap ps name ∷ ls) x mid v → (Pair (limit - suc (length ls)) c name x mid → Finishes limit (LevelOfMap ps old ∷ ls) stay c v)
    → Goes limit (name_begins (LevelOfMap ps old ∷ ls) stay b) c v
named_to limit ps old ls stay b c v name x mid (pair_blank r bytes n y rest d m e f k) h keeps =
    let is = ap is_whitespace (head_same e) ∙ f in
    let p = blank_not b 34 is refl in
    rw p (skipped_to limit (LevelOfMap ps old ∷ ls) stay b c v is (keeps (subst (λ z. Pair (limit - suc (length ls)) z name x mid) (sym (tail_same e)) k)))
named_to limit ps old ls stay b c v name x mid (pair_named r bytes n y rest m behind_name after e chars at val) h keeps =
    moved limit (name_begins (LevelOfMap ps old ∷ ls) stay) c v (head_same e) (name, behind_name, subst (λ z. Chars z name behind_name) (sym (tail_same e)) chars, (after, x, mid, at, val, h))

named_from : (limit : ℕ) (ps : List (List ℕ × Json)) (old : List ℕ) (ls : List Unclosed) (stay : Hand) (b : ℕ) (c : List ℕ) (v : Json) → Goes limit (name_begins (LevelOfMap ps old ∷ ls) stay b) c v
    → OfNextName limit (LevelOfMap ps old ∷ ls) (b ∷ c) v ⊎ ((is_whitespace b ≡ true) × Finishes limit (LevelOfMap ps old ∷ ls) stay c v)
named_from limit ps old ls stay b c v = by (b == 34) refl
  where
    by : (p : Bool) → (b == 34) ≡ p → Goes limit (cond p (Ok (state (LevelOfMap ps old ∷ ls) (text Name [] plain))) (skipped (LevelOfMap ps old ∷ ls) stay b)) c v
        → OfNextName limit (LevelOfMap ps old ∷ ls) (b ∷ c) v ⊎ ((is_whitespace b ≡ true) × Finishes limit (LevelOfMap ps old ∷ ls) stay c v)
    by true e (name, mid, chars, (after, x, rest, at, val, h)) = inl (name, x, rest, pair_named _ (b ∷ c) name x rest c mid after (ap (λ z. z ∷ c) (is_byte b 34 e)) chars at val, h)
    by false e h = inr (skipped_from limit (LevelOfMap ps old ∷ ls) stay b c v h)

next_name_from : (limit : ℕ) (ps : List (List ℕ × Json)) (old : List ℕ) (ls : List Unclosed) (b : ℕ) (c : List ℕ) (v : Json)
    → OfNextName limit (LevelOfMap ps old ∷ ls) (b ∷ c) v ⊎ ((is_whitespace b ≡ true) × OfNextName limit (LevelOfMap ps old ∷ ls) c v) → OfNextName limit (LevelOfMap ps old ∷ ls) (b ∷ c) v
next_name_from limit ps old ls b c v (inl h) = h
next_name_from limit ps old ls b c v (inr (e, (name, x, rest, k, h))) = (name, x, rest, pair_blank _ (b ∷ c) name x rest b c refl e k, h)

next_name_same : (limit : ℕ) (levels : List Unclosed) (b : ℕ) (c : List ℕ) (v : Json) → Same (OfNextName limit levels (b ∷ c) v) (Goes limit (name_next levels b) c v)
next_name_same limit [] b c v = (λ h. absurd h, by (b == 34) (is_whitespace b))
  where
    by : (p q : Bool) → Goes limit (cond p (Ok (state [] (text Name [] plain))) (cond q (Ok (state [] next_name)) (Err Syntax))) c v → ⊥
    by true q h = h.3
    by false true h = h
    by false false h = h
next_name_same limit (LevelOfList xs ∷ ls) b c v = (λ h. absurd h, by (b == 34) (is_whitespace b))
  where
    by : (p q : Bool) → Goes limit (cond p (Ok (state (LevelOfList xs ∷ ls) (text Name [] plain))) (cond q (Ok (state (LevelOfList xs ∷ ls) next_name)) (Err Syntax))) c v → ⊥
    by true q h = h.3
    by false true h = h
    by false false h = h
next_name_same limit (LevelOfMap ps old ∷ ls) b c v = (
  λ (name, x, rest, k, h). named_to limit ps old ls next_name b c v name x rest k h (λ k'. (name, x, rest, k', h)),
  λ g. next_name_from limit ps old ls b c v (named_from limit ps old ls next_name b c v g),
)

first_name_to : (limit : ℕ) (ps : List (List ℕ × Json)) (old : List ℕ) (ls : List Unclosed) (b : ℕ) (c : List ℕ) (v : Json) (pairs : List (List ℕ × Json)) (rest : List ℕ)
    → Pairs (limit - suc (length ls)) (b ∷ c) pairs rest → Rest limit ls (JsonOfMap (merged (ps ++ pairs))) rest v → Goes limit (name_first (LevelOfMap ps old ∷ ls) b) c v
first_name_to limit ps old ls b c v pairs rest (pairs_blank r bytes is rest' d m e f k) h =
    let i = ap is_whitespace (head_same e) ∙ f in
    let p = blank_not b 125 i refl in
    let q = blank_not b 34 i refl in
    rw (p, q) (skipped_to limit (LevelOfMap ps old ∷ ls) first_name b c v i (pairs, rest, subst (λ z. Pairs (limit - suc (length ls)) z pairs rest) (sym (tail_same e)) k, h))
first_name_to limit ps old ls b c v pairs rest (pairs_none r bytes is rest' e f) h =
    moved limit (name_first (LevelOfMap ps old ∷ ls)) c v (head_same e)
    (placed_to limit ls (JsonOfMap (merged ps)) c v
    (subst (λ x. Rest limit ls (JsonOfMap (merged ps)) x v) (sym (tail_same e)) (subst (λ x. Rest limit ls (JsonOfMap (merged x)) rest v) (ap (λ x. ps ++ x) f ∙ append-nil ps) h)))
first_name_to limit ps old ls b c v pairs rest (pairs_some r bytes is rest' mid name x others f k l) h =
    rw (no_brace _ k) (named_to limit ps old ls first_name b c v name x mid k
    (others, rest, l, subst (λ y. Rest limit ls (JsonOfMap (merged y)) rest v) (ap (λ y. ps ++ y) f ∙ more_pair ps (name, x) others) h)
    (λ k'. (pairs, rest, pairs_some _ c pairs rest mid name x others f k' l, h)))
  where
    no_brace : (room : ℕ) → Pair room (b ∷ c) name x mid → (b == 125) ≡ false
    no_brace room (pair_blank r' bytes' n y rest₂ d m e f' k') = blank_not b 125 (ap is_whitespace (head_same e) ∙ f') refl
    no_brace room (pair_named r' bytes' n y rest₂ m bn after e chars at val) = ap (λ z. z == 125) (head_same e)

first_name_from : (limit : ℕ) (ps : List (List ℕ × Json)) (old : List ℕ) (ls : List Unclosed) (b : ℕ) (c : List ℕ) (v : Json) → Goes limit (name_first (LevelOfMap ps old ∷ ls) b) c v → OfFirstName limit (LevelOfMap ps old ∷ ls) (b ∷ c) v
first_name_from limit ps old ls b c v = by (b == 125) refl
  where
    from : OfNextName limit (LevelOfMap ps old ∷ ls) (b ∷ c) v ⊎ ((is_whitespace b ≡ true) × OfFirstName limit (LevelOfMap ps old ∷ ls) c v) → OfFirstName limit (LevelOfMap ps old ∷ ls) (b ∷ c) v
    from (inl (name, x, mid, k, (others, rest, l, h))) =
        ((name, x) ∷ others, rest, pairs_some _ (b ∷ c) ((name, x) ∷ others) rest mid name x others refl k l, subst (λ y. Rest limit ls (JsonOfMap (merged y)) rest v) (sym (more_pair ps (name, x) others)) h)
    from (inr (e, (pairs, rest, k, h))) = (pairs, rest, pairs_blank _ (b ∷ c) pairs rest b c refl e k, h)

    by : (p : Bool) → (b == 125) ≡ p → Goes limit (cond p (Ok (placed ls (JsonOfMap (merged ps)))) (name_begins (LevelOfMap ps old ∷ ls) first_name b)) c v → OfFirstName limit (LevelOfMap ps old ∷ ls) (b ∷ c) v
    by true e h = (
      [],
      c,
      pairs_none _ (b ∷ c) [] c (ap (λ x. x ∷ c) (is_byte b 125 e)) refl,
      subst (λ x. Rest limit ls (JsonOfMap (merged x)) c v) (sym (append-nil ps)) (placed_from limit ls (JsonOfMap (merged ps)) c v h),
    )
    by false e h = from (named_from limit ps old ls first_name b c v h)

first_name_same : (limit : ℕ) (levels : List Unclosed) (b : ℕ) (c : List ℕ) (v : Json) → Same (OfFirstName limit levels (b ∷ c) v) (Goes limit (name_first levels b) c v)
first_name_same limit [] b c v = (λ h. absurd h, λ h. absurd h)
first_name_same limit (LevelOfList xs ∷ ls) b c v = (λ h. absurd h, λ h. absurd h)
first_name_same limit (LevelOfMap ps old ∷ ls) b c v = (λ h. first_name_to limit ps old ls b c v h.0 h.1 h.2 h.3, first_name_from limit ps old ls b c v)

-- ---- behind a name
colon_to : (limit : ℕ) (levels : List Unclosed) (b : ℕ) (c : List ℕ) (v : Json) (mid : List ℕ) (x : Json) (rest : List ℕ) → Colon (b ∷ c) mid → Value (limit - length levels) mid x rest → Rest limit levels x rest v → Goes limit (at_colon levels b) c v
colon_to limit levels b c v mid x rest (colon_blank bytes rest' d m e f k) val h =
    let is = ap is_whitespace (head_same e) ∙ f in
    let p = blank_not b 58 is refl in
    rw p (skipped_to limit levels colon b c v is (mid, x, rest, subst (λ z. Colon z mid) (sym (tail_same e)) k, val, h))
colon_to limit levels b c v mid x rest (colon_here bytes rest' e) val h =
    moved limit (at_colon levels) c v (head_same e) (x, rest, subst (λ z. Value (limit - length levels) z x rest) (sym (tail_same e)) val, h)

colon_from : (limit : ℕ) (levels : List Unclosed) (b : ℕ) (c : List ℕ) (v : Json) → Goes limit (at_colon levels b) c v → OfColon limit levels (b ∷ c) v
colon_from limit levels b c v = by (b == 58) refl
  where
    later : (is_whitespace b ≡ true) × OfColon limit levels c v → OfColon limit levels (b ∷ c) v
    later (e, (mid, x, rest, k, val, h)) = (mid, x, rest, colon_blank (b ∷ c) mid b c refl e k, val, h)

    by : (p : Bool) → (b == 58) ≡ p → Goes limit (cond p (Ok (state levels value)) (skipped levels colon b)) c v → OfColon limit levels (b ∷ c) v
    by true e (x, rest, val, h) = (c, x, rest, colon_here (b ∷ c) c (ap (λ z. z ∷ c) (is_byte b 58 e)), val, h)
    by false e h = later (skipped_from limit levels colon b c v h)

-- One step: what the state finishes with a byte and more is what the next state finishes with more, and where there is none, nothing.
pub step_same : (limit : ℕ) (levels : List Unclosed) (hand : Hand) (b : ℕ) (c : List ℕ) (v : Json) → IsState levels hand → Same (Finishes limit levels hand (b ∷ c) v) (Goes limit (step limit levels hand b) c v)
step_same limit levels value b c v is = value_same limit levels b c v
step_same limit levels first_item b c v is = first_item_same limit levels b c v
step_same limit levels first_name b c v is = first_name_same limit levels b c v
step_same limit levels next_name b c v is = next_name_same limit levels b c v
step_same limit levels colon b c v is = (λ (mid, x, rest, k, val, h). colon_to limit levels b c v mid x rest k val h, colon_from limit levels b c v)
step_same limit levels behind b c v is = behind_same limit levels b c v
step_same limit levels (done x) b c v is = done_same limit levels x b c v
step_same limit levels (word x left) b c v is = word_same limit levels x left b c v
step_same limit levels (number t place) b c v is = (λ h. number_to limit levels t place b c v is h.0 h.1 h.2 h.3 h.4, number_from limit levels t place b c v is)
step_same limit levels (text role t part) b c v is = text_same limit levels role t v part b c is.1
