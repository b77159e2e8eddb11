-- The text without the blanks at its ends.
use Rattle.std.proofs.Common.{◌≡◌, ◌+◌, ◌-◌, ◌<◌, ◌≤◌, ℕ, Bool, List, [], ◌∷◌, ◌++◌, true, false, All, reverse, take, drop, length, get_or, refl, sym, ap, subst, ◌∙◌, length-append, arith}
use Rattle.std.proofs.lemmas.Grind.{common_steps}
use Rattle.std.proofs.Math.Seq.{drop-append_seam, take-append_seam}
use Rattle.std.proofs.lemmas.List.{reverse-append, reverse-reverse, take_more}
use Rattle.std.proofs.lemmas.List.Elements.{All-same, All-take, All-drop, All-head, All-tail, All-nil, All-cons}
use Rattle.text_lines.specs.First.{is_blank, AreBlanks, begins_with_blank}
use Rattle.text_lines.specs.Lines.{trimmed_front, trimmed, IsTight}

-- a blank at the front is left out
pub front_skips : (text : List ℕ) → begins_with_blank text ≡ true → trimmed_front (drop 1 text) ≡ trimmed_front text
unfolding trimmed_front
front_skips [] h = cc
front_skips (b ∷ bs) h = rw h refl

-- a text that begins with no blank is left as it is
pub front_stays : (text : List ℕ) → begins_with_blank text ≡ false → trimmed_front text ≡ text
unfolding trimmed_front
front_stays [] h = refl
front_stays (b ∷ bs) h = rw h refl

front_tight_by : (b : ℕ) (bs : List ℕ) (t : Bool) → is_blank b ≡ t → begins_with_blank (trimmed_front bs) ≡ false → begins_with_blank (trimmed_front (b ∷ bs)) ≡ false
unfolding trimmed_front
front_tight_by b bs true e h = rw e h
front_tight_by b bs false e h = rw e e

-- no blank stands at the front of what is left
pub front_tight : (text : List ℕ) → begins_with_blank (trimmed_front text) ≡ false
unfolding trimmed_front
front_tight [] = refl
front_tight (b ∷ bs) = front_tight_by b bs (is_blank b) refl (front_tight bs)

-- what is left out of a text at its front
abbrev FrontLeft : List ℕ → Type 0
FrontLeft text = (front : List ℕ) × (text ≡ front ++ trimmed_front text)

front_left_by : (b : ℕ) (bs : List ℕ) (t : Bool) → is_blank b ≡ t → FrontLeft bs → FrontLeft (b ∷ bs)
front_left_by b bs true e h = (b ∷ h.0, ap (λ l. b ∷ l) h.1 ∙ ap (λ l. b ∷ (h.0 ++ l)) (front_skips (b ∷ bs) e))
front_left_by b bs false e h = ([], sym (front_stays (b ∷ bs) e))

front_left : (text : List ℕ) → FrontLeft text
unfolding trimmed_front
front_left [] = ([], refl)
front_left (b ∷ bs) = front_left_by b bs (is_blank b) refl (front_left bs)

begins_before : (xs ys : List ℕ) → begins_with_blank (xs ++ ys) ≡ false → begins_with_blank xs ≡ false
begins_before [] ys h = refl
begins_before (x ∷ xs) ys h = h

-- the text without the blanks at its back
abbrev trimmed_back : List ℕ → List ℕ
trimmed_back text = reverse (trimmed_front (reverse text))

back_left : (text : List ℕ) → (back : List ℕ) × (text ≡ trimmed_back text ++ back)
back_left text =
    let h = front_left (reverse text) in
    (reverse h.0, sym (reverse-reverse text) ∙ ap reverse h.1 ∙ reverse-append h.0 (trimmed_front (reverse text)))

-- a text that begins with no blank still begins with none once its back is trimmed
back_keeps_front : (text : List ℕ) → begins_with_blank text ≡ false → begins_with_blank (trimmed_back text) ≡ false
back_keeps_front text h =
    let b = back_left text in
    begins_before (trimmed_back text) b.0 (subst (λ l. begins_with_blank l ≡ false) b.1 h)

-- no blank stands at the front of a trimmed text
pub trimmed_begins : (text : List ℕ) → begins_with_blank (trimmed text) ≡ false
trimmed_begins text = back_keeps_front (trimmed_front text) (front_tight text)

-- no blank stands at the back of a trimmed text
pub trimmed_ends : (text : List ℕ) → begins_with_blank (reverse (trimmed text)) ≡ false
trimmed_ends text = rw (reverse-reverse (trimmed_front (reverse (trimmed_front text)))) (front_tight (reverse (trimmed_front text)))

-- a text with no blank at either end is left as it is
pub tight_where : (text : List ℕ) → begins_with_blank text ≡ false → begins_with_blank (reverse text) ≡ false → trimmed text ≡ text
tight_where text front back = rw (front_stays text front) (rw (front_stays (reverse text) back) (reverse-reverse text))

-- a tight text begins with no blank
pub tight_front : (text : List ℕ) → trimmed text ≡ text → begins_with_blank text ≡ false
tight_front text h = subst (λ l. begins_with_blank l ≡ false) h (trimmed_begins text)

-- a tight text ends with no blank
pub tight_back : (text : List ℕ) → trimmed text ≡ text → begins_with_blank (reverse text) ≡ false
tight_back text h = subst (λ l. begins_with_blank (reverse l) ≡ false) h (trimmed_ends text)

-- a trimmed text is tight
pub trimmed_tight : (text : List ℕ) → IsTight (trimmed text)
trimmed_tight text = tight_where (trimmed text) (trimmed_begins text) (trimmed_ends text)

-- of an empty text nothing is left
pub trimmed_empty : trimmed [] ≡ []
unfolding trimmed_front
trimmed_empty = refl

all_front : (P : ℕ → Type 0) (xs ys : List ℕ) → All P (xs ++ ys) → All P xs
all_front P xs ys h = All-same P xs (take (length xs) (xs ++ ys)) (sym (take-append_seam xs ys)) (All-take P (length xs) (xs ++ ys) h)

all_back : (P : ℕ → Type 0) (xs ys : List ℕ) → All P (xs ++ ys) → All P ys
all_back P xs ys h = All-same P ys (drop (length xs) (xs ++ ys)) (sym (drop-append_seam xs ys)) (All-drop P (length xs) (xs ++ ys) h)

-- what holds of each byte of a text holds of each byte of the trimmed text
pub all_trimmed : (P : ℕ → Type 0) (text : List ℕ) → All P text → All P (trimmed text)
all_trimmed P text h =
    let front = front_left text in
    let back = back_left (trimmed_front text) in
    all_front P (trimmed text) back.0 (All-same P _ _ (sym back.1) (all_back P front.0 (trimmed_front text) (All-same P _ _ (sym front.1) h)))

-- a trimmed text is no longer than the text
pub length_trimmed : (text : List ℕ) → length (trimmed text) ≤ length text
length_trimmed text =
    let front = front_left text in
    let back = back_left (trimmed_front text) in
    omega (arith, ap length front.1, ap length back.1, length-append front.0 (trimmed_front text), length-append (trimmed text) back.0)

last_apart : (text : List ℕ) → 0 < length text → text ≡ take (length text - 1) text ++ get_or text (length text - 1) 0 ∷ []
last_apart text h =
    let whole : take (length text - 1 + 1) text ≡ text = grind (arith, common_steps) in
    sym whole ∙ take_more text (length text - 1) 0 (omega arith)

last_first : (text : List ℕ) → 0 < length text → reverse text ≡ get_or text (length text - 1) 0 ∷ reverse (take (length text - 1) text)
last_first text h = ap reverse (last_apart text h) ∙ reverse-append (take (length text - 1) text) (get_or text (length text - 1) 0 ∷ [])

-- the last byte of a text is the first of it reversed
pub last_byte : (text : List ℕ) → 0 < length text → begins_with_blank (reverse text) ≡ is_blank (get_or text (length text - 1) 0)
last_byte text h = ap begins_with_blank (last_first text h)

-- an empty text has no last byte
pub last_none : (text : List ℕ) → length text ≡ 0 → begins_with_blank (reverse text) ≡ false
last_none [] h = refl
last_none (b ∷ bs) h = absurd (omega (arith, h))

-- a blank at the back is left out
pub back_skips : (text : List ℕ) → begins_with_blank (reverse text) ≡ true → trimmed_front (reverse (take (length text - 1) text)) ≡ trimmed_front (reverse text)
back_skips [] h = cc
back_skips (b ∷ bs) h =
    let some : 0 < length (b ∷ bs) = omega arith in
    sym (ap (λ l. trimmed_front (drop 1 l)) (last_first (b ∷ bs) some)) ∙ front_skips (reverse (b ∷ bs)) h

-- a text that ends with no blank is left as it is
pub back_stays : (text : List ℕ) → begins_with_blank (reverse text) ≡ false → reverse (trimmed_front (reverse text)) ≡ text
back_stays text h = rw (front_stays (reverse text) h) (reverse-reverse text)

-- blanks in front of a text that begins with none are left out
pub front_blanks : (blanks text : List ℕ) → AreBlanks blanks → begins_with_blank text ≡ false → trimmed_front (blanks ++ text) ≡ text
front_blanks [] text are h = front_stays text h
front_blanks (b ∷ bs) text are h = sym (front_skips (b ∷ (bs ++ text)) (All-head (λ x. is_blank x ≡ true) b bs are)) ∙ front_blanks bs text (All-tail (λ x. is_blank x ≡ true) b bs are) h

-- what is left out of a text at its front: blanks
pub record FrontBlanks (text : List ℕ) : Type 0 where
  pub blanks : List ℕ
  pub are : AreBlanks blanks
  pub is : text ≡ blanks ++ trimmed_front text

front_split_by : (b : ℕ) (bs : List ℕ) (t : Bool) → is_blank b ≡ t → FrontBlanks bs → FrontBlanks (b ∷ bs)
front_split_by b bs true e h = record {
  blanks = b ∷ h.blanks;
  are = All-cons (λ x. is_blank x ≡ true) b h.blanks e h.are;
  is = ap (λ l. b ∷ l) h.is ∙ ap (λ l. b ∷ (h.blanks ++ l)) (front_skips (b ∷ bs) e);
}
front_split_by b bs false e h = record { blanks = []; are = All-nil (λ x. is_blank x ≡ true); is = sym (front_stays (b ∷ bs) e) }

-- a text is blanks and the text without them
pub front_split : (text : List ℕ) → FrontBlanks text
front_split [] = record { blanks = []; are = All-nil (λ x. is_blank x ≡ true); is = sym (front_stays [] refl) }
front_split (b ∷ bs) = front_split_by b bs (is_blank b) refl (front_split bs)
