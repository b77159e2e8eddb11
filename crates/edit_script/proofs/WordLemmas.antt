-- The words of a line, taken off one by one.
use Rattle.std.proofs.Common.{◌≡◌, refl, sym, ap, subst, ◌∙◌, ◌+◌, ◌<◌, ◌==◌, ℕ, Bool, true, false, cond, List, [], ◌∷◌, ◌++◌, Option, Some, None, take, drop, length, arith}
use Rattle.std.proofs.lemmas.Grind.{common_steps}
use Rattle.std.proofs.lemmas.List.Elements.{All-head, All-tail}
use Rattle.text_lines.specs.First.{is_blank, HasNone, IsFirst, HasNoBlank, IsFirstBlank, begins_with_blank}
use Rattle.text_lines.specs.Lines.{trimmed_front}
use Rattle.text_lines.proofs.Trimming.{front_skips, front_stays, front_tight}
use Rattle.edit_script.specs.Words.{Plain, Quoted, Closed, ended, onto, scan, words_of, begins_with_quote, with_word, is_end}

trimmed_by : (b : ℕ) (bs : List ℕ) (t : Bool) → is_blank b ≡ t
    → words_of (trimmed_front bs) ≡ words_of bs → words_of (trimmed_front (b ∷ bs))
    ≡ words_of (b ∷ bs)
trimmed_by b bs true e h = ap words_of (sym (front_skips (b ∷ bs) e)) ∙ h ∙ sym (rw e refl)
trimmed_by b bs false e h = ap words_of (front_stays (b ∷ bs) e)

-- the blanks at the front part nothing
pub words_trimmed : (line : List ℕ) → words_of (trimmed_front line) ≡ words_of line
words_trimmed [] = ap words_of (front_stays [] refl)
words_trimmed (b ∷ bs) = trimmed_by b bs (is_blank b) refl (words_trimmed bs)

onto_word : (b : ℕ) (word : List ℕ) (words : Option (List (List ℕ)))
    → onto b (with_word word words) ≡ with_word (b ∷ word) words
onto_word b word None = refl
onto_word b word (Some ws) = refl

ended_is : (words : Option (List (List ℕ))) → ended words ≡ with_word [] words
ended_is None = refl
ended_is (Some ws) = refl

pub plain_at : (xs rest : List ℕ) (b : ℕ) → HasNoBlank xs → is_blank b ≡ true
    → scan Plain (xs ++ b ∷ rest) ≡ with_word xs (words_of rest)
plain_at [] rest b h e = rw e (ended_is (words_of rest))
plain_at (x ∷ xs) rest b h e =
    let n : is_blank x ≡ false = All-head (λ y. is_blank y ≡ false) x xs h in
    rw n (ap (onto x) (plain_at xs rest b (All-tail (λ y. is_blank y ≡ false) x xs h) e)
    ∙ onto_word x xs (words_of rest))

pub plain_end : (xs : List ℕ) → HasNoBlank xs → scan Plain xs ≡ Some (xs ∷ [])
plain_end [] h = refl
plain_end (x ∷ xs) h =
    let n : is_blank x ≡ false = All-head (λ y. is_blank y ≡ false) x xs h in
    rw n (ap (onto x) (plain_end xs (All-tail (λ y. is_blank y ≡ false) x xs h)))

-- a line that begins with a plain word is scanned as one
begun : (line : List ℕ) → 0 < length line → begins_with_blank line ≡ false
    → begins_with_quote line ≡ false → words_of line ≡ scan Plain line
begun [] s h q = absurd (omega (arith, s))
begun (b ∷ bs) s h q = rw (h, q) refl

-- the same of a line whose first byte is at hand
pub begun_plain : (b : ℕ) (bytes : List ℕ) → is_blank b ≡ false → (b ≡ 34 → ⊥)
    → words_of (b ∷ bytes) ≡ scan Plain (b ∷ bytes)
begun_plain b bytes e f =
    let h : (b == 34) ≡ false = grind arith in
    rw (e, h) refl

pub begun_quoted : (bytes : List ℕ) → words_of (34 ∷ bytes) ≡ scan Quoted bytes
unfolding is_blank
begun_quoted bytes = refl

pub plain_first : (line : List ℕ) (i : ℕ) → 0 < length line → begins_with_blank line ≡ false
    → begins_with_quote line ≡ false → IsFirstBlank line i
    → words_of line ≡ with_word (take i line) (words_of (drop (i + 1) line))
plain_first line i s h q f =
    begun line s h q ∙ ap (scan Plain) f.split ∙ plain_at (take i line) (drop (i + 1) line) f.blank
    f.before f.is

none_words : (line : List ℕ) → length line ≡ 0 → words_of line ≡ Some []
none_words [] h = refl
none_words (b ∷ bs) h = absurd (omega (arith, h))

pub plain_last : (line : List ℕ) → 0 < length line → begins_with_blank line ≡ false
    → begins_with_quote line ≡ false → HasNoBlank line
    → words_of line ≡ with_word line (words_of (drop (length line) line))
plain_last line s h q n =
    let z : length (drop (length line) line) ≡ 0 = grind (arith, common_steps) in
    begun line s h q ∙ plain_end line n ∙ ap (with_word line)
    (sym (none_words (drop (length line) line) z))

pub quoted_at : (xs rest : List ℕ) → HasNone 34 xs
    → scan Quoted (xs ++ 34 ∷ rest) ≡ with_word xs (scan Closed rest)
quoted_at [] rest h = ended_is (scan Closed rest)
quoted_at (x ∷ xs) rest h =
    let n : (x == 34) ≡ false = All-head (λ y. (y == 34) ≡ false) x xs h in
    rw n (ap (onto x) (quoted_at xs rest (All-tail (λ y. (y == 34) ≡ false) x xs h))
    ∙ onto_word x xs (scan Closed rest))

pub quoted_first : (inner : List ℕ) (i : ℕ) → IsFirst 34 inner i
    → scan Quoted inner ≡ with_word (take i inner) (scan Closed (drop (i + 1) inner))
quoted_first inner i f = ap (scan Quoted) f.split ∙ quoted_at (take i inner) (drop (i + 1) inner)
    f.before

pub quoted_none : (inner : List ℕ) → HasNone 34 inner → scan Quoted inner ≡ None
quoted_none [] h = refl
quoted_none (x ∷ xs) h =
    let n : (x == 34) ≡ false = All-head (λ y. (y == 34) ≡ false) x xs h in
    rw n (ap (onto x) (quoted_none xs (All-tail (λ y. (y == 34) ≡ false) x xs h)))

-- ---- where no word stands

some_front : (words : Option (List (List ℕ))) (b : ℕ) → onto b words ≡ Some [] → words ≡ Some []
some_front None b e = absurd (cc e)
some_front (Some []) b e = absurd (cc e)
some_front (Some (w ∷ ws)) b e = absurd (cc e)

abbrev NeverEnds : Option (List (List ℕ)) → Type 0
NeverEnds words = words ≡ Some [] → ⊥

ended_never : (words : Option (List (List ℕ))) → NeverEnds (ended words)
ended_never None e = cc e
ended_never (Some ws) e = cc e

onto_never : (b : ℕ) (words : Option (List (List ℕ))) → NeverEnds (onto b words)
onto_never b None e = cc e
onto_never b (Some []) e = cc e
onto_never b (Some (w ∷ ws)) e = cc e

quoted_never : (bytes : List ℕ) → NeverEnds (scan Quoted bytes)
quoted_never [] e = cc e
quoted_never (b ∷ bs) e = by (b == 34) refl
  where
    by : (t : Bool) → (b == 34) ≡ t → ⊥
    by true f = ended_never (scan Closed bs) (rw f at e)
    by false f = onto_never b (scan Quoted bs) (rw f at e)

tight_never : (line : List ℕ) → begins_with_blank line ≡ false → words_of line ≡ Some []
    → length line ≡ 0
tight_never [] h e = refl
tight_never (b ∷ bs) h e = absurd (by (b == 34) refl (rw h at e))
  where
    by : (t : Bool) → (b == 34) ≡ t → cond (b == 34) (scan Quoted bs) (onto b (scan Plain bs))
        ≡ Some [] → ⊥
    by true f g = quoted_never bs (rw f at g)
    by false f g = onto_never b (scan Plain bs) (rw f at g)

pub some_words : (line : List ℕ) → words_of line ≡ Some [] → length (trimmed_front line) ≡ 0
some_words line e = tight_never (trimmed_front line) (front_tight line) (words_trimmed line ∙ e)

pub no_words : (line : List ℕ) → length (trimmed_front line) ≡ 0 → words_of line ≡ Some []
no_words line z = sym (words_trimmed line) ∙ none_words (trimmed_front line) z

-- ---- no first word

no_word : (o : Option (List (List ℕ))) (word : List ℕ) (words : List (List ℕ)) → o ≡ Some []
    → o ≡ Some (word ∷ words) → ⊥
no_word o word words e f = cc (sym e ∙ f)

pub empty_front : (line word : List ℕ) (words : List (List ℕ))
    → (length (trimmed_front line) == 0) ≡ true → words_of line ≡ Some (word ∷ words) → ⊥
empty_front line word words e f = let z : length (trimmed_front line) ≡ 0 = grind arith in
    no_word (words_of line) word words (no_words line z) f

quote_begun : (line : List ℕ) → begins_with_quote line ≡ true
    → words_of line ≡ scan Quoted (drop 1 line)
unfolding is_blank
quote_begun [] h = absurd (cc h)
quote_begun (b ∷ bs) h =
    let e : b ≡ 34 = grind arith in
    subst (λ (x : ℕ). words_of (x ∷ bs) ≡ scan Quoted bs) (sym e) refl

pub quote_front : (line : List ℕ) → begins_with_quote (trimmed_front line) ≡ true
    → words_of line ≡ scan Quoted (drop 1 (trimmed_front line))
quote_front line h = sym (words_trimmed line) ∙ quote_begun (trimmed_front line) h

pub quote_wrong : (line word : List ℕ) (words : List (List ℕ))
    → begins_with_quote (trimmed_front line) ≡ true
    → ((w : List ℕ) (ws : List (List ℕ)) → scan Quoted (drop 1 (trimmed_front line)) ≡ Some (w ∷ ws)
    → ⊥) → words_of line ≡ Some (word ∷ words) → ⊥
quote_wrong line word words h k e = k word words (sym (quote_front line h) ∙ e)

none_word : (o : Option (List (List ℕ))) (word : List ℕ) (words : List (List ℕ)) → o ≡ None
    → o ≡ Some (word ∷ words) → ⊥
none_word o word words e f = cc (sym e ∙ f)

pub quoted_wrong : (inner word : List ℕ) (words : List (List ℕ)) → HasNone 34 inner
    → scan Quoted inner ≡ Some (word ∷ words) → ⊥
quoted_wrong inner word words h f = none_word (scan Quoted inner) word words (quoted_none inner h) f

pub closed_wrong : (inner : List ℕ) (i : ℕ) (word : List ℕ) (words : List (List ℕ))
    → IsFirst 34 inner i → scan Closed (drop (i + 1) inner) ≡ None
    → scan Quoted inner ≡ Some (word ∷ words) → ⊥
closed_wrong inner i word words h e f = none_word (scan Quoted inner) word words
    (quoted_first inner i h ∙ ap (with_word (take i inner)) e) f

pub end_is : (o : Option (List (List ℕ))) → is_end o ≡ true → o ≡ Some []
end_is None e = absurd (cc e)
end_is (Some []) e = refl
end_is (Some (w ∷ ws)) e = absurd (cc e)

pub ended_front : (line : List ℕ) → (length (trimmed_front line) == 0) ≡ is_end (words_of line)
ended_front line = by (is_end (words_of line)) refl (length (trimmed_front line) == 0) refl
  where
    by : (t : Bool) → is_end (words_of line) ≡ t → (s : Bool)
        → (length (trimmed_front line) == 0) ≡ s → (length (trimmed_front line) == 0)
        ≡ is_end (words_of line)
    by true e true f = f ∙ sym e
    by false e false f = f ∙ sym e
    by true e false f = let z : length (trimmed_front line) ≡ 0 =
        some_words line (end_is (words_of line) e) in
        absurd (let k : (length (trimmed_front line) == 0) ≡ true = rw z refl in cc (sym f ∙ k))
    by false e true f = let z : length (trimmed_front line) ≡ 0 = grind arith in
        absurd (cc (sym e ∙ ap is_end (no_words line z)))

pub ruleset first_words = (words_trimmed, empty_front, quote_front, quote_wrong)

pub ruleset plain_words = (plain_first, plain_last)

pub ruleset quoted_words = (quoted_first, quoted_wrong, closed_wrong)
