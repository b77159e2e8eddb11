-- The words that the machine finds are those that the grammar gives.
use Rattle.std.proofs.Common.{◌≡◌, refl, sym, ap, subst, ◌∙◌, ◌==◌, ℕ, Bool, true, false, List, [], ◌∷◌, ◌++◌, Option, Some, None, append_assoc, append-nil, arith}
use Rattle.std.proofs.lemmas.List.Elements.{All-nil, All-cons, All-head, All-tail}
use Rattle.std.specs.List.{onto_first}
use Rattle.text_lines.specs.First.{is_blank, HasNone, HasNoBlank, AreBlanks}
use Rattle.edit_script.specs.Words.{Mode, Between, Plain, Quoted, Closed, ended, onto, scan, words_of, with_word, IsBehindWord, Spells, plain, quoted, AreWords, none, more}
use Rattle.edit_script.proofs.WordLemmas.{plain_at, plain_end, quoted_at, begun_plain, begun_quoted}

abbrev Words : Type 0
Words = List (List ℕ)

blanks_skipped : (blanks bytes : List ℕ) → AreBlanks blanks
    → words_of (blanks ++ bytes) ≡ words_of bytes
blanks_skipped [] bytes h = refl
blanks_skipped (b ∷ blanks) bytes h =
    let e : is_blank b ≡ true = All-head (λ x. is_blank x ≡ true) b blanks h in
    rw e (blanks_skipped blanks bytes (All-tail (λ x. is_blank x ≡ true) b blanks h))

-- ---- from the grammar

no_word : (line : List ℕ) → AreBlanks line → words_of line ≡ Some []
no_word line h = ap words_of (sym (append-nil line)) ∙ blanks_skipped line [] h

plain_found : (word rest : List ℕ) → HasNoBlank word → IsBehindWord rest
    → scan Plain (word ++ rest) ≡ with_word word (words_of rest)
plain_found word [] clear behind = ap (scan Plain) (append-nil word) ∙ plain_end word clear
plain_found word (b ∷ rest) clear behind =
    plain_at word rest b clear behind ∙ ap (with_word word) (sym (blanks_first b rest behind))
  where
    blanks_first : (b : ℕ) (rest : List ℕ) → is_blank b ≡ true
        → words_of (b ∷ rest) ≡ words_of rest
    blanks_first b rest e = rw e refl

closed_found : (rest : List ℕ) → IsBehindWord rest → scan Closed rest ≡ words_of rest
closed_found [] behind = refl
closed_found (b ∷ rest) behind = rw behind refl

word_found : (word spelled rest : List ℕ) → Spells word spelled → IsBehindWord rest
    → words_of (spelled ++ rest) ≡ with_word word (words_of rest)
word_found [] spelled rest (plain is same) behind = absurd is
word_found (b ∷ word) spelled rest (plain is same) behind =
    ap (λ l. words_of (l ++ rest)) same
    ∙ begun_plain b (word ++ rest) (All-head (λ x. is_blank x ≡ false) b word is.1) is.0
    ∙ plain_found (b ∷ word) rest is.1 behind
word_found word spelled rest (quoted clear same) behind =
    ap (λ l. words_of (l ++ rest)) same
    ∙ begun_quoted ((word ++ 34 ∷ []) ++ rest)
    ∙ ap (scan Quoted) (append_assoc word (34 ∷ []) rest)
    ∙ quoted_at word rest clear
    ∙ ap (with_word word) (closed_found rest behind)

pub found : (line : List ℕ) (words : Words) → AreWords line words → words_of line ≡ Some words
found line words (none l are) = no_word l are
found line words (more blanks spelled rest word others are spells behind next) =
    blanks_skipped blanks (spelled ++ rest) are
    ∙ word_found word spelled rest spells behind
    ∙ ap (with_word word) (found rest others next)

-- ---- to the grammar

-- a word before a blank or the end, and the words behind it
record PlainRest (line : List ℕ) (words : Words) : Type 0 where
  word : List ℕ
  rest : List ℕ
  others : Words
  split : line ≡ word ++ rest
  clear : HasNoBlank word
  behind : IsBehindWord rest
  next : AreWords rest others
  are : words ≡ word ∷ others

-- a word before a quote, and the words behind it
record QuotedRest (line : List ℕ) (words : Words) : Type 0 where
  word : List ℕ
  rest : List ℕ
  others : Words
  split : line ≡ word ++ 34 ∷ rest
  clear : HasNone 34 word
  behind : IsBehindWord rest
  next : AreWords rest others
  are : words ≡ word ∷ others

-- what the words of what is left of a line say of it
abbrev Read : Mode → List ℕ → Words → Type 0
Read Between line words = AreWords line words
Read Plain line words = PlainRest line words
Read Quoted line words = QuotedRest line words
Read Closed line words = IsBehindWord line × AreWords line words

abbrev Reads : Mode → List ℕ → Type 0
Reads mode line = (words : Words) → scan mode line ≡ Some words → Read mode line words

same_words : (line : List ℕ) (a b : Words) → a ≡ b → AreWords line a → AreWords line b
same_words line a b e h = subst (AreWords line) e h

same_line : (a b : List ℕ) (words : Words) → a ≡ b → AreWords a words → AreWords b words
same_line a b words e h = subst (λ l. AreWords l words) e h

no_words : AreWords [] []
no_words = none [] (All-nil (λ x. is_blank x ≡ true))

blank_before : (b : ℕ) (line : List ℕ) (words : Words) → is_blank b ≡ true
    → AreWords line words → AreWords (b ∷ line) words
blank_before b line words e (none l are) =
    none (b ∷ l) (All-cons (λ x. is_blank x ≡ true) b l e are)
blank_before b line words e (more blanks spelled rest word others are spells behind next) =
    more (b ∷ blanks) spelled rest word others
    (All-cons (λ x. is_blank x ≡ true) b blanks e are) spells behind next

first_word : (line spelled rest word : List ℕ) (words others : Words)
    → line ≡ spelled ++ rest → words ≡ word ∷ others → Spells word spelled → IsBehindWord rest
    → AreWords rest others → AreWords line words
first_word line spelled rest word words others split are spells behind next =
    same_line (spelled ++ rest) line words (sym split)
    (same_words (spelled ++ rest) (word ∷ others) words (sym are)
    (more [] spelled rest word others (All-nil (λ x. is_blank x ≡ true)) spells behind next))

from_quoted : (b : ℕ) (bytes : List ℕ) (words : Words) → b ≡ 34 → QuotedRest bytes words
    → AreWords (b ∷ bytes) words
from_quoted b bytes words e h =
    first_word (b ∷ bytes) (34 ∷ (h.word ++ 34 ∷ [])) h.rest h.word words h.others
    (ap (λ x. x ∷ bytes) e
    ∙ ap (λ l. 34 ∷ l) (h.split ∙ sym (append_assoc h.word (34 ∷ []) h.rest)))
    h.are (quoted h.clear refl) h.behind h.next

not_quote : (b : ℕ) → (b == 34) ≡ false → b ≡ 34 → ⊥
not_quote b f e = absurd (grind arith)

from_plain : (b : ℕ) (bytes : List ℕ) (words : Words) → is_blank b ≡ false
    → (b == 34) ≡ false → PlainRest bytes words → AreWords (b ∷ bytes) (onto_first b words)
from_plain b bytes words e f h =
    first_word (b ∷ bytes) (b ∷ h.word) h.rest (b ∷ h.word) (onto_first b words) h.others
    (ap (λ l. b ∷ l) h.split) (ap (onto_first b) h.are)
    (plain (not_quote b f, All-cons (λ x. is_blank x ≡ false) b h.word e h.clear) refl)
    h.behind h.next

-- what was found of a word that has one byte more
onto_found : (P : Words → Type 0) (b : ℕ) (words : Words) (o : Option Words)
    → onto b o ≡ Some words → ((ws : Words) → o ≡ Some ws → P (onto_first b ws)) → P words
onto_found P b words None e h = absurd (cc e)
onto_found P b words (Some ws) e h =
    subst P (some_same (onto_first b ws) words e) (h ws refl)
  where
    some_same : (x y : Words) → Some x ≡ Some y → x ≡ y
    some_same x y e = cc e

-- what was found of a word that ends here
ended_found : (P : Words → Type 0) (words : Words) (o : Option Words)
    → ended o ≡ Some words → ((ws : Words) → o ≡ Some ws → P ([] ∷ ws)) → P words
ended_found P words None e h = absurd (cc e)
ended_found P words (Some ws) e h = subst P (some_same ([] ∷ ws) words e) (h ws refl)
  where
    some_same : (x y : Words) → Some x ≡ Some y → x ≡ y
    some_same x y e = cc e

between_more : (b : ℕ) (bytes : List ℕ) (t q : Bool) → is_blank b ≡ t → (b == 34) ≡ q
    → Reads Between bytes → Reads Plain bytes → Reads Quoted bytes → Reads Between (b ∷ bytes)
between_more b bytes true q e f between bare inside words g =
    blank_before b bytes words e (between words (rw e at g))
between_more b bytes false true e f between bare inside words g =
    let is : b ≡ 34 = grind arith in
    let h : scan Quoted bytes ≡ Some words = rw f at (rw e at g) in
    from_quoted b bytes words is (inside words h)
between_more b bytes false false e f between bare inside words g =
    let h : onto b (scan Plain bytes) ≡ Some words = rw f at (rw e at g) in
    onto_found (AreWords (b ∷ bytes)) b words (scan Plain bytes) h
    (λ ws k. from_plain b bytes ws e f (bare ws k))

plain_none : (b : ℕ) (bytes : List ℕ) (ws : Words) → is_blank b ≡ true → AreWords bytes ws
    → PlainRest (b ∷ bytes) ([] ∷ ws)
plain_none b bytes ws e h = record {
  word = [];
  rest = b ∷ bytes;
  others = ws;
  split = refl;
  clear = All-nil (λ x. is_blank x ≡ false);
  behind = e;
  next = blank_before b bytes ws e h;
  are = refl;
}

plain_one : (b : ℕ) (bytes : List ℕ) (ws : Words) → is_blank b ≡ false → PlainRest bytes ws
    → PlainRest (b ∷ bytes) (onto_first b ws)
plain_one b bytes ws e h = record {
  word = b ∷ h.word;
  rest = h.rest;
  others = h.others;
  split = ap (λ l. b ∷ l) h.split;
  clear = All-cons (λ x. is_blank x ≡ false) b h.word e h.clear;
  behind = h.behind;
  next = h.next;
  are = ap (onto_first b) h.are;
}

plain_more : (b : ℕ) (bytes : List ℕ) (t : Bool) → is_blank b ≡ t
    → Reads Between bytes → Reads Plain bytes → Reads Plain (b ∷ bytes)
plain_more b bytes true e between bare words g =
    let h : ended (scan Between bytes) ≡ Some words = rw e at g in
    ended_found (PlainRest (b ∷ bytes)) words (scan Between bytes) h
    (λ ws k. plain_none b bytes ws e (between ws k))
plain_more b bytes false e between bare words g =
    let h : onto b (scan Plain bytes) ≡ Some words = rw e at g in
    onto_found (PlainRest (b ∷ bytes)) b words (scan Plain bytes) h
    (λ ws k. plain_one b bytes ws e (bare ws k))

quoted_none : (b : ℕ) (bytes : List ℕ) (ws : Words) → b ≡ 34
    → IsBehindWord bytes × AreWords bytes ws → QuotedRest (b ∷ bytes) ([] ∷ ws)
quoted_none b bytes ws e h = record {
  word = [];
  rest = bytes;
  others = ws;
  split = ap (λ x. x ∷ bytes) e;
  clear = All-nil (λ x. (x == 34) ≡ false);
  behind = h.0;
  next = h.1;
  are = refl;
}

quoted_one : (b : ℕ) (bytes : List ℕ) (ws : Words) → (b == 34) ≡ false → QuotedRest bytes ws
    → QuotedRest (b ∷ bytes) (onto_first b ws)
quoted_one b bytes ws e h = record {
  word = b ∷ h.word;
  rest = h.rest;
  others = h.others;
  split = ap (λ l. b ∷ l) h.split;
  clear = All-cons (λ x. (x == 34) ≡ false) b h.word e h.clear;
  behind = h.behind;
  next = h.next;
  are = ap (onto_first b) h.are;
}

quoted_more : (b : ℕ) (bytes : List ℕ) (q : Bool) → (b == 34) ≡ q
    → Reads Quoted bytes → Reads Closed bytes → Reads Quoted (b ∷ bytes)
quoted_more b bytes true e inside behind words g =
    let is : b ≡ 34 = grind arith in
    let h : ended (scan Closed bytes) ≡ Some words = rw e at g in
    ended_found (QuotedRest (b ∷ bytes)) words (scan Closed bytes) h
    (λ ws k. quoted_none b bytes ws is (behind ws k))
quoted_more b bytes false e inside behind words g =
    let h : onto b (scan Quoted bytes) ≡ Some words = rw e at g in
    onto_found (QuotedRest (b ∷ bytes)) b words (scan Quoted bytes) h
    (λ ws k. quoted_one b bytes ws e (inside ws k))

closed_more : (b : ℕ) (bytes : List ℕ) (t : Bool) → is_blank b ≡ t
    → Reads Between bytes → Reads Closed (b ∷ bytes)
closed_more b bytes true e between words g =
    let h : scan Between bytes ≡ Some words = rw e at g in
    (e, blank_before b bytes words e (between words h))
closed_more b bytes false e between words g =
    let h = rw e at g in absurd (cc h)

plain_ends : (words : Words) → Some ([] ∷ []) ≡ Some words → PlainRest [] words
plain_ends words e = record {
  word = [];
  rest = [];
  others = [];
  split = refl;
  clear = All-nil (λ x. is_blank x ≡ false);
  behind = tt;
  next = no_words;
  are = cc e;
}

reads : (mode : Mode) (line : List ℕ) → Reads mode line
reads Between [] words e = same_words [] [] words (cc e) no_words
reads Plain [] words e = plain_ends words e
reads Quoted [] words e = absurd (cc e)
reads Closed [] words e = (tt, same_words [] [] words (cc e) no_words)
reads Between (b ∷ bytes) words e =
    between_more b bytes (is_blank b) (b == 34) refl refl
    (reads Between bytes) (reads Plain bytes) (reads Quoted bytes) words e
reads Plain (b ∷ bytes) words e =
    plain_more b bytes (is_blank b) refl (reads Between bytes) (reads Plain bytes) words e
reads Quoted (b ∷ bytes) words e =
    quoted_more b bytes (b == 34) refl (reads Quoted bytes) (reads Closed bytes) words e
reads Closed (b ∷ bytes) words e =
    closed_more b bytes (is_blank b) refl (reads Between bytes) words e

pub given : (line : List ℕ) (words : Words) → words_of line ≡ Some words → AreWords line words
given line words e = reads Between line words e
