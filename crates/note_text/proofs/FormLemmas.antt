-- What a line says as a note, and that it says one thing.
use Rattle.std.proofs.Common.{◌≡◌, ◌≢◌, ◌<◌, ◌≤◌, ◌+◌, ◌==◌, ◌⊎◌, inl, inr, ℕ, ℤ, pos, Bool, true, false, List, [], ◌∷◌, ◌++◌, Some, None, codes, drop, length, take, All, IsUtf8, refl, sym, ap, subst, ◌∙◌, arith}
use Rattle.std.proofs.lemmas.Bool.Decides.{nat_tests}
use Rattle.std.proofs.lemmas.List.{append_cancel_left}
use Rattle.std.proofs.lemmas.List.Elements.{All-head, All-tail}
use Rattle.tick_time.specs.declared.rates.Rate.{Rate}
use Rattle.tick_time.specs.Numerals.{IsNumeral, minus}
use Rattle.tick_time.proofs.DigitBytes.{of_digits}
use Rattle.smpte_tc.specs.Frames.{label_frame}
use Rattle.text_lines.specs.First.{is_blank, HasNone, HasNoBlank, IsFirst, AreBlanks, begins_with_blank}
use Rattle.text_lines.specs.Lines.{fields_of, trimmed_front}
use Rattle.text_lines.proofs.Trimming.{front_blanks, front_split, front_tight}
use Rattle.edl_text.specs.Notes.{IsBehind}
use Rattle.edl_text.proofs.NoteTexts.{behind_unique, behind_is, behind_not}
use Rattle.limits.proofs.ListLemmas.{test-one_way}
use Rattle.note_text.specs.Forms.{IsAfter, IsFirstWord, last, more, IsColor, IsLocator, AreNumerals, IsTriple, IsCorrection, IsSaturation, coloned, spaced, IsNote, IsNoteBehind}
use Rattle.note_text.specs.StateForms.{HasColon, colon, bare}
use Rattle.note_text.specs.declared.notes.Triple.{Triple}
use Rattle.note_text.specs.declared.notes.Said.{Said}
use Rattle.note_text.specs.declared.notes.Said.TheVariants.{Loc, Sop, Sat}
use Rattle.note_text.proofs.WordLemmas.{after_is, after_unique}

-- ---- first words

no_blank_in : (xs : List ℕ) (b : ℕ) (ys : List ℕ) → HasNoBlank (xs ++ b ∷ ys) → is_blank b ≡ false
no_blank_in [] b ys h = All-head (λ x. is_blank x ≡ false) b ys h
no_blank_in (x ∷ xs) b ys h = no_blank_in xs b ys (All-tail (λ x. is_blank x ≡ false) x (xs ++ b ∷ ys) h)

-- two words up to a first blank are the same
words_same : (a b : List ℕ) (c d : ℕ) (x y : List ℕ) → HasNoBlank a → HasNoBlank b → is_blank c ≡ true → is_blank d ≡ true → a ++ c ∷ x ≡ b ++ d ∷ y → a ≡ b
words_same [] [] c d x y p q is_c is_d e = refl
words_same [] (h ∷ b) c d x y p q is_c is_d e = let same : c ≡ h = cc in absurd (test-one_way (is_blank h) (ap is_blank (sym same) ∙ is_c) (All-head (λ x. is_blank x ≡ false) h b q))
words_same (h ∷ a) [] c d x y p q is_c is_d e = let same : h ≡ d = cc in absurd (test-one_way (is_blank h) (ap is_blank same ∙ is_d) (All-head (λ x. is_blank x ≡ false) h a p))
words_same (h ∷ a) (k ∷ b) c d x y p q is_c is_d e =
    let first : h ≡ k = cc in
    let rest : a ++ c ∷ x ≡ b ++ d ∷ y = cc in
    let same = words_same a b c d x y (All-tail (λ x. is_blank x ≡ false) h a p) (All-tail (λ x. is_blank x ≡ false) k b q) is_c is_d rest in
    cc

-- the blanks after a word are some
record Blanks (word line rest : List ℕ) : Type 0 where
  first : ℕ
  others : List ℕ
  is : is_blank first ≡ true
  split : line ≡ word ++ first ∷ (others ++ rest)

blanks_of : (word line rest blanks : List ℕ) → blanks ≢ [] → AreBlanks blanks → line ≡ word ++ (blanks ++ rest) → Blanks word line rest
blanks_of word line rest [] some are e = absurd (some refl)
blanks_of word line rest (b ∷ bs) some are e = record { first = b; others = bs; is = All-head (λ x. is_blank x ≡ true) b bs are; split = e }

pub first_unique : (line a r b s : List ℕ) → IsFirstWord line a r → IsFirstWord line b s → (a ≡ b) × (r ≡ s)
first_unique line a r b s (last p e f) (last q g h) = (e ∙ sym g, f ∙ sym h)
first_unique line a r b s (last p e f) (more q g) =
    let k = blanks_of b line s g.blanks g.some g.are_blanks g.is in
    absurd (test-one_way (is_blank k.first) k.is (no_blank_in b k.first (k.others ++ s) (subst HasNoBlank k.split p)))
first_unique line a r b s (more p e) (last q g h) =
    let k = blanks_of a line r e.blanks e.some e.are_blanks e.is in
    absurd (test-one_way (is_blank k.first) k.is (no_blank_in a k.first (k.others ++ r) (subst HasNoBlank k.split q)))
first_unique line a r b s (more p e) (more q g) =
    let k = blanks_of a line r e.blanks e.some e.are_blanks e.is in
    let l = blanks_of b line s g.blanks g.some g.are_blanks g.is in
    let same = words_same a b k.first l.first (k.others ++ r) (l.others ++ s) p q k.is l.is (sym k.split ∙ l.split) in
    (same, behind_unique b line r s (subst (λ w. IsBehind w line r) same e) g)

-- ---- locators

pub no_word : (rate : Rate) (drop : Bool) (line : List ℕ) → ((rest : List ℕ) → IsAfter (codes "LOC") line rest → ⊥) → (at : ℤ) (color name : List ℕ) → IsLocator rate drop line at color name → ⊥
no_word rate drop line none at color name l = none l.word l.is_word

word_same : (rate : Rate) (drop : Bool) (line word : List ℕ) (at : ℤ) (color name : List ℕ) → IsAfter (codes "LOC") line word → (l : IsLocator rate drop line at color name) → l.word ≡ word
word_same rate drop line word at color name w l = after_unique (codes "LOC") line l.word word l.is_word w

pub no_colon : (rate : Rate) (drop : Bool) (line word : List ℕ) → IsAfter (codes "LOC") line word → ((rest : List ℕ) → IsAfter (codes ":") word rest → ⊥) → (at : ℤ) (color name : List ℕ)
    → IsLocator rate drop line at color name → ⊥
no_colon rate drop line word w none at color name l = none l.said (subst (λ x. IsAfter (codes ":") x l.said) (word_same rate drop line word at color name w l) l.colon)

said_same : (rate : Rate) (drop : Bool) (line word said : List ℕ) (at : ℤ) (color name : List ℕ) → IsAfter (codes "LOC") line word → IsAfter (codes ":") word said → (l : IsLocator rate drop line at color name) → l.said ≡ said
said_same rate drop line word said at color name w c l =
    after_unique (codes ":") word l.said said (subst (λ x. IsAfter (codes ":") x l.said) (word_same rate drop line word at color name w l) l.colon) c

label_same : (rate : Rate) (drop : Bool) (line word said label behind : List ℕ) (at : ℤ) (color name : List ℕ) → IsAfter (codes "LOC") line word → IsAfter (codes ":") word said → IsFirstWord said label behind
    → (l : IsLocator rate drop line at color name) → (l.label ≡ label) × (l.behind ≡ behind)
label_same rate drop line word said label behind at color name w c f l =
    first_unique said l.label l.behind label behind (subst (λ x. IsFirstWord x l.label l.behind) (said_same rate drop line word said at color name w c l) l.first) f

pub no_label : (rate : Rate) (drop : Bool) (line word said label behind : List ℕ) → IsAfter (codes "LOC") line word → IsAfter (codes ":") word said → IsFirstWord said label behind → label_frame rate drop label ≡ None
    → (at : ℤ) (color name : List ℕ) → IsLocator rate drop line at color name → ⊥
no_label rate drop line word said label behind w c f none at color name l =
    let e : Some l.frame ≡ None = sym l.names ∙ ap (label_frame rate drop) (label_same rate drop line word said label behind at color name w c f l).0 ∙ none in absurd (cc)

color_same : (rate : Rate) (drop : Bool) (line word said label behind color rest : List ℕ) (at : ℤ) (other name : List ℕ) → IsAfter (codes "LOC") line word → IsAfter (codes ":") word said → IsFirstWord said label behind
    → IsFirstWord behind color rest → (l : IsLocator rate drop line at other name) → (other ≡ color) × (name ≡ rest)
color_same rate drop line word said label behind color rest at other name w c f s l =
    first_unique behind other name color rest (subst (λ x. IsFirstWord x other name) (label_same rate drop line word said label behind at other name w c f l).1 l.second) s

pub no_color : (rate : Rate) (drop : Bool) (line word said label behind color rest : List ℕ) → IsAfter (codes "LOC") line word → IsAfter (codes ":") word said → IsFirstWord said label behind → IsFirstWord behind color rest
    → (IsColor color → ⊥) → (at : ℤ) (other name : List ℕ) → IsLocator rate drop line at other name → ⊥
no_color rate drop line word said label behind color rest w c f s none at other name l = none (subst IsColor (color_same rate drop line word said label behind color rest at other name w c f s l).0 l.is_color)

pub no_text : (rate : Rate) (drop : Bool) (line word said label behind color rest : List ℕ) → IsAfter (codes "LOC") line word → IsAfter (codes ":") word said → IsFirstWord said label behind → IsFirstWord behind color rest
    → (IsUtf8 rest → ⊥) → (at : ℤ) (other name : List ℕ) → IsLocator rate drop line at other name → ⊥
no_text rate drop line word said label behind color rest w c f s none at other name l = none (subst IsUtf8 (color_same rate drop line word said label behind color rest at other name w c f s l).1 l.utf8)

pub locates : (rate : Rate) (drop : Bool) (line word said label behind color name : List ℕ) (frame : ℕ) → IsAfter (codes "LOC") line word → IsAfter (codes ":") word said → IsFirstWord said label behind
    → label_frame rate drop label ≡ Some frame → IsFirstWord behind color name → IsColor color → IsUtf8 name → IsLocator rate drop line (pos frame) color name
locates rate drop line word said label behind color name frame w c f e s is utf8 =
    record { word = word; is_word = w; said = said; colon = c; label = label; behind = behind; first = f; frame = frame; names = e; at_is = refl; second = s; is_color = is; utf8 = utf8 }

-- ---- three numerals

close_in : (xs ys : List ℕ) → HasNone 41 (xs ++ 41 ∷ ys) → ⊥
close_in [] ys h = let e : true ≡ false = All-head (λ b. (b == 41) ≡ false) 41 ys h in absurd (cc)
close_in (x ∷ xs) ys h = close_in xs ys (All-tail (λ b. (b == 41) ≡ false) x (xs ++ 41 ∷ ys) h)

parts_same : (a b x y : List ℕ) → HasNone 41 a → HasNone 41 b → a ++ 41 ∷ x ≡ b ++ 41 ∷ y → (a ≡ b) × (x ≡ y)
parts_same [] [] x y p q e = let k : x ≡ y = cc in (refl, k)
parts_same [] (h ∷ b) x y p q e = let k : h ≡ 41 = cc in absurd (test-one_way (41 == 41) refl (ap (λ z. z == 41) (sym k) ∙ All-head (λ b. (b == 41) ≡ false) h b q))
parts_same (h ∷ a) [] x y p q e = let k : h ≡ 41 = cc in absurd (test-one_way (41 == 41) refl (ap (λ z. z == 41) (sym k) ∙ All-head (λ b. (b == 41) ≡ false) h a p))
parts_same (h ∷ a) (k ∷ b) x y p q e =
    let first : h ≡ k = cc in
    let rest : a ++ 41 ∷ x ≡ b ++ 41 ∷ y = cc in
    let same = parts_same a b x y (All-tail (λ b. (b == 41) ≡ false) h a p) (All-tail (λ b. (b == 41) ≡ false) k b q) rest in
    let front = same.0 in
    let whole : h ∷ a ≡ k ∷ b = cc in
    (whole, same.1)

pub no_open : (text : List ℕ) → ((rest : List ℕ) → text ≡ codes "(" ++ rest → ⊥) → (t : Triple) (rest : List ℕ) → IsTriple text t rest → ⊥
no_open text none t rest h = none (h.inner ++ (codes ")" ++ h.behind)) h.is

opened : (text inside : List ℕ) → text ≡ codes "(" ++ inside → (t : Triple) (rest : List ℕ) → (h : IsTriple text t rest) → inside ≡ h.inner ++ 41 ∷ h.behind
opened text inside e t rest h = let k : codes "(" ++ inside ≡ codes "(" ++ (h.inner ++ 41 ∷ h.behind) = sym e ∙ h.is in append_cancel_left (codes "(") inside (h.inner ++ 41 ∷ h.behind) k

pub no_close : (text inside : List ℕ) → text ≡ codes "(" ++ inside → HasNone 41 inside → (t : Triple) (rest : List ℕ) → IsTriple text t rest → ⊥
no_close text inside e none t rest h = close_in h.inner h.behind (subst (HasNone 41) (opened text inside e t rest h) none)

inner_same : (text inside : List ℕ) (i : ℕ) → text ≡ codes "(" ++ inside → IsFirst 41 inside i → (t : Triple) (rest : List ℕ) → (h : IsTriple text t rest) → (h.inner ≡ take i inside) × (h.behind ≡ drop (i + 1) inside)
inner_same text inside i e f t rest h = parts_same h.inner (take i inside) h.behind (drop (i + 1) inside) h.unclosed f.before (sym (opened text inside e t rest h) ∙ f.split)

pub no_numerals : (text inside : List ℕ) (i : ℕ) → text ≡ codes "(" ++ inside → IsFirst 41 inside i → ((t : Triple) → AreNumerals (take i inside) t → ⊥) → (t : Triple) (rest : List ℕ) → IsTriple text t rest → ⊥
no_numerals text inside i e f none t rest h = none t (subst (λ l. AreNumerals l t) (inner_same text inside i e f t rest h).0 h.numerals)

pub three : (text inside rest : List ℕ) (i : ℕ) (t : Triple) → text ≡ codes "(" ++ inside → IsFirst 41 inside i → AreNumerals (take i inside) t → rest ≡ trimmed_front (drop (i + 1) inside) → IsTriple text t rest
three text inside rest i t e f are trims =
    let split = front_split (drop (i + 1) inside) in
    record {
      inner = take i inside;
      behind = drop (i + 1) inside;
      is = e ∙ ap (λ l. codes "(" ++ l) f.split;
      unclosed = f.before;
      numerals = are;
      blanks = split.blanks;
      are_blanks = split.are;
      ends = subst (λ l. begins_with_blank l ≡ false) (sym trims) (front_tight (drop (i + 1) inside));
      behind_is = split.is ∙ ap (λ l. split.blanks ++ l) (sym trims);
    }

-- ---- slope, offset and power

open_is : (text : List ℕ) (t : Triple) (rest : List ℕ) → IsTriple text t rest → (tail : List ℕ) × (text ≡ 40 ∷ tail)
open_is text t rest h = (h.inner ++ (codes ")" ++ h.behind), h.is)

no_colon_opens : (x y : List ℕ) → 58 ∷ x ≡ 40 ∷ y → ⊥
no_colon_opens x y e = absurd (cc)

-- a triple after a word begins where the code looks
slopes_same : (word rest slopes : List ℕ) (t : Triple) (behind : List ℕ) → HasColon word rest → IsAfter (codes ":") word slopes ⊎ (slopes ≡ word) → IsTriple slopes t behind → slopes ≡ rest
slopes_same word rest slopes t behind (colon c) (inl d) h = after_unique (codes ":") word slopes rest d c
slopes_same word rest slopes t behind (colon c) (inr e) h = let o = open_is slopes t behind h in absurd (no_colon_opens (c.blanks ++ rest) o.0 (sym c.is ∙ sym e ∙ o.1))
slopes_same word rest slopes t behind (bare n e) (inl d) h = absurd (n slopes d)
slopes_same word rest slopes t behind (bare n e) (inr f) h = f ∙ sym e

colon_for : (word rest : List ℕ) → HasColon word rest → IsAfter (codes ":") word rest ⊎ (rest ≡ word)
colon_for word rest (colon c) = inl c
colon_for word rest (bare n e) = inr e

pub no_sop : (line : List ℕ) → ((rest : List ℕ) → IsAfter (codes "ASC_SOP") line rest → ⊥) → (a b d : Triple) → IsCorrection line a b d → ⊥
no_sop line none a b d l = none l.word l.is_word

slope_at : (line word rest : List ℕ) (a b d : Triple) → IsAfter (codes "ASC_SOP") line word → HasColon word rest → (l : IsCorrection line a b d) → IsTriple rest a l.offsets
slope_at line word rest a b d w c l =
    let same = after_unique (codes "ASC_SOP") line l.word word l.is_word w in
    let here : IsAfter (codes ":") word l.slopes ⊎ (l.slopes ≡ word) = subst (λ x. IsAfter (codes ":") x l.slopes ⊎ (l.slopes ≡ x)) same l.colon in
    subst (λ x. IsTriple x a l.offsets) (slopes_same word rest l.slopes a l.offsets c here l.is_slope) l.is_slope

pub no_slope : (line word rest : List ℕ) → IsAfter (codes "ASC_SOP") line word → HasColon word rest → ((t : Triple) (tail : List ℕ) → IsTriple rest t tail → ⊥) → (a b d : Triple) → IsCorrection line a b d → ⊥
no_slope line word rest w c none a b d l = none a l.offsets (slope_at line word rest a b d w c l)

abbrev make : List ℕ → List ℕ → List ℕ → Triple
make r g b = record { r = r; g = g; b = b }

first_same : (a b c x y z : List ℕ) → a ∷ b ∷ c ∷ [] ≡ x ∷ y ∷ z ∷ [] → a ≡ x
first_same a b c x y z e = cc

second_same : (a b c x y z : List ℕ) → a ∷ b ∷ c ∷ [] ≡ x ∷ y ∷ z ∷ [] → b ≡ y
second_same a b c x y z e = cc

third_same : (a b c x y z : List ℕ) → a ∷ b ∷ c ∷ [] ≡ x ∷ y ∷ z ∷ [] → c ≡ z
third_same a b c x y z e = cc

triple_same : (t u : Triple) → t.r ∷ t.g ∷ t.b ∷ [] ≡ u.r ∷ u.g ∷ u.b ∷ [] → t ≡ u
triple_same t u e =
    ap (λ x. make x t.g t.b) (first_same t.r t.g t.b u.r u.g u.b e) ∙ ap (λ x. make u.r x t.b) (second_same t.r t.g t.b u.r u.g u.b e) ∙ ap (λ x. make u.r u.g x) (third_same t.r t.g t.b u.r u.g u.b e)

-- after three numerals stands one rest
pub triple_rest : (text : List ℕ) (t u : Triple) (a b : List ℕ) → IsTriple text t a → IsTriple text u b → (t ≡ u) × (a ≡ b)
triple_rest text t u a b p q =
    let k : codes "(" ++ (p.inner ++ 41 ∷ p.behind) ≡ codes "(" ++ (q.inner ++ 41 ∷ q.behind) = sym p.is ∙ q.is in
    let same = parts_same p.inner q.inner p.behind q.behind p.unclosed q.unclosed (append_cancel_left (codes "(") (p.inner ++ 41 ∷ p.behind) (q.inner ++ 41 ∷ q.behind) k) in
    let fields : t.r ∷ t.g ∷ t.b ∷ [] ≡ u.r ∷ u.g ∷ u.b ∷ [] = sym p.numerals.fields ∙ ap fields_of same.0 ∙ q.numerals.fields in
    let blanks : p.blanks ++ a ≡ q.blanks ++ b = sym p.behind_is ∙ same.1 ∙ q.behind_is in (
      triple_same t u fields,
      sym (front_blanks p.blanks a p.are_blanks p.ends) ∙ ap trimmed_front blanks ∙ front_blanks q.blanks b q.are_blanks q.ends,
    )

offset_at : (line word rest offsets : List ℕ) (s a b d : Triple) → IsAfter (codes "ASC_SOP") line word → HasColon word rest → IsTriple rest s offsets → (l : IsCorrection line a b d) → IsTriple offsets b l.powers
offset_at line word rest offsets s a b d w c t l =
    subst (λ x. IsTriple x b l.powers) (triple_rest rest a s l.offsets offsets (slope_at line word rest a b d w c l) t).1 l.is_offset

pub no_offset : (line word rest offsets : List ℕ) (s : Triple) → IsAfter (codes "ASC_SOP") line word → HasColon word rest → IsTriple rest s offsets → ((t : Triple) (tail : List ℕ) → IsTriple offsets t tail → ⊥)
    → (a b d : Triple) → IsCorrection line a b d → ⊥
no_offset line word rest offsets s w c t none a b d l = none b l.powers (offset_at line word rest offsets s a b d w c t l)

power_at : (line word rest offsets powers : List ℕ) (s o a b d : Triple) → IsAfter (codes "ASC_SOP") line word → HasColon word rest → IsTriple rest s offsets → IsTriple offsets o powers → (l : IsCorrection line a b d)
    → IsTriple powers d []
power_at line word rest offsets powers s o a b d w c t u l =
    subst (λ x. IsTriple x d []) (triple_rest offsets b o l.powers powers (offset_at line word rest offsets s a b d w c t l) u).1 l.is_power

pub no_power : (line word rest offsets powers : List ℕ) (s o : Triple) → IsAfter (codes "ASC_SOP") line word → HasColon word rest → IsTriple rest s offsets → IsTriple offsets o powers
    → ((t : Triple) (tail : List ℕ) → IsTriple powers t tail → ⊥) → (a b d : Triple) → IsCorrection line a b d → ⊥
no_power line word rest offsets powers s o w c t u none a b d l = none d [] (power_at line word rest offsets powers s o a b d w c t u l)

pub no_end : (line word rest offsets powers tail : List ℕ) (s o p : Triple) → IsAfter (codes "ASC_SOP") line word → HasColon word rest → IsTriple rest s offsets → IsTriple offsets o powers → IsTriple powers p tail
    → tail ≢ [] → (a b d : Triple) → IsCorrection line a b d → ⊥
no_end line word rest offsets powers tail s o p w c t u v some a b d l = some (triple_rest powers p d tail [] v (power_at line word rest offsets powers s o a b d w c t u l)).1

pub corrects : (line word rest offsets powers tail : List ℕ) (s o p : Triple) → IsAfter (codes "ASC_SOP") line word → HasColon word rest → IsTriple rest s offsets → IsTriple offsets o powers → IsTriple powers p tail
    → tail ≡ [] → IsCorrection line s o p
corrects line word rest offsets powers tail s o p w c t u v e =
    record { word = word; is_word = w; slopes = rest; colon = colon_for word rest c; offsets = offsets; powers = powers; is_slope = t; is_offset = u; is_power = subst (λ x. IsTriple powers p x) e v }

-- ---- saturation

no_colon_digit : (d : ℕ) (ds x back : List ℕ) → All (λ b. (48 ≤ b) × (b ≤ 57)) (d ∷ ds) → 58 ∷ x ≡ d ∷ (ds ++ back) → ⊥
no_colon_digit d ds x back h e = let same : 58 ≡ d = cc in let high = (All-head (λ b. (48 ≤ b) × (b ≤ 57)) d ds h).1 in omega (arith, same, high)

minus_colon : (x back : List ℕ) → 58 ∷ x ≡ 45 ∷ back → ⊥
minus_colon x back e = absurd (cc)

whole_colon : (whole x back : List ℕ) → 0 < length whole → All (λ b. (48 ≤ b) × (b ≤ 57)) whole → 58 ∷ x ≡ whole ++ back → ⊥
whole_colon [] x back some h e = absurd (omega (arith, some))
whole_colon (d ∷ ds) x back some h e = no_colon_digit d ds x back h e

numeral_by : (neg : Bool) (whole x back : List ℕ) → 0 < length whole → All (λ b. (48 ≤ b) × (b ≤ 57)) whole → 58 ∷ x ≡ minus neg ++ (whole ++ back) → ⊥
numeral_by true whole x back some h e = minus_colon x (whole ++ back) e
numeral_by false whole x back some h e = whole_colon whole x back some h e

-- no numeral begins with a colon
pub colon_no_numeral : (x : List ℕ) → IsNumeral (58 ∷ x) → ⊥
colon_no_numeral x h = numeral_by h.0.neg h.0.whole x _ h.1.int.some (of_digits h.0.whole h.1.int.all) h.1.spelled

-- what stands after a word and blanks
behind_rest : (word line text rest m : List ℕ) → line ≡ word ++ text → rest ≡ trimmed_front text → IsBehind word line m → m ≡ rest
behind_rest word line text rest m e trims b =
    let k : b.blanks ++ m ≡ text = append_cancel_left word (b.blanks ++ m) text (sym b.is ∙ e) in
    sym (front_blanks b.blanks m b.are_blanks b.ends) ∙ ap trimmed_front k ∙ sym trims

pub no_sat_word : (line : List ℕ) → ((rest : List ℕ) → line ≡ codes "ASC_SAT" ++ rest → ⊥) → (m : List ℕ) → IsSaturation line m → ⊥
no_sat_word line none m (coloned word w c n) = none (w.blanks ++ word) w.is
no_sat_word line none m (spaced b n) = none (b.blanks ++ m) b.is

pub sat_colon : (line text rest n : List ℕ) → line ≡ codes "ASC_SAT" ++ text → rest ≡ trimmed_front text → IsAfter (codes ":") rest n → IsNumeral n → IsSaturation line n
sat_colon line text rest n e trims c num = coloned rest (after_is (codes "ASC_SAT") line text rest e trims) c num

pub no_sat_colon : (line text rest n : List ℕ) → line ≡ codes "ASC_SAT" ++ text → rest ≡ trimmed_front text → IsAfter (codes ":") rest n → (IsNumeral n → ⊥) → (m : List ℕ) → IsSaturation line m → ⊥
no_sat_colon line text rest n e trims c none m (coloned word w d num) =
    let same = after_unique (codes "ASC_SAT") line word rest w (after_is (codes "ASC_SAT") line text rest e trims) in
    none (subst IsNumeral (after_unique (codes ":") rest m n (subst (λ x. IsAfter (codes ":") x m) same d) c) num)
no_sat_colon line text rest n e trims c none m (spaced b num) =
    colon_no_numeral (c.blanks ++ n) (subst IsNumeral (behind_rest (codes "ASC_SAT") line text rest m e trims b ∙ c.is) num)

pub sat_bare : (line text rest : List ℕ) → line ≡ codes "ASC_SAT" ++ text → rest ≡ trimmed_front text → length rest < length text → IsNumeral rest → IsSaturation line rest
sat_bare line text rest e trims short num = spaced (behind_is (codes "ASC_SAT") line text rest e trims short) num

no_sat_by : (line text rest : List ℕ) → line ≡ codes "ASC_SAT" ++ text → rest ≡ trimmed_front text → ((other : List ℕ) → IsAfter (codes ":") rest other → ⊥) → (m : List ℕ) → IsSaturation line m
    → IsBehind (codes "ASC_SAT") line m × (m ≡ rest) × IsNumeral m
no_sat_by line text rest e trims none m (coloned word w d num) =
    absurd (none m (subst (λ x. IsAfter (codes ":") x m) (after_unique (codes "ASC_SAT") line word rest w (after_is (codes "ASC_SAT") line text rest e trims)) d))
no_sat_by line text rest e trims none m (spaced b num) = (b, behind_rest (codes "ASC_SAT") line text rest m e trims b, num)

pub no_sat_bare : (line text rest : List ℕ) → line ≡ codes "ASC_SAT" ++ text → rest ≡ trimmed_front text → ((other : List ℕ) → IsAfter (codes ":") rest other → ⊥) → (IsNumeral rest → ⊥)
    → (m : List ℕ) → IsSaturation line m → ⊥
no_sat_bare line text rest e trims none no_num m h = let k = no_sat_by line text rest e trims none m h in no_num (subst IsNumeral k.1 k.2)

pub no_sat_long : (line text rest : List ℕ) → line ≡ codes "ASC_SAT" ++ text → rest ≡ trimmed_front text → ((other : List ℕ) → IsAfter (codes ":") rest other → ⊥) → length text ≤ length rest
    → (m : List ℕ) → IsSaturation line m → ⊥
no_sat_long line text rest e trims none long m h = let k = no_sat_by line text rest e trims none m h in behind_not (codes "ASC_SAT") line text rest e trims long m k.0

-- ---- notes

pub no_star : (rate : Rate) (drop : Bool) (line : List ℕ) → ((rest : List ℕ) → IsAfter (codes "*") line rest → ⊥) → (said : Said) → IsNote rate drop line said → ⊥
no_star rate drop line none said h = none h.rest h.star

none_behind : (rate : Rate) (drop : Bool) (rest : List ℕ) → ((at : ℤ) (color name : List ℕ) → IsLocator rate drop rest at color name → ⊥) → ((a b d : Triple) → IsCorrection rest a b d → ⊥)
    → ((m : List ℕ) → IsSaturation rest m → ⊥) → (said : Said) → IsNoteBehind rate drop rest said → ⊥
none_behind rate drop rest l c s (Loc at color name) h = l at color name h
none_behind rate drop rest l c s (Sop slope offset power) h = c slope offset power h
none_behind rate drop rest l c s (Sat numeral) h = s numeral h

pub no_note : (rate : Rate) (drop : Bool) (line rest : List ℕ) → IsAfter (codes "*") line rest → ((at : ℤ) (color name : List ℕ) → IsLocator rate drop rest at color name → ⊥)
    → ((a b d : Triple) → IsCorrection rest a b d → ⊥) → ((m : List ℕ) → IsSaturation rest m → ⊥) → (said : Said) → IsNote rate drop line said → ⊥
no_note rate drop line rest w l c s said h = none_behind rate drop rest l c s said (subst (λ x. IsNoteBehind rate drop x said) (after_unique (codes "*") line h.rest rest h.star w) h.is)

pub a_note : (rate : Rate) (drop : Bool) (line rest : List ℕ) (said : Said) → IsAfter (codes "*") line rest → IsNoteBehind rate drop rest said → IsNote rate drop line said
a_note rate drop line rest said w h = record { rest = rest; star = w; is = h }

-- ---- an end

pub none_left : (rest : List ℕ) → true ≡ (length rest == 0) → rest ≡ []
none_left [] e = refl
none_left (x ∷ rest) e = absurd (grind (arith, nat_tests, e))

pub some_left : (rest : List ℕ) → false ≡ (length rest == 0) → rest ≢ []
some_left [] e h = absurd (grind (arith, nat_tests, e))
some_left (x ∷ rest) e h = absurd (let k : length (x ∷ rest) ≡ 0 = ap length h in grind (arith, k))
