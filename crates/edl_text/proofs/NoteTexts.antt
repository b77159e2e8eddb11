-- Notes have one text.
use Rattle.std.proofs.Common.{◌≡◌, ◌≢◌, ◌<◌, ◌≤◌, ℕ, List, [], ◌∷◌, ◌++◌, codes, length, get_or, IsUtf8, MatchOption, Some, None, Bor, false, refl, sym, ap, subst, ◌∙◌, length-append, arith}
use Rattle.std.specs.declared.option.Option.{Option}
use Rattle.std.proofs.lemmas.List.{append_cancel_left}
use Rattle.text_lines.specs.First.{begins_with_blank}
use Rattle.text_lines.specs.Lines.{trimmed, trimmed_front}
use Rattle.text_lines.proofs.Trimming.{front_blanks, front_split, front_tight}
use Rattle.edl_text.specs.Notes.{IsBehind, IsNote, IsName}

-- behind a word stands one rest
pub behind_unique : (word line a b : List ℕ) → IsBehind word line a → IsBehind word line b → a ≡ b
behind_unique word line a b p q =
    let e : p.blanks ++ a ≡ q.blanks ++ b = append_cancel_left word (p.blanks ++ a) (q.blanks ++ b) (sym p.is ∙ q.is) in
    sym (front_blanks p.blanks a p.are_blanks p.ends) ∙ ap trimmed_front e ∙ front_blanks q.blanks b q.are_blanks q.ends

no_shorter : (blanks rest : List ℕ) → length rest < length (blanks ++ rest) → blanks ≢ []
no_shorter [] rest h = absurd (omega (arith, h))
no_shorter (b ∷ blanks) rest h = λ e. cc

shorter : (blanks rest : List ℕ) → blanks ≢ [] → length rest < length (blanks ++ rest)
shorter [] rest h = absurd (h refl)
shorter (b ∷ blanks) rest h = omega (arith, length-append (b ∷ blanks) rest)

-- what stands behind a word and is shorter without its blanks
pub behind_is : (word line behind rest : List ℕ) → line ≡ word ++ behind → rest ≡ trimmed_front behind → length rest < length behind → IsBehind word line rest
behind_is word line behind rest is trims short =
    let split = front_split behind in
    let whole : behind ≡ split.blanks ++ rest = split.is ∙ ap (λ l. split.blanks ++ l) (sym trims) in
    record {
      blanks = split.blanks;
      some = no_shorter split.blanks rest (subst (λ l. length rest < length l) whole short);
      are_blanks = split.are;
      ends = subst (λ l. begins_with_blank l ≡ false) (sym trims) (front_tight behind);
      is = is ∙ ap (λ l. word ++ l) whole;
    }

-- nothing stands behind a word and blanks where it has none
pub behind_not : (word line behind rest : List ℕ) → line ≡ word ++ behind → rest ≡ trimmed_front behind → length behind ≤ length rest → (other : List ℕ) → IsBehind word line other → ⊥
behind_not word line behind rest is trims long other p =
    let e : behind ≡ p.blanks ++ other = append_cancel_left word behind (p.blanks ++ other) (sym is ∙ p.is) in
    let same : rest ≡ other = trims ∙ ap trimmed_front e ∙ front_blanks p.blanks other p.are_blanks p.ends in
    omega (arith, long, ap length e, ap length same, shorter p.blanks other p.some)

pub behind_none : (word line : List ℕ) → ((rest : List ℕ) → line ≡ word ++ rest → ⊥) → (other : List ℕ) → IsBehind word line other → ⊥
behind_none word line none other p = none (p.blanks ++ other) p.is

-- no note stands in a line without its first word
pub no_star : (side line : List ℕ) → ((rest : List ℕ) → IsBehind (codes "*") line rest → ⊥) → (text : List ℕ) → IsNote side line text → ⊥
no_star side line none text n = none n.first n.star

pub no_side : (side line first : List ℕ) → IsBehind (codes "*") line first → ((rest : List ℕ) → IsBehind side first rest → ⊥) → (text : List ℕ) → IsNote side line text → ⊥
no_side side line first star none text n = none n.second (subst (λ l. IsBehind side l n.second) (behind_unique (codes "*") line n.first first n.star star) n.is_side)

second_same : (side line first second text : List ℕ) → IsBehind (codes "*") line first → IsBehind side first second → (n : IsNote side line text) → n.second ≡ second
second_same side line first second text star is n =
    behind_unique side first n.second second (subst (λ l. IsBehind side l n.second) (behind_unique (codes "*") line n.first first n.star star) n.is_side) is

pub no_clip : (side line first second : List ℕ) → IsBehind (codes "*") line first → IsBehind side first second → ((rest : List ℕ) → IsBehind (codes "CLIP") second rest → ⊥)
    → (text : List ℕ) → IsNote side line text → ⊥
no_clip side line first second star is none text n = none n.third (subst (λ l. IsBehind (codes "CLIP") l n.third) (second_same side line first second text star is n) n.clip)

third_same : (side line first second third text : List ℕ) → IsBehind (codes "*") line first → IsBehind side first second → IsBehind (codes "CLIP") second third → (n : IsNote side line text) → n.third ≡ third
third_same side line first second third text star is clip n =
    behind_unique (codes "CLIP") second n.third third (subst (λ l. IsBehind (codes "CLIP") l n.third) (second_same side line first second text star is n) n.clip) clip

pub no_name : (side line first second third : List ℕ) → IsBehind (codes "*") line first → IsBehind side first second → IsBehind (codes "CLIP") second third
    → ((rest : List ℕ) → third ≡ codes "NAME:" ++ rest → ⊥) → (text : List ℕ) → IsNote side line text → ⊥
no_name side line first second third star is clip none text n = none text (sym (third_same side line first second third text star is clip n) ∙ n.name)

pub note_or_none : (o : Option (Bor (List ℕ))) (side line first second third : List ℕ) → IsBehind (codes "*") line first → IsBehind side first second → IsBehind (codes "CLIP") second third
    → MatchOption o ((rest : List ℕ) → third ≡ codes "NAME:" ++ rest → ⊥) (λ rest. third ≡ codes "NAME:" ++ rest.now)
    → MatchOption o ((text : List ℕ) → IsNote side line text → ⊥) (λ text. IsNote side line text.now)
note_or_none None side line first second third star is clip none = no_name side line first second third star is clip none
note_or_none (Some text) side line first second third star is clip e = record { first = first; second = second; third = third; star = star; is_side = is; clip = clip; name = e }

-- a line has one text behind `NAME:`
pub note_unique : (side line a b : List ℕ) → IsNote side line a → IsNote side line b → a ≡ b
note_unique side line a b p q =
    let e : codes "NAME:" ++ a ≡ codes "NAME:" ++ b = sym p.name ∙ third_same side line q.first q.second q.third a q.star q.is_side q.clip p ∙ q.name in
    append_cancel_left (codes "NAME:") a b e

-- a note is for one side
pub one_side : (line a b : List ℕ) → IsNote (codes "FROM") line a → IsNote (codes "TO") line b → ⊥
one_side line a b p q =
    let e : p.first ≡ q.first = behind_unique (codes "*") line p.first q.first p.star q.star in
    let f : 70 ≡ 84 = ap (λ (l : List ℕ). get_or l 0 0) (sym p.is_side.is ∙ e ∙ q.is_side.is) in
    omega (arith, f)

pub name_unique : (side line a b : List ℕ) → IsName side line a → IsName side line b → a ≡ b
name_unique side line a b p q = p.trims ∙ ap trimmed (note_unique side line p.text q.text p.note q.note) ∙ sym q.trims

-- a note whose text isn't UTF-8 gives no name
pub no_text : (side line text : List ℕ) → IsNote side line text → (IsUtf8 (trimmed text) → ⊥) → (name : List ℕ) → IsName side line name → ⊥
no_text side line text note bad name p = bad (subst IsUtf8 (p.trims ∙ ap trimmed (note_unique side line p.text text p.note note)) p.utf8)
