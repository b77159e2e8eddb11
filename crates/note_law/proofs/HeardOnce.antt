-- The notes of bytes are one.
use Rattle.std.proofs.Common.{◌≡◌, ◌⊎◌, inl, inr, ℕ, ℤ, pos, Bool, List, [], ◌∷◌, ◌++◌, codes, refl, sym, ap, ap₂, subst, ◌∙◌, arith}
use Rattle.note_text.proofs.FormLemmas.{colon_no_numeral}
use Rattle.coord.proofs.Members.{same_some}
use Rattle.text_lines.specs.Lines.{lines_of, trimmed}
use Rattle.tick_time.specs.declared.rates.Rate.{Rate}
use Rattle.tick_time.specs.Numerals.{IsNumeral}
use Rattle.smpte_tc.specs.Frames.{label_frame}
use Rattle.edl_list.specs.declared.list.EventList.{EventList}
use Rattle.edl_text.specs.Notes.{IsBehind}
use Rattle.edl_text.specs.Past.{Block, mode_in}
use Rattle.edl_text.specs.Saying.{Says}
use Rattle.edl_text.specs.Statements.{Nothing, Statement}
use Rattle.edl_text.proofs.OneStatement.{says_unique}
use Rattle.note_text.specs.Belonging.{AreNotes, notes_said}
use Rattle.note_text.specs.Forms.{IsAfter, IsFirstWord, IsLocator, IsTriple, IsCorrection, IsSaturation, coloned, spaced, IsNote, IsNoteBehind}
use Rattle.note_text.specs.Heard.{AreHeard, IsHeard, end, note, other}
use Rattle.note_text.specs.declared.notes.Triple.{Triple}
use Rattle.note_text.specs.declared.notes.Said.{Said}
use Rattle.note_text.specs.declared.notes.Said.TheVariants.{Loc, Sop, Sat}
use Rattle.note_text.specs.declared.notes.Heard.{Heard}
use Rattle.note_text.specs.declared.notes.Note.{Note}
use Rattle.note_text.proofs.WordLemmas.{after_unique}
use Rattle.note_text.proofs.FormLemmas.{first_unique, triple_rest}

-- ---- first bytes

heads : (a b : ℕ) (x y : List ℕ) → a ∷ x ≡ b ∷ y → a ≡ b
heads a b x y e = cc e

tails : (a b : ℕ) (x y : List ℕ) → a ∷ x ≡ b ∷ y → x ≡ y
tails a b x y e = cc e

-- two texts of other first bytes differ
apart : (a b : ℕ) (x y : List ℕ) → (a ≡ b → ⊥) → a ∷ x ≡ b ∷ y → ⊥
apart a b x y n e = n (heads a b x y e)

-- so do two that differ in the sixth byte
apart_later : (c d f g h a b : ℕ) (x y : List ℕ) → (a ≡ b → ⊥) → c ∷ d ∷ f ∷ g ∷ h ∷ a ∷ x ≡ c ∷ d ∷ f ∷ g ∷ h ∷ b ∷ y → ⊥
apart_later c d f g h a b x y n e = apart a b x y n (tails h h _ _ (tails g g _ _ (tails f f _ _ (tails d d _ _ (tails c c _ _ e)))))

colon_open : ◌≡◌ {A = ℕ} 58 40 → ⊥
colon_open e = omega (arith, e)

colon_minus : ◌≡◌ {A = ℕ} 58 45 → ⊥
colon_minus e = omega (arith, e)

l_or_a : ◌≡◌ {A = ℕ} 76 65 → ⊥
l_or_a e = omega (arith, e)

o_or_a : ◌≡◌ {A = ℕ} 79 65 → ⊥
o_or_a e = omega (arith, e)

-- ---- locators

one_locator : (rate : Rate) (drop : Bool) (line : List ℕ) (a b : ℤ) (c d m n : List ℕ) → IsLocator rate drop line a c m → IsLocator rate drop line b d n → Loc a c m ≡ Loc b d n
one_locator rate drop line a b c d m n h k =
    let w = after_unique (codes "LOC") line h.word k.word h.is_word k.is_word in
    let s = after_unique (codes ":") k.word h.said k.said (subst (λ l. IsAfter (codes ":") l h.said) w h.colon) k.colon in
    let f = first_unique k.said h.label h.behind k.label k.behind (subst (λ l. IsFirstWord l h.label h.behind) s h.first) k.first in
    let g = first_unique k.behind c m d n (subst (λ l. IsFirstWord l c m) f.1 h.second) k.second in
    let frame = same_some h.frame k.frame (sym h.names ∙ ap (label_frame rate drop) f.0 ∙ k.names) in
    let at = h.at_is ∙ ap (λ i. pos i) frame ∙ sym k.at_is in
    ap (λ x. Loc x c m) at ∙ ap (λ x. Loc b x m) g.0 ∙ ap (λ x. Loc b d x) g.1

-- ---- slope, offset and power

one_slopes : (word slopes others : List ℕ) (s t : Triple) (x y : List ℕ) → IsAfter (codes ":") word slopes ⊎ (slopes ≡ word) → IsAfter (codes ":") word others ⊎ (others ≡ word)
    → IsTriple slopes s x → IsTriple others t y → slopes ≡ others
one_slopes word slopes others s t x y (inl h) (inl k) p q = after_unique (codes ":") word slopes others h k
one_slopes word slopes others s t x y (inr h) (inr k) p q = h ∙ sym k
one_slopes word slopes others s t x y (inl h) (inr k) p q =
    absurd (apart 58 40 (h.blanks ++ slopes) (q.inner ++ 41 ∷ q.behind) colon_open (sym h.is ∙ sym k ∙ q.is))
one_slopes word slopes others s t x y (inr h) (inl k) p q =
    absurd (apart 58 40 (k.blanks ++ others) (p.inner ++ 41 ∷ p.behind) colon_open (sym k.is ∙ sym h ∙ p.is))

one_correction : (line : List ℕ) (a b c d e f : Triple) → IsCorrection line a b c → IsCorrection line d e f → Sop a b c ≡ Sop d e f
one_correction line a b c d e f h k =
    let w = after_unique (codes "ASC_SOP") line h.word k.word h.is_word k.is_word in
    let s = one_slopes k.word h.slopes k.slopes a d h.offsets k.offsets (subst (λ l. IsAfter (codes ":") l h.slopes ⊎ (h.slopes ≡ l)) w h.colon) k.colon h.is_slope k.is_slope in
    let x = triple_rest k.slopes a d h.offsets k.offsets (subst (λ l. IsTriple l a h.offsets) s h.is_slope) k.is_slope in
    let y = triple_rest k.offsets b e h.powers k.powers (subst (λ l. IsTriple l b h.powers) x.1 h.is_offset) k.is_offset in
    let z = triple_rest k.powers c f [] [] (subst (λ l. IsTriple l c []) y.1 h.is_power) k.is_power in
    ap (λ t. Sop t b c) x.0 ∙ ap (λ t. Sop d t c) y.0 ∙ ap (λ t. Sop d e t) z.0

-- ---- saturation

loose : (word line rest : List ℕ) → IsBehind word line rest → IsAfter word line rest
loose word line rest h = record { blanks = h.blanks; are_blanks = h.are_blanks; ends = h.ends; is = h.is }

not_both : (line word n m : List ℕ) → IsAfter (codes "ASC_SAT") line word → IsAfter (codes ":") word n → IsBehind (codes "ASC_SAT") line m → IsNumeral m → ⊥
not_both line word n m w c b i =
    let same = after_unique (codes "ASC_SAT") line m word (loose (codes "ASC_SAT") line m b) w in
    colon_no_numeral (c.blanks ++ n) (subst IsNumeral (same ∙ c.is) i)

one_saturation : (line a b : List ℕ) → IsSaturation line a → IsSaturation line b → a ≡ b
one_saturation line a b (coloned u h k i) (coloned v m n j) =
    let w = after_unique (codes "ASC_SAT") line u v h m in
    after_unique (codes ":") v a b (subst (λ l. IsAfter (codes ":") l a) w k) n
one_saturation line a b (spaced h i) (spaced k j) = after_unique (codes "ASC_SAT") line a b (loose (codes "ASC_SAT") line a h) (loose (codes "ASC_SAT") line b k)
one_saturation line a b (coloned u h k i) (spaced m j) = absurd (not_both line u a b h k m j)
one_saturation line a b (spaced m j) (coloned u h k i) = absurd (not_both line u b a h k m j)

sat_word : (line numeral : List ℕ) → IsSaturation line numeral → (rest : List ℕ) × (line ≡ codes "ASC_SAT" ++ rest)
sat_word line numeral (coloned u h k i) = (h.blanks ++ u, h.is)
sat_word line numeral (spaced h i) = (h.blanks ++ numeral, h.is)

-- ---- notes

loc_or_sop : (rate : Rate) (drop : Bool) (line : List ℕ) (a : ℤ) (c m : List ℕ) (d e f : Triple) → IsLocator rate drop line a c m → IsCorrection line d e f → ⊥
loc_or_sop rate drop line a c m d e f h k = apart 76 65 _ _ l_or_a (sym h.is_word.is ∙ k.is_word.is)

loc_or_sat : (rate : Rate) (drop : Bool) (line : List ℕ) (a : ℤ) (c m n : List ℕ) → IsLocator rate drop line a c m → IsSaturation line n → ⊥
loc_or_sat rate drop line a c m n h k = let w = sat_word line n k in apart 76 65 _ _ l_or_a (sym h.is_word.is ∙ w.1)

sop_or_sat : (line : List ℕ) (a b c : Triple) (n : List ℕ) → IsCorrection line a b c → IsSaturation line n → ⊥
sop_or_sat line a b c n h k = let w = sat_word line n k in apart_later 65 83 67 95 83 79 65 _ _ o_or_a (sym h.is_word.is ∙ w.1)

one_behind : (rate : Rate) (drop : Bool) (line : List ℕ) (a b : Said) → IsNoteBehind rate drop line a → IsNoteBehind rate drop line b → a ≡ b
one_behind rate drop line (Loc a c m) (Loc b d n) h k = one_locator rate drop line a b c d m n h k
one_behind rate drop line (Sop a b c) (Sop d e f) h k = one_correction line a b c d e f h k
one_behind rate drop line (Sat a) (Sat b) h k = ap (λ n. Sat n) (one_saturation line a b h k)
one_behind rate drop line (Loc a c m) (Sop d e f) h k = absurd (loc_or_sop rate drop line a c m d e f h k)
one_behind rate drop line (Sop d e f) (Loc a c m) k h = absurd (loc_or_sop rate drop line a c m d e f h k)
one_behind rate drop line (Loc a c m) (Sat n) h k = absurd (loc_or_sat rate drop line a c m n h k)
one_behind rate drop line (Sat n) (Loc a c m) k h = absurd (loc_or_sat rate drop line a c m n h k)
one_behind rate drop line (Sop a b c) (Sat n) h k = absurd (sop_or_sat line a b c n h k)
one_behind rate drop line (Sat n) (Sop a b c) k h = absurd (sop_or_sat line a b c n h k)

-- a line says one note at most
pub one_note : (rate : Rate) (drop : Bool) (line : List ℕ) (a b : Said) → IsNote rate drop line a → IsNote rate drop line b → a ≡ b
one_note rate drop line a b h k =
    let star = after_unique (codes "*") line h.rest k.rest h.star k.star in
    one_behind rate drop k.rest a b (subst (λ l. IsNoteBehind rate drop l a) star h.is) k.is

-- ---- lines

one_heard : (rate : Rate) (past : List Statement) (line : List ℕ) (a b : Heard) → IsHeard rate past line a → IsHeard rate past line b → a ≡ b
one_heard rate past line a b h k =
    let blocks : h.block ∷ h.before ≡ k.block ∷ k.before = sym h.latest ∙ k.latest in
    let block : h.block ≡ k.block = cc blocks in
    let l = h.line_is ∙ ap (λ (x : Block). x.line) block ∙ sym k.line_is in
    let s = one_note rate (mode_in past) (trimmed line) a.said b.said h.note k.note in
    λ i. record { line = l i; said = s i }

record IsFirstHeard (rate : Rate) (past : List Statement) (line : List ℕ) (lines : List (List ℕ)) (a : List Heard) : Type 0 where
  heard : Heard
  more : List Heard
  is : a ≡ heard ∷ more
  says : Says line Nothing
  here : IsHeard rate past line heard
  rest : AreHeard rate (Nothing ∷ past) lines more

record IsNoneHeard (rate : Rate) (past : List Statement) (line : List ℕ) (lines : List (List ℕ)) (a : List Heard) : Type 0 where
  statement : Statement
  says : Says line statement
  none : statement ≡ Nothing → (heard : Heard) → IsHeard rate past line heard → ⊥
  rest : AreHeard rate (statement ∷ past) lines a

heard_cases : (rate : Rate) (past : List Statement) (line : List ℕ) (lines : List (List ℕ)) (a : List Heard) → AreHeard rate past (line ∷ lines) a → IsFirstHeard rate past line lines a ⊎ IsNoneHeard rate past line lines a
heard_cases rate past line lines a (note p l ls h m s i r) = inl (record { heard = h; more = m; is = refl; says = s; here = i; rest = r })
heard_cases rate past line lines a (other p l ls t m s n r) = inr (record { statement = t; says = s; none = n; rest = r })

none_heard : (rate : Rate) (past : List Statement) (a : List Heard) → AreHeard rate past [] a → a ≡ []
none_heard rate past a (end p) = refl

all_heard : (rate : Rate) (lines : List (List ℕ)) (past : List Statement) (a b : List Heard) → AreHeard rate past lines a → AreHeard rate past lines b → a ≡ b
all_heard rate [] past a b h k = none_heard rate past a h ∙ sym (none_heard rate past b k)
all_heard rate (line ∷ lines) past a b h k = by (heard_cases rate past line lines a h) (heard_cases rate past line lines b k) (all_heard rate lines)
  where
    by : IsFirstHeard rate past line lines a ⊎ IsNoneHeard rate past line lines a → IsFirstHeard rate past line lines b ⊎ IsNoneHeard rate past line lines b
        → ((past : List Statement) (a b : List Heard) → AreHeard rate past lines a → AreHeard rate past lines b → a ≡ b) → a ≡ b
    by (inl x) (inl y) f = x.is ∙ ap₂ (λ z zs. z ∷ zs) (one_heard rate past line x.heard y.heard x.here y.here) (f (Nothing ∷ past) x.more y.more x.rest y.rest) ∙ sym y.is
    by (inl x) (inr y) f = absurd (y.none (says_unique line y.statement Nothing y.says x.says) x.heard x.here)
    by (inr x) (inl y) f = absurd (x.none (says_unique line x.statement Nothing x.says y.says) y.heard y.here)
    by (inr x) (inr y) f =
        let same = says_unique line x.statement y.statement x.says y.says in
        f (y.statement ∷ past) a b (subst (λ s. AreHeard rate (s ∷ past) lines a) same x.rest) y.rest

pub notes_once : (bytes : List ℕ) (list : EventList) (a b : List Note) → AreNotes bytes list a → AreNotes bytes list b → a ≡ b
notes_once bytes list a b h k =
    h.are ∙ ap (notes_said list.rate list.events) (all_heard list.rate (lines_of bytes) [] h.heard k.heard h.said k.said) ∙ sym k.are
