-- Fronts and backs of lists, one after the other: what they show.
use Rattle.std.proofs.Common.{◌≡◌, refl, sym, subst, ap, ◌∙◌, ℤ, pos, ◌+ℤ◌, ◌-ℤ◌, ◌≤ℤ◌, ◌<ℤ◌, Bool, true, false, cond, List, [], ◌∷◌, ◌++◌, arith}
use Rattle.std.specs.Prelude.{int_lt, int_le}
use Rattle.std.proofs.lemmas.Int.{ints, by_lt_z}
use Rattle.coord.specs.Looks.{Show, Blank, Look, item_shows, next_shows, from_end, mix_shows, blank, list_shows, total}
use Rattle.otio_model.specs.Overlaps.{within}
use Rattle.edits.specs.Splices.{empty, left, front, back, strip, is_stripped, IsGood, AreGood}
use Rattle.coord.proofs.LookSteps.{look_kind, item, transition, mix_item, side_item}
use Rattle.edits_law.proofs.Splice.{place, stop, whole, inside, AreClear, mix_step, side_transition, item_front, item_back, mix_front, mix_back, back_stop, back_whole, back_cut, front_stop, front_whole, front_cut, front_none, front_gap, cases, clear_strip, good_strip, shows_same}
use Rattle.edits_law.proofs.Seams.{no_later, total_low, append_none}

-- ---- the front without a gap for what is missing

abbrev pub front_only : List Look → ℤ → List Look
front_only [] t = []
front_only (x ∷ l) t = cond (int_lt (pos 0) t) (cond (int_le x.length t) (x ∷ front_only l (t -ℤ x.length)) (left x t ∷ [])) []

only_stop : (x : Look) (l : List Look) (t : ℤ) → t ≤ℤ pos 0 → front_only (x ∷ l) t ≡ []
only_stop x l t h = let e : int_lt (pos 0) t ≡ false = grind (arith, ints) in rw e

only_whole : (x : Look) (l : List Look) (t : ℤ) → pos 0 <ℤ t → x.length ≤ℤ t → front_only (x ∷ l) t ≡ x ∷ front_only l (t -ℤ x.length)
only_whole x l t h k = let e : int_lt (pos 0) t ≡ true = grind (arith, ints) in let f : int_le x.length t ≡ true = grind (arith, ints) in rw (e, f)

only_cut : (x : Look) (l : List Look) (t : ℤ) → pos 0 <ℤ t → t <ℤ x.length → front_only (x ∷ l) t ≡ left x t ∷ []
only_cut x l t h k = let e : int_lt (pos 0) t ≡ true = grind (arith, ints) in let f : int_le x.length t ≡ false = grind (arith, ints) in rw (e, f)

-- with a gap at the end, or without
data Padding (l : List Look) (t : ℤ) : Type 0 where
  none : front l t ≡ front_only l t ++ [] → Padding l t
  some : (n : ℤ) → front l t ≡ front_only l t ++ (empty n ∷ []) → Padding l t

longer : (x : Look) (l : List Look) (t : ℤ) → front (x ∷ l) t ≡ x ∷ front l (t -ℤ x.length) → front_only (x ∷ l) t ≡ x ∷ front_only l (t -ℤ x.length) → Padding l (t -ℤ x.length) → Padding (x ∷ l) t
longer x l t e f (none g) = none (e ∙ ap (λ m. x ∷ m) g ∙ ap (λ m. m ++ []) (sym f))
longer x l t e f (some n g) = some n (e ∙ ap (λ m. x ∷ m) g ∙ ap (λ m. m ++ (empty n ∷ [])) (sym f))

padding : (l : List Look) (t : ℤ) → Padding l t
padding [] t = by_lt_z (pos 0) t (λ h. some t (front_gap t h)) (λ h. none (front_none t h))
padding (x ∷ l) t = elim (place t x.length) [
  | stop s ↦ none (front_stop x l t s ∙ ap (λ m. m ++ []) (sym (only_stop x l t s)))
  | whole s k ↦ longer x l t (front_whole x l t s k) (only_whole x l t s k) (padding l (t -ℤ x.length))
  | inside s k ↦ none (front_cut x l t s k ∙ ap (λ m. m ++ []) (sym (only_cut x l t s k)))
]

pub blank_both : (b : Bool) → cond b Blank Blank ≡ Blank
blank_both true = refl
blank_both false = refl

item_padded : (l : List Look) (n w : ℤ) → item_shows (l ++ (empty n ∷ [])) w ≡ item_shows l w
item_padded [] n w = blank_both (within (pos 0) n w)
item_padded (x ∷ l) n w = ap (cond (within (pos 0) x.length w) (x.shows w)) (item_padded l n (w -ℤ x.length))

side_padded : (l : List Look) (n w : ℤ) → next_shows (l ++ (empty n ∷ [])) w ≡ next_shows l w
side_padded [] n w = refl
side_padded (x ∷ l) n w = elim (look_kind x) [
  | item e ↦ side_item x (l ++ (empty n ∷ [])) w e ∙ sym (side_item x l w e)
  | transition o e ↦ side_transition x o (l ++ (empty n ∷ [])) w e ∙ side_padded l n w ∙ sym (side_transition x o l w e)
]

mix_padded : (p : ℤ → Show) (l : List Look) (n w : ℤ) → mix_shows p (l ++ (empty n ∷ [])) w ≡ mix_shows p l w
mix_padded p [] n w = refl
mix_padded p (x ∷ l) n w = elim (look_kind x) [
  | item e ↦ mix_item p x (l ++ (empty n ∷ [])) w e ∙ mix_padded (from_end x) l n (w -ℤ x.length) ∙ sym (mix_item p x l w e)
  | transition o e ↦ mix_step p x o (l ++ (empty n ∷ [])) l w e (side_padded l n w) (mix_padded p l n w)
]

-- nothing at the end changes nothing that is shown
pub shows_padded : (l : List Look) (n w : ℤ) → list_shows (l ++ (empty n ∷ [])) w ≡ list_shows l w
shows_padded l n w = shows_same (l ++ (empty n ∷ [])) l w w (mix_padded blank l n w) (item_padded l n w)

front_shows : (l : List Look) (a b w : ℤ) → AreGood l → AreClear a b l → a ≤ℤ b → w <ℤ a → list_shows (front l a) w ≡ list_shows l w
front_shows l a b w g c k h =
    ap (λ m. list_shows m w) (sym (append_none (front l a)))
    ∙ shows_same (front l a ++ []) l w w (mix_front blank l [] a b w g c no_later k h) (item_front l [] a w g no_later h)

pub only_shows : (l : List Look) (a w : ℤ) → AreGood l → AreClear a a l → w <ℤ a → list_shows (front_only l a) w ≡ list_shows l w
only_shows l a w g c h = elim (padding l a) [
  | none e ↦ ap (λ m. list_shows m w) (sym (e ∙ append_none (front_only l a))) ∙ front_shows l a a w g c (omega (arith, ints)) h
  | some n e ↦ sym (shows_padded (front_only l a) n w) ∙ ap (λ m. list_shows m w) (sym e) ∙ front_shows l a a w g c (omega (arith, ints)) h
]

pub back_shows : (l : List Look) (a v : ℤ) → AreGood l → AreClear a a l → pos 0 ≤ℤ a → pos 0 ≤ℤ v → list_shows (back l a) v ≡ list_shows l (v +ℤ a)
back_shows l a v g c n h = shows_same (back l a) l v (v +ℤ a) (mix_back blank blank l a a v g c n (omega (arith, ints)) h) (item_back l a v g n h)

-- ---- what fronts and strips keep

left_good : (x : Look) (t : ℤ) → pos 0 ≤ℤ t → IsGood (left x t)
left_good x t h = record { whole = h; point = λ o e. absurd (cc e); before = λ o e. absurd (cc e); after = λ o e. absurd (cc e) }

pub only_good : (l : List Look) (t : ℤ) → AreGood l → AreGood (front_only l t)
only_good [] t g = tt
only_good (x ∷ l) t g = elim (place t x.length) [
  | stop s ↦ subst AreGood (sym (only_stop x l t s)) tt
  | whole s k ↦ subst AreGood (sym (only_whole x l t s k)) (g.0, only_good l (t -ℤ x.length) g.1)
  | inside s k ↦ subst AreGood (sym (only_cut x l t s k)) (left_good x t (omega (arith, ints)), tt)
]

pub only_clear : (l : List Look) (t a b : ℤ) → AreClear a b l → AreClear a b (front_only l t)
only_clear [] t a b c = tt
only_clear (x ∷ l) t a b c = elim (place t x.length) [
  | stop s ↦ subst (AreClear a b) (sym (only_stop x l t s)) tt
  | whole s k ↦ subst (AreClear a b) (sym (only_whole x l t s k)) (c.0, only_clear l (t -ℤ x.length) (a -ℤ x.length) (b -ℤ x.length) c.1)
  | inside s k ↦ subst (AreClear a b) (sym (only_cut x l t s k)) (record { side = λ o e. absurd (cc e) }, tt)
]

-- only a transition is stripped, and it takes no time
gone_length : (a b : ℤ) (x : Look) → IsGood x → is_stripped a b x.overlap ≡ true → x.length ≡ pos 0
gone_length a b x g t = elim (look_kind x) [ item e ↦ absurd (cc (rw e at t)) | transition o e ↦ g.point o e ]

pub strip_clear : (l : List Look) (c d a b : ℤ) → AreGood l → AreClear a b l → AreClear a b (strip l c d)
strip_clear [] c d a b g k = tt
strip_clear (x ∷ l) c d a b g k = cases (is_stripped c d x.overlap)
    (λ t. let z = gone_length c d x g.0 t in
    let e : a -ℤ x.length ≡ a = omega (arith, ints) in let f : b -ℤ x.length ≡ b = omega (arith, ints) in
    rw t (strip_clear l c d a b g.1 (subst (λ q. AreClear q b l) e (subst (λ q. AreClear (a -ℤ x.length) q l) f k.1))))
    (λ t. rw t (k.0, strip_clear l (c -ℤ x.length) (d -ℤ x.length) (a -ℤ x.length) (b -ℤ x.length) g.1 k.1))

-- ---- lengths

pub only_long : (l : List Look) (t : ℤ) → AreGood l → total l ≤ℤ t → total (front_only l t) ≡ total l
only_long [] t g h = refl
only_long (x ∷ l) t g h = let good = g.0 in let len = good.whole in let low = total_low l g.1 in elim (place t x.length) [
  | stop s ↦ ap total (only_stop x l t s) ∙ (let e : pos 0 ≡ x.length +ℤ total l = omega (arith, ints) in e)
  | whole s k ↦ let f = only_long l (t -ℤ x.length) g.1 (omega (arith, ints)) in ap total (only_whole x l t s k) ∙ (let e : x.length +ℤ total (front_only l (t -ℤ x.length)) ≡ x.length +ℤ total l = omega (arith, ints) in e)
  | inside s k ↦ absurd (omega (arith, ints))
]

pub only_short : (l : List Look) (t : ℤ) → AreGood l → pos 0 ≤ℤ t → t ≤ℤ total l → total (front_only l t) ≡ t
only_short [] t g n h = omega (arith, ints)
only_short (x ∷ l) t g n h = let good = g.0 in let len = good.whole in elim (place t x.length) [
  | stop s ↦ ap total (only_stop x l t s) ∙ (let e : pos 0 ≡ t = omega (arith, ints) in e)
  | whole s k ↦ let f = only_short l (t -ℤ x.length) g.1 (omega (arith, ints)) (omega (arith, ints)) in ap total (only_whole x l t s k) ∙ (let e : x.length +ℤ total (front_only l (t -ℤ x.length)) ≡ t = omega (arith, ints) in e)
  | inside s k ↦ ap total (only_cut x l t s k) ∙ (let e : t +ℤ pos 0 ≡ t = omega (arith, ints) in e)
]

pub back_long : (l : List Look) (t : ℤ) → AreGood l → pos 0 ≤ℤ t → t ≤ℤ total l → total (back l t) ≡ total l -ℤ t
back_long [] t g n h = omega (arith, ints)
back_long (x ∷ l) t g n h = let good = g.0 in let len = good.whole in elim (place t x.length) [
  | stop s ↦ ap total (back_stop x l t s) ∙ (let e : x.length +ℤ total l ≡ (x.length +ℤ total l) -ℤ t = omega (arith, ints) in e)
  | whole s k ↦ let f = back_long l (t -ℤ x.length) g.1 (omega (arith, ints)) (omega (arith, ints)) in ap total (back_whole x l t s k) ∙ (let e : total (back l (t -ℤ x.length)) ≡ (x.length +ℤ total l) -ℤ t = omega (arith, ints) in e)
  | inside s k ↦ ap total (back_cut x l t s k) ∙ (let e : (x.length -ℤ t) +ℤ total l ≡ (x.length +ℤ total l) -ℤ t = omega (arith, ints) in e)
]

-- ---- both

-- a list that was cut at b and then at a shows, from a up to b, what it showed
pub record IsCutOut (l : List Look) (a b : ℤ) (m : List Look) : Type 0 where
  pub good : AreGood m
  pub shows : (u : ℤ) → pos 0 ≤ℤ u → (u +ℤ a) <ℤ b → list_shows m u ≡ list_shows l (u +ℤ a)
  pub short : b ≤ℤ total l → total m ≡ b -ℤ a
  pub long : total l ≤ℤ b → total m ≡ total l -ℤ a

pub cut_out : (l : List Look) (a b : ℤ) → AreGood l → AreClear a a l → AreClear b b l → pos 0 ≤ℤ a → a ≤ℤ b → a ≤ℤ total l → AreGood (back (front_only l b) a) → IsCutOut l a b (back (front_only l b) a)
cut_out l a b g c d n h k q = record {
  good = q;
  shows = λ u i j. back_shows (front_only l b) a u (only_good l b g) (only_clear l b a a c) n i ∙ only_shows l b (u +ℤ a) g d j;
  short = λ s. let e = only_short l b g (omega (arith, ints)) s in let f = back_long (front_only l b) a (only_good l b g) n (omega (arith, ints)) in omega (arith, ints);
  long = λ s. let e = only_long l b g s in let f = back_long (front_only l b) a (only_good l b g) n (omega (arith, ints)) in omega (arith, ints);
}

pub stripped_clear : (l : List Look) (a b : ℤ) → AreGood l → (AreGood (strip (strip l a a) b b)) × (AreClear a a (strip (strip l a a) b b)) × (AreClear b b (strip (strip l a a) b b))
stripped_clear l a b g = (
  good_strip (strip l a a) b b (good_strip l a a g),
  strip_clear (strip l a a) b b a a (good_strip l a a g) (clear_strip l a a g (omega (arith, ints))),
  clear_strip (strip l a a) b b (good_strip l a a g) (omega (arith, ints)),
)
