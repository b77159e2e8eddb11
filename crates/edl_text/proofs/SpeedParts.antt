-- The fields of a line are one speed at most.
use Rattle.std.proofs.Common.{◌≡◌, ◌≢◌, ◌+◌, ◌*◌, ◌==◌, ℕ, Bool, true, false, List, [], ◌∷◌, ◌++◌, All, codes, length, take, drop, refl, sym, ap, subst, ◌∙◌, arith}
use Rattle.std.specs.List.{slice_split}
use Rattle.std.specs.Str.Parse.{AllDigits, IsNumeral}
use Rattle.std.proofs.lemmas.List.{append_cancel_left}
use Rattle.std.proofs.lemmas.List.Splits.{slice_split_at, slice_split_none, length-slice_split}
use Rattle.std.proofs.lemmas.List.Elements.{All-nil, All-cons}
use Rattle.std.proofs.lemmas.Str.Parse.{digit_from_value}
use Rattle.std.proofs.lemmas.Bool.Decides.{nat_tests}
use Rattle.text_lines.specs.First.{IsFirst}
use Rattle.edl_text.specs.Statements.{SpeedLine, Reel}
use Rattle.edl_text.specs.Numbers.{IsNumber, IsReel, speed_digits}
use Rattle.edl_text.specs.Speeds.{IsTenths, IsSpeedText, IsSpeed}
use Rattle.edl_text.proofs.Figures.{number_unique, reel_unique}
use Rattle.edl_text.proofs.Heads.{lead}

no_point : (digits : List ℕ) → AllDigits 10 digits → All (λ b. (b == 46) ≡ false) digits
no_point [] h = All-nil (λ b. (b == 46) ≡ false)
no_point (b ∷ digits) h = let range = digit_from_value b h.0 in All-cons (λ x. (x == 46) ≡ false) b digits (grind (arith, nat_tests)) (no_point digits h.1)

-- before the first point stand the digits
pub whole_same : (whole tenth other rest : List ℕ) → All (λ b. (b == 46) ≡ false) whole → All (λ b. (b == 46) ≡ false) other → whole ++ 46 ∷ tenth ≡ other ++ 46 ∷ rest → (whole ≡ other) × (tenth ≡ rest)
whole_same whole tenth other rest p q e =
    let s : whole ∷ slice_split (λ b. b == 46) tenth ≡ other ∷ slice_split (λ b. b == 46) rest =
    sym (slice_split_at (λ b. b == 46) whole 46 tenth p refl) ∙ ap (slice_split (λ b. b == 46)) e ∙ slice_split_at (λ b. b == 46) other 46 rest q refl in
    let w : whole ≡ other = cc (s) in
    let t : 46 ∷ tenth ≡ 46 ∷ rest = append_cancel_left other (46 ∷ tenth) (46 ∷ rest) (ap (λ l. l ++ 46 ∷ tenth) (sym w) ∙ e) in
    (w, cc (t))

tenths_parts : (text whole tenth : List ℕ) (n : ℕ) → text ≡ whole ++ 46 ∷ tenth → All (λ b. (b == 46) ≡ false) whole → (p : IsTenths text n) → (p.whole ≡ whole) × (p.tenth ≡ tenth)
tenths_parts text whole tenth n e none p = whole_same p.whole p.tenth whole tenth (no_point p.whole p.is_whole.digits.1) none (sym p.is ∙ e)

-- a text is one number of tenths
pub tenths_unique : (text : List ℕ) (a b : ℕ) → IsTenths text a → IsTenths text b → a ≡ b
tenths_unique text a b p q =
    let s = tenths_parts text q.whole q.tenth a q.is (no_point q.whole q.is_whole.digits.1) p in
    let u = number_unique speed_digits q.whole p.units q.units (subst (λ x. IsNumber speed_digits x p.units) s.0 p.is_whole) q.is_whole in
    let m = number_unique 1 q.tenth p.more q.more (subst (λ x. IsNumber 1 x p.more) s.1 p.is_tenth) q.is_tenth in
    p.value ∙ ap (λ x. x * 10 + p.more) u ∙ ap (λ x. q.units * 10 + x) m ∙ sym q.value

-- a text without a point is none
pub no_point_none : (text : List ℕ) → All (λ b. (b == 46) ≡ false) text → (n : ℕ) → IsTenths text n → ⊥
no_point_none text none n p =
    let e : text ∷ [] ≡ p.whole ∷ slice_split (λ b. b == 46) p.tenth =
    sym (slice_split_none (λ b. b == 46) text none) ∙ ap (slice_split (λ b. b == 46)) p.is ∙ slice_split_at (λ b. b == 46) p.whole 46 p.tenth (no_point p.whole p.is_whole.digits.1) refl in
    omega (arith, ap length e, length-slice_split (λ b. b == 46) p.tenth)

tenths_lead : (text : List ℕ) (n : ℕ) → IsTenths text n → lead text ≢ 45
tenths_lead text n p = λ e. by p.whole p.is_whole.digits (sym (ap lead p.is) ∙ e)
  where
    by : (whole : List ℕ) → IsNumeral 10 whole → lead (whole ++ 46 ∷ p.tenth) ≡ 45 → ⊥
    by [] h e = omega (arith, h.0)
    by (b ∷ whole) h e = omega (arith, digit_from_value b h.1.0, e)

-- before the point stands no number, or behind it no digit
pub no_whole : (text whole : List ℕ) (i : ℕ) → IsFirst 46 text i → whole ≡ take i text → ((n : ℕ) → IsNumber speed_digits whole n → ⊥) → (n : ℕ) → IsTenths text n → ⊥
no_whole text whole i f e none n p = none p.units (subst (λ x. IsNumber speed_digits x p.units) ((tenths_parts text (take i text) (drop (i + 1) text) n f.split f.before p).0 ∙ sym e) p.is_whole)

pub no_tenth : (text tenth : List ℕ) (i : ℕ) → IsFirst 46 text i → tenth ≡ drop (i + 1) text → ((n : ℕ) → IsNumber 1 tenth n → ⊥) → (n : ℕ) → IsTenths text n → ⊥
no_tenth text tenth i f e none n p = none p.more (subst (λ x. IsNumber 1 x p.more) ((tenths_parts text (take i text) (drop (i + 1) text) n f.split f.before p).1 ∙ sym e) p.is_tenth)

pub tenths_is : (text : List ℕ) (i units more : ℕ) → IsFirst 46 text i → IsNumber speed_digits (take i text) units → IsNumber 1 (drop (i + 1) text) more → IsTenths text (units * 10 + more)
tenths_is text i units more f p q = record {
  whole = take i text;
  tenth = drop (i + 1) text;
  units = units;
  more = more;
  is = f.split;
  is_whole = p;
  is_tenth = q;
  value = refl;
}

-- behind a minus stands no number
pub minus_none : (field text : List ℕ) → field ≡ codes "-" ++ text → ((n : ℕ) → IsTenths text n → ⊥) → (reverse : Bool) (n : ℕ) → IsSpeedText field reverse n → ⊥
minus_none field text e none true n p = none n (subst (λ x. IsTenths x n) (append_cancel_left (codes "-") p.text text (sym p.is ∙ e)) p.are_tenths)
minus_none field text e none false n p = tenths_lead p.text n p.are_tenths (ap lead (sym p.is ∙ e))

-- without a minus it is none
pub plain_none : (field : List ℕ) → ((rest : List ℕ) → field ≡ codes "-" ++ rest → ⊥) → ((n : ℕ) → IsTenths field n → ⊥) → (reverse : Bool) (n : ℕ) → IsSpeedText field reverse n → ⊥
plain_none field other none true n p = other p.text p.is
plain_none field other none false n p = none n (subst (λ x. IsTenths x n) (sym p.is) p.are_tenths)

pub minus_is : (field text : List ℕ) (n : ℕ) → field ≡ codes "-" ++ text → IsTenths text n → IsSpeedText field true n
minus_is field text n e p = record { text = text; is = e; are_tenths = p }

pub plain_is : (field : List ℕ) (n : ℕ) → IsTenths field n → IsSpeedText field false n
plain_is field n p = record { text = field; is = refl; are_tenths = p }

-- a field is one speed
pub speed_text_unique : (field : List ℕ) (r s : Bool) (a b : ℕ) → IsSpeedText field r a → IsSpeedText field s b → (r ≡ s) × (a ≡ b)
speed_text_unique field true true a b p q =
    (refl, tenths_unique q.text a b (subst (λ x. IsTenths x a) (append_cancel_left (codes "-") p.text q.text (sym p.is ∙ q.is)) p.are_tenths) q.are_tenths)
speed_text_unique field true false a b p q = absurd (tenths_lead q.text b q.are_tenths (ap lead (sym q.is ∙ p.is)))
speed_text_unique field false true a b p q = absurd (tenths_lead p.text a p.are_tenths (ap lead (sym p.is ∙ q.is)))
speed_text_unique field false false a b p q = (refl, tenths_unique q.text a b (subst (λ x. IsTenths x a) (sym p.is ∙ q.is) p.are_tenths) q.are_tenths)

abbrev made : Reel → Bool → ℕ → List ℕ → SpeedLine
made reel reverse tenths label = record { reel = reel; reverse = reverse; tenths = tenths; label = label }

same_speed : (a b : SpeedLine) → a.reel ≡ b.reel → a.reverse ≡ b.reverse → a.tenths ≡ b.tenths → a.label ≡ b.label → a ≡ b
same_speed a b r v t l =
    ap (λ x. made x a.reverse a.tenths a.label) r ∙ ap (λ x. made b.reel x a.tenths a.label) v ∙ ap (λ x. made b.reel b.reverse x a.label) t
    ∙ ap (λ x. made b.reel b.reverse b.tenths x) l

-- fields are one speed at most
pub speed_unique : (fields : List (List ℕ)) (a b : SpeedLine) → IsSpeed fields a → IsSpeed fields b → a ≡ b
speed_unique fields a b p q =
    let r : p.reel ≡ q.reel = cc (p.are, q.are) in
    let t : p.text ≡ q.text = cc (p.are, q.are) in
    let l : a.label ≡ b.label = cc (p.are, q.are) in
    let s = speed_text_unique q.text a.reverse b.reverse a.tenths b.tenths (subst (λ x. IsSpeedText x a.reverse a.tenths) t p.is_speed) q.is_speed in
    same_speed a b (reel_unique q.reel a.reel b.reel (subst (λ x. IsReel x a.reel) r p.is_reel) q.is_reel) s.0 s.1 l

-- fields are no speed where the first isn't `M2`, the second no reel, the third no number, or there aren't four
pub not_m2 : (first reel text label : List ℕ) → (first ≡ codes "M2" → ⊥) → (speed : SpeedLine) → IsSpeed (first ∷ reel ∷ text ∷ label ∷ []) speed → ⊥
not_m2 first reel text label other speed p = other (cc (p.are))

pub no_speed_reel : (first reel text label : List ℕ) → ((r : Reel) → IsReel reel r → ⊥) → (speed : SpeedLine) → IsSpeed (first ∷ reel ∷ text ∷ label ∷ []) speed → ⊥
no_speed_reel first reel text label none speed p = let e : p.reel ≡ reel = cc (p.are) in none speed.reel (subst (λ x. IsReel x speed.reel) e p.is_reel)

pub no_speed_text : (first reel text label : List ℕ) → ((r : Bool) (n : ℕ) → IsSpeedText text r n → ⊥) → (speed : SpeedLine) → IsSpeed (first ∷ reel ∷ text ∷ label ∷ []) speed → ⊥
no_speed_text first reel text label none speed p =
    let e : p.text ≡ text = cc (p.are) in none speed.reverse speed.tenths (subst (λ x. IsSpeedText x speed.reverse speed.tenths) e p.is_speed)

pub no_four : (fields : List (List ℕ)) → length fields ≢ 4 → (speed : SpeedLine) → IsSpeed fields speed → ⊥
no_four fields other speed p = other (ap length p.are)
