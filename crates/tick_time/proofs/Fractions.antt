-- Fractions by sign and size.
use Rattle.std.proofs.Common.{◌≡◌, ℕ, zero, suc, ◌+◌, ◌*◌, ◌^◌, Bool, true, false, cond, ℤ, pos, negsuc, ◌*ℤ◌, ◌+ℤ◌, ◌-ℤ◌, refl, sym, ◌∙◌, ap, arith, zero-add, ◌⊎◌, inl, inr, List, ◌++◌, length}
use lib.IntN.{neg_ℤ}
use Rattle.std.proofs.lemmas.Int.{ints}
use Rattle.std.proofs.lemmas.Nat.{pow-add}
use Rattle.std.specs.Str.Parse.{digits_value}
use Rattle.tick_time.specs.Tallies.{Tallies}
use Rattle.tick_time.specs.Numerals.{signed, fraction, Numeral, IsSame}
use Rattle.tick_time.specs.Decimals.{raised, lowered, scale, decimal_value}

neg-mul : (a b : ℕ) → neg_ℤ (pos a) *ℤ pos b ≡ neg_ℤ (pos (a * b))
neg-mul zero b = let none : 0 * b ≡ 0 = omega arith in rw none refl
neg-mul (suc a) b = refl

pub signed-mul : (neg : Bool) (a b : ℕ) → signed neg a *ℤ pos b ≡ signed neg (a * b)
signed-mul false a b = refl
signed-mul true a b = neg-mul a b

powers : (behind up down places : ℕ) (exp : ℤ) → exp ≡ pos behind +ℤ (pos up -ℤ pos (down + places)) → raised exp + (places + down) ≡ behind + up + lowered exp
powers behind up down places (pos n) e = omega (arith, ints)
powers behind up down places (negsuc n) e = omega (arith, ints)

sizes : (digits r s z u l : ℕ) → r + s ≡ z + u + l → digits * 10 ^ r * 10 ^ s ≡ digits * 10 ^ z * 10 ^ u * 10 ^ l
sizes digits r s z u l e =
    let a : 10 ^ (r + s) ≡ 10 ^ r * 10 ^ s = pow-add 10 r s in
    let b : 10 ^ (z + u + l) ≡ 10 ^ z * 10 ^ u * 10 ^ l = pow-add 10 (z + u) l ∙ ap (λ x. x * 10 ^ l) (pow-add 10 z u) in
    let f : digits * (10 ^ r * 10 ^ s) ≡ digits * (10 ^ z * 10 ^ u * 10 ^ l) = ap (λ x. digits * x) (sym a ∙ ap (λ k. 10 ^ k) e ∙ b) in
    omega (arith, f)

scale_in : (down : Bool) (power places : ℕ) → scale down power places ≡ pos (cond down 0 power) -ℤ pos (cond down power 0 + places)
scale_in false power places = rw zero-add refl
scale_in true power places = refl

-- a decimal's fraction, from that of its digits before zeros were taken off
pub same_fraction : (neg : Bool) (digits zeros : ℕ) (exp : ℤ) (down : Bool) (power places value : ℕ) → exp ≡ pos zeros +ℤ scale down power places → value ≡ digits * 10 ^ zeros
    → IsSame (decimal_value neg digits exp) (record { top = signed neg (value * 10 ^ cond down 0 power); bottom = 10 ^ (places + cond down power 0) })
same_fraction neg digits zeros exp down power places value e is =
    signed-mul neg (digits * 10 ^ raised exp) (10 ^ (places + cond down power 0))
    ∙ ap (signed neg) (sizes digits (raised exp) (places + cond down power 0) zeros (cond down 0 power) (lowered exp)
    (powers zeros (cond down 0 power) (cond down power 0) places exp (e ∙ ap (λ x. pos zeros +ℤ x) (scale_in down power places)))
    ∙ ap (λ x. x * 10 ^ cond down 0 power * 10 ^ lowered exp) (sym is))
    ∙ sym (signed-mul neg (value * 10 ^ cond down 0 power) (10 ^ lowered exp))

signed-zero : (neg : Bool) → signed neg 0 ≡ pos 0
signed-zero false = refl
signed-zero true = refl

pub zero_fraction : (neg sign : Bool) (digits places value bottom : ℕ) (exp : ℤ) → digits ≡ 0 → value ≡ 0 → IsSame (decimal_value neg digits exp) (record { top = signed sign (value * places); bottom = bottom })
zero_fraction neg sign digits places value bottom exp e is =
    signed-mul neg (digits * 10 ^ raised exp) bottom ∙ ap (signed neg) (rw e (omega arith)) ∙ signed-zero neg
    ∙ sym (signed-mul sign (value * places) (10 ^ lowered exp) ∙ ap (signed sign) (rw is (omega arith)) ∙ signed-zero sign)

-- the decimal that is read, from the parts of the number
pub read_fraction : (n : Numeral) (neg sign down : Bool) (digits tallied count behind : ℕ) (exp offset : ℤ) (whole decimals power : List ℕ)
    → sign ≡ n.neg → whole ≡ n.whole → decimals ≡ n.decimals → down ≡ n.down → power ≡ n.power
    → Tallies tallied count behind (whole ++ decimals) → digits ≡ tallied → offset ≡ scale down (digits_value 10 power) (length decimals)
    → (digits ≡ 0) ⊎ ((neg ≡ sign) × (exp ≡ (pos behind +ℤ offset)))
    → IsSame (decimal_value neg digits exp) (fraction n)
read_fraction n neg sign down digits tallied count behind exp offset whole decimals power e1 e2 e3 e4 e5 t same off (inl none) =
    let value : digits_value 10 (n.whole ++ n.decimals) ≡ tallied * 10 ^ behind = rw (← e2, ← e3) t.value in
    let nothing : tallied * 10 ^ behind ≡ 0 = rw (← same, none) (omega arith) in
    zero_fraction neg n.neg digits (10 ^ cond n.down 0 (digits_value 10 n.power)) (digits_value 10 (n.whole ++ n.decimals)) _ exp none (value ∙ nothing)
read_fraction n neg sign down digits tallied count behind exp offset whole decimals power e1 e2 e3 e4 e5 t same off (inr (e6, e7)) =
    let value : digits_value 10 (n.whole ++ n.decimals) ≡ digits * 10 ^ behind = rw (← e2, ← e3, same) t.value in
    let at : exp ≡ pos behind +ℤ scale n.down (digits_value 10 n.power) (length n.decimals) = rw (← e3, ← e4, ← e5, ← off) e7 in
    rw (e6 ∙ e1) (same_fraction n.neg digits behind exp n.down (digits_value 10 n.power) (length n.decimals) (digits_value 10 (n.whole ++ n.decimals)) at value)
