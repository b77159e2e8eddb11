-- The latest event line when an M2 line stands behind it.
use Rattle.std.proofs.Common.{◌≡◌, ℕ, ◌+◌, ◌<◌, ◌≤◌, ◌&&◌, Bool, true, false, cond, nat_lt, List, [], ◌∷◌, length, Option, Some, None, is_none, refl, sym, ap, subst, ◌∙◌, arith}
use Rattle.std.specs.Option.{option_or}
use Rattle.std.proofs.lemmas.Bool.Decides.{nat_tests}
use Rattle.std.proofs.lemmas.Slice.Eq.{bytes_eq-Decides}
use Rattle.tick_time.specs.declared.rates.Rate.{Rate}
use Rattle.edl_text.specs.Statements.{Statement, SpeedLine, Speed}
use Rattle.edl_list.specs.declared.list.Reel.{Reel}
use Rattle.edl_list.specs.declared.list.Reel.TheVariants.{Black, Named}
use Rattle.edl_list.specs.declared.list.Side.{Side}
use Rattle.edl_text.specs.declared.open_event.Pending.{Pending}
use Rattle.edl_text.specs.Past.{Block}
use Rattle.edl_text.specs.Sides.{reel_of, reel_at, is_one_reel, duration, latest, outgoing_speed, speeds_of, incoming, outgoing, from_side}
use Rattle.edl_text.specs.Lines.{one_if, has_side}
use Rattle.edl_text.specs.StateSaid.{IsPending, at_speed, given, with_outgoing, at_speed_with, sped_by, sped_up}
use Rattle.edl_text.proofs.Noting.{with_note, rebuilt}

-- two reels that a test finds the same
one_reel : (a b : Reel) → is_one_reel a b ≡ true → a ≡ b
one_reel Black Black e = refl
one_reel (Named a) (Named b) e = ap Named ((bytes_eq-Decides a b).0 e)
one_reel Black (Named b) e = cc e
one_reel (Named a) Black e = cc e

-- What is known of the speeds of a line: x and y say whether the reel of the M2 line is the incoming and the outgoing side's, z whether both sides have one reel; all,
-- into and from are the speeds that M2 lines behind the line give the reel, the incoming side's and the outgoing side's, and first is that of an M2 line between
-- the lines of the pair.
record AreKnown (x y z : Bool) (all into from : List ℕ) : Type 0 where
  as_into : x ≡ true → all ≡ into
  as_from : y ≡ true → all ≡ from
  both : y ≡ true → z ≡ x

-- the first speed of an incoming side leaves the outgoing one as it is
lone : (y z : Bool) (all from : List ℕ) (v : ℕ) → AreKnown true y z all [] from → outgoing_speed z (cond y (v ∷ from) from) ≡ outgoing_speed z from
lone false z all from v k = refl
lone true z all from v k =
    let is : z ≡ true = k.both refl in
    let none : from ≡ [] = sym (k.as_from refl) ∙ k.as_into refl in
    rw (is, none) refl

lone_has : (y z pair : Bool) (all from : List ℕ) (first : Option ℕ) → AreKnown true y z all [] from → nat_lt (length all) (1 + one_if ((pair && y) && is_none first)) ≡ true
lone_has y z pair all from first k = let none : all ≡ [] = k.as_into refl in rw none (grind (arith, nat_tests))

below_no : (n m : ℕ) → m ≤ n → nat_lt n m ≡ false
below_no n m h = grind (arith, nat_tests)

below_yes : (n m : ℕ) → n < m → nat_lt n m ≡ true
below_yes n m h = grind (arith, nat_tests)

-- the second speed of a reel of both sides
second_by : (z : Bool) (from : List ℕ) (first : Option ℕ) (v : ℕ) (rest : List ℕ) (w : ℕ) → z ≡ true → from ≡ v ∷ rest → option_or first (outgoing_speed z from) ≡ None
    → option_or first (outgoing_speed z (w ∷ from)) ≡ Some v
second_by z from (Some f) v rest w p q h = cc h
second_by false from None v rest w p q h = cc p
second_by true [] None v rest w p q h = cc q
second_by true (u ∷ []) None v rest w p q h = cc q
second_by true (u ∷ x ∷ us) None v rest w p q h = cc h

second : (z : Bool) (all into from : List ℕ) (v : ℕ) (rest : List ℕ) (w : ℕ) (first : Option ℕ) → AreKnown true true z all into from → into ≡ v ∷ rest → option_or first (outgoing_speed z from) ≡ None
    → option_or first (outgoing_speed z (w ∷ from)) ≡ Some v
second z all into from v rest w first k e h = second_by z from first v rest w (k.both refl) (sym (k.as_from refl) ∙ k.as_into refl ∙ e) h

second_has_by : (z : Bool) (from all : List ℕ) (first : Option ℕ) (v : ℕ) (rest : List ℕ) → z ≡ true → all ≡ from → from ≡ v ∷ rest → option_or first (outgoing_speed z from) ≡ None
    → nat_lt (length all) (1 + one_if (is_none first)) ≡ true
second_has_by z from all (Some f) v rest p a q h = cc h
second_has_by false from all None v rest p a q h = cc p
second_has_by true [] all None v rest p a q h = cc q
second_has_by true (u ∷ []) all None v rest p a q h = below_yes (length all) (1 + one_if (is_none {T = ℕ} None)) (omega (arith, ap length a))
second_has_by true (u ∷ x ∷ us) all None v rest p a q h = cc h

second_has : (z : Bool) (all into from : List ℕ) (v : ℕ) (rest : List ℕ) (first : Option ℕ) → AreKnown true true z all into from → into ≡ v ∷ rest → option_or first (outgoing_speed z from) ≡ None
    → nat_lt (length all) (1 + one_if (is_none first)) ≡ true
second_has z all into from v rest first k e h = second_has_by z from all first v rest (k.both refl) (k.as_from refl) (sym (k.as_from refl) ∙ k.as_into refl ∙ e) h

two_not : (z : Bool) (from all : List ℕ) → z ≡ true → all ≡ from → 1 ≤ length all → is_none (outgoing_speed z from) ≡ false → 2 ≤ length all
two_not false from all p a some h = cc p
two_not true [] all p a some h = cc h
two_not true (u ∷ []) all p a some h = cc h
two_not true (u ∷ x ∷ us) all p a some h = omega (arith, ap length a)

second_not_by : (y z pair : Bool) (from all : List ℕ) (first : Option ℕ) → 1 ≤ length all → (y ≡ true → all ≡ from) → (y ≡ true → z ≡ true)
    → (pair && y) && is_none (option_or first (outgoing_speed z from)) ≡ false → nat_lt (length all) (1 + one_if ((pair && y) && is_none first)) ≡ false
second_not_by y z false from all first some a p h = below_no (length all) 1 (omega arith)
second_not_by false z true from all first some a p h = below_no (length all) 1 (omega arith)
second_not_by true z true from all (Some f) some a p h = below_no (length all) 1 (omega arith)
second_not_by true z true from all None some a p h = below_no (length all) 2 (two_not z from all (p refl) (a refl) some h)

second_not : (y z pair : Bool) (all into from : List ℕ) (v : ℕ) (rest : List ℕ) (first : Option ℕ) → AreKnown true y z all into from → into ≡ v ∷ rest
    → (pair && y) && is_none (option_or first (outgoing_speed z from)) ≡ false → nat_lt (length all) (1 + one_if ((pair && y) && is_none first)) ≡ false
second_not y z pair all into from v rest first k e h = second_not_by y z pair from all first (omega (arith, ap length (k.as_into refl ∙ e))) k.as_from k.both h

-- the speed of an outgoing side with a reel of its own
other_by : (z : Bool) (from : List ℕ) (first : Option ℕ) (w : ℕ) → z ≡ false → option_or first (outgoing_speed z from) ≡ None → option_or first (outgoing_speed z (w ∷ from)) ≡ Some w
other_by z from (Some f) w p h = cc h
other_by true from None w p h = cc p
other_by false from None w p h = refl

other : (z : Bool) (all into from : List ℕ) (w : ℕ) (first : Option ℕ) → AreKnown false true z all into from → option_or first (outgoing_speed z from) ≡ None
    → option_or first (outgoing_speed z (w ∷ from)) ≡ Some w
other z all into from w first k h = other_by z from first w (k.both refl) h

other_has_by : (z : Bool) (from all : List ℕ) (first : Option ℕ) → z ≡ false → all ≡ from → option_or first (outgoing_speed z from) ≡ None → nat_lt (length all) (0 + one_if (is_none first)) ≡ true
other_has_by z from all (Some f) p a h = cc h
other_has_by true from all None p a h = cc p
other_has_by false [] all None p a h = below_yes (length all) (0 + one_if (is_none {T = ℕ} None)) (omega (arith, ap length a))
other_has_by false (u ∷ us) all None p a h = cc h

other_has : (z : Bool) (all into from : List ℕ) (first : Option ℕ) → AreKnown false true z all into from → option_or first (outgoing_speed z from) ≡ None
    → nat_lt (length all) (0 + one_if (is_none first)) ≡ true
other_has z all into from first k h = other_has_by z from all first (k.both refl) (k.as_from refl) h

one_not : (z : Bool) (from all : List ℕ) → z ≡ false → all ≡ from → is_none (outgoing_speed z from) ≡ false → 1 ≤ length all
one_not true from all p a h = cc p
one_not false [] all p a h = cc h
one_not false (u ∷ us) all p a h = omega (arith, ap length a)

other_not : (y z pair : Bool) (all into from : List ℕ) (first : Option ℕ) → AreKnown false y z all into from
    → (pair && y) && is_none (option_or first (outgoing_speed z from)) ≡ false → nat_lt (length all) (0 + one_if ((pair && y) && is_none first)) ≡ false
other_not y z false all into from first k h = below_no (length all) 0 (omega arith)
other_not false z true all into from first k h = below_no (length all) 0 (omega arith)
other_not true z true all into from (Some f) k h = below_no (length all) 0 (omega arith)
other_not true z true all into from None k h = below_no (length all) 1 (one_not z from all (k.both refl) (k.as_from refl) h)

-- what becomes of an M2 line behind a block: no side wants it, or the block has it
abbrev pub Outcome : Rate → SpeedLine → Option Pending → Block → List Block → Type 0
Outcome rate s None block before = has_side (reel_of s.reel) (block ∷ before) ≡ false
Outcome rate s (Some q) block before = (has_side (reel_of s.reel) (block ∷ before) ≡ true) × IsPending rate q (with_note (Speed s) block) before

known : (r i a : Reel) (notes : List Statement) (x y : Bool) → is_one_reel r i ≡ x → is_one_reel r a ≡ y → AreKnown x y (is_one_reel a i) (speeds_of r notes) (speeds_of i notes) (speeds_of a notes)
known r i a notes x y e f = record {
  as_into = λ h. ap (λ k. speeds_of k notes) (one_reel r i (e ∙ h));
  as_from = λ h. ap (λ k. speeds_of k notes) (one_reel r a (f ∙ h));
  both = λ h. ap (λ k. is_one_reel k i) (sym (one_reel r a (f ∙ h))) ∙ e;
}

in_next : (rate : Rate) (s : SpeedLine) (block : Block) (before : List Block) (x : Bool) → is_one_reel (reel_of s.reel) (reel_at block) ≡ x
    → incoming rate (with_note (Speed s) block) before ≡ record (incoming rate block before) { speed = latest (cond x (s.tenths ∷ speeds_of (reel_at block) block.notes) (speeds_of (reel_at block) block.notes)) }
in_next rate s block [] x e = rw e refl
in_next rate s block (a ∷ others) x e = rw e refl

out_next : (rate : Rate) (s : SpeedLine) (block a : Block) (y : Bool) → is_one_reel (reel_of s.reel) (reel_at a) ≡ y
    → outgoing rate (with_note (Speed s) block) a ≡ record (outgoing rate block a) { speed = option_or (latest (speeds_of (reel_at a) a.notes)) (outgoing_speed (is_one_reel (reel_at a) (reel_at block)) (cond y (s.tenths ∷ speeds_of (reel_at a) block.notes) (speeds_of (reel_at a) block.notes))) }
out_next rate s block a y e = rw e refl

-- the latest event line, as its definition has it
abbrev pub as_defined : Rate → Pending → Block → List Block → Pending
as_defined rate p block before = record p { to = incoming rate block before; from = from_side rate block before }

pub is_defined : (rate : Rate) (p : Pending) (block : Block) (before : List Block) → IsPending rate p block before → p ≡ as_defined rate p block before
is_defined rate p block before h =
    ap (λ (to : Side). record p { to = to }) h.to ∙ ap (λ (from : Option Side). record p { to = incoming rate block before; from = from }) h.from

-- without an outgoing side
alone_by : (rate : Rate) (s : SpeedLine) (p : Pending) (block : Block) → IsPending rate p block [] → (x : Bool) (into : List ℕ) → is_one_reel (reel_of s.reel) (reel_at block) ≡ x
    → speeds_of (reel_at block) block.notes ≡ into
    → Outcome rate s (cond x (sped_by (latest into) (reel_of s.reel) s.tenths (as_defined rate p block [])) None) block []
alone_by rate s p block h false into e f = rw e (below_no (length (speeds_of (reel_of s.reel) block.notes)) 0 (omega arith))
alone_by rate s p block h true [] e f =
    let none : length (speeds_of (reel_of s.reel) block.notes) ≡ 0 = ap length (ap (λ k. speeds_of k block.notes) (one_reel (reel_of s.reel) (reel_at block) e) ∙ f) in (
      rw e (below_yes (length (speeds_of (reel_of s.reel) block.notes)) 1 (omega (arith, none))),
      rebuilt rate p (Speed s) block [] (at_speed s.tenths (incoming rate block [])) None h (sym (in_next rate s block [] true e)) refl,
    )
alone_by rate s p block h true (v ∷ vs) e f =
    let some : length (speeds_of (reel_of s.reel) block.notes) ≡ length (v ∷ vs) = ap length (ap (λ k. speeds_of k block.notes) (one_reel (reel_of s.reel) (reel_at block) e) ∙ f) in
    rw e (below_no (length (speeds_of (reel_of s.reel) block.notes)) 1 (omega (arith, some)))

alone : (rate : Rate) (s : SpeedLine) (p : Pending) (block : Block) → IsPending rate p block [] → Outcome rate s (sped_up (reel_of s.reel) s.tenths (as_defined rate p block [])) block []
alone rate s p block h = alone_by rate s p block h (is_one_reel (reel_of s.reel) (reel_at block)) (speeds_of (reel_at block) block.notes) refl refl

-- what giving the outgoing side a speed comes to
given_out : (rate : Rate) (s : SpeedLine) (v : ℕ) (block a : Block) (y none : Bool) → is_one_reel (reel_of s.reel) (reel_at a) ≡ y → is_none (outgoing rate block a).speed ≡ none
    → given (reel_of s.reel) v (Some (outgoing rate block a)) ≡ cond (none && y) (Some (at_speed v (outgoing rate block a))) None
given_out rate s v block a y none e f = rw (e, f) refl

-- the outgoing side with that speed is the next one
next_is : (rate : Rate) (s : SpeedLine) (block a : Block) (y : Bool) (v : Option ℕ) → is_one_reel (reel_of s.reel) (reel_at a) ≡ y
    → option_or (latest (speeds_of (reel_at a) a.notes)) (outgoing_speed (is_one_reel (reel_at a) (reel_at block)) (cond y (s.tenths ∷ speeds_of (reel_at a) block.notes) (speeds_of (reel_at a) block.notes))) ≡ v
    → outgoing rate (with_note (Speed s) block) a ≡ record (outgoing rate block a) { speed = v }
next_is rate s block a y v e f = out_next rate s block a y e ∙ ap (λ (o : Option ℕ). record (outgoing rate block a) { speed = o }) f

given_pair : (rate : Rate) (s : SpeedLine) (v : ℕ) (block a : Block) (others : List Block) (pair none y : Bool) → nat_lt 0 (duration block.says.kind) ≡ pair → is_none (outgoing rate block a).speed ≡ none
    → is_one_reel (reel_of s.reel) (reel_at a) ≡ y
    → given (reel_of s.reel) v (from_side rate block (a ∷ others)) ≡ cond (pair && (none && y)) (Some (at_speed v (outgoing rate block a))) None
given_pair rate s v block a others false none y e f g = rw e refl
given_pair rate s v block a others true none y e f g = rw e (given_out rate s v block a y none g f)

and_no : (y n : Bool) → n ≡ false → (true && y) && n ≡ false
and_no true n e = e
and_no false n e = refl

none_is : (o : Option ℕ) → is_none o ≡ true → o ≡ None
none_is None e = refl
none_is (Some v) e = cc e

known_into : (x y z : Bool) (all into new from : List ℕ) → into ≡ new → AreKnown x y z all into from → AreKnown x y z all new from
known_into x y z all into new from e k = subst (λ l. AreKnown x y z all l from) e k

-- with the line before, which gives the outgoing side of a pair
pair_by : (rate : Rate) (s : SpeedLine) (p : Pending) (block a : Block) (others : List Block) → IsPending rate p block (a ∷ others) → (x y pair none : Bool) (into : List ℕ)
    → is_one_reel (reel_of s.reel) (reel_at block) ≡ x → is_one_reel (reel_of s.reel) (reel_at a) ≡ y → nat_lt 0 (duration block.says.kind) ≡ pair → is_none (outgoing rate block a).speed ≡ none
    → speeds_of (reel_at block) block.notes ≡ into
    → Outcome rate s (cond x (sped_by (latest into) (reel_of s.reel) s.tenths (as_defined rate p block (a ∷ others)))
    (with_outgoing (as_defined rate p block (a ∷ others)) (given (reel_of s.reel) s.tenths (from_side rate block (a ∷ others))))) block (a ∷ others)
pair_by rate s p block a others h true y pair none [] ex ey ep en ei =
    let k = known_into true y (is_one_reel (reel_at a) (reel_at block)) (speeds_of (reel_of s.reel) block.notes) (speeds_of (reel_at block) block.notes) [] (speeds_of (reel_at a) block.notes) ei
    (known (reel_of s.reel) (reel_at block) (reel_at a) block.notes true y ex ey) in
    let kept = ap (option_or (latest (speeds_of (reel_at a) a.notes))) (lone y (is_one_reel (reel_at a) (reel_at block)) (speeds_of (reel_of s.reel) block.notes) (speeds_of (reel_at a) block.notes) s.tenths k) in
    let next = next_is rate s block a y (outgoing rate block a).speed ey kept in (
      rw (ex, ep, ey) (lone_has y (is_one_reel (reel_at a) (reel_at block)) pair (speeds_of (reel_of s.reel) block.notes) (speeds_of (reel_at a) block.notes) (latest (speeds_of (reel_at a) a.notes)) k),
      rebuilt rate p (Speed s) block (a ∷ others) (at_speed s.tenths (incoming rate block (a ∷ others))) (from_side rate block (a ∷ others)) h
          (sym (in_next rate s block (a ∷ others) true ex ∙ ap (λ (l : List ℕ). record (incoming rate block (a ∷ others)) { speed = latest (s.tenths ∷ l) }) ei))
          (ap (λ (o : Side). cond (nat_lt 0 (duration block.says.kind)) (Some o) None) (sym next)),
    )
pair_by rate s p block a others h true true true true (v ∷ vs) ex ey ep en ei =
    let z = is_one_reel (reel_at a) (reel_at block) in
    let all = speeds_of (reel_of s.reel) block.notes in
    let from = speeds_of (reel_at a) block.notes in
    let first = latest (speeds_of (reel_at a) a.notes) in
    let k = known_into true true z all (speeds_of (reel_at block) block.notes) (v ∷ vs) from ei (known (reel_of s.reel) (reel_at block) (reel_at a) block.notes true true ex ey) in
    let no = none_is (outgoing rate block a).speed en in
    let next = next_is rate s block a true (Some v) ey (second z all (v ∷ vs) from v vs s.tenths first k refl no) in
    subst (λ (g : Option Side). Outcome rate s (at_speed_with s.tenths (as_defined rate p block (a ∷ others)) g) block (a ∷ others)) (sym (given_pair rate s v block a others true true true ep en ey)) (
      rw (ex, ep, ey) (second_has z all (v ∷ vs) from v vs first k refl no),
      rebuilt rate p (Speed s) block (a ∷ others) (at_speed s.tenths (incoming rate block (a ∷ others))) (Some (at_speed v (outgoing rate block a))) h
          (sym (in_next rate s block (a ∷ others) true ex ∙ ap (λ (l : List ℕ). record (incoming rate block (a ∷ others)) { speed = latest (s.tenths ∷ l) }) ei))
          (rw ep (ap Some (sym next))),
    )
pair_by rate s p block a others h true y false none (v ∷ vs) ex ey ep en ei =
    let z = is_one_reel (reel_at a) (reel_at block) in
    let all = speeds_of (reel_of s.reel) block.notes in
    let from = speeds_of (reel_at a) block.notes in
    let first = latest (speeds_of (reel_at a) a.notes) in
    let k = known_into true y z all (speeds_of (reel_at block) block.notes) (v ∷ vs) from ei (known (reel_of s.reel) (reel_at block) (reel_at a) block.notes true y ex ey) in
    subst (λ (g : Option Side). Outcome rate s (at_speed_with s.tenths (as_defined rate p block (a ∷ others)) g) block (a ∷ others)) (sym (given_pair rate s v block a others false none y ep en ey))
    (rw (ex, ep) (second_not y z false all (v ∷ vs) from v vs first k refl refl))
pair_by rate s p block a others h true y true false (v ∷ vs) ex ey ep en ei =
    let z = is_one_reel (reel_at a) (reel_at block) in
    let all = speeds_of (reel_of s.reel) block.notes in
    let from = speeds_of (reel_at a) block.notes in
    let first = latest (speeds_of (reel_at a) a.notes) in
    let k = known_into true y z all (speeds_of (reel_at block) block.notes) (v ∷ vs) from ei (known (reel_of s.reel) (reel_at block) (reel_at a) block.notes true y ex ey) in
    subst (λ (g : Option Side). Outcome rate s (at_speed_with s.tenths (as_defined rate p block (a ∷ others)) g) block (a ∷ others)) (sym (given_pair rate s v block a others true false y ep en ey))
    (rw (ex, ep, ey) (second_not y z true all (v ∷ vs) from v vs first k refl (and_no y (is_none (outgoing rate block a).speed) en)))
pair_by rate s p block a others h true false true true (v ∷ vs) ex ey ep en ei =
    let z = is_one_reel (reel_at a) (reel_at block) in
    let all = speeds_of (reel_of s.reel) block.notes in
    let from = speeds_of (reel_at a) block.notes in
    let first = latest (speeds_of (reel_at a) a.notes) in
    let k = known_into true false z all (speeds_of (reel_at block) block.notes) (v ∷ vs) from ei (known (reel_of s.reel) (reel_at block) (reel_at a) block.notes true false ex ey) in
    subst (λ (g : Option Side). Outcome rate s (at_speed_with s.tenths (as_defined rate p block (a ∷ others)) g) block (a ∷ others)) (sym (given_pair rate s v block a others true true false ep en ey))
    (rw (ex, ep, ey) (second_not false z true all (v ∷ vs) from v vs first k refl refl))
pair_by rate s p block a others h false true true true into ex ey ep en ei =
    let z = is_one_reel (reel_at a) (reel_at block) in
    let all = speeds_of (reel_of s.reel) block.notes in
    let from = speeds_of (reel_at a) block.notes in
    let first = latest (speeds_of (reel_at a) a.notes) in
    let k = known (reel_of s.reel) (reel_at block) (reel_at a) block.notes false true ex ey in
    let no = none_is (outgoing rate block a).speed en in
    let next = next_is rate s block a true (Some s.tenths) ey (other z all (speeds_of (reel_at block) block.notes) from s.tenths first k no) in
    subst (λ (g : Option Side). Outcome rate s (with_outgoing (as_defined rate p block (a ∷ others)) g) block (a ∷ others)) (sym (given_pair rate s s.tenths block a others true true true ep en ey)) (
      rw (ex, ep, ey) (other_has z all (speeds_of (reel_at block) block.notes) from first k no),
      rebuilt rate p (Speed s) block (a ∷ others) (incoming rate block (a ∷ others)) (Some (at_speed s.tenths (outgoing rate block a))) h
          (sym (in_next rate s block (a ∷ others) false ex))
          (rw ep (ap Some (sym next))),
    )
pair_by rate s p block a others h false y false none into ex ey ep en ei =
    let z = is_one_reel (reel_at a) (reel_at block) in
    let all = speeds_of (reel_of s.reel) block.notes in
    let from = speeds_of (reel_at a) block.notes in
    let first = latest (speeds_of (reel_at a) a.notes) in
    let k = known (reel_of s.reel) (reel_at block) (reel_at a) block.notes false y ex ey in
    subst (λ (g : Option Side). Outcome rate s (with_outgoing (as_defined rate p block (a ∷ others)) g) block (a ∷ others)) (sym (given_pair rate s s.tenths block a others false none y ep en ey))
    (rw (ex, ep) (other_not y z false all (speeds_of (reel_at block) block.notes) from first k refl))
pair_by rate s p block a others h false y true false into ex ey ep en ei =
    let z = is_one_reel (reel_at a) (reel_at block) in
    let all = speeds_of (reel_of s.reel) block.notes in
    let from = speeds_of (reel_at a) block.notes in
    let first = latest (speeds_of (reel_at a) a.notes) in
    let k = known (reel_of s.reel) (reel_at block) (reel_at a) block.notes false y ex ey in
    subst (λ (g : Option Side). Outcome rate s (with_outgoing (as_defined rate p block (a ∷ others)) g) block (a ∷ others)) (sym (given_pair rate s s.tenths block a others true false y ep en ey))
    (rw (ex, ep, ey) (other_not y z true all (speeds_of (reel_at block) block.notes) from first k (and_no y (is_none (outgoing rate block a).speed) en)))
pair_by rate s p block a others h false false true true into ex ey ep en ei =
    let z = is_one_reel (reel_at a) (reel_at block) in
    let all = speeds_of (reel_of s.reel) block.notes in
    let from = speeds_of (reel_at a) block.notes in
    let first = latest (speeds_of (reel_at a) a.notes) in
    let k = known (reel_of s.reel) (reel_at block) (reel_at a) block.notes false false ex ey in
    subst (λ (g : Option Side). Outcome rate s (with_outgoing (as_defined rate p block (a ∷ others)) g) block (a ∷ others)) (sym (given_pair rate s s.tenths block a others true true false ep en ey))
    (rw (ex, ep, ey) (other_not false z true all (speeds_of (reel_at block) block.notes) from first k refl))

defined : (rate : Rate) (s : SpeedLine) (p : Pending) (block : Block) (before : List Block) → IsPending rate p block before
    → Outcome rate s (sped_up (reel_of s.reel) s.tenths (as_defined rate p block before)) block before
defined rate s p block [] h = alone rate s p block h
defined rate s p block (a ∷ others) h =
    pair_by rate s p block a others h (is_one_reel (reel_of s.reel) (reel_at block)) (is_one_reel (reel_of s.reel) (reel_at a)) (nat_lt 0 (duration block.says.kind)) (is_none (outgoing rate block a).speed)
    (speeds_of (reel_at block) block.notes) refl refl refl refl refl

-- what becomes of an M2 line
pub outcome : (rate : Rate) (s : SpeedLine) (p : Pending) (block : Block) (before : List Block) → IsPending rate p block before → Outcome rate s (sped_up (reel_of s.reel) s.tenths p) block before
outcome rate s p block before h =
    subst (λ (q : Pending). Outcome rate s (sped_up (reel_of s.reel) s.tenths q) block before) (sym (is_defined rate p block before h)) (defined rate s p block before h)
