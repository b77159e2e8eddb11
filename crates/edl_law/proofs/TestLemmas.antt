-- Tests on numbers and reels, and the first fault of some rules.
use Rattle.std.proofs.Common.{◌≡◌, ◌≢◌, ◌<◌, ◌≤◌, ◌==◌, ℕ, Bool, true, false, nat_lt, List, [], ◌∷◌, None, codes, refl, sym, ap, ◌∙◌, arith}
use Rattle.std.specs.Str.{bytes_eq}
use Rattle.std.proofs.lemmas.Bool.Decides.{nat_tests}
use Rattle.std.proofs.lemmas.Slice.Eq.{bytes_eq-Decides}
use Rattle.edl_list.specs.declared.list.Reel.{Reel}
use Rattle.edl_list.specs.declared.list.Reel.TheVariants.{Black, Named}
use Rattle.edl_list.specs.declared.list.Channel.{Channel}
use Rattle.edl_list.specs.declared.list.Channel.TheVariants.{V, A, A2}
use Rattle.edl_list.specs.Formed.{IsReel}
use Rattle.edl_text.specs.Columns.{reel_text}
use Rattle.edl_text.specs.declared.faults.EdlFault.{EdlFault}
use Rattle.edl_text.specs.Lines.{first_of, are_same_channels}
use Rattle.edl_text.specs.Sides.{is_one_reel, reel_of}
use Rattle.edl_text.specs.Events.{channels_of}
use Rattle.edl_law.proofs.StatementLemmas.{said_reel, said_channels}

pub not_less : (a b : ℕ) → b ≤ a → nat_lt a b ≡ false
not_less a b h = grind (arith, nat_tests)

pub is_less : (a b : ℕ) → a < b → nat_lt a b ≡ true
is_less a b h = grind (arith, nat_tests)

pub same_number : (a : ℕ) → (a == a) ≡ true
same_number a = grind (arith, nat_tests)

pub other_number : (a b : ℕ) → a < b → (a == b) ≡ false
other_number a b h = grind (arith, nat_tests)

pub number_is : (a b : ℕ) → (a == b) ≡ true → a ≡ b
number_is a b h = grind (arith, nat_tests)

not_true : (t : Bool) → (t ≡ true → ⊥) → t ≡ false
not_true true h = absurd (h refl)
not_true false h = refl

other_bytes : (a b : List ℕ) → a ≢ b → bytes_eq a b ≡ false
other_bytes a b h = not_true (bytes_eq a b) (λ e. h ((bytes_eq-Decides a b).0 e))

-- a reel is itself
pub same_reel : (a : Reel) → is_one_reel a a ≡ true
same_reel Black = refl
same_reel (Named a) = (bytes_eq-Decides a a).1 refl

-- reels are the same as they are spelled
pub reels_spelled : (a b : Reel) → IsReel a → IsReel b → bytes_eq (reel_text a) (reel_text b) ≡ is_one_reel a b
reels_spelled Black Black p q = refl
reels_spelled Black (Named b) p q = other_bytes (codes "BL") b (λ e. q.not_black (sym e))
reels_spelled (Named a) Black p q = other_bytes a (codes "BL") p.not_black
reels_spelled (Named a) (Named b) p q = refl

pub reel_is : (a b : Reel) → is_one_reel a b ≡ true → a ≡ b
reel_is Black Black h = refl
reel_is Black (Named b) h = cc
reel_is (Named a) Black h = cc
reel_is (Named a) (Named b) h = ap Named ((bytes_eq-Decides a b).0 h)

true_false : {X : Type 0} → true ≡ false → X
true_false e = cc

turned_by : (a b : List ℕ) (s t : Bool) → bytes_eq a b ≡ s → bytes_eq b a ≡ t → s ≡ t
turned_by a b true true p q = refl
turned_by a b false false p q = refl
turned_by a b true false p q = true_false (sym ((bytes_eq-Decides b a).1 (sym ((bytes_eq-Decides a b).0 p))) ∙ q)
turned_by a b false true p q = true_false (sym ((bytes_eq-Decides a b).1 (sym ((bytes_eq-Decides b a).0 q))) ∙ p)

-- and either way round
pub reels_turned : (a b : Reel) → is_one_reel a b ≡ is_one_reel b a
reels_turned Black Black = refl
reels_turned Black (Named b) = refl
reels_turned (Named a) Black = refl
reels_turned (Named a) (Named b) = turned_by a b (bytes_eq a b) (bytes_eq b a) refl refl

pub reel_read : (reel : Reel) → reel_of (said_reel reel) ≡ reel
reel_read Black = refl
reel_read (Named name) = refl

pub channel_read : (channel : Channel) → channels_of (said_channels channel) ≡ channel ∷ []
channel_read V = refl
channel_read A = refl
channel_read A2 = refl

pub same_channels : (channel : Channel) → are_same_channels (said_channels channel) (said_channels channel) ≡ true
same_channels V = refl
same_channels A = refl
same_channels A2 = refl

-- no rule is broken
pub none_of_three : (p q r : Bool) (x y z : EdlFault) → p ≡ false → q ≡ false → r ≡ false → first_of ((p, x) ∷ (q, y) ∷ (r, z) ∷ []) ≡ None
none_of_three p q r x y z a b c = rw (a, b, c) refl

pub none_of_four : (p q r s : Bool) (w x y z : EdlFault) → p ≡ false → q ≡ false → r ≡ false → s ≡ false → first_of ((p, w) ∷ (q, x) ∷ (r, y) ∷ (s, z) ∷ []) ≡ None
none_of_four p q r s w x y z a b c d = rw (a, b, c, d) refl
