-- Bytes none of which is above the largest.
use Rattle.std.proofs.Common.{◌≡◌, true, ℕ, ◌+◌, ◌<◌, ◌≤◌, List, [], ◌∷◌, ◌++◌, take, length, get_or, sym, arith, subst}
use Rattle.std.proofs.lemmas.List.{take_more, take_all}
use Rattle.std.proofs.lemmas.Str.Ascii.{IsAscii-nil, IsAscii-cons}
use Rattle.std.proofs.lemmas.Str.{is_utf8-from_IsUtf8, IsUtf8-from_ascii}
use Rattle.std.specs.Str.{IsAscii, is_utf8}

abbrev pub AreAtMost : ℕ → List ℕ → Type 0
AreAtMost n [] = Unit {0}
AreAtMost n (b ∷ bs) = (b ≤ n) × AreAtMost n bs

joined : (n m b : ℕ) (bs : List ℕ) → AreAtMost n bs → n ≤ m → b ≤ m → AreAtMost m (bs ++ (b ∷ []))
joined n m b [] h k l = (l, tt)
joined n m b (x ∷ bs) h k l = (omega (arith, h.0, k), joined n m b bs h.1 k l)

-- one byte more
pub more_at_most : (bytes : List ℕ) (i n m : ℕ) → i < length bytes → AreAtMost n (take i bytes) → n ≤ m → get_or bytes i 0 ≤ m → AreAtMost m (take (i + 1) bytes)
more_at_most bytes i n m h f k l = subst (AreAtMost m) (sym (take_more bytes i 0 h)) (joined n m (get_or bytes i 0) (take i bytes) f k l)

below : (n : ℕ) (bs : List ℕ) → n < 128 → AreAtMost n bs → IsAscii bs
below n [] h f = IsAscii-nil
below n (b ∷ bs) h f = IsAscii-cons b bs (omega (arith, f.0, h)) (below n bs h f.1)

-- all bytes
pub all_ascii : (bytes : List ℕ) (i n : ℕ) → length bytes ≤ i → n < 128 → AreAtMost n (take i bytes) → IsAscii bytes
all_ascii bytes i n h k f = below n bytes k (subst (AreAtMost n) (take_all i bytes h) f)

-- so they are UTF-8
pub at_most_utf8 : (bs : List ℕ) → AreAtMost 127 bs → is_utf8 bs ≡ true
at_most_utf8 bs h = is_utf8-from_IsUtf8 bs (IsUtf8-from_ascii bs (below 127 bs (omega arith) h))
