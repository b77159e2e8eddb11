-- White space before each part of a text.
use Rattle.std.proofs.Common.{ℕ, zero, suc, ◌*◌, List, [], ◌∷◌, ◌++◌, replicate, refl}
use Rattle.json_value.specs.declared.Json.{Json}
use Rattle.json_text.specs.Grammar.{AreBlank, Value, blank as value_blank, Items, items_blank, MoreItems, more_items_blank, Pairs, pairs_blank, MorePairs, more_pairs_blank, Pair, pair_blank}
use Rattle.json_text.specs.Layout.{newline}

AreBlank-replicate : (n : ℕ) → AreBlank (replicate n 32)
AreBlank-replicate zero = tt
AreBlank-replicate (suc n) = (refl, AreBlank-replicate n)

pub AreBlank-newline : (n : ℕ) → AreBlank (newline n)
AreBlank-newline n = (refl, AreBlank-replicate (4 * n))

pub before_value : (room : ℕ) (blanks bytes : List ℕ) (value : Json) (rest : List ℕ) → AreBlank blanks → Value room bytes value rest → Value room (blanks ++ bytes) value rest
before_value room [] bytes value rest blank h = h
before_value room (b ∷ blanks) bytes value rest blank h = value_blank _ _ _ _ b (blanks ++ bytes) refl blank.0 (before_value room blanks bytes value rest blank.1 h)

pub before_items : (room : ℕ) (blanks bytes : List ℕ) (items : List Json) (rest : List ℕ) → AreBlank blanks → Items room bytes items rest → Items room (blanks ++ bytes) items rest
before_items room [] bytes items rest blank h = h
before_items room (b ∷ blanks) bytes items rest blank h = items_blank _ _ _ _ b (blanks ++ bytes) refl blank.0 (before_items room blanks bytes items rest blank.1 h)

pub before_more_items : (room : ℕ) (blanks bytes : List ℕ) (items : List Json) (rest : List ℕ) → AreBlank blanks → MoreItems room bytes items rest → MoreItems room (blanks ++ bytes) items rest
before_more_items room [] bytes items rest blank h = h
before_more_items room (b ∷ blanks) bytes items rest blank h = more_items_blank _ _ _ _ b (blanks ++ bytes) refl blank.0 (before_more_items room blanks bytes items rest blank.1 h)

pub before_pairs : (room : ℕ) (blanks bytes : List ℕ) (pairs : List (List ℕ × Json)) (rest : List ℕ) → AreBlank blanks → Pairs room bytes pairs rest → Pairs room (blanks ++ bytes) pairs rest
before_pairs room [] bytes pairs rest blank h = h
before_pairs room (b ∷ blanks) bytes pairs rest blank h = pairs_blank _ _ _ _ b (blanks ++ bytes) refl blank.0 (before_pairs room blanks bytes pairs rest blank.1 h)

pub before_more_pairs : (room : ℕ) (blanks bytes : List ℕ) (pairs : List (List ℕ × Json)) (rest : List ℕ) → AreBlank blanks → MorePairs room bytes pairs rest → MorePairs room (blanks ++ bytes) pairs rest
before_more_pairs room [] bytes pairs rest blank h = h
before_more_pairs room (b ∷ blanks) bytes pairs rest blank h = more_pairs_blank _ _ _ _ b (blanks ++ bytes) refl blank.0 (before_more_pairs room blanks bytes pairs rest blank.1 h)

pub before_pair : (room : ℕ) (blanks bytes name : List ℕ) (value : Json) (rest : List ℕ) → AreBlank blanks → Pair room bytes name value rest → Pair room (blanks ++ bytes) name value rest
before_pair room [] bytes name value rest blank h = h
before_pair room (b ∷ blanks) bytes name value rest blank h = pair_blank _ _ _ _ _ b (blanks ++ bytes) refl blank.0 (before_pair room blanks bytes name value rest blank.1 h)
