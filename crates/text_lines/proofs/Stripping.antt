-- What is left of a text behind a front, or before a back.
use Rattle.std.proofs.Common.{◌≡◌, ◌≢◌, ◌+◌, ◌-◌, eqb, ℕ, List, ◌++◌, true, false, MatchOption, take, drop, length, Bor}
use Rattle.std.specs.declared.option.Option.{Option}
use Rattle.std.specs.Cmp.Lexicographic.{pointwise}
use Rattle.std.proofs.lemmas.Bool.Decides.{Decides-eqb}
use Rattle.std.proofs.lemmas.Slice.Eq.{strip_prefix_is, strip_suffix_is}

-- what stands behind a front, in the words of `strip_prefix`
pub behind_front : (bytes front : List ℕ) (rest : Option (Bor (List ℕ)))
    → MatchOption rest (pointwise eqb (take (length front) bytes) front ≡ false) (λ x. (pointwise eqb (take (length front) bytes) front ≡ true) × (x.now ≡ drop (length front) bytes) × (length x.now + length front ≡ length bytes))
    → MatchOption rest ((behind : List ℕ) → bytes ≢ front ++ behind) (λ x. bytes ≡ front ++ x.now)
behind_front bytes front rest h = strip_prefix_is Decides-eqb bytes front rest h

-- what stands before a back, in the words of `strip_suffix`
pub before_back : (bytes back : List ℕ) (rest : Option (Bor (List ℕ)))
    → MatchOption rest (pointwise eqb (drop (length bytes - length back) bytes) back ≡ false) (λ x. (pointwise eqb (drop (length bytes - length back) bytes) back ≡ true) × (x.now ≡ take (length bytes - length back) bytes) × (length x.now + length back ≡ length bytes))
    → MatchOption rest ((front : List ℕ) → bytes ≢ front ++ back) (λ x. bytes ≡ x.now ++ back)
before_back bytes back rest h = strip_suffix_is Decides-eqb bytes back rest h
