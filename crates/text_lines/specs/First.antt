-- Where a byte stands first in a list of bytes, and blanks: spaces and tabs.
use Rattle.std.specs.Prelude.{◌≡◌, ◌==◌, ◌||◌, ◌+◌, ◌<◌, ℕ, Bool, List, [], ◌∷◌, ◌++◌, true, false, All, take, drop, length}

-- the byte isn't among the bytes
abbrev pub HasNone : ℕ → List ℕ → Type 0
HasNone byte bytes = All (λ b. (b == byte) ≡ false) bytes

-- the byte stands at the index, and nowhere before
pub record IsFirst (byte : ℕ) (bytes : List ℕ) (index : ℕ) : Type 0 where
  pub within : index < length bytes
  pub before : HasNone byte (take index bytes)
  pub split : bytes ≡ take index bytes ++ byte ∷ drop (index + 1) bytes

-- whether the byte is a space or a tab
unfoldable pub is_blank : ℕ → Bool
is_blank b = (b == 32) || (b == 9)

-- no byte is a space or a tab
abbrev pub HasNoBlank : List ℕ → Type 0
HasNoBlank bytes = All (λ b. is_blank b ≡ false) bytes

-- each byte is a space or a tab
abbrev pub AreBlanks : List ℕ → Type 0
AreBlanks bytes = All (λ b. is_blank b ≡ true) bytes

-- a space or a tab stands at the index, and nowhere before
pub record IsFirstBlank (bytes : List ℕ) (index : ℕ) : Type 0 where
  pub blank : ℕ
  pub is : is_blank blank ≡ true
  pub within : index < length bytes
  pub before : HasNoBlank (take index bytes)
  pub split : bytes ≡ take index bytes ++ blank ∷ drop (index + 1) bytes

-- whether a space or a tab stands at the front
abbrev pub begins_with_blank : List ℕ → Bool
begins_with_blank [] = false
begins_with_blank (b ∷ bytes) = is_blank b
