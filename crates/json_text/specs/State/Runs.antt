-- What came of several bytes.
use Rattle.std.specs.Prelude.{◌≡◌, ℕ, ◌<◌, ◌≤◌, Bool, true, not, ◌&&◌, ◌==◌, nat_le, List, [], ◌∷◌, ◌++◌, Option, Some, None, Ok, Err, length, take, slice_index}
use Rattle.std.specs.Char.{IsScalar, digit_value, encode_utf8}
use Rattle.std.specs.Str.{is_utf8}
use Rattle.json_text.specs.declared.state.Ran.{Ran}
use Rattle.json_text.specs.declared.state.Ran.TheVariants.{All, Stops}
use Rattle.json_text.specs.declared.state.Stop.{Stop}
use Rattle.json_text.specs.declared.state.Stop.TheVariants.{Syntax, Utf8, Depth}
use Rattle.json_text.specs.declared.faults.JsonFault.{JsonFault}
use Rattle.json_text.specs.State.Opened.{Unclosed}
use Rattle.json_text.specs.declared.state.Role.{Role}
use Rattle.json_text.specs.Grammar.{of_digits16}
use Rattle.json_text.specs.State.Machine.{MachineState, state, value, number, text, plain, run, step, next_place, ends}
use Rattle.json_text.specs.declared.state.Place.{Place}

-- a byte that stands for itself in a string, alone or in a character of several bytes
abbrev pub is_open : ℕ → Bool
is_open b = nat_le 32 b && not (b == 34) && not (b == 92)

-- such bytes alone
abbrev pub AreOpen : List ℕ → Type 0
AreOpen [] = Unit {0}
AreOpen (b ∷ bs) = (is_open b ≡ true) × AreOpen bs

-- These bytes of a string, between characters, stand for these.
pub record StandsFor (bytes made : List ℕ) : Type 0 where
  pub ran : (limit : ℕ) (levels : List Unclosed) (role : Role) (t : List ℕ)
      → run limit (state levels (text role t plain)) bytes
      ≡ Ok (state levels (text role (t ++ made) plain))

-- The first bytes, so many, are an escape of the character.
pub record IsEscape (count character : ℕ) (bytes : List ℕ) : Type 0 where
  pub within : count ≤ length bytes
  pub some : 0 < count
  pub meant : StandsFor (take count bytes) (encode_utf8 character)

-- These digits of base 16 have the number.
pub record IsNumber (a b c d number : ℕ) : Type 0 where
  pub first : digit_value a < 16
  pub second : digit_value b < 16
  pub third : digit_value c < 16
  pub fourth : digit_value d < 16
  pub code : number ≡ of_digits16 a b c d

-- These digits of base 16 are the code of the character.
pub record IsCode (a b c d character : ℕ) : Type 0 where
  pub first : digit_value a < 16
  pub second : digit_value b < 16
  pub third : digit_value c < 16
  pub fourth : digit_value d < 16
  pub code : character ≡ of_digits16 a b c d
  pub scalar : IsScalar character

-- These digits of base 16 are the first half of a character.
pub record IsFirstHalf (a b c d half : ℕ) : Type 0 where
  pub first : digit_value a ≡ 13
  pub least : 8 ≤ digit_value b
  pub most : digit_value b < 12
  pub third : digit_value c < 16
  pub fourth : digit_value d < 16
  pub code : half ≡ of_digits16 a b c d

-- These digits of base 16 are the second half of a character.
pub record IsSecondHalf (a b c d half : ℕ) : Type 0 where
  pub first : digit_value a ≡ 13
  pub least : 12 ≤ digit_value b
  pub most : digit_value b < 16
  pub third : digit_value c < 16
  pub fourth : digit_value d < 16
  pub code : half ≡ of_digits16 a b c d

-- So many bytes stand for themselves in a string, and a quote ends it behind them.
pub record EndsAt (count : ℕ) (bytes : List ℕ) : Type 0 where
  pub within : count < length bytes
  pub quote : slice_index bytes count ≡ 34
  pub opens : AreOpen (take count bytes)

-- the place in a numeral behind bytes that go on in it
abbrev pub place_behind : Option Place → List ℕ → Option Place
place_behind None bytes = None
place_behind (Some place) [] = Some place
place_behind (Some place) (b ∷ bs) = place_behind (next_place place b) bs

-- The first bytes, so many, are a numeral where a value begins, and a comma comes after them.
pub record IsNumeral (count : ℕ) (bytes : List ℕ) : Type 0 where
  pub within : count < length bytes
  pub comma : slice_index bytes count ≡ 44
  pub utf8 : is_utf8 (take count bytes) ≡ true
  pub place : Place
  pub whole : ends place ≡ true
  pub ran : (levels : List Unclosed) → run 127 (state levels value) (take count bytes)
      ≡ Ok (state levels (number (take count bytes) place))

-- The machine takes so many of the bytes, to the new state.
pub record Skims (count : ℕ) (s : MachineState) (bytes : List ℕ) (new : MachineState) : Type 0 where
  pub within : count ≤ length bytes
  pub ran : run 127 s (take count bytes) ≡ Ok new

-- The machine takes n of the bytes from the state s, and stops at the next.
pub record StopsAt (n : ℕ) (stop : Stop) (s : MachineState) (bytes : List ℕ) : Type 0 where
  pub within : n < length bytes
  pub before : MachineState
  pub ran : run 127 s (take n bytes) ≡ Ok before
  pub stops : step 127 before.levels before.hand (slice_index bytes n) ≡ Err stop

-- The fault of a byte at an offset.
abbrev pub named : Stop → ℕ → JsonFault
named Syntax n = JsonFault.Syntax n
named Utf8 n = JsonFault.Utf8 n
named Depth n = JsonFault.Depth n

-- What came of the bytes: all were taken, to the new state, or the machine stopped.
abbrev pub IsRan : Ran → MachineState → List ℕ → MachineState → Type 0
IsRan All s bytes new = run 127 s bytes ≡ Ok new
IsRan (Stops n stop) s bytes new = StopsAt n stop s bytes
