-- What the bytes of a label spell.
use Rattle.std.specs.Prelude.{◌≡◌, ℕ, ◌+◌, ◌<◌, ◌⊎◌, List}
use Rattle.smpte_tc.specs.declared.address.TimeAddress.{TimeAddress}
use Rattle.smpte_tc.specs.Day.{tens, units, spelled}

-- the byte is no decimal digit
abbrev pub IsNoDigit : ℕ → Type 0
IsNoDigit byte = (byte < 48) ⊎ (57 < byte)

-- the byte is the decimal digit of this value
pub record IsDigitOf (digit byte : ℕ) : Type 0 where
  pub small : digit < 10
  pub code : byte ≡ 48 + digit

-- the two bytes are the two decimal digits of this number
pub record IsPairOf (number first second : ℕ) : Type 0 where
  pub small : number < 100
  pub high : first ≡ tens number
  pub low : second ≡ units number

-- no number below a hundred has these two digits
abbrev pub IsNoPair : ℕ → ℕ → Type 0
IsNoPair first second = (number : ℕ) → IsPairOf number first second → ⊥

-- the bytes spell the time address in two digits each
pub record IsSpelling (mark : ℕ) (a : TimeAddress) (bytes : List ℕ) : Type 0 where
  pub text : bytes ≡ spelled mark a
  pub hours : a.hours < 100
  pub minutes : a.minutes < 100
  pub seconds : a.seconds < 100
  pub frames : a.frames < 100

-- the bytes spell no time address with this mark
abbrev pub IsNoSpelling : ℕ → List ℕ → Type 0
IsNoSpelling mark bytes = (a : TimeAddress) → IsSpelling mark a bytes → ⊥

-- the numbers of a time address lie within a day of so many frame numbers a second
pub record IsInDay (nominal : ℕ) (a : TimeAddress) : Type 0 where
  pub hours : a.hours < 24
  pub minutes : a.minutes < 60
  pub seconds : a.seconds < 60
  pub frames : a.frames < nominal
