-- The speed lines of a CMX 3600 list, by their fields.
use Rattle.std.specs.Prelude.{◌≡◌, ◌+◌, ◌*◌, ℕ, Bool, true, false, List, [], ◌∷◌, ◌++◌, codes}
use Rattle.edl_text.specs.Statements.{SpeedLine}
use Rattle.edl_text.specs.Numbers.{IsNumber, IsReel, speed_digits}

-- digits, a point and one digit more: a number in tenths
pub record IsTenths (text : List ℕ) (tenths : ℕ) : Type 0 where
  pub whole : List ℕ
  pub tenth : List ℕ
  pub units : ℕ
  pub more : ℕ
  pub is : text ≡ whole ++ (codes "." ++ tenth)
  pub is_whole : IsNumber speed_digits whole units
  pub is_tenth : IsNumber 1 tenth more
  pub value : tenths ≡ units * 10 + more

-- a minus, or nothing
abbrev pub sign : Bool → List ℕ
sign true = codes "-"
sign false = []

-- a speed in frames a second: a minus or none, and the number
pub record IsSpeedText (field : List ℕ) (reverse : Bool) (tenths : ℕ) : Type 0 where
  pub text : List ℕ
  pub is : field ≡ sign reverse ++ text
  pub are_tenths : IsTenths text tenths

-- the fields of a speed line: `M2`, the reel, the speed and a label
pub record IsSpeed (fields : List (List ℕ)) (speed : SpeedLine) : Type 0 where
  pub reel : List ℕ
  pub text : List ℕ
  pub are : fields ≡ codes "M2" ∷ reel ∷ text ∷ speed.label ∷ []
  pub is_reel : IsReel reel speed.reel
  pub is_speed : IsSpeedText text speed.reverse speed.tenths
