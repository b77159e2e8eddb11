-- Numbers and places, each as one word.
use Rattle.std.specs.Prelude.{◌==◌, ℕ, ℤ, pos, ◌-ℤ◌, Bool, true, false, not, ◌&&◌, cond, nat_lt, nat_le, List, [], ◌∷◌, Option, Some, None, option_map, length, map}
use Rattle.std.specs.List.{slice_split}
use Rattle.std.specs.Str.Parse.{digits_value}
use Rattle.coord.specs.Images.{is_digit}

-- how many digits a number has at most
abbrev pub number_digits : ℕ
number_digits = 15

abbrev pub are_digits : List ℕ → Bool
are_digits [] = true
are_digits (b ∷ bytes) = is_digit b && are_digits bytes

-- one digit, or more of which the first isn't 0
abbrev pub is_unpadded : List ℕ → Bool
is_unpadded [] = false
is_unpadded (b ∷ []) = true
is_unpadded (b ∷ next ∷ bytes) = not (b == 48)

-- digits, as many as a number has at most
abbrev pub is_natural : List ℕ → Bool
is_natural word = nat_le (length word) number_digits && (are_digits word && is_unpadded word)

-- the number that digits write
abbrev pub natural : List ℕ → Option ℕ
natural word = cond (is_natural word) (Some (digits_value 10 word)) None

-- a number behind `-`, which isn't 0
abbrev pub negative : Option ℕ → Option ℤ
negative None = None
negative (Some n) = cond (n == 0) None (Some (pos 0 -ℤ pos n))

-- a whole number: digits, with `-` where it is negative
abbrev pub whole : List ℕ → Option ℤ
whole [] = None
whole (b ∷ bytes) = cond (b == 45) (negative (natural bytes)) (option_map pos (natural (b ∷ bytes)))

abbrev pub small : Option ℕ → Option ℕ
small None = None
small (Some n) = cond (nat_lt n 4294967296) (Some n) None

-- an index, below 2^32
abbrev pub index : List ℕ → Option ℕ
index word = small (natural word)

-- all of them, where each there is
abbrev pub all_of : {A : Type 0} → List (Option A) → Option (List A)
all_of [] = Some []
all_of (None ∷ l) = None
all_of ((Some a) ∷ l) = option_map (λ m. a ∷ m) (all_of l)

-- a place: one index or more with `/` between
abbrev pub place : List ℕ → Option (List ℕ)
place word = all_of (map index (slice_split (λ b. b == 47) word))
