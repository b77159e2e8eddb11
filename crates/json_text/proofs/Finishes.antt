-- What finishes what the machine has begun, in the words of the grammar.
use Rattle.std.proofs.Common.{◌≡◌, ℕ, suc, ◌-◌, ◌<◌, ◌≤◌, List, [], ◌∷◌, ◌++◌, length, Option, Some, None, Result, Ok, Err, true}
use Rattle.std.specs.Str.{IsUtf8}
use Rattle.std.specs.Char.{encode_utf8, digit_value}
use Rattle.sequences.specs.Pairs.{merged}
use Rattle.json_value.specs.declared.Json.{Json}
use Rattle.json_value.specs.declared.Json.TheVariants.{Num, Str, List as JsonOfList, Map as JsonOfMap}
use Rattle.json_text.specs.Grammar.{AreBlank, joined, IsHigh, IsLow, IsDigit16, FourDigits, Chars, Colon, Value, Items, MoreItems, Pairs, MorePairs, Pair}
use Rattle.json_text.specs.State.Machine.{StringPlace, plain, escape, code, high, slash, low, tail, Hand, value, first_item, first_name, next_name, colon, behind, done, word, number, text, MachineState, next_place, ends}
use Rattle.json_text.specs.declared.state.Stop.{Stop}
use Rattle.json_text.specs.declared.state.Digits.{Digits}
use Rattle.json_text.specs.declared.state.Digits.TheVariants.{Zero as NoDigit, One, Two, Three}
use Rattle.json_text.specs.declared.state.Place.{Place}
use Rattle.json_text.specs.declared.state.Role.{Role}
use Rattle.json_text.specs.declared.state.Role.TheVariants.{Name, Content}
use Rattle.json_text.specs.State.Opened.{Unclosed}
use Rattle.json_text.specs.State.Opened.{list as LevelOfList, map as LevelOfMap}
use Rattle.json_text.proofs.Utf8Lemmas.{Within}

-- how many lists and objects may still be opened inside these
abbrev pub room : ℕ → List Unclosed → ℕ
room limit levels = limit - length levels

-- what may follow a value inside these levels, so that all of it is the value v
abbrev pub Rest : ℕ → List Unclosed → Json → List ℕ → Json → Type 0
Rest limit [] x bytes v = AreBlank bytes × (x ≡ v)
Rest limit (LevelOfList xs ∷ ls) x bytes v = (others : List Json) × (rest : List ℕ) × MoreItems (limit - suc (length ls)) bytes others rest × Rest limit ls (JsonOfList ((xs ++ (x ∷ [])) ++ others)) rest v
Rest limit (LevelOfMap ps name ∷ ls) x bytes v = (others : List (List ℕ × Json)) × (rest : List ℕ) × MorePairs (limit - suc (length ls)) bytes others rest
    × Rest limit ls (JsonOfMap (merged ((ps ++ ((name, x) ∷ [])) ++ others))) rest v

abbrev pub OfBehind : ℕ → List Unclosed → List ℕ → Json → Type 0
OfBehind limit [] bytes v = ⊥
OfBehind limit (LevelOfList xs ∷ ls) bytes v = (others : List Json) × (rest : List ℕ) × MoreItems (limit - suc (length ls)) bytes others rest × Rest limit ls (JsonOfList (xs ++ others)) rest v
OfBehind limit (LevelOfMap ps name ∷ ls) bytes v = (others : List (List ℕ × Json)) × (rest : List ℕ) × MorePairs (limit - suc (length ls)) bytes others rest × Rest limit ls (JsonOfMap (merged (ps ++ others))) rest v

abbrev pub OfValue : ℕ → List Unclosed → List ℕ → Json → Type 0
OfValue limit levels bytes v = (x : Json) × (rest : List ℕ) × Value (limit - length levels) bytes x rest × Rest limit levels x rest v

abbrev pub OfFirstItem : ℕ → List Unclosed → List ℕ → Json → Type 0
OfFirstItem limit [] bytes v = ⊥
OfFirstItem limit (LevelOfMap ps name ∷ ls) bytes v = ⊥
OfFirstItem limit (LevelOfList xs ∷ ls) bytes v = (items : List Json) × (rest : List ℕ) × Items (limit - suc (length ls)) bytes items rest × Rest limit ls (JsonOfList (xs ++ items)) rest v

abbrev pub OfFirstName : ℕ → List Unclosed → List ℕ → Json → Type 0
OfFirstName limit [] bytes v = ⊥
OfFirstName limit (LevelOfList xs ∷ ls) bytes v = ⊥
OfFirstName limit (LevelOfMap ps name ∷ ls) bytes v = (pairs : List (List ℕ × Json)) × (rest : List ℕ) × Pairs (limit - suc (length ls)) bytes pairs rest × Rest limit ls (JsonOfMap (merged (ps ++ pairs))) rest v

abbrev pub OfNextName : ℕ → List Unclosed → List ℕ → Json → Type 0
OfNextName limit [] bytes v = ⊥
OfNextName limit (LevelOfList xs ∷ ls) bytes v = ⊥
OfNextName limit (LevelOfMap ps old ∷ ls) bytes v = (name : List ℕ) × (x : Json) × (rest : List ℕ) × Pair (limit - suc (length ls)) bytes name x rest × Rest limit (LevelOfMap ps name ∷ ls) x rest v

abbrev pub OfColon : ℕ → List Unclosed → List ℕ → Json → Type 0
OfColon limit levels bytes v = (mid : List ℕ) × (x : Json) × (rest : List ℕ) × Colon bytes mid × Value (limit - length levels) mid x rest × Rest limit levels x rest v

abbrev pub OfDone : List Unclosed → Json → List ℕ → Json → Type 0
OfDone [] x bytes v = AreBlank bytes × (x ≡ v)
OfDone (l ∷ ls) x bytes v = ⊥

abbrev pub OfWord : ℕ → List Unclosed → Json → List ℕ → List ℕ → Json → Type 0
OfWord limit levels x [] bytes v = ⊥
OfWord limit levels x (w ∷ ws) bytes v = (rest : List ℕ) × (bytes ≡ w ∷ (ws ++ rest)) × Rest limit levels x rest v

-- the bytes make a whole numeral, from a place in it
abbrev pub Completes : Option Place → List ℕ → Type 0
Completes None bytes = ⊥
Completes (Some place) [] = ends place ≡ true
Completes (Some place) (b ∷ bs) = Completes (next_place place b) bs

abbrev pub OfNumber : ℕ → List Unclosed → List ℕ → Place → List ℕ → Json → Type 0
OfNumber limit levels t place bytes v = (more : List ℕ) × (rest : List ℕ) × (bytes ≡ more ++ rest) × Completes (Some place) more × Rest limit levels (Num (t ++ more)) rest v

-- the second half of a character, and the characters behind it
pub record IsHalf (h : ℕ) (bytes more rest : List ℕ) : Type 0 where
  pub next : List ℕ
  pub half : ℕ
  pub mid : List ℕ
  pub after : List ℕ
  pub begins : bytes ≡ 92 ∷ 117 ∷ next
  pub digits : FourDigits next half mid
  pub low : IsLow half
  pub text : more ≡ encode_utf8 (joined h half) ++ after
  pub chars : Chars mid after rest

-- the rest of a character of several bytes, and the characters behind it
pub record IsTail (ranges : List (ℕ × ℕ)) (bytes more rest : List ℕ) : Type 0 where
  pub own : List ℕ
  pub mid : List ℕ
  pub after : List ℕ
  pub within : Within ranges own
  pub begins : bytes ≡ own ++ mid
  pub text : more ≡ own ++ after
  pub chars : Chars mid after rest

-- digits as they were spelled
abbrev pub raw : Digits → List ℕ
raw NoDigit = []
raw (One a) = a ∷ []
raw (Two a b) = a ∷ b ∷ []
raw (Three a b c) = a ∷ b ∷ c ∷ []

-- the bytes are the rest of a string's characters, from a place in it
abbrev pub In : StringPlace → List ℕ → List ℕ → List ℕ → Type 0
In plain bytes more rest = Chars bytes more rest
In escape bytes more rest = Chars (92 ∷ bytes) more rest
In (code digits) bytes more rest = Chars (92 ∷ 117 ∷ (raw digits ++ bytes)) more rest
In (high h) bytes more rest = IsHalf h bytes more rest
In (slash h) bytes more rest = IsHalf h (92 ∷ bytes) more rest
In (low h digits) bytes more rest = IsHalf h (92 ∷ 117 ∷ (raw digits ++ bytes)) more rest
In (tail []) bytes more rest = ⊥
In (tail (r ∷ rs)) bytes more rest = IsTail (r ∷ rs) bytes more rest

-- what may follow a string
abbrev pub Ends : ℕ → List Unclosed → Role → List ℕ → List ℕ → Json → Type 0
Ends limit levels Content t rest v = Rest limit levels (Str t) rest v
Ends limit [] Name t rest v = ⊥
Ends limit (LevelOfList xs ∷ ls) Name t rest v = ⊥
Ends limit (LevelOfMap ps old ∷ ls) Name t rest v = OfColon limit (LevelOfMap ps t ∷ ls) rest v

abbrev pub OfText : ℕ → List Unclosed → Role → List ℕ → StringPlace → List ℕ → Json → Type 0
OfText limit levels role t part bytes v = (more : List ℕ) × (rest : List ℕ) × In part bytes more rest × Ends limit levels role (t ++ more) rest v

-- the bytes finish what the machine has begun, to the value v
abbrev pub Finishes : ℕ → List Unclosed → Hand → List ℕ → Json → Type 0
Finishes limit levels value bytes v = OfValue limit levels bytes v
Finishes limit levels first_item bytes v = OfFirstItem limit levels bytes v
Finishes limit levels first_name bytes v = OfFirstName limit levels bytes v
Finishes limit levels next_name bytes v = OfNextName limit levels bytes v
Finishes limit levels colon bytes v = OfColon limit levels bytes v
Finishes limit levels behind bytes v = OfBehind limit levels bytes v
Finishes limit levels (done x) bytes v = OfDone levels x bytes v
Finishes limit levels (word x left) bytes v = OfWord limit levels x left bytes v
Finishes limit levels (number t place) bytes v = OfNumber limit levels t place bytes v
Finishes limit levels (text role t part) bytes v = OfText limit levels role t part bytes v

-- what a step comes to
abbrev pub Goes : ℕ → Result MachineState Stop → List ℕ → Json → Type 0
Goes limit (Ok s) bytes v = Finishes limit s.levels s.hand bytes v
Goes limit (Err stop) bytes v = ⊥

-- the digits of an escape so far, of which some are still to come
abbrev pub IsCode : Digits → Type 0
IsCode NoDigit = Unit {0}
IsCode (One a) = IsDigit16 a
IsCode (Two a b) = IsDigit16 a × IsDigit16 b × (digit_value a ≡ 13 → digit_value b < 12)
IsCode (Three a b c) = IsDigit16 a × IsDigit16 b × (digit_value a ≡ 13 → digit_value b < 12) × IsDigit16 c

abbrev pub IsLowCode : Digits → Type 0
IsLowCode NoDigit = Unit {0}
IsLowCode (One a) = digit_value a ≡ 13
IsLowCode (Two a b) = (digit_value a ≡ 13) × IsDigit16 b × (12 ≤ digit_value b)
IsLowCode (Three a b c) = (digit_value a ≡ 13) × IsDigit16 b × (12 ≤ digit_value b) × IsDigit16 c

-- some bytes stand in the ranges, and none of ASCII
abbrev pub AreRanges : List (ℕ × ℕ) → Type 0
AreRanges [] = Unit {0}
AreRanges (r ∷ rs) = ((128 ≤ r.0) × (r.0 ≤ r.1)) × AreRanges rs

abbrev pub IsPart : StringPlace → List ℕ → Type 0
IsPart plain t = IsUtf8 t
IsPart escape t = IsUtf8 t
IsPart (code digits) t = IsUtf8 t × IsCode digits
IsPart (high h) t = IsUtf8 t × IsHigh h
IsPart (slash h) t = IsUtf8 t × IsHigh h
IsPart (low h digits) t = IsUtf8 t × IsHigh h × IsLowCode digits
IsPart (tail []) t = ⊥
IsPart (tail (r ∷ rs)) t = AreRanges (r ∷ rs) × ((w : List ℕ) → Within (r ∷ rs) w → IsUtf8 (t ++ w))

-- the innermost level is an object, a list, or there is none
abbrev pub InMap : List Unclosed → Type 0
InMap [] = ⊥
InMap (LevelOfList xs ∷ ls) = ⊥
InMap (LevelOfMap ps name ∷ ls) = Unit {0}

abbrev pub InList : List Unclosed → Type 0
InList [] = ⊥
InList (LevelOfList xs ∷ ls) = Unit {0}
InList (LevelOfMap ps name ∷ ls) = ⊥

abbrev pub InLevel : List Unclosed → Type 0
InLevel [] = ⊥
InLevel (l ∷ ls) = Unit {0}

abbrev pub AtTop : List Unclosed → Type 0
AtTop [] = Unit {0}
AtTop (l ∷ ls) = ⊥

abbrev pub IsRole : List Unclosed → Role → Type 0
IsRole levels Content = Unit {0}
IsRole levels Name = InMap levels

abbrev pub AreLetters : List ℕ → Type 0
AreLetters [] = Unit {0}
AreLetters (w ∷ ws) = (97 ≤ w) × (w ≤ 122) × AreLetters ws

abbrev pub IsWord : List ℕ → Type 0
IsWord [] = ⊥
IsWord (w ∷ ws) = AreLetters (w ∷ ws)

-- the hand and the levels that a text leads to
abbrev pub IsState : List Unclosed → Hand → Type 0
IsState levels value = Unit {0}
IsState levels first_item = InList levels
IsState levels first_name = InMap levels
IsState levels next_name = InMap levels
IsState levels colon = InMap levels
IsState levels behind = InLevel levels
IsState levels (done x) = AtTop levels
IsState levels (word x left) = IsWord left
IsState levels (number t place) = IsUtf8 t
IsState levels (text role t part) = IsRole levels role × IsPart part t
