-- A machine over bytes that reads a text: the open lists and objects, innermost first, with what
-- they hold so far, and what stands at hand.
use Rattle.std.specs.Prelude.{ℕ, Bool, true, false, ◌||◌, ◌&&◌, ◌==◌, List, [], ◌∷◌, ◌++◌, length, Option, Some, None, Result, Ok, Err, if◌then◌else◌, nat_lt}
use Rattle.std.specs.Char.{digit_value, encode_utf8, is_ascii_digit}
use Rattle.std.specs.Int.{is_in_range}
use Rattle.std.specs.Str.{is_utf8}
use lib.Utf8.{scalar}
use Rattle.sequences.specs.Pairs.{merged}
use Rattle.json_value.specs.declared.Json.{Json}
use Rattle.json_value.specs.declared.Json.TheVariants.{Null, Bool as JsonOfBool, Num, Str, List as JsonOfList, Map as JsonOfMap}
use Rattle.json_text.specs.Grammar.{is_whitespace, escaped, of_digits16, joined}
use Rattle.json_text.specs.declared.state.Stop.{Stop}
use Rattle.json_text.specs.declared.state.Stop.TheVariants.{Syntax, Utf8, Depth}
use Rattle.json_text.specs.declared.state.Digits.{Digits}
use Rattle.json_text.specs.declared.state.Digits.TheVariants.{Zero as NoDigit, One, Two, Three}
use Rattle.json_text.specs.declared.state.Place.{Place}
use Rattle.json_text.specs.declared.state.Place.TheVariants.{Minus, Nought, Whole, Point, Fraction, Exponent, Sign, Power}
use Rattle.json_text.specs.declared.state.Role.{Role}
use Rattle.json_text.specs.declared.state.Role.TheVariants.{Name, Content}
use Rattle.json_text.specs.State.Opened.{Unclosed}
use Rattle.json_text.specs.State.Opened.{list as LevelOfList, map as LevelOfMap}

-- where a string stands
pub data StringPlace : Type 0 where
  -- between characters
  plain : StringPlace
  -- behind a backslash
  escape : StringPlace
  -- behind a backslash, u and these digits
  code : Digits → StringPlace
  -- behind the first half of a character; and then a backslash
  high : ℕ → StringPlace
  slash : ℕ → StringPlace
  -- behind the first half, a backslash, u and these digits
  low : ℕ → Digits → StringPlace
  -- inside a character whose further bytes stand in these ranges
  tail : List (ℕ × ℕ) → StringPlace

-- what stands at the end of the bytes so far
pub data Hand : Type 0 where
  -- a value is to come
  value : Hand
  -- behind the bracket of a list, the brace of an object, and a comma in an object
  first_item : Hand
  first_name : Hand
  next_name : Hand
  -- behind a name
  colon : Hand
  -- behind a value in a list or an object
  behind : Hand
  -- behind the whole value
  done : Json → Hand
  -- in the word for a value, of which this is left
  word : Json → List ℕ → Hand
  -- in a numeral of which this came
  number : List ℕ → Place → Hand
  -- in a string of which this came
  text : Role → List ℕ → StringPlace → Hand

-- what the machine keeps
pub record MachineState : Type 0 where
  pub levels : List Unclosed
  pub hand : Hand

-- the state of these parts
abbrev pub state : List Unclosed → Hand → MachineState
state levels hand = record { levels = levels; hand = hand }

-- where a text begins
abbrev pub start : MachineState
start = state [] value

-- a value added to a list, or to an object under the name at hand
abbrev pub added : Unclosed → Json → Unclosed
added (LevelOfList xs) v = LevelOfList (xs ++ (v ∷ []))
added (LevelOfMap ps name) v = LevelOfMap (ps ++ ((name, v) ∷ [])) []

-- the state behind a value
abbrev pub placed : List Unclosed → Json → MachineState
placed [] v = state [] (done v)
placed (l ∷ ls) v = state (added l v ∷ ls) behind

-- the ranges of the bytes behind the first byte of a character; none where no character of several
-- bytes begins so
abbrev pub tails : ℕ → List (ℕ × ℕ)
tails b = if nat_lt b 0xC2 then []
    else if nat_lt b 0xE0 then (0x80, 0xBF) ∷ []
    else if b == 0xE0 then (0xA0, 0xBF) ∷ (0x80, 0xBF) ∷ []
    else if b == 0xED then (0x80, 0x9F) ∷ (0x80, 0xBF) ∷ []
    else if nat_lt b 0xF0 then (0x80, 0xBF) ∷ (0x80, 0xBF) ∷ []
    else if b == 0xF0 then (0x90, 0xBF) ∷ (0x80, 0xBF) ∷ (0x80, 0xBF) ∷ []
    else if nat_lt b 0xF4 then (0x80, 0xBF) ∷ (0x80, 0xBF) ∷ (0x80, 0xBF) ∷ []
    else if b == 0xF4 then (0x80, 0x8F) ∷ (0x80, 0xBF) ∷ (0x80, 0xBF) ∷ []
    else []

-- the fault of a byte that an escape doesn't want
abbrev pub refused_by : List (ℕ × ℕ) → Result MachineState Stop
refused_by [] = Err Utf8
refused_by (r ∷ rs) = Err Syntax

-- an escape refuses the byte
abbrev pub refused : ℕ → Result MachineState Stop
refused b = if nat_lt b 128 then Err Syntax else refused_by (tails b)

-- a list or an object is opened
abbrev pub opened : ℕ → List Unclosed → Unclosed → Hand → Result MachineState Stop
opened limit levels level hand =
    if nat_lt (length levels) limit then Ok (state (level ∷ levels) hand) else Err Depth

-- white space and nothing else
abbrev pub skipped : List Unclosed → Hand → ℕ → Result MachineState Stop
skipped levels stay b = if is_whitespace b then Ok (state levels stay) else Err Syntax

-- a numeral begins; at white space the hand stays
abbrev pub begin_number : List Unclosed → Hand → ℕ → Result MachineState Stop
begin_number levels stay b = if b == 45 then Ok (state levels (number (b ∷ []) Minus))
    else if b == 48 then Ok (state levels (number (b ∷ []) Nought))
    else if is_ascii_digit b then Ok (state levels (number (b ∷ []) Whole))
    else skipped levels stay b

-- a word or a numeral begins
abbrev pub begin_word : List Unclosed → Hand → ℕ → Result MachineState Stop
begin_word levels stay b = if b == 110 then Ok (state levels (word Null (117 ∷ 108 ∷ 108 ∷ [])))
    else if b == 116 then Ok (state levels (word (JsonOfBool true) (114 ∷ 117 ∷ 101 ∷ [])))
    else if b == 102 then Ok (state levels (word (JsonOfBool false) (97 ∷ 108 ∷ 115 ∷ 101 ∷ [])))
    else begin_number levels stay b

-- a value begins; at white space the hand stays
abbrev pub begin : ℕ → List Unclosed → Hand → ℕ → Result MachineState Stop
begin limit levels stay b = if b == 34 then Ok (state levels (text Content [] plain))
    else if b == 91 then opened limit levels (LevelOfList []) first_item
    else if b == 123 then opened limit levels (LevelOfMap [] []) first_name
    else begin_word levels stay b

-- behind a value of a list or an object
abbrev pub behind_in : List Unclosed → ℕ → Result MachineState Stop
behind_in [] b = Err Syntax
behind_in (LevelOfList xs ∷ ls) b = if b == 44 then Ok (state (LevelOfList xs ∷ ls) value)
    else if b == 93 then Ok (placed ls (JsonOfList xs))
    else if is_whitespace b then Ok (state (LevelOfList xs ∷ ls) behind)
    else Err Syntax
behind_in (LevelOfMap ps name ∷ ls) b =
    if b == 44 then Ok (state (LevelOfMap ps name ∷ ls) next_name)
    else if b == 125 then Ok (placed ls (JsonOfMap (merged ps)))
    else if is_whitespace b then Ok (state (LevelOfMap ps name ∷ ls) behind)
    else Err Syntax

-- the value of a list or an object that ends
abbrev pub whole : Unclosed → Json
whole (LevelOfList xs) = JsonOfList xs
whole (LevelOfMap ps name) = JsonOfMap (merged ps)

-- the innermost list or object ends
abbrev pub closed : List Unclosed → Result MachineState Stop
closed [] = Err Syntax
closed (l ∷ ls) = Ok (placed ls (whole l))

-- behind the whole value
abbrev pub at_end : List Unclosed → Json → ℕ → Result MachineState Stop
at_end [] v b = skipped [] (done v) b
at_end (l ∷ ls) v b = Err Syntax

-- behind a value that was just placed
abbrev pub follow : List Unclosed → Hand → ℕ → Result MachineState Stop
follow levels behind b = behind_in levels b
follow levels (done v) b = at_end levels v b
follow levels hand b = Err Syntax

-- the byte behind a value that was just placed
abbrev pub behind_placed : List Unclosed → Json → ℕ → Result MachineState Stop
behind_placed levels v b = follow (placed levels v).levels (placed levels v).hand b

-- behind the bracket of a list
abbrev pub item_first : ℕ → List Unclosed → ℕ → Result MachineState Stop
item_first limit [] b = Err Syntax
item_first limit (LevelOfMap ps name ∷ ls) b = Err Syntax
item_first limit (LevelOfList xs ∷ ls) b =
    if b == 93 then Ok (placed ls (JsonOfList xs))
    else begin limit (LevelOfList xs ∷ ls) first_item b

-- a name begins; at white space the hand stays
abbrev pub name_begins : List Unclosed → Hand → ℕ → Result MachineState Stop
name_begins levels stay b =
    if b == 34 then Ok (state levels (text Name [] plain)) else skipped levels stay b

-- behind the brace of an object
abbrev pub name_first : List Unclosed → ℕ → Result MachineState Stop
name_first [] b = Err Syntax
name_first (LevelOfList xs ∷ ls) b = Err Syntax
name_first (LevelOfMap ps name ∷ ls) b = if b == 125 then Ok (placed ls (JsonOfMap (merged ps)))
    else name_begins (LevelOfMap ps name ∷ ls) first_name b

-- behind a comma of an object
abbrev pub name_next : List Unclosed → ℕ → Result MachineState Stop
name_next levels b = name_begins levels next_name b

-- behind a name
abbrev pub at_colon : List Unclosed → ℕ → Result MachineState Stop
at_colon levels b = if b == 58 then Ok (state levels value) else skipped levels colon b

-- in a word
abbrev pub in_word : List Unclosed → Json → List ℕ → ℕ → Result MachineState Stop
in_word levels v [] b = Err Syntax
in_word levels v (w ∷ []) b = if b == w then Ok (placed levels v) else Err Syntax
in_word levels v (w ∷ x ∷ ws) b = if b == w then Ok (state levels (word v (x ∷ ws))) else Err Syntax

-- the next place in a numeral, where the byte goes on in it
abbrev pub behind_whole : ℕ → Option Place
behind_whole b =
    if b == 46 then Some Point else if (b == 101 || b == 69) then Some Exponent else None

-- the place behind a byte that goes on in the numeral
abbrev pub next_place : Place → ℕ → Option Place
next_place Minus b = if b == 48 then Some Nought else if is_ascii_digit b then Some Whole else None
next_place Nought b = behind_whole b
next_place Whole b = if is_ascii_digit b then Some Whole else behind_whole b
next_place Point b = if is_ascii_digit b then Some Fraction else None
next_place Fraction b =
    if is_ascii_digit b then Some Fraction
    else if (b == 101 || b == 69) then Some Exponent else None
next_place Exponent b =
    if is_ascii_digit b then Some Power else if (b == 43 || b == 45) then Some Sign else None
next_place Sign b = if is_ascii_digit b then Some Power else None
next_place Power b = if is_ascii_digit b then Some Power else None

-- whether a numeral may end there
abbrev pub ends : Place → Bool
ends Minus = false
ends Nought = true
ends Whole = true
ends Point = false
ends Fraction = true
ends Exponent = false
ends Sign = false
ends Power = true

-- in a numeral
abbrev pub number_ends : List Unclosed → List ℕ → Place → ℕ → Result MachineState Stop
number_ends levels t place b =
    if ends place then (if is_utf8 t then behind_placed levels (Num t) b else Err Syntax)
    else Err Syntax

-- the byte behind a numeral, or one more of it
abbrev pub number_goes :
    List Unclosed → List ℕ → Place → ℕ → Option Place → Result MachineState Stop
number_goes levels t place b (Some next) = Ok (state levels (number (t ++ (b ∷ [])) next))
number_goes levels t place b None = number_ends levels t place b

-- a byte in or behind a numeral
abbrev pub in_number : List Unclosed → List ℕ → Place → ℕ → Result MachineState Stop
in_number levels t place b = number_goes levels t place b (next_place place b)

-- the innermost object has a name at hand
abbrev pub named : List Unclosed → List ℕ → Result MachineState Stop
named [] t = Err Syntax
named (LevelOfList xs ∷ ls) t = Err Syntax
named (LevelOfMap ps name ∷ ls) t = Ok (state (LevelOfMap ps t ∷ ls) colon)

-- a string ends
abbrev pub text_ends : List Unclosed → Role → List ℕ → Result MachineState Stop
text_ends levels Content t = if is_utf8 t then Ok (placed levels (Str t)) else Err Utf8
text_ends [] Name t = Err Syntax
text_ends (LevelOfList xs ∷ ls) Name t = Err Syntax
text_ends (LevelOfMap ps name ∷ ls) Name t =
    if is_utf8 t then Ok (state (LevelOfMap ps t ∷ ls) colon) else Err Utf8

-- in a string
abbrev pub text_goes : List Unclosed → Role → List ℕ → StringPlace → Result MachineState Stop
text_goes levels role t part = Ok (state levels (text role t part))

-- the first byte of a character of several bytes, of which these ranges are to come
abbrev pub wide : List Unclosed → Role → List ℕ → List (ℕ × ℕ) → Result MachineState Stop
wide levels role t [] = Err Utf8
wide levels role t (r ∷ rs) = text_goes levels role t (tail (r ∷ rs))

-- a byte between characters
abbrev pub in_plain : List Unclosed → Role → List ℕ → ℕ → Result MachineState Stop
in_plain levels role t b = if b == 34 then text_ends levels role t
    else if b == 92 then text_goes levels role t escape
    else if nat_lt b 32 then Err Syntax
    else if nat_lt b 128 then text_goes levels role (t ++ (b ∷ [])) plain
    else wide levels role (t ++ (b ∷ [])) (tails b)

-- the one byte that an escape wants
abbrev pub wanted : List Unclosed → ℕ → Hand → ℕ → Result MachineState Stop
wanted levels w hand b = if b == w then Ok (state levels hand) else refused b

-- a byte behind a backslash, and the character that both stand for
abbrev pub escape_goes : List Unclosed → Role → List ℕ → ℕ → Option ℕ → Result MachineState Stop
escape_goes levels role t b (Some c) = text_goes levels role (t ++ (c ∷ [])) plain
escape_goes levels role t b None = wanted levels 117 (text role t (code NoDigit)) b

-- a byte behind a backslash
abbrev pub in_escape : List Unclosed → Role → List ℕ → ℕ → Result MachineState Stop
in_escape levels role t b = escape_goes levels role t b (escaped b)

-- the character that a code names
abbrev pub paired : List Unclosed → Role → List ℕ → ℕ → Result MachineState Stop
paired levels role t c =
    if scalar c then text_goes levels role (t ++ encode_utf8 c) plain else Err Syntax

-- the character that an escape names
abbrev pub coded : List Unclosed → Role → List ℕ → ℕ → Result MachineState Stop
coded levels role t c = if is_in_range 0xD800 0xDBFF c then text_goes levels role t (high c)
    else paired levels role t c

-- one more digit of a first escape
abbrev pub digit_of_code : List Unclosed → Role → List ℕ → Digits → ℕ → Result MachineState Stop
digit_of_code levels role t NoDigit b = text_goes levels role t (code (One b))
digit_of_code levels role t (One a) b =
    if (digit_value a == 13 && nat_lt 11 (digit_value b)) then Err Syntax
    else text_goes levels role t (code (Two a b))
digit_of_code levels role t (Two a c) b = text_goes levels role t (code (Three a c b))
digit_of_code levels role t (Three a c d) b = coded levels role t (of_digits16 a c d b)

-- a byte in the digits of a first escape
abbrev pub in_code : List Unclosed → Role → List ℕ → Digits → ℕ → Result MachineState Stop
in_code levels role t digits b =
    if nat_lt (digit_value b) 16 then digit_of_code levels role t digits b else refused b

-- one more digit of the second half of a character
abbrev pub digit_of_low : List Unclosed → Role → List ℕ → ℕ → Digits → ℕ → Result MachineState Stop
digit_of_low levels role t h NoDigit b =
    if digit_value b == 13 then text_goes levels role t (low h (One b)) else Err Syntax
digit_of_low levels role t h (One a) b =
    if nat_lt 11 (digit_value b) then text_goes levels role t (low h (Two a b)) else Err Syntax
digit_of_low levels role t h (Two a c) b = text_goes levels role t (low h (Three a c b))
digit_of_low levels role t h (Three a c d) b = paired levels role t (joined h (of_digits16 a c d b))

-- a byte in the digits of the second half of a character
abbrev pub in_low : List Unclosed → Role → List ℕ → ℕ → Digits → ℕ → Result MachineState Stop
in_low levels role t h digits b =
    if nat_lt (digit_value b) 16 then digit_of_low levels role t h digits b else refused b

-- inside a character
abbrev pub behind_tail : List (ℕ × ℕ) → StringPlace
behind_tail [] = plain
behind_tail (r ∷ rs) = tail (r ∷ rs)

-- a further byte of a character
abbrev pub in_tail : List Unclosed → Role → List ℕ → List (ℕ × ℕ) → ℕ → Result MachineState Stop
in_tail levels role t [] b = Err Utf8
in_tail levels role t (r ∷ rs) b =
    if is_in_range r.0 r.1 b then text_goes levels role (t ++ (b ∷ [])) (behind_tail rs)
    else Err Utf8

-- a byte of a string
abbrev pub in_text : List Unclosed → Role → List ℕ → StringPlace → ℕ → Result MachineState Stop
in_text levels role t plain b = in_plain levels role t b
in_text levels role t escape b = in_escape levels role t b
in_text levels role t (code digits) b = in_code levels role t digits b
in_text levels role t (high h) b = wanted levels 92 (text role t (slash h)) b
in_text levels role t (slash h) b = wanted levels 117 (text role t (low h NoDigit)) b
in_text levels role t (low h digits) b = in_low levels role t h digits b
in_text levels role t (tail ranges) b = in_tail levels role t ranges b

-- one step, where at most `limit` lists and objects stand in one another
abbrev pub step : ℕ → List Unclosed → Hand → ℕ → Result MachineState Stop
step limit levels value b = begin limit levels value b
step limit levels first_item b = item_first limit levels b
step limit levels first_name b = name_first levels b
step limit levels next_name b = name_next levels b
step limit levels colon b = at_colon levels b
step limit levels behind b = behind_in levels b
step limit levels (done v) b = at_end levels v b
step limit levels (word v left) b = in_word levels v left b
step limit levels (number t place) b = in_number levels t place b
step limit levels (text role t part) b = in_text levels role t part b

-- the steps at these bytes
abbrev pub run_on : ℕ → Result MachineState Stop → List ℕ → Result MachineState Stop
run_on limit (Err stop) bytes = Err stop
run_on limit (Ok s) [] = Ok s
run_on limit (Ok s) (b ∷ bs) = run_on limit (step limit s.levels s.hand b) bs

-- the steps from a state
abbrev pub run : ℕ → MachineState → List ℕ → Result MachineState Stop
run limit s bytes = run_on limit (Ok s) bytes

-- the numeral of that spelling
abbrev pub numeral : List ℕ → Option Json
numeral t = if is_utf8 t then Some (Num t) else None

-- the value of a text that ends there; none where the bytes so far are no whole text
abbrev pub at_last_in : List Unclosed → Hand → Option Json
at_last_in [] (done v) = Some v
at_last_in [] (number t place) = if ends place then numeral t else None
at_last_in levels hand = None

-- the same of a whole state
abbrev pub at_last : MachineState → Option Json
at_last s = at_last_in s.levels s.hand
