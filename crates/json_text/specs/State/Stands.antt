-- The state of the machine that a reader's fields stand for.
use Rattle.std.specs.Prelude.{map as map_all}
use Rattle.std.specs.Prelude.{◌≡◌, ℕ, ◌≤◌, List, [], ◌∷◌, ◌++◌, length, take, drop, replicate, codes, true, false, reverse, Option, Some, None, Result, Ok, Err}
use Rattle.json_value.specs.declared.Json.{Json}
use Rattle.json_value.specs.declared.Json.TheVariants.{Null as JsonNull, Bool as JsonOfBool}
use Rattle.json_text.specs.declared.machine.Machine.{Machine}
use Rattle.json_text.specs.State.Opened.{Unclosed, list, map, unclosed_of}
use Rattle.json_text.specs.declared.state.Kind.{Kind}
use Rattle.json_text.specs.declared.state.Kind.TheVariants.{List as KindOfList, Map as KindOfMap}
use Rattle.json_text.specs.declared.state.Tail.{Tail as TailOf}
use Rattle.json_text.specs.declared.state.Word.{Word}
use Rattle.json_text.specs.declared.state.Word.TheVariants.{Null, True, False}
use Rattle.json_text.specs.declared.state.Part.{Part}
use Rattle.json_text.specs.declared.state.Part.TheVariants.{Plain, Escape, Code, High, Slash, Low, Tail}
use Rattle.json_text.specs.declared.state.Hand.{Hand}
use Rattle.json_text.specs.declared.state.Hand.TheVariants.{Value, FirstItem, FirstName, NextName, Colon, Behind, Done, Word as HandOfWord, Number, Text}
use Rattle.json_text.specs.declared.state.Taken.{Taken}
use Rattle.json_text.specs.declared.state.Taken.TheVariants.{Goes, Stops}
use Rattle.json_text.specs.declared.state.Stop.{Stop}
use Rattle.json_text.specs.State.Machine as spec

-- the value that a word stands for
abbrev pub value_of : Word → Json
value_of Null = JsonNull
value_of True = JsonOfBool true
value_of False = JsonOfBool false

-- the letters of a word, and those that are left of it
abbrev pub letters_of : Word → List ℕ
letters_of Null = codes "null"
letters_of True = codes "true"
letters_of False = codes "false"

abbrev pub left_of : Word → ℕ → List ℕ
left_of word taken = drop taken (letters_of word)

-- the ranges of the bytes to come of a character
abbrev pub ranges_of : TailOf → List (ℕ × ℕ)
ranges_of tail = (tail.least, tail.most) ∷ replicate tail.further (128, 191)

abbrev pub ranges_after : Option TailOf → List (ℕ × ℕ)
ranges_after None = []
ranges_after (Some tail) = ranges_of tail

-- where a string stands
abbrev pub part_of : Part → spec.StringPlace
part_of Plain = spec.plain
part_of Escape = spec.escape
part_of (Code digits) = spec.code digits
part_of (High half) = spec.high half
part_of (Slash half) = spec.slash half
part_of (Low half digits) = spec.low half digits
part_of (Tail tail) = spec.tail (ranges_of tail)

-- what stands at hand, with the text and the value that go with it
abbrev pub hand_of : Hand → List ℕ → Json → spec.Hand
hand_of Value text root = spec.value
hand_of FirstItem text root = spec.first_item
hand_of FirstName text root = spec.first_name
hand_of NextName text root = spec.next_name
hand_of Colon text root = spec.colon
hand_of Behind text root = spec.behind
hand_of Done text root = spec.done root
hand_of (HandOfWord word taken) text root = spec.word (value_of word) (left_of word taken)
hand_of (Number place) text root = spec.number text place
hand_of (Text role part) text root = spec.text role text (part_of part)

-- the open lists and objects, innermost first
abbrev pub levels_of : Machine → List Unclosed
levels_of m = reverse (map_all unclosed_of (take m.depth m.levels.items))

-- what the innermost one is
abbrev pub innermost : List Unclosed → Option Kind
innermost [] = None
innermost (list xs ∷ ls) = Some KindOfList
innermost (map ps name ∷ ls) = Some KindOfMap

-- the whole state
abbrev pub state_of : Machine → spec.MachineState
state_of m = spec.state (levels_of m) (hand_of m.hand m.text.items m.root)

-- what came of a byte is the step there
abbrev pub IsTaken : Taken → Result spec.MachineState Stop → spec.MachineState → Type 0
IsTaken Goes step new = step ≡ Ok new
IsTaken (Stops stop) step new = step ≡ Err stop

-- The text at hand has so many bytes more, and all else is as it was.
pub record AddsText (count : ℕ) (bytes : List ℕ) (old new : Machine) : Type 0 where
  pub within : count ≤ length bytes
  pub text : new.text.items ≡ old.text.items ++ take count bytes
  pub hand : new.hand ≡ old.hand
  pub levels : new.levels ≡ old.levels
  pub depth : new.depth ≡ old.depth
  pub root : new.root ≡ old.root
