-- Bytes that the machine takes at once.
use Rattle.std.proofs.Common.{◌≡◌, ℕ, ◌+◌, drop, length-drop, ◌<◌, ◌≤◌, List, [], ◌∷◌, ◌++◌, length, take, get_or, true, Result, Ok, Err, Some, None, refl, sym, ap, ◌∙◌, subst, arith, IfOk}
use Rattle.std.specs.Prelude.{map, reverse}
use Rattle.std.specs.Str.{IsUtf8, is_utf8}
use Rattle.json_value.specs.declared.Json.TheVariants.{Str}
use Rattle.json_text.specs.Grammar.{AreBlank}
use Rattle.json_text.specs.State.Machine as spec
use Rattle.json_text.specs.State.Machine.{state, run}
use Rattle.json_text.specs.State.Runs.{Skims, AreOpen, StandsFor, place_behind}
use Rattle.json_text.specs.State.Stands.{state_of, levels_of, innermost, hand_of, AddsText, IsTaken}
use Rattle.json_text.specs.declared.machine.Machine.{Machine}
use Rattle.json_text.specs.State.Opened.{Unclosed, unclosed_of}
use Rattle.json_text.specs.State.Opened.{list as LevelOfList, map as LevelOfMap}
use Rattle.json_text.specs.declared.state.Kind.{Kind}
use Rattle.json_text.specs.declared.state.Kind.TheVariants.{List as KindOfList, Map as KindOfMap}
use Rattle.json_text.specs.declared.state.Role.{Role}
use Rattle.json_text.specs.declared.state.Role.TheVariants.{Name, Content}
use Rattle.json_text.specs.declared.state.Taken.{Taken}
use Rattle.json_text.specs.declared.state.Taken.TheVariants.{Goes, Stops}
use Rattle.json_text.specs.declared.state.Place.{Place}
use Rattle.json_text.specs.declared.state.Hand.TheVariants.{Value, FirstItem, FirstName, NextName, Behind, Number, Text}
use Rattle.json_text.specs.declared.state.Part.TheVariants.{Plain}
use Rattle.json_text.proofs.RunLemmas.{Stays, run_blank, value_stays, name_stays, item_stays, first_name_stays, behind_stays, run_open, run_string, run_number, run_more, run_skim}

-- no bytes
pub none_skim : (m : Machine) (bytes : List ℕ) → Skims 0 (state_of m) bytes (state_of m)
none_skim m bytes = record { within = omega arith; ran = refl }

-- characters of a string
open_skims : (old new : Machine) (role : Role) (bytes : List ℕ) (count : ℕ) → old.hand ≡ Text role Plain → AddsText count bytes old new → AreOpen (take count bytes) → IsUtf8 (take count bytes)
    → Skims count (state_of old) bytes (state_of new)
open_skims old new role bytes count e a opens u = record {
  within = a.within;
  ran = ap (λ h. run 127 (state (levels_of old) (hand_of h old.text.items old.root)) (take count bytes)) e ∙ run_open 127 (levels_of old) role old.text.items (take count bytes) opens u
      ∙ sym (λ i. Ok (state (reverse (map unclosed_of (take (a.depth i) (a.levels i).items))) (hand_of ((a.hand ∙ e) i) (a.text i) (a.root i))));
}

pub open_skimmed : {E : Type 0} (old new : Machine) (role : Role) (bytes : List ℕ) (r : Result ℕ E) → old.hand ≡ Text role Plain → IfOk r (λ count. AddsText count bytes old new)
    → IfOk r (λ count. AreOpen (take count bytes)) → IfOk r (λ count. IsUtf8 (take count bytes)) → IfOk r (λ count. Skims count (state_of old) bytes (state_of new))
open_skimmed old new role bytes (Ok count) e h opens u = open_skims old new role bytes count e h opens u
open_skimmed old new role bytes (Err k) e h opens u = tt

-- characters that were gathered
pub gathered_skims : (old : Machine) (role : Role) (bytes made t : List ℕ) (count : ℕ)
    → old.hand ≡ Text role Plain → count ≤ length bytes → StandsFor (take count bytes) made
    → t ≡ old.text.items ++ made
    → Skims count (state_of old) bytes (state (levels_of old) (hand_of old.hand t old.root))
gathered_skims old role bytes made t count e l f g = record {
  within = l;
  ran = ap (λ h. run 127 (state (levels_of old) (hand_of h old.text.items old.root))
      (take count bytes)) e
      ∙ f.ran 127 (levels_of old) role old.text.items
      ∙ sym (λ i. Ok (state (levels_of old) (hand_of (e i) (g i) old.root)));
}

-- white space
blank_skims : (m : Machine) (hand : spec.Hand) (bytes : List ℕ) (count : ℕ) (levels : List Unclosed) → state_of m ≡ state levels hand → Stays 127 levels hand → count ≤ length bytes
    → AreBlank (take count bytes) → Skims count (state_of m) bytes (state_of m)
blank_skims m hand bytes count levels f stays l h =
    record { within = l; ran = ap (λ x. run 127 x (take count bytes)) f ∙ run_blank 127 levels hand (take count bytes) stays h ∙ sym (ap (λ x. Ok x) f) }

pub value_skims : (m : Machine) (bytes : List ℕ) (count : ℕ) → m.hand ≡ Value → count ≤ length bytes → AreBlank (take count bytes) → Skims count (state_of m) bytes (state_of m)
value_skims m bytes count e l h =
    blank_skims m spec.value bytes count (levels_of m) (ap (λ x. state (levels_of m) (hand_of x m.text.items m.root)) e) (value_stays 127 (levels_of m)) l h

pub name_skims : (m : Machine) (bytes : List ℕ) (count : ℕ) → m.hand ≡ NextName → count ≤ length bytes → AreBlank (take count bytes) → Skims count (state_of m) bytes (state_of m)
name_skims m bytes count e l h =
    blank_skims m spec.next_name bytes count (levels_of m) (ap (λ x. state (levels_of m) (hand_of x m.text.items m.root)) e) (name_stays 127 (levels_of m)) l h

list_stays : (levels : List Unclosed) → innermost levels ≡ Some KindOfList → Stays 127 levels spec.first_item
list_stays [] e = let k : None ≡ Some KindOfList = e in cc k
list_stays (LevelOfList xs ∷ ls) e = item_stays 127 xs ls
list_stays (LevelOfMap ps name ∷ ls) e = let k : Some KindOfMap ≡ Some KindOfList = e in cc k

map_stays : (levels : List Unclosed) → innermost levels ≡ Some KindOfMap → Stays 127 levels spec.first_name
map_stays [] e = let k : None ≡ Some KindOfMap = e in cc k
map_stays (LevelOfList xs ∷ ls) e = let k : Some KindOfList ≡ Some KindOfMap = e in cc k
map_stays (LevelOfMap ps name ∷ ls) e = first_name_stays 127 ps name ls

open_stays : (levels : List Unclosed) (kind : Kind) → innermost levels ≡ Some kind → Stays 127 levels spec.behind
open_stays [] kind e = let k : None ≡ Some kind = e in cc k
open_stays (l ∷ ls) kind e = behind_stays 127 l ls

pub item_skims : (m : Machine) (bytes : List ℕ) (count : ℕ) → m.hand ≡ FirstItem → innermost (levels_of m) ≡ Some KindOfList → count ≤ length bytes → AreBlank (take count bytes)
    → Skims count (state_of m) bytes (state_of m)
item_skims m bytes count e f l h =
    blank_skims m spec.first_item bytes count (levels_of m) (ap (λ x. state (levels_of m) (hand_of x m.text.items m.root)) e) (list_stays (levels_of m) f) l h

pub first_name_skims : (m : Machine) (bytes : List ℕ) (count : ℕ) → m.hand ≡ FirstName → innermost (levels_of m) ≡ Some KindOfMap → count ≤ length bytes → AreBlank (take count bytes)
    → Skims count (state_of m) bytes (state_of m)
first_name_skims m bytes count e f l h =
    blank_skims m spec.first_name bytes count (levels_of m) (ap (λ x. state (levels_of m) (hand_of x m.text.items m.root)) e) (map_stays (levels_of m) f) l h

pub behind_skims : (m : Machine) (kind : Kind) (bytes : List ℕ) (count : ℕ) → m.hand ≡ Behind → innermost (levels_of m) ≡ Some kind → count ≤ length bytes → AreBlank (take count bytes)
    → Skims count (state_of m) bytes (state_of m)
behind_skims m kind bytes count e f l h =
    blank_skims m spec.behind bytes count (levels_of m) (ap (λ x. state (levels_of m) (hand_of x m.text.items m.root)) e) (open_stays (levels_of m) kind f) l h

-- a numeral
pub number_skims : (old : Machine) (place next : Place) (bytes : List ℕ) (count : ℕ) → old.hand ≡ Number place → count ≤ length bytes → place_behind (Some place) (take count bytes) ≡ Some next
    → Skims count (state_of old) bytes (state (levels_of old) (spec.number (old.text.items ++ take count bytes) next))
number_skims old place next bytes count e l f = record {
  within = l;
  ran = ap (λ h. run 127 (state (levels_of old) (hand_of h old.text.items old.root)) (take count bytes)) e ∙ run_number 127 (levels_of old) place next old.text.items (take count bytes) f;
}

-- a quote and bytes of its string
pub quoted_skims : (s began new : spec.MachineState) (bytes rest : List ℕ) (n : ℕ) → 0 < length bytes → get_or bytes 0 0 ≡ 34 → spec.step 127 s.levels s.hand 34 ≡ Ok began
    → rest ≡ drop 1 bytes → Skims n began rest new → Skims (1 + n) s bytes new
quoted_skims s began new bytes rest n some quote begins is went = record {
  within = omega (arith, went.within, some, ap length is, length-drop 1 bytes);
  ran = run_skim 127 s began new bytes 1 n (run_more 127 s s bytes 0 some refl ∙ ap (λ b. spec.step 127 s.levels s.hand b) quote ∙ begins)
      (subst (λ (x : List ℕ). run 127 began (take n x) ≡ Ok new) is went.ran);
}

-- a whole string
whole_ran : (old : Machine) (role : Role) (bytes : List ℕ) (n : ℕ) → old.hand ≡ Text role Plain → old.text.items ≡ [] → n < length bytes → get_or bytes n 0 ≡ 34
    → AreOpen (take n bytes) → is_utf8 (take n bytes) ≡ true → run 127 (state_of old) (take (n + 1) bytes) ≡ spec.text_ends (levels_of old) role (take n bytes)
whole_ran old role bytes n e f l q opens u =
    (λ i. run 127 (state (levels_of old) (hand_of (e i) (f i) old.root)) (take (n + 1) bytes)) ∙ run_string 127 (levels_of old) role bytes n l q opens u

content_ends : (levels : List Unclosed) (t : List ℕ) → is_utf8 t ≡ true → spec.text_ends levels Content t ≡ Ok (spec.placed levels (Str t))
content_ends levels t u = rw u refl

pub content_skims : (old : Machine) (new : spec.MachineState) (bytes t : List ℕ) (n : ℕ) → old.hand ≡ Text Content Plain → old.text.items ≡ [] → n < length bytes → get_or bytes n 0 ≡ 34
    → AreOpen (take n bytes) → is_utf8 (take n bytes) ≡ true → t ≡ take n bytes → new ≡ spec.placed (levels_of old) (Str t) → Skims (n + 1) (state_of old) bytes new
content_skims old new bytes t n e f l q opens u is to = record {
  within = omega (arith, l);
  ran = whole_ran old Content bytes n e f l q opens u ∙ content_ends (levels_of old) (take n bytes) u ∙ ap (λ x. Ok (spec.placed (levels_of old) (Str x))) (sym is) ∙ ap (λ x. Ok x) (sym to);
}

name_ends : (levels : List Unclosed) (t : List ℕ) (taken : Taken) (new : spec.MachineState) → innermost levels ≡ Some KindOfMap → is_utf8 t ≡ true
    → IsTaken taken (spec.named levels t) new → spec.text_ends levels Name t ≡ Ok new
name_ends [] t taken new e u h = let k : None ≡ Some KindOfMap = e in cc k
name_ends (LevelOfList xs ∷ ls) t taken new e u h = let k : Some KindOfList ≡ Some KindOfMap = e in cc k
name_ends (LevelOfMap pairs name ∷ ls) t Goes new e u h = rw u h
name_ends (LevelOfMap pairs name ∷ ls) t (Stops stop) new e u h = cc h

pub map_name_skims : (old : Machine) (new : spec.MachineState) (bytes t : List ℕ) (n : ℕ) (taken : Taken) → old.hand ≡ Text Name Plain → old.text.items ≡ []
    → innermost (levels_of old) ≡ Some KindOfMap → n < length bytes → get_or bytes n 0 ≡ 34 → AreOpen (take n bytes) → is_utf8 (take n bytes) ≡ true → t ≡ take n bytes
    → IsTaken taken (spec.named (levels_of old) t) new → Skims (n + 1) (state_of old) bytes new
map_name_skims old new bytes t n taken e f inside l q opens u is h = record {
  within = omega (arith, l);
  ran = whole_ran old Name bytes n e f l q opens u
      ∙ name_ends (levels_of old) (take n bytes) taken new inside u (subst (λ (x : List ℕ). IsTaken taken (spec.named (levels_of old) x) new) is h);
}
