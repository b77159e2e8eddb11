-- How deep the values inside a value are, and their numerals.
use Rattle.std.proofs.Common.{◌≡◌, ◌<◌, ◌≤◌, ℕ, zero, suc, List, [], ◌∷◌, length, get_or, map, Some, Bool, true, false, refl, ap, subst, ◌∙◌, arith}
use Rattle.std.specs.Str.{bytes_eq}
use Rattle.std.proofs.lemmas.List.Elements.{Contains-get_or}
use Rattle.sequences.specs.Pairs.{value_of}
use Rattle.json_value.specs.declared.Json.{Json, List as JsonOfList, Map as JsonOfMap}
use Rattle.json_value.specs.declared.Json.TheOpen.{Json-F}
use Rattle.json_value.specs.declared.Json.TheFolds.{fold-roll-Json}
use Rattle.schema_rows.specs.Numerals.{HasNumerals, item, member}
use Rattle.schema_tab.specs.Depths.{deepest, depth, depth_step, list_depth, members_depth}

pub depth-List : (items : List Json) → depth (JsonOfList items) ≡ list_depth items
unfolding Rattle.json_value.specs.declared.Json.TheViews.roll-Json denote.Hole.Carrier.roll
depth-List items = fold-roll-Json ℕ depth_step (Json-F.List items)

member_depths : (members : List (List ℕ × Json))
    → map (λ (m : List ℕ × ℕ). m.1) (map (λ (m : List ℕ × Json). (m.0, depth m.1)) members) ≡ map (λ (m : List ℕ × Json). depth m.1) members
member_depths [] = refl
member_depths (m ∷ members) = ap (λ ns. depth m.1 ∷ ns) (member_depths members)

pub depth-Map : (members : List (List ℕ × Json)) → depth (JsonOfMap members) ≡ members_depth members
unfolding Rattle.json_value.specs.declared.Json.TheViews.roll-Json denote.Hole.Carrier.roll
depth-Map members = fold-roll-Json ℕ depth_step (Json-F.Map members) ∙ ap (λ ns. suc (deepest ns)) (member_depths members)

item_below : (items : List Json) (i : ℕ) (d : Json) → i < length items → depth (get_or items i d) ≤ deepest (map depth items)
item_below [] i d h = absurd (omega arith)
item_below (x ∷ items) zero d h = omega arith
item_below (x ∷ items) (suc i) d h = omega (arith, item_below items i d (omega arith))

pub item_falls : (items : List Json) (i : ℕ) (d : Json) → i < length items → depth (get_or items i d) < list_depth items
item_falls items i d h = omega (arith, item_below items i d h)

pair_below : (members : List (List ℕ × Json)) (i : ℕ) (d : List ℕ × Json) → i < length members → depth (get_or members i d).1 ≤ deepest (map (λ (m : List ℕ × Json). depth m.1) members)
pair_below [] i d h = absurd (omega arith)
pair_below (m ∷ members) zero d h = omega arith
pair_below (m ∷ members) (suc i) d h = omega (arith, pair_below members i d (omega arith))

pub pair_falls : (members : List (List ℕ × Json)) (i : ℕ) (d : List ℕ × Json) → i < length members → depth (get_or members i d).1 < members_depth members
pair_falls members i d h = omega (arith, pair_below members i d h)

-- a value that is looked up stands among the members
pub looked_up : (name : List ℕ) (members : List (List ℕ × Json)) (json : Json) → value_of name members ≡ Some json
    → (i : ℕ) × (i < length members) × ((d : List ℕ × Json) → (get_or members i d).1 ≡ json)
looked_up name [] json e = absurd (cc)
looked_up name (m ∷ members) json e = by (bytes_eq name m.0) refl (looked_up name members json) where
  by : (t : Bool) → bytes_eq name m.0 ≡ t
      → (value_of name members ≡ Some json → (i : ℕ) × (i < length members) × ((d : List ℕ × Json) → (get_or members i d).1 ≡ json))
      → (i : ℕ) × (i < length (m ∷ members)) × ((d : List ℕ × Json) → (get_or (m ∷ members) i d).1 ≡ json)
  by true q further = (0, omega arith, λ d. let e2 = rw q at e in cc)
  by false q further =
      let e2 : value_of name members ≡ Some json = rw q at e in
      let below = further e2 in (suc below.0, omega (arith, below.1), λ d. below.2 d)

pub looked_up_falls : (name : List ℕ) (members : List (List ℕ × Json)) (json : Json) → value_of name members ≡ Some json → depth json < members_depth members
looked_up_falls name members json e =
    let at = looked_up name members json e in
    let same : depth (get_or members at.0 (name, json)).1 ≡ depth json = ap depth (at.2 (name, json)) in
    omega (arith, pair_falls members at.0 (name, json) at.1, same)

-- the numerals of a value inside
pub item_numerals : (items : List Json) (i : ℕ) (d : Json) → i < length items → HasNumerals (JsonOfList items) → HasNumerals (get_or items i d)
item_numerals items i d lt h = λ text w. h text (item _ _ items (get_or items i d) refl (Contains-get_or items i d lt) w)

pub pair_numerals : (members : List (List ℕ × Json)) (i : ℕ) (d : List ℕ × Json) → i < length members → HasNumerals (JsonOfMap members) → HasNumerals (get_or members i d).1
pair_numerals members i d lt h = λ text w. h text (member _ _ members (get_or members i d).0 (get_or members i d).1 refl (Contains-get_or members i d lt) w)

pub looked_up_numerals : (name : List ℕ) (members : List (List ℕ × Json)) (json : Json) → value_of name members ≡ Some json → HasNumerals (JsonOfMap members) → HasNumerals json
looked_up_numerals name members json e h =
    let at = looked_up name members json e in
    subst HasNumerals (at.2 (name, json)) (pair_numerals members at.0 (name, json) at.1 h)
