-- The values whose numerals are all of JSON, and what stands in them.
use Rattle.std.proofs.Common.{◌≡◌, ◌<◌, ℕ, zero, suc, Bool, List, [], ◌∷◌, length, get_or, refl, sym, ap, subst, arith}
use Rattle.json_value.specs.declared.Json.{Json}
use Rattle.json_value.specs.declared.Json.TheVariants as J
use Rattle.tick_time.specs.Numerals.{IsNumeral}
use Rattle.schema_rows.specs.Numerals.{HasNumerals, IsWithin, itself, item, member}
use Rattle.schema_rows.proofs.JsonParts.{list_once, map_once}

mutual
  -- the numerals of the value are of JSON
  pub data HasAll : Json → Type 0 where
    is_null : (value : Json) → value ≡ J.Null → HasAll value
    is_truth : (value : Json) (b : Bool) → value ≡ J.Bool b → HasAll value
    is_number : (value : Json) (numeral : List ℕ) → value ≡ J.Num numeral → IsNumeral numeral → HasAll value
    is_string : (value : Json) (text : List ℕ) → value ≡ J.Str text → HasAll value
    is_list : (value : Json) (items : List Json) → value ≡ J.List items → HaveAll items → HasAll value
    is_object : (value : Json) (members : List (List ℕ × Json)) → value ≡ J.Map members → MembersHave members → HasAll value

  -- those of each of the values
  pub data HaveAll : List Json → Type 0 where
    no_items : (items : List Json) → items ≡ [] → HaveAll items
    more_items : (items : List Json) (first : Json) (others : List Json) → items ≡ first ∷ others → HasAll first → HaveAll others → HaveAll items

  -- those of the value of each member
  pub data MembersHave : List (List ℕ × Json) → Type 0 where
    no_pairs : (members : List (List ℕ × Json)) → members ≡ [] → MembersHave members
    more_pairs : (members : List (List ℕ × Json)) (name : List ℕ) (value : Json) (others : List (List ℕ × Json)) → members ≡ (name, value) ∷ others
        → HasAll value → MembersHave others → MembersHave members

at_item : {items : List Json} → HaveAll items → (i : ℕ) (d : Json) → i < length items → HasAll (get_or items i d)
at_item (no_items items e) i d lt = absurd (omega (arith, ap length e))
at_item (more_items items first others e h k) zero d lt = subst (λ (xs : List Json). HasAll (get_or xs 0 d)) (sym e) h
at_item (more_items items first others e h k) (suc i) d lt =
    subst (λ (xs : List Json). HasAll (get_or xs (suc i) d)) (sym e) (at_item k i d (omega (arith, ap length e)))

at_member : {members : List (List ℕ × Json)} → MembersHave members → (i : ℕ) (d : List ℕ × Json) → i < length members → HasAll (get_or members i d).1
at_member (no_pairs members e) i d lt = absurd (omega (arith, ap length e))
at_member (more_pairs members name value others e h k) zero d lt = subst (λ (xs : List (List ℕ × Json)). HasAll (get_or xs 0 d).1) (sym e) h
at_member (more_pairs members name value others e h k) (suc i) d lt =
    subst (λ (xs : List (List ℕ × Json)). HasAll (get_or xs (suc i) d).1) (sym e) (at_member k i d (omega (arith, ap length e)))

own : {value : Json} → HasAll value → (text : List ℕ) → value ≡ J.Num text → IsNumeral text
own (is_null value e) text q = absurd (cc)
own (is_truth value b e) text q = absurd (cc)
own (is_number value numeral e k) text q = let s : numeral ≡ text = cc in subst IsNumeral s k
own (is_string value t e) text q = absurd (cc)
own (is_list value items e k) text q = absurd (cc)
own (is_object value members e k) text q = absurd (cc)

in_list : {value : Json} → HasAll value → (items : List Json) → value ≡ J.List items → (i : ℕ) (d : Json) → i < length items → HasAll (get_or items i d)
in_list (is_null value e) items q i d lt = absurd (cc)
in_list (is_truth value b e) items q i d lt = absurd (cc)
in_list (is_number value numeral e k) items q i d lt = absurd (cc)
in_list (is_string value t e) items q i d lt = absurd (cc)
in_list (is_list value held e k) items q i d lt = at_item (subst HaveAll (list_once value held items e q) k) i d lt
in_list (is_object value members e k) items q i d lt = absurd (cc)

in_object : {value : Json} → HasAll value → (members : List (List ℕ × Json)) → value ≡ J.Map members → (i : ℕ) (d : List ℕ × Json) → i < length members
    → HasAll (get_or members i d).1
in_object (is_null value e) members q i d lt = absurd (cc)
in_object (is_truth value b e) members q i d lt = absurd (cc)
in_object (is_number value numeral e k) members q i d lt = absurd (cc)
in_object (is_string value t e) members q i d lt = absurd (cc)
in_object (is_list value held e k) members q i d lt = absurd (cc)
in_object (is_object value held e k) members q i d lt = at_member (subst MembersHave (map_once value held members e q) k) i d lt

inside : {value within : Json} → IsWithin value within → HasAll value → (text : List ℕ) → within ≡ J.Num text → IsNumeral text
inside (itself value) h text q = own h text q
inside (item value within items held e (i, lt, g) w) h text q = inside w (subst HasAll g (in_list h items e i held lt)) text q
inside (member value within members name held e (i, lt, g) w) h text q =
    let same : (get_or members i (name, held)).1 ≡ held = ap (λ (p : List ℕ × Json). p.1) g in
    inside w (subst HasAll same (in_object h members e i (name, held) lt)) text q

pub all_numerals : {value : Json} → HasAll value → HasNumerals value
all_numerals h text w = inside w h text refl
