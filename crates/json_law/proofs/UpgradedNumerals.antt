-- The numerals of a value that was read, as it is and upgraded.
use Rattle.std.proofs.Common.{◌≡◌, ℕ, List, [], ◌∷◌, refl, sym, ap, subst, ◌∙◌}
use Rattle.json_value.specs.declared.Json.{Json}
use Rattle.json_law.specs.Written.{IsJson, null, truth, number, string, list, object, AreJson, no_values, more_values, AreMembers, no_members, more_members}
use Rattle.json_law.proofs.Reading.{read_is_json}
use Rattle.json_law.proofs.Numerals.{numeral_of_json}
use Rattle.schema_up.specs.declared.old_names.Form.{Form}
use Rattle.schema_up.specs.declared.old_names.Row.{Row}
use Rattle.schema_up.specs.declared.old_names.Row.TheVariants.{Object}
use Rattle.schema_up.specs.Names.{schema_in}
use Rattle.schema_up.specs.UpgradeRows.{item_row, member_row}
use Rattle.schema_up.specs.Upgrades.{Pairs, upgraded_at, items_at, pairs_at, map_at}
use Rattle.schema_up.proofs.Levels.{upgraded_at-Null, upgraded_at-Bool, upgraded_at-Num, upgraded_at-Str, upgraded_at-List, upgraded_at-Map}
use Rattle.json_law.specs.Law.{ReadHasNumerals, UpgradedHasNumerals}
use Rattle.json_law.proofs.NumeralsInside.{HasAll, HaveAll, MembersHave, is_null, is_truth, is_number, is_string, is_list, is_object, no_items, more_items, no_pairs, more_pairs, all_numerals}
use Rattle.json_law.proofs.Members.{renewed_at_has}

mutual
  as_read : {room : ℕ} {value : Json} → IsJson room value → HasAll value
  as_read (null room value e) = is_null value e
  as_read (truth room value b e) = is_truth value b e
  as_read (number room value numeral e k) = is_number value numeral e (numeral_of_json numeral k)
  as_read (string room value t e u) = is_string value t e
  as_read (list room value inner items r e k) = is_list value items e (as_items k)
  as_read (object room value inner members r e d k) = is_object value members e (as_members k)

  as_items : {room : ℕ} {items : List Json} → AreJson room items → HaveAll items
  as_items (no_values room items e) = no_items items e
  as_items (more_values room items first others e h k) = more_items items first others e (as_read h) (as_items k)

  as_members : {room : ℕ} {members : Pairs} → AreMembers room members → MembersHave members
  as_members (no_members room members e) = no_pairs members e
  as_members (more_members room members name value others e u h k) = more_pairs members name value others e (as_read h) (as_members k)

-- the value at a place is that which another is upgraded to
at : {value other : Json} (row : Row) {now : Json} → value ≡ other → upgraded_at other row ≡ now → upgraded_at value row ≡ now
at row e q = ap (λ (v : Json). upgraded_at v row) e ∙ q

mutual
  up : {room : ℕ} {value : Json} → IsJson room value → (row : Row) → HasAll (upgraded_at value row)
  up (null room value e) row = is_null (upgraded_at value row) (at row e (upgraded_at-Null row))
  up (truth room value b e) row = is_truth (upgraded_at value row) b (at row e (upgraded_at-Bool b row))
  up (number room value numeral e k) row = is_number (upgraded_at value row) numeral (at row e (upgraded_at-Num numeral row)) (numeral_of_json numeral k)
  up (string room value t e u) row = is_string (upgraded_at value row) t (at row e (upgraded_at-Str t row))
  up (list room value inner items r e k) row =
      is_list (upgraded_at value row) (items_at (item_row row) items) (at row e (upgraded_at-List items row)) (ups k (item_row row))
  up (object room value inner members r e d k) row =
      is_object (upgraded_at value row) (map_at row members) (at row e (upgraded_at-Map members row)) (renewed_at_has row (schema_in members) (up_members k row (schema_in members)))

  ups : {room : ℕ} {items : List Json} → AreJson room items → (row : Row) → HaveAll (items_at row items)
  ups (no_values room items e) row = subst (λ (xs : List Json). HaveAll (items_at row xs)) (sym e) (no_items [] refl)
  ups (more_values room items first others e h k) row =
      subst (λ (xs : List Json). HaveAll (items_at row xs)) (sym e)
      (more_items (items_at row (first ∷ others)) (upgraded_at first row) (items_at row others) refl (up h row) (ups k row))

  up_members : {room : ℕ} {members : Pairs} → AreMembers room members → (row : Row) (schema : Form) → MembersHave (pairs_at row schema members)
  up_members (no_members room members e) row schema = subst (λ (ms : Pairs). MembersHave (pairs_at row schema ms)) (sym e) (no_pairs [] refl)
  up_members (more_members room members name value others e u h k) row schema =
      subst (λ (ms : Pairs). MembersHave (pairs_at row schema ms)) (sym e)
      (more_pairs (pairs_at row schema ((name, value) ∷ others)) name (upgraded_at value (member_row row schema name)) (pairs_at row schema others) refl
      (up h (member_row row schema name)) (up_members k row schema))

pub read_numerals : ReadHasNumerals
read_numerals bytes value read = all_numerals (as_read (read_is_json bytes value read))

pub upgraded_numerals : UpgradedHasNumerals
upgraded_numerals bytes value read = all_numerals (up (read_is_json bytes value read) Object)
