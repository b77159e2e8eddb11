-- What a value becomes, one level at a time.
use Rattle.std.proofs.Common.{◌≡◌, ℕ, Bool, List, [], ◌∷◌, map, refl, ap, ap₂, ◌∙◌, subst}
use Rattle.json_value.specs.declared.Json.{Json, Null, Bool as JsonOfBool, Num, Str, List as JsonOfList, Map}
use Rattle.json_value.specs.declared.Json.TheOpen.{Json-F}
use Rattle.json_value.specs.declared.Json.TheFolds.{fold-roll-Json, ind-Json, map-Json}
use Rattle.json_value.specs.declared.Json.TheViews.{roll-Json}
use Rattle.sequences.specs.Pairs.{names_of}
use Rattle.schema_up.specs.declared.old_names.Form.{Form}
use Rattle.schema_up.specs.declared.old_names.Row.{Row}
use Rattle.schema_up.specs.declared.old_names.Row.TheVariants.{Kept}
use Rattle.schema_up.specs.Names.{schema_in}
use Rattle.schema_up.specs.UpgradeRows.{item_row, member_row}
use Rattle.schema_up.specs.Upgrades.{Pairs, upgraded_at, upgrade_step, items_at, pairs_at, map_at, renewed_at, members_at, schema_among}

pub upgraded_at-Null : (row : Row) → upgraded_at Null row ≡ Null
unfolding Rattle.json_value.specs.declared.Json.TheViews.roll-Json denote.Hole.Carrier.roll
upgraded_at-Null row = ap (λ f. f row) (fold-roll-Json (Row → Json) upgrade_step Json-F.Null)

pub upgraded_at-Bool : (truth : Bool) (row : Row) → upgraded_at (JsonOfBool truth) row ≡ JsonOfBool truth
unfolding Rattle.json_value.specs.declared.Json.TheViews.roll-Json denote.Hole.Carrier.roll
upgraded_at-Bool truth row = ap (λ f. f row) (fold-roll-Json (Row → Json) upgrade_step (Json-F.Bool truth))

pub upgraded_at-Num : (numeral : List ℕ) (row : Row) → upgraded_at (Num numeral) row ≡ Num numeral
unfolding Rattle.json_value.specs.declared.Json.TheViews.roll-Json denote.Hole.Carrier.roll
upgraded_at-Num numeral row = ap (λ f. f row) (fold-roll-Json (Row → Json) upgrade_step (Json-F.Num numeral))

pub upgraded_at-Str : (text : List ℕ) (row : Row) → upgraded_at (Str text) row ≡ Str text
unfolding Rattle.json_value.specs.declared.Json.TheViews.roll-Json denote.Hole.Carrier.roll
upgraded_at-Str text row = ap (λ f. f row) (fold-roll-Json (Row → Json) upgrade_step (Json-F.Str text))

each_item : (row : Row) (items : List Json) → map (λ item. item row) (map upgraded_at items) ≡ items_at row items
each_item row [] = refl
each_item row (item ∷ items) = ap (λ l. upgraded_at item row ∷ l) (each_item row items)

pub upgraded_at-List : (items : List Json) (row : Row) → upgraded_at (JsonOfList items) row ≡ JsonOfList (items_at (item_row row) items)
unfolding Rattle.json_value.specs.declared.Json.TheViews.roll-Json denote.Hole.Carrier.roll
upgraded_at-List items row = ap (λ f. f row) (fold-roll-Json (Row → Json) upgrade_step (Json-F.List items)) ∙ ap JsonOfList (each_item (item_row row) items)

-- the members with what their values become at each place
abbrev among : Pairs → List (List ℕ × (Row → Json))
among members = map (λ (member : List ℕ × Json). (member.0, upgraded_at member.1)) members

each_member : (row : Row) (schema : Form) (members : Pairs) → members_at row schema (among members) ≡ pairs_at row schema members
each_member row schema [] = refl
each_member row schema (member ∷ members) = ap (λ l. (member.0, upgraded_at member.1 (member_row row schema member.0)) ∷ l) (each_member row schema members)

-- the members, where each value is kept
abbrev kept_pairs : Pairs → Pairs
kept_pairs members = map (λ (member : List ℕ × Json). (member.0, upgraded_at member.1 Kept)) members

each_kept : (members : Pairs) → map (λ (member : List ℕ × (Row → Json)). (member.0, member.1 Kept)) (among members) ≡ kept_pairs members
each_kept [] = refl
each_kept (member ∷ members) = ap (λ l. (member.0, upgraded_at member.1 Kept) ∷ l) (each_kept members)

-- a map of a kept place, with the schema as it is seen there
kept_map : (members : Pairs) → upgraded_at (Map members) Kept ≡ Map (kept_pairs members)
unfolding Rattle.json_value.specs.declared.Json.TheViews.roll-Json denote.Hole.Carrier.roll
kept_map members = ap (λ f. f Kept) (fold-roll-Json (Row → Json) upgrade_step (Json-F.Map members)) ∙ ap Map (each_kept members)

abbrev Keeps : Json → Type 0
Keeps value = upgraded_at value Kept ≡ value

kept_items : (items : List ((value : Json) × Keeps value)) → items_at Kept (map (λ item. item.0) items) ≡ map (λ item. item.0) items
kept_items [] = refl
kept_items (item ∷ items) = ap₂ (λ value values. value ∷ values) item.1 (kept_items items)

kept_members : (members : List (List ℕ × ((value : Json) × Keeps value))) → kept_pairs (map (λ member. (member.0, member.1.0)) members) ≡ map (λ member. (member.0, member.1.0)) members
kept_members [] = refl
kept_members (member ∷ members) = ap₂ (λ (value : Json) (pairs : Pairs). (member.0, value) ∷ pairs) member.1.1 (kept_members members)

kept_layer : (layer : Json-F ((value : Json) × Keeps value)) → Keeps (roll-Json (map-Json ((value : Json) × Keeps value) Json (λ e. e.0) layer))
unfolding Rattle.json_value.specs.declared.Json.TheViews.roll-Json denote.Hole.Carrier.roll
kept_layer Json-F.Null = upgraded_at-Null Kept
kept_layer (Json-F.Bool truth) = upgraded_at-Bool truth Kept
kept_layer (Json-F.Num numeral) = upgraded_at-Num numeral Kept
kept_layer (Json-F.Str text) = upgraded_at-Str text Kept
kept_layer (Json-F.List items) = upgraded_at-List (map (λ item. item.0) items) Kept ∙ ap JsonOfList (kept_items items)
kept_layer (Json-F.Map members) = kept_map (map (λ member. (member.0, member.1.0)) members) ∙ ap Map (kept_members members)

-- a value that is kept stays as it is
pub kept_same : (value : Json) → upgraded_at value Kept ≡ value
kept_same = ind-Json Keeps (λ x y is. subst (λ layer. Keeps (roll-Json layer)) is (kept_layer y))

-- so do kept members
pub same_pairs : (members : Pairs) → kept_pairs members ≡ members
same_pairs [] = refl
same_pairs (member ∷ members) = ap₂ (λ (value : Json) (pairs : Pairs). (member.0, value) ∷ pairs) (kept_same member.1) (same_pairs members)

-- the schema is that of the members as they are
same_schema : (members : Pairs) → schema_among (among members) ≡ schema_in members
same_schema members = ap schema_in (each_kept members ∙ same_pairs members)

pub upgraded_at-Map : (members : Pairs) (row : Row) → upgraded_at (Map members) row ≡ Map (map_at row members)
unfolding Rattle.json_value.specs.declared.Json.TheViews.roll-Json denote.Hole.Carrier.roll
upgraded_at-Map members row =
    ap (λ f. f row) (fold-roll-Json (Row → Json) upgrade_step (Json-F.Map members))
    ∙ ap (λ schema. Map (renewed_at row schema (members_at row schema (among members)))) (same_schema members)
    ∙ ap (λ l. Map (renewed_at row (schema_in members) l)) (each_member row (schema_in members) members)

-- kept items stay as they are
pub same_items : (items : List Json) → items_at Kept items ≡ items
same_items [] = refl
same_items (item ∷ items) = ap₂ (λ value values. value ∷ values) (kept_same item) (same_items items)

-- the names stay
pub names_at : (row : Row) (schema : Form) (members : Pairs) → names_of (pairs_at row schema members) ≡ names_of members
names_at row schema [] = refl
names_at row schema (member ∷ members) = ap (λ names. member.0 ∷ names) (names_at row schema members)
