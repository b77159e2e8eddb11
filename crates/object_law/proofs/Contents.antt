-- An object that was read is writable.
use Rattle.std.proofs.Common.{◌≡◌, ◌≢◌, ℕ, ℤ, pos, Bool, true, false, ◌||◌, cond, List, [], ◌∷◌, map, Some, None, refl, sym, ap, subst, ◌∙◌}
use Rattle.std.specs.List.{list_any}
use Rattle.json_value.specs.declared.Json.{Json}
use Rattle.json_value.specs.declared.Json.TheVariants as J
use Rattle.tick_time.specs.Times.{IsSpeed, is_speed}
use Rattle.otio_model.specs.declared.compositions.Listed.{Listed}
use Rattle.otio_model.specs.declared.compositions.ItemOf.{ItemOf}
use Rattle.otio_model.specs.declared.compositions.ItemOf.TheVariants as I
use Rattle.otio_model.specs.declared.compositions.StackOf.{StackOf}
use Rattle.otio_model.specs.declared.objects.Object.{Object, out-Object}
use Rattle.otio_model.specs.declared.objects.Object.TheOpen.{Object-F}
use Rattle.otio_model.specs.declared.objects.Collection.{Collection, out-Collection}
use Rattle.otio_model.specs.declared.effect_types.Effect.{Effect}
use Rattle.otio_model.specs.declared.effect_types.Effect.TheVariants as E
use Rattle.otio_model.specs.declared.markers.Marker.{Marker}
use Rattle.otio_model.specs.declared.markers.Marker.TheVariants as K
use Rattle.otio_model.specs.declared.media.Media.{Media}
use Rattle.otio_model.specs.declared.media.Media.TheVariants as M
use Rattle.otio_model.specs.Trees.{listed, items_of, is_transition}
use Rattle.schema_rows.specs.Rows as R
use Rattle.schema_rows.specs.Rows.{Row, RowKind}
use Rattle.schema_rows.specs.declared.schemas.Schema.{Schema}
use Rattle.schema_rows.specs.declared.schemas.Schema.TheVariants as S
use Rattle.schema_rows.specs.declared.schemas.TheConstants as C
use Rattle.schema_rows.specs.declared.values.Fields.{Fields}
use Rattle.schema_rows.specs.declared.values.Value.{Value}
use Rattle.schema_rows.specs.declared.values.Value.TheVariants as V
use Rattle.schema_rows.specs.Schemas.{rows_of, IsForeign}
use Rattle.schema_rows.specs.Readings.{Reading, known, kept, plain_schema, stack_fields, item_fields, object_layer, object_fields, effect_reading, marker_reading, medium_reading, missing_fields}
use Rattle.schema_rows.specs.Defaults.{default_of, absent_value, empty_tracks, empty_missing}
use Rattle.otio_model.specs.Misplaced.{side_by_side, is_negative}
use Rattle.otio_model.proofs.SpeedLemmas.{speed_of_test}
use Rattle.schema_rows.specs.Families.{Want, child, member, medium, others, breaks, stilled, is_freeze}
use Rattle.schema_rows.specs.Stands as W
use Rattle.schema_rows.specs.Stands.{Gives, Gives_row, Gives_rows, Gives_fields, Gives_reading, Gives_all, Stands}
use Rattle.schema_write.specs.Tables.{reading_json}
use Rattle.object_law.specs.Writable as Q
use Rattle.object_law.specs.Writable.{IsUpgraded, AreOthers, IsEffect, AreEffects, IsMarker, AreMarkers, IsMedium, AreMedia, IsItem, IsStack, AreItems, IsObject, AreObjects}
use Rattle.object_law.proofs.FoundMembers.{others_twice}
use Rattle.object_law.proofs.HeldValues.{still_speed, no_children}
use Rattle.std.proofs.lemmas.Bool.{false≢true}
use Rattle.sequences.specs.Pairs.{value_of}
use Rattle.schema_up.specs.declared.old_names.Form.{Form}
use Rattle.schema_up.specs.declared.old_names.Row.TheVariants.{Object as ObjectRow, Objects, Media as MediaRow}
use Rattle.schema_up.specs.Names.{schema_in}
use Rattle.schema_up.specs.Upgrades.{upgraded_at, items_at, pairs_at, map_at}
use Rattle.schema_up.proofs.Levels.{upgraded_at-List, upgraded_at-Map}
use Rattle.schema_rows.proofs.JsonParts.{list_once, map_once}
use Rattle.object_law.proofs.UpgradedMembers.{Stays, RowsStay, are_flat, all_flat, flat_among, named_name, rows_stay}
use Rattle.object_law.proofs.StillSpeeds.{all_still, all_break, not_null}

-- what is known of a value that was read in a row of the kind
abbrev Content : RowKind → Value → Type 0
Content (R.number default) value = (n : ℤ) × (value ≡ V.Number n) × IsSpeed n
Content R.items value = (xs : List (ItemOf Listed)) × (value ≡ V.Items xs) × AreItems xs
Content R.effects value = (xs : List Effect) × (value ≡ V.Effects xs) × AreEffects xs
Content R.markers value = (xs : List Marker) × (value ≡ V.Markers xs) × AreMarkers xs
Content R.media value = (xs : List (List ℕ × Media)) × (value ≡ V.Media xs) × AreMedia xs
Content R.stack value = (s : StackOf Listed) × (value ≡ V.Stack s) × IsStack s
Content R.objects value = (xs : List Object) × (value ≡ V.Objects xs) × AreObjects xs
Content _ value = Unit {0}

abbrev Contents : List Row → List Value → Type 0
Contents [] values = Unit {0}
Contents (row ∷ rows) [] = Unit {0}
Contents (row ∷ rows) (value ∷ values) = Content row.kind value × Contents rows values

-- what is known of an object that was read
record IsRead (fields : Fields) : Type 0 where
  contents : Contents (rows_of fields.schema) fields.values
  whole : list_any (breaks fields.schema) fields.values ≡ false
  still : fields.values ≡ map (stilled fields.schema) fields.values
  rest : AreOthers fields.schema fields.rest

-- what is known of a value in a list
abbrev IsReading : Want → Reading → Type 0
IsReading want (known fields) = IsRead fields
IsReading (child family) (kept json) = ⊥
IsReading (member family) (kept json) = IsForeign family json
IsReading medium (kept json) = (json ≢ J.Null) × IsForeign C.MEDIA json

abbrev AreReadings : Want → List Reading → Type 0
AreReadings want [] = Unit {0}
AreReadings want (reading ∷ readings) = IsReading want reading × AreReadings want readings

-- values by what they hold
abbrev speed_in : Value → ℤ
speed_in (V.Number n) = n
speed_in _ = pos 0

abbrev items_in : Value → List (ItemOf Listed)
items_in (V.Items xs) = xs
items_in _ = []

abbrev effects_in : Value → List Effect
effects_in (V.Effects xs) = xs
effects_in _ = []

abbrev markers_in : Value → List Marker
markers_in (V.Markers xs) = xs
markers_in _ = []

abbrev media_in : Value → List (List ℕ × Media)
media_in (V.Media xs) = xs
media_in _ = []

abbrev stack_in : Value → StackOf Listed
stack_in (V.Stack s) = s
stack_in _ = empty_tracks

abbrev objects_in : Value → List Object
objects_in (V.Objects xs) = xs
objects_in _ = []

speed_of : (default n : ℤ) → Content (R.number default) (V.Number n) → IsSpeed n
speed_of default n h = subst IsSpeed (sym (ap speed_in h.1)) h.2

children_of : (xs : List (ItemOf Listed)) → Content R.items (V.Items xs) → AreItems xs
children_of xs h = subst AreItems (sym (ap items_in h.1)) h.2

effects_of : (xs : List Effect) → Content R.effects (V.Effects xs) → AreEffects xs
effects_of xs h = subst AreEffects (sym (ap effects_in h.1)) h.2

markers_of : (xs : List Marker) → Content R.markers (V.Markers xs) → AreMarkers xs
markers_of xs h = subst AreMarkers (sym (ap markers_in h.1)) h.2

media_of : (xs : List (List ℕ × Media)) → Content R.media (V.Media xs) → AreMedia xs
media_of xs h = subst AreMedia (sym (ap media_in h.1)) h.2

root_of : (s : StackOf Listed) → Content R.stack (V.Stack s) → IsStack s
root_of s h = subst IsStack (sym (ap stack_in h.1)) h.2

inside_of : (xs : List Object) → Content R.objects (V.Objects xs) → AreObjects xs
inside_of xs h = subst AreObjects (sym (ap objects_in h.1)) h.2

first_false : (a b : Bool) → (a || b) ≡ false → a ≡ false
first_false true b h = absurd (cc h)
first_false false b h = refl

second_false : (a b : Bool) → (a || b) ≡ false → b ≡ false
second_false true b h = absurd (cc h)
second_false false b h = h

-- a freeze frame that was read has the speed 0
still_speed_is : (n m : ℤ) (v w x : Value) → (v ∷ w ∷ x ∷ V.Number n ∷ []) ≡ map (stilled S.Freeze) (v ∷ w ∷ x ∷ V.Number m ∷ []) → n ≡ pos 0
still_speed_is n m v w x e = ap (λ (l : List Value). fourth l) e
  where
    third : List Value → ℤ
    third [] = pos 0
    third (a ∷ l) = speed_in a

    fourth : List Value → ℤ
    fourth [] = pos 0
    fourth (a ∷ []) = pos 0
    fourth (a ∷ b ∷ []) = pos 0
    fourth (a ∷ b ∷ c ∷ l) = third l

stack_read : (s : StackOf Listed) → IsRead (stack_fields s) → IsStack s
stack_read s r =
    let c = r.contents in
    Q.stack_of s r.rest (effects_of s.effects c.1.1.1.0) (markers_of s.markers c.1.1.1.1.0) (first_false (list_any is_transition (items_of s.children)) false r.whole)
    (children_of (items_of s.children) c.1.1.1.1.1.1.0)

item_read : (item : ItemOf Listed) → IsRead (item_fields item) → IsItem item
item_read (I.Clip c) r =
    let k = r.contents in
    Q.clip (I.Clip c) c refl (r.rest, effects_of c.effects k.1.1.1.0, markers_of c.markers k.1.1.1.1.0, media_of c.media_references k.1.1.1.1.1.1.0)
item_read (I.Gap g) r = let k = r.contents in Q.gap (I.Gap g) g refl (r.rest, effects_of g.effects k.1.1.1.0, markers_of g.markers k.1.1.1.1.0)
item_read (I.Transition t) r =
    let later = second_false (is_negative t.in_offset) (is_negative t.out_offset || false) r.whole in
    Q.transition (I.Transition t) t refl (r.rest, first_false (is_negative t.in_offset) (is_negative t.out_offset || false) r.whole, first_false (is_negative t.out_offset) false later)
item_read (I.Stack s) r = Q.stack (I.Stack s) s refl (stack_read s r)
item_read (I.Track t) r =
    let k = r.contents in
    Q.track (I.Track t) t refl (Q.track_of t r.rest (effects_of t.effects k.1.1.1.0) (markers_of t.markers k.1.1.1.1.0) (first_false (side_by_side (items_of t.children)) false r.whole)
    (children_of (items_of t.children) k.1.1.1.1.1.1.0))

layer_read : (object : Object) (layer : Object-F Object Collection) → out-Object object ≡ layer → IsRead (object_layer layer) → IsObject object
layer_read object (Object-F.Timeline t) e r = let k = r.contents in Q.timeline object t e (r.rest, root_of t.tracks k.1.1.1.0)
layer_read object (Object-F.Collection c) e r = let k = r.contents in Q.collection object c e r.rest (inside_of (out-Collection c).children k.1.1.0)
layer_read object (Object-F.Item i) e r = Q.item object i e (item_read i r)

object_read : (object : Object) → IsRead (object_fields object) → IsObject object
object_read object r = layer_read object (out-Object object) refl r

plain_read : (timed : Bool) (metadata rest : List (List ℕ × Json)) (name effect_name : List ℕ)
    → IsRead (record { schema = plain_schema timed; values = V.Meta metadata ∷ V.Text name ∷ V.Text effect_name ∷ []; rest = rest }) → AreOthers (plain_schema timed) rest
plain_read timed metadata rest name effect_name r = r.rest

effect_read : (effect : Effect) → IsReading (member C.EFFECTS) (effect_reading effect) → IsEffect effect
effect_read (E.Warp w) r = let k = r.contents in (speed_of (pos 1000000) w.time_scalar k.1.1.1.0, r.rest)
effect_read (E.Freeze f) r = (still_speed_is f.time_scalar f.time_scalar (V.Meta f.metadata) (V.Text f.name) (V.Text f.effect_name) r.still, r.rest)
effect_read (E.Plain p) r = plain_read p.timed p.metadata p.rest p.name p.effect_name r
effect_read (E.Kept json) r = r

-- what a value that was kept is known to be besides
abbrev Upgrades : Reading → Type 0
Upgrades (known fields) = Unit {0}
Upgrades (kept json) = IsUpgraded json

marker_read : (marker : Marker) → IsReading (member C.MARKERS) (marker_reading marker) → Upgrades (marker_reading marker) → IsMarker marker
marker_read (K.Known m) r u = r.rest
marker_read (K.Kept json) r u = (r, u)

medium_read : (m : Media) → IsReading medium (medium_reading m) → Upgrades (medium_reading m) → IsMedium m
medium_read (M.External e) r u = r.rest
medium_read (M.Missing m) r u = r.rest
medium_read (M.Generator g) r u = r.rest
medium_read (M.Sequence s) r u = r.rest
medium_read (M.Kept json) r u = (r.0, r.1, u)

-- each value in a list is upgraded
abbrev AreUpgraded : List Json → Type 0
AreUpgraded [] = Unit {0}
AreUpgraded (json ∷ jsons) = IsUpgraded json × AreUpgraded jsons

abbrev AllUpgrade : List Reading → Type 0
AllUpgrade [] = Unit {0}
AllUpgrade (reading ∷ readings) = Upgrades reading × AllUpgrade readings

-- a value that was kept is the value that was read
known_upgrades : (reading : Reading) (fields : Fields) → reading ≡ known fields → Upgrades reading
known_upgrades reading fields r = subst Upgrades (sym r) tt

reading_upgrades : (want : Want) (json : Json) (reading : Reading) → Gives_reading want json reading → IsUpgraded json → Upgrades reading
reading_upgrades want json reading (W.as_child _ _ _ family fields w r g) u = known_upgrades reading fields r
reading_upgrades want json reading (W.as_member _ _ _ family fields w r g) u = known_upgrades reading fields r
reading_upgrades want json reading (W.as_kept _ _ _ family w r foreign) u = subst Upgrades (sym r) u
reading_upgrades want json reading (W.as_missing _ _ _ w j r) u = known_upgrades reading (missing_fields empty_missing) r
reading_upgrades want json reading (W.as_medium _ _ _ w some g) u = reading_upgrades (member C.MEDIA) json reading g u

one_upgrades : (list : List Json) (readings : List Reading) (json : Json) (others : List Json) (reading : Reading) (behind : List Reading) → list ≡ json ∷ others → readings ≡ reading ∷ behind
    → (IsUpgraded json → Upgrades reading) → (AreUpgraded others → AllUpgrade behind) → AreUpgraded list → AllUpgrade readings
one_upgrades list readings json others reading behind l r here below all =
    let parts : AreUpgraded (json ∷ others) = subst AreUpgraded l all in
    subst AllUpgrade (sym r) (here parts.0, below parts.1)

all_upgrade : (want : Want) (list : List Json) (readings : List Reading) → Gives_all want list readings → AreUpgraded list → AllUpgrade readings
all_upgrade want list readings (W.no_more _ _ _ l r) u = subst AllUpgrade (sym r) tt
all_upgrade want list readings (W.one_more _ _ _ json others reading behind l r h hs) u =
    one_upgrades list readings json others reading behind l r (reading_upgrades want json reading h) (all_upgrade want others behind hs) u

-- lists that were read
items_read : (xs : List (ItemOf Listed)) → AreReadings (child C.ITEMS) (map (λ item. known (item_fields item)) xs) → AreItems xs
items_read [] r = Q.no_items [] refl
items_read (x ∷ xs) r = Q.more_items (x ∷ xs) x xs refl (item_read x r.0) (items_read xs r.1)

objects_read : (xs : List Object) → AreReadings (child C.ROOTS) (map (λ object. known (object_fields object)) xs) → AreObjects xs
objects_read [] r = Q.no_objects [] refl
objects_read (x ∷ xs) r = Q.more_objects (x ∷ xs) x xs refl (object_read x r.0) (objects_read xs r.1)

effects_read : (xs : List Effect) → AreReadings (member C.EFFECTS) (map effect_reading xs) → AreEffects xs
effects_read [] r = tt
effects_read (x ∷ xs) r = (effect_read x r.0, effects_read xs r.1)

markers_read : (xs : List Marker) → AreReadings (member C.MARKERS) (map marker_reading xs) → AllUpgrade (map marker_reading xs) → AreMarkers xs
markers_read [] r u = tt
markers_read (x ∷ xs) r u = (marker_read x r.0 u.0, markers_read xs r.1 u.1)

media_read : (xs : List (List ℕ × Media)) → AreReadings medium (map (λ member. medium_reading member.1) xs) → AllUpgrade (map (λ member. medium_reading member.1) xs) → AreMedia xs
media_read [] r u = tt
media_read (x ∷ xs) r u = (medium_read x.1 r.0 u.0, media_read xs r.1 u.1)

content_as : (kind k : RowKind) (value : Value) → kind ≡ k → Content k value → Content kind value
content_as kind k value e h = subst (λ (x : RowKind). Content x value) (sym e) h

-- what stands for a member that is absent
empty_read : IsStack empty_tracks
empty_read = Q.stack_of empty_tracks refl tt tt (ap (list_any is_transition) no_children) (Q.no_items (items_of (listed [])) no_children)

number_content : (default : ℤ) (value : Value) (t : Bool) → is_speed default ≡ t → cond t (Some (V.Number default)) None ≡ Some value → Content (R.number default) value
number_content default value false e h = absurd (cc h)
number_content default value true e h = let v : V.Number default ≡ value = cc h in (default, sym v, speed_of_test default e)

default_content : (kind : RowKind) (value : Value) → default_of kind ≡ Some value → Content kind value
default_content (R.text default) value h = tt
default_content R.flag value h = tt
default_content R.meta value h = tt
default_content R.span value h = tt
default_content R.time value h = tt
default_content (R.number default) value h = number_content default value (is_speed default) refl h
default_content R.items value h = let v : V.Items [] ≡ value = cc h in ([], sym v, Q.no_items [] refl)
default_content R.effects value h = let v : V.Effects [] ≡ value = cc h in ([], sym v, tt)
default_content R.markers value h = let v : V.Markers [] ≡ value = cc h in ([], sym v, tt)
default_content R.media value h = let v : V.Media [] ≡ value = cc h in ([], sym v, tt)
default_content R.medium value h = tt
default_content R.stack value h = let v : V.Stack empty_tracks ≡ value = cc h in (empty_tracks, sym v, empty_read)
default_content R.objects value h = let v : V.Objects [] ≡ value = cc h in ([], sym v, Q.no_objects [] refl)
default_content R.rate value h = tt
default_content R.numeral value h = tt

absent_content : (row : Row) (value : Value) → absent_value row ≡ Some value → Content row.kind value
absent_content row value a = by row.need a
  where
    by : (t : Bool) → cond t None (default_of row.kind) ≡ Some value → Content row.kind value
    by true h = absurd (cc h)
    by false h = default_content row.kind value h

-- what the schema does with speeds
still_content : (schema : Schema) (kind : RowKind) (value : Value) → Content kind value → Content kind (stilled schema value)
still_content schema (R.text default) value h = tt
still_content schema R.flag value h = tt
still_content schema R.meta value h = tt
still_content schema R.span value h = tt
still_content schema R.time value h = tt
still_content schema (R.number default) value h = (cond (is_freeze schema) (pos 0) h.0, ap (stilled schema) h.1, still_speed (is_freeze schema) h.0 h.2)
still_content schema R.items value h = (h.0, ap (stilled schema) h.1, h.2)
still_content schema R.effects value h = (h.0, ap (stilled schema) h.1, h.2)
still_content schema R.markers value h = (h.0, ap (stilled schema) h.1, h.2)
still_content schema R.media value h = (h.0, ap (stilled schema) h.1, h.2)
still_content schema R.medium value h = tt
still_content schema R.stack value h = (h.0, ap (stilled schema) h.1, h.2)
still_content schema R.objects value h = (h.0, ap (stilled schema) h.1, h.2)
still_content schema R.rate value h = tt
still_content schema R.numeral value h = tt

still_contents : (schema : Schema) (rows : List Row) (values : List Value) → Contents rows values → Contents rows (map (stilled schema) values)
still_contents schema [] values h = tt
still_contents schema (row ∷ rows) [] h = tt
still_contents schema (row ∷ rows) (value ∷ values) h = (still_content schema row.kind value h.0, still_contents schema rows values h.1)

no_contents : (rows : List Row) (values : List Value) → rows ≡ [] → Contents rows values
no_contents rows values r = subst (λ (x : List Row). Contents x values) (sym r) tt

more_contents : (rows : List Row) (values : List Value) (row : Row) (below : List Row) (value : Value) (behind : List Value) → rows ≡ row ∷ below → values ≡ value ∷ behind
    → Content row.kind value → Contents below behind → Contents rows values
more_contents rows values row below value behind r v h hs = subst (λ (x : List Row). Contents x values) (sym r) (subst (λ (x : List Value). Contents (row ∷ below) x) (sym v) (h, hs))

fields_read : (fields : Fields) (members : List (List ℕ × Json)) (values : List Value) → Contents (rows_of fields.schema) values → list_any (breaks fields.schema) values ≡ false
    → fields.values ≡ map (stilled fields.schema) values → fields.rest ≡ others (rows_of fields.schema) members → IsRead fields
fields_read fields members values hold whole still rest = record {
  contents = subst (λ (x : List Value). Contents (rows_of fields.schema) x) (sym still) (still_contents fields.schema (rows_of fields.schema) values hold);
  whole = ap (list_any (breaks fields.schema)) still ∙ all_break fields.schema values ∙ whole;
  still = still ∙ sym (all_still fields.schema values) ∙ ap (map (stilled fields.schema)) (sym still);
  rest = rest ∙ sym (others_twice (rows_of fields.schema) members) ∙ ap (others (rows_of fields.schema)) (sym rest);
}

known_read : (want : Want) (reading : Reading) (fields : Fields) → reading ≡ known fields → IsRead fields → IsReading want reading
known_read want reading fields r h = subst (λ (x : Reading). IsReading want x) (sym r) h

kept_read : (want : Want) (json : Json) (reading : Reading) (family : List Schema) → want ≡ member family → reading ≡ kept json → IsForeign family json → IsReading want reading
kept_read want json reading family w r h = subst (λ (x : Want). IsReading x reading) (sym w) (subst (λ (x : Reading). IsReading (member family) x) (sym r) h)

missing_read : IsRead (missing_fields empty_missing)
missing_read = record { contents = (tt, (tt, (tt, tt))); whole = refl; still = refl; rest = refl }

medium_known : (reading : Reading) → IsReading (member C.MEDIA) reading → reading_json reading ≢ J.Null → IsReading medium reading
medium_known (known fields) h some = h
medium_known (kept json) h some = (some, h)

medium_as : (want : Want) (json : Json) (reading : Reading) → want ≡ medium → json ≢ J.Null → Gives_reading (member C.MEDIA) json reading → IsReading (member C.MEDIA) reading → IsReading want reading
medium_as want json reading w some g h = subst (λ (x : Want). IsReading x reading) (sym w) (medium_known reading h (not_null (member C.MEDIA) json reading g some))

no_readings : (want : Want) (readings : List Reading) → readings ≡ [] → AreReadings want readings
no_readings want readings r = subst (AreReadings want) (sym r) tt

more_readings : (want : Want) (readings : List Reading) (reading : Reading) (behind : List Reading) → readings ≡ reading ∷ behind → IsReading want reading → AreReadings want behind → AreReadings want readings
more_readings want readings reading behind r h hs = subst (AreReadings want) (sym r) (h, hs)

-- what is known of a value that is to be read as this: an object of its own is upgraded, and in a member of a family nothing stands inside
abbrev Suits : Want → Json → Type 0
Suits (child family) json = IsUpgraded json
Suits (member family) json = all_flat family ≡ true
Suits medium json = Unit {0}

abbrev AllSuit : Want → List Json → Type 0
AllSuit want [] = Unit {0}
AllSuit want (json ∷ jsons) = Suits want json × AllSuit want jsons

children_suit : (family : List Schema) (list : List Json) → AreUpgraded list → AllSuit (child family) list
children_suit family [] u = tt
children_suit family (json ∷ jsons) u = (u.0, children_suit family jsons u.1)

members_suit : (family : List Schema) (list : List Json) → all_flat family ≡ true → AllSuit (member family) list
members_suit family [] flat = tt
members_suit family (json ∷ jsons) flat = (flat, members_suit family jsons flat)

media_suit : (list : List Json) → AllSuit medium list
media_suit [] = tt
media_suit (json ∷ jsons) = (tt, media_suit jsons)

-- the values in a list that stays are upgraded
first_of_list : List Json → Json
first_of_list [] = J.Null
first_of_list (json ∷ jsons) = json

rest_of_list : List Json → List Json
rest_of_list [] = []
rest_of_list (json ∷ jsons) = jsons

items_upgraded : (list : List Json) → items_at ObjectRow list ≡ list → AreUpgraded list
unfolding first_of_list rest_of_list
items_upgraded [] e = tt
items_upgraded (json ∷ jsons) e = (ap first_of_list e, items_upgraded jsons (ap rest_of_list e))

list_upgraded : (json : Json) (list : List Json) → json ≡ J.List list → upgraded_at json Objects ≡ json → AreUpgraded list
list_upgraded json list is stays =
    let all : J.List (items_at ObjectRow list) ≡ J.List list = sym (upgraded_at-List list Objects) ∙ ap (λ (v : Json). upgraded_at v Objects) (sym is) ∙ stays ∙ is in
    items_upgraded list (list_once (J.List (items_at ObjectRow list)) (items_at ObjectRow list) list refl all)

-- and so are the values under keys that stay
first_pair : List (List ℕ × Json) → Json
first_pair [] = J.Null
first_pair (m ∷ ms) = m.1

rest_pairs : List (List ℕ × Json) → List (List ℕ × Json)
rest_pairs [] = []
rest_pairs (m ∷ ms) = ms

pairs_upgraded : (form : Form) (ms : List (List ℕ × Json)) → pairs_at MediaRow form ms ≡ ms → AreUpgraded (map (λ (m : List ℕ × Json). m.1) ms)
unfolding first_pair rest_pairs
pairs_upgraded form [] e = tt
pairs_upgraded form (m ∷ ms) e = (ap first_pair e, pairs_upgraded form ms (ap rest_pairs e))

media_upgraded : (json : Json) (ms : List (List ℕ × Json)) → json ≡ J.Map ms → upgraded_at json MediaRow ≡ json → AreUpgraded (map (λ (m : List ℕ × Json). m.1) ms)
media_upgraded json ms is stays =
    let all : J.Map (map_at MediaRow ms) ≡ J.Map ms = sym (upgraded_at-Map ms MediaRow) ∙ ap (λ (v : Json). upgraded_at v MediaRow) (sym is) ∙ stays ∙ is in
    pairs_upgraded (schema_in ms) ms (map_once (J.Map (map_at MediaRow ms)) (map_at MediaRow ms) ms refl all)

stays_as : (kind k : RowKind) (json : Json) → kind ≡ k → Stays kind json → Stays k json
stays_as kind k json e h = subst (λ (x : RowKind). Stays x json) e h

suits_as : (want w : Want) (json : Json) → want ≡ w → Suits want json → Suits w json
suits_as want w json e h = subst (λ (x : Want). Suits x json) e h

-- an object of a family in whose rows nothing stands
flat_object : (family : List Schema) (json : Json) (fields : Fields) → all_flat family ≡ true → Gives_fields family json fields → are_flat (rows_of fields.schema) ≡ true
flat_object family json fields flat (W.fields _ _ _ members name version values object found newest rows whole still rest) = flat_among name family fields.schema flat found

not_flat : (family : List Schema) (json : Json) (fields : Fields) → all_flat family ≡ true → Gives_fields family json fields → are_flat (rows_of fields.schema) ≡ false → IsUpgraded json
not_flat family json fields flat g h = absurd (false≢true (sym h ∙ flat_object family json fields flat g))

rows_as : (rows : List Row) (row : Row) (below : List Row) (members : List (List ℕ × Json)) → rows ≡ row ∷ below → RowsStay rows members → RowsStay (row ∷ below) members
rows_as rows row below members e h = subst (λ (x : List Row). RowsStay x members) e h

all_as : (want : Want) (list : List Json) (json : Json) (others : List Json) → list ≡ json ∷ others → AllSuit want list → AllSuit want (json ∷ others)
all_as want list json others e h = subst (AllSuit want) e h

mutual
  value_content : (kind : RowKind) (json : Json) (value : Value) → Gives kind json value → Stays kind json → Content kind value
  value_content kind json value (W.text _ _ _ default characters k j v) u = content_as kind (R.text default) value k tt
  value_content kind json value (W.flag _ _ _ truth k j v) u = content_as kind R.flag value k tt
  value_content kind json value (W.meta _ _ _ members k j v) u = content_as kind R.meta value k tt
  value_content kind json value (W.span _ _ _ fields span k g f v) u = content_as kind R.span value k tt
  value_content kind json value (W.time _ _ _ fields rate decimal time k g f t v) u = content_as kind R.time value k tt
  value_content kind json value (W.number _ _ _ default numeral decimal speed k j s n h v) u = content_as kind (R.number default) value k (speed, v, h)
  value_content kind json value (W.rate _ _ _ numeral decimal rate k j s g v) u = content_as kind R.rate value k tt
  value_content kind json value (W.numeral _ _ _ numeral decimal k j s v) u = content_as kind R.numeral value k tt
  value_content kind json value (W.items _ _ _ list xs k j all v) u =
      content_as kind R.items value k (
        xs,
        v,
        items_read xs (all_content (child C.ITEMS) list (map (λ item. known (item_fields item)) xs) all (children_suit C.ITEMS list (list_upgraded json list j (stays_as kind R.items json k u)))),
      )
  value_content kind json value (W.objects _ _ _ list xs k j all v) u =
      content_as kind R.objects value k (
        xs,
        v,
        objects_read xs (all_content (child C.ROOTS) list (map (λ object. known (object_fields object)) xs) all (children_suit C.ROOTS list (list_upgraded json list j (stays_as kind R.objects json k u)))),
      )
  value_content kind json value (W.effects _ _ _ list xs k j all v) u =
      content_as kind R.effects value k (xs, v, effects_read xs (all_content (member C.EFFECTS) list (map effect_reading xs) all (members_suit C.EFFECTS list refl)))
  value_content kind json value (W.markers _ _ _ list xs k j all v) u =
      content_as kind R.markers value k (
        xs,
        v,
        markers_read xs (all_content (member C.MARKERS) list (map marker_reading xs) all (members_suit C.MARKERS list refl))
            (all_upgrade (member C.MARKERS) list (map marker_reading xs) all (list_upgraded json list j (stays_as kind R.markers json k u))),
      )
  value_content kind json value (W.media _ _ _ members xs k j names all v) u =
      content_as kind R.media value k (
        xs,
        v,
        media_read xs (all_content medium (map (λ member. member.1) members) (map (λ member. medium_reading member.1) xs) all (media_suit (map (λ member. member.1) members)))
            (all_upgrade medium (map (λ member. member.1) members) (map (λ member. medium_reading member.1) xs) all (media_upgraded json members j (stays_as kind R.media json k u))),
      )
  value_content kind json value (W.one_medium _ _ _ m k g v) u = content_as kind R.medium value k tt
  value_content kind json value (W.stack _ _ _ s k g v) u =
      content_as kind R.stack value k (s, v, stack_read s (fields_content C.STACKS json (stack_fields s) g (λ _. stays_as kind R.stack json k u)))

  row_content : (row : Row) (members : List (List ℕ × Json)) (value : Value) → Gives_row row members value → ((json : Json) → value_of row.name members ≡ Some json → Stays row.kind json) → Content row.kind value
  row_content row members value (W.present _ _ _ json there g) u = value_content row.kind json value g (u json there.0)
  row_content row members value (W.absent _ _ _ nothing v) u = absent_content row value v

  rows_content : (rows : List Row) (members : List (List ℕ × Json)) (values : List Value) → Gives_rows rows members values → RowsStay rows members → Contents rows values
  rows_content rows members values (W.no_rows _ _ _ r v) u = no_contents rows values r
  rows_content rows members values (W.more_rows _ _ _ row below value behind r v h hs) u =
      more_contents rows values row below value behind r v (row_content row members value h (rows_as rows row below members r u).0) (rows_content below members behind hs (rows_as rows row below members r u).1)

  fields_content : (family : List Schema) (json : Json) (fields : Fields) → Gives_fields family json fields → (are_flat (rows_of fields.schema) ≡ false → IsUpgraded json) → IsRead fields
  fields_content family json fields (W.fields _ _ _ members name version values object found newest rows whole still rest) u =
      fields_read fields members values
      (rows_content (rows_of fields.schema) members values rows (rows_stay json members name version fields.schema object (named_name name family fields.schema found) u)) whole still rest

  reading_content : (want : Want) (json : Json) (reading : Reading) → Gives_reading want json reading → Suits want json → IsReading want reading
  reading_content want json reading (W.as_child _ _ _ family fields w r g) u = known_read want reading fields r (fields_content family json fields g (λ _. suits_as want (child family) json w u))
  reading_content want json reading (W.as_member _ _ _ family fields w r g) u =
      known_read want reading fields r (fields_content family json fields g (not_flat family json fields (suits_as want (member family) json w u) g))
  reading_content want json reading (W.as_kept _ _ _ family w r foreign) u = kept_read want json reading family w r foreign
  reading_content want json reading (W.as_missing _ _ _ w j r) u = known_read want reading (missing_fields empty_missing) r missing_read
  reading_content want json reading (W.as_medium _ _ _ w some g) u = medium_as want json reading w some g (reading_content (member C.MEDIA) json reading g refl)

  all_content : (want : Want) (list : List Json) (readings : List Reading) → Gives_all want list readings → AllSuit want list → AreReadings want readings
  all_content want list readings (W.no_more _ _ _ l r) u = no_readings want readings r
  all_content want list readings (W.one_more _ _ _ json others reading behind l r h hs) u =
      more_readings want readings reading behind r (reading_content want json reading h (all_as want list json others l u).0) (all_content want others behind hs (all_as want list json others l u).1)

pub read_is_writable : (json : Json) (object : Object) → IsUpgraded json → Stands json object → IsObject object
read_is_writable json object u h = object_read object (fields_content C.ROOTS json (object_fields object) h (λ _. u))
