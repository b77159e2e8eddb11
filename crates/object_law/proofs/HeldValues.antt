-- Values of rows in JSON that give them again.
use Rattle.std.proofs.Common.{◌≡◌, ◌≢◌, ℕ, ℤ, pos, Bool, true, false, cond, List, [], refl, sym, subst, arith}
use Rattle.std.proofs.lemmas.Int.{ints}
use Rattle.json_value.specs.declared.Json.{Json}
use Rattle.json_value.specs.declared.Json.TheVariants as J
use Rattle.tick_time.specs.Times.{IsSpeed}
use Rattle.otio_model.specs.Trees.{listed, items_of}
use Rattle.otio_model.proofs.Views.{items-listed}
use Rattle.schema_rows.specs.Rows as R
use Rattle.schema_rows.specs.Rows.{Row, RowKind}
use Rattle.schema_rows.specs.declared.values.Value.{Value}
use Rattle.schema_rows.specs.declared.values.Value.TheVariants as V
use Rattle.schema_rows.specs.Stands as W
use Rattle.schema_rows.specs.Stands.{Gives}
use Rattle.object_law.proofs.FoundMembers.{Holds, given}
use Rattle.object_law.proofs.Leaves.{map_not_null}

pub str_not_null : (characters : List ℕ) → J.Str characters ≢ J.Null
str_not_null characters e = cc

pub bool_not_null : (truth : Bool) → J.Bool truth ≢ J.Null
bool_not_null truth e = cc

pub list_not_null : (list : List Json) → J.List list ≢ J.Null
list_not_null list e = cc

pub held_as : (row : Row) (kind : RowKind) (json : Json) (value : Value) → row.kind ≡ kind → json ≢ J.Null → Gives kind json value → Holds row json value
held_as row kind json value k some g = given some (subst (λ (x : RowKind). Gives x json value) (sym k) g)

-- a speed stays one where it is taken as 0
pub still_speed : (t : Bool) (n : ℤ) → IsSpeed n → IsSpeed (cond t (pos 0) n)
still_speed true n h = record { low = omega (arith, ints); high = omega (arith, ints) }
still_speed false n h = h

-- a list without items
pub no_children : items_of (listed []) ≡ []
no_children = items-listed []

pub meta_held : (row : Row) (members : List (List ℕ × Json)) → row.kind ≡ R.meta → Holds row (J.Map members) (V.Meta members)
meta_held row members k = held_as row R.meta (J.Map members) (V.Meta members) k (map_not_null members) (W.meta R.meta (J.Map members) (V.Meta members) members refl refl refl)

pub text_held : (row : Row) (default characters : List ℕ) → row.kind ≡ R.text default → Holds row (J.Str characters) (V.Text characters)
text_held row default characters k =
    held_as row (R.text default) (J.Str characters) (V.Text characters) k (str_not_null characters) (W.text (R.text default) (J.Str characters) (V.Text characters) default characters refl refl refl)

pub flag_held : (row : Row) (truth : Bool) → row.kind ≡ R.flag → Holds row (J.Bool truth) (V.Flag truth)
flag_held row truth k = held_as row R.flag (J.Bool truth) (V.Flag truth) k (bool_not_null truth) (W.flag R.flag (J.Bool truth) (V.Flag truth) truth refl refl refl)
