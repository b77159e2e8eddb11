-- The values of an object that is no freeze frame stay as they are.
use Rattle.std.proofs.Common.{◌≡◌, Bool, false, cond, pos, List, [], ◌∷◌, map, refl, sym, ap, ap₂}
use Rattle.schema_rows.specs.declared.schemas.Schema.{Schema}
use Rattle.schema_rows.specs.declared.schemas.Schema.TheVariants as S
use Rattle.schema_rows.specs.declared.values.Value.{Value}
use Rattle.schema_rows.specs.declared.values.Value.TheVariants as V
use Rattle.schema_rows.specs.Families.{stilled, is_freeze}

no_freeze : (schema : Schema) → (schema ≡ S.Freeze → ⊥) → is_freeze schema ≡ false
no_freeze S.Timeline h = refl
no_freeze S.Collection h = refl
no_freeze S.Stack h = refl
no_freeze S.Track h = refl
no_freeze S.Clip h = refl
no_freeze S.FirstClip h = refl
no_freeze S.Gap h = refl
no_freeze S.Transition h = refl
no_freeze S.Warp h = refl
no_freeze S.Freeze h = absurd (h refl)
no_freeze S.TimeEffect h = refl
no_freeze S.Effect h = refl
no_freeze S.Marker h = refl
no_freeze S.FirstMarker h = refl
no_freeze S.External h = refl
no_freeze S.Missing h = refl
no_freeze S.Generator h = refl
no_freeze S.Images h = refl
no_freeze S.TimeRange h = refl
no_freeze S.RationalTime h = refl

value_stays : (schema : Schema) (value : Value) → is_freeze schema ≡ false → value ≡ stilled schema value
value_stays s (V.Text held) e = refl
value_stays s (V.Flag held) e = refl
value_stays s (V.Meta held) e = refl
value_stays s (V.Span held) e = refl
value_stays s (V.Time held) e = refl
value_stays s (V.Number held) e = ap (λ (t : Bool). V.Number (cond t (pos 0) held)) (sym e)
value_stays s (V.Items held) e = refl
value_stays s (V.Effects held) e = refl
value_stays s (V.Markers held) e = refl
value_stays s (V.Media held) e = refl
value_stays s (V.Medium held) e = refl
value_stays s (V.Stack held) e = refl
value_stays s (V.Objects held) e = refl
value_stays s (V.Rate held) e = refl
value_stays s (V.Numeral held) e = refl

values_stay : (schema : Schema) (values : List Value) → is_freeze schema ≡ false
    → values ≡ map (stilled schema) values
values_stay s [] e = refl
values_stay s (value ∷ values) e =
    ap₂ (λ (a : Value) (b : List Value). a ∷ b) (value_stays s value e) (values_stay s values e)

pub unstilled : (schema : Schema) (values : List Value) → (schema ≡ S.Freeze → ⊥)
    → values ≡ map (stilled schema) values
unstilled s values h = values_stay s values (no_freeze s h)
