-- The shape of the first of some values.
use Rattle.std.proofs.Common.{◌≡◌, List, [], ◌∷◌, Some, ap, ap₂, ◌∙◌}
use Rattle.schema_rows.specs.declared.values.Value.{Value}
use Rattle.schema_rows.specs.Rows as R
use Rattle.schema_rows.specs.Rows.{Row, RowKind}
use Rattle.schema_tab.specs.Shapes.{Shape, IsOf, HaveKinds, shape_of, kind_shape, shapes_of, row_shapes, first_shape}

pub first_is : (values : List Value) (shape : Shape) (shapes : List Shape) → shapes_of values ≡ shape ∷ shapes → first_shape values ≡ Some shape
first_is [] shape shapes h = cc
first_is (value ∷ behind) shape shapes h = let same : shape_of value ≡ shape = cc in ap (λ s. Some s) same

is_of : (kind : RowKind) (value : Value) → IsOf kind value → shape_of value ≡ kind_shape kind
is_of (R.text default) value h = ap shape_of h.1
is_of R.flag value h = ap shape_of h.1
is_of R.meta value h = ap shape_of h.1
is_of R.span value h = ap shape_of h.1
is_of R.time value h = ap shape_of h.1
is_of (R.number default) value h = ap shape_of h.1
is_of R.items value h = ap shape_of h.1
is_of R.effects value h = ap shape_of h.1
is_of R.markers value h = ap shape_of h.1
is_of R.media value h = ap shape_of h.1
is_of R.medium value h = ap shape_of h.1
is_of R.stack value h = ap shape_of h.1
is_of R.objects value h = ap shape_of h.1
is_of R.rate value h = ap shape_of h.1
is_of R.numeral value h = ap shape_of h.1

-- values of the kinds of rows have their shapes
pub have_shapes : (rows : List Row) (values : List Value) → HaveKinds rows values → shapes_of values ≡ row_shapes rows
have_shapes [] values h = ap shapes_of h
have_shapes (row ∷ rows) values h = ap shapes_of h.2 ∙ ap₂ (λ (a : Shape) (b : List Shape). a ∷ b) (is_of row.kind h.0 h.3) (have_shapes rows h.1 h.4)
