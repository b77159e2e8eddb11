-- What a JSON value gives is one, by the kind of the row; that of the values inside is known.
use Rattle.std.proofs.Common.{◌≡◌, ℕ, ℤ, Bool, List, [], ◌∷◌, Option, Some, None, map, refl, sym, ap, subst, ◌∙◌}
use Rattle.sequences.specs.Pairs.{names_of}
use Rattle.json_value.specs.declared.Json.{Json}
use Rattle.json_value.specs.declared.Json.TheVariants as J
use Rattle.tick_time.specs.declared.decimals.Decimal.{Decimal}
use Rattle.tick_time.specs.declared.rates.Rate.{Rate}
use Rattle.tick_time.specs.declared.times.Time.{Time}
use Rattle.tick_time.specs.declared.spans.Span.{Span}
use Rattle.tick_time.specs.Decimals.{millionths, IsHalfEven}
use Rattle.tick_time.specs.Rates.{GivesRate}
use Rattle.tick_time.specs.Sums.{IsTimeOf}
use Rattle.otio_model.specs.declared.compositions.Listed.{Listed}
use Rattle.otio_model.specs.declared.compositions.ItemOf.{ItemOf}
use Rattle.otio_model.specs.declared.compositions.StackOf.{StackOf}
use Rattle.otio_model.specs.declared.objects.Object.{Object}
use Rattle.otio_model.specs.declared.effect_types.Effect.{Effect}
use Rattle.otio_model.specs.declared.markers.Marker.{Marker}
use Rattle.otio_model.specs.declared.media.Media.{Media}
use Rattle.schema_rows.specs.Rows as R
use Rattle.schema_rows.specs.Rows.{RowKind}
use Rattle.schema_rows.specs.declared.schemas.TheConstants as C
use Rattle.schema_rows.specs.declared.values.Fields.{Fields}
use Rattle.schema_rows.specs.declared.values.Value.{Value}
use Rattle.schema_rows.specs.declared.values.Value.TheVariants as V
use Rattle.schema_rows.specs.Numerals.{IsSpelled, value_of_decimal}
use Rattle.schema_rows.specs.Readings.{Reading, known, stack_fields, item_fields, object_fields, effect_reading, marker_reading, medium_reading}
use Rattle.schema_rows.specs.Families.{Want, child, member, medium}
use Rattle.schema_rows.specs.Stands.{Gives, Gives_fields, Gives_reading, Gives_all}
use Rattle.tick_time.proofs.SameValues.{same_span}
use Rattle.object_law.proofs.Values.{rate_once, speed_once, time_once}
use Rattle.object_law.proofs.Decimals.{decimal_once}
use Rattle.object_law.proofs.SeenValues.{Folded, View, these, Sight, seen, seen_fields, seen_reading, at, time_in, rate_in, numeral_in, stack_from, stack_is, item_back, item_is, effect_back, effect_is, marker_back, marker_is, medium_back, medium_is, object_back, object_is, of_object}
use Rattle.object_law.proofs.GivenCases.{given_as}
use Rattle.schema_rows.proofs.JsonParts.{str_once, num_once, bool_once, list_once, map_once}
use Rattle.object_law.proofs.Lists.{both_more, made_once, read_once, pairs_once}

pub text_once : (φ : Folded) (k : RowKind) (json : Json) (v w : Value) (d a : List ℕ) → k ≡ R.text d → json ≡ J.Str a → v ≡ V.Text a → Gives k json w → seen φ v ≡ seen φ w
text_once φ k json v w d a ek ej ev h =
    let (b, e, is) = given_as k (R.text d) json w ek h in ap (seen φ) (ev ∙ ap V.Text (str_once json a b ej e) ∙ sym is)

pub flag_once : (φ : Folded) (k : RowKind) (json : Json) (v w : Value) (a : Bool) → k ≡ R.flag → json ≡ J.Bool a → v ≡ V.Flag a → Gives k json w → seen φ v ≡ seen φ w
flag_once φ k json v w a ek ej ev h =
    let (b, e, is) = given_as k R.flag json w ek h in ap (seen φ) (ev ∙ ap V.Flag (bool_once json a b ej e) ∙ sym is)

pub meta_once : (φ : Folded) (k : RowKind) (json : Json) (v w : Value) (a : List (List ℕ × Json)) → k ≡ R.meta → json ≡ J.Map a → v ≡ V.Meta a → Gives k json w → seen φ v ≡ seen φ w
meta_once φ k json v w a ek ej ev h =
    let (b, e, is) = given_as k R.meta json w ek h in ap (seen φ) (ev ∙ ap V.Meta (map_once json a b ej e) ∙ sym is)

abbrev time_or : Time → Option Time → Time
time_or d None = d
time_or d (Some t) = t

abbrev rate_or : Rate → Option Rate → Rate
rate_or d None = d
rate_or d (Some r) = r

abbrev decimal_or : Decimal → Option Decimal → Decimal
decimal_or d None = d
decimal_or d (Some x) = x

-- the two times of a range
pub times_once : (φ : Folded) (f g : Fields) (a b c d : Time) → seen_fields φ f ≡ seen_fields φ g → f.values ≡ V.Time (Some a) ∷ V.Time (Some b) ∷ [] → g.values ≡ V.Time (Some c) ∷ V.Time (Some d) ∷ []
    → (a ≡ c) × (b ≡ d)
times_once φ f g a b c d e p q =
    let views : map (seen φ) (V.Time (Some a) ∷ V.Time (Some b) ∷ []) ≡ map (seen φ) (V.Time (Some c) ∷ V.Time (Some d) ∷ [])
    = ap (map (seen φ)) (sym p) ∙ ap (λ (s : Sight φ.A). s.views) e ∙ ap (map (seen φ)) q in
    (ap (λ (vs : List (View φ.A)). time_or a (time_in (at 0 vs))) views, ap (λ (vs : List (View φ.A)). time_or b (time_in (at 1 vs))) views)

-- the rate and the value of a time
pub rates_once : (φ : Folded) (f g : Fields) (a b : Rate) (c d : Decimal) → seen_fields φ f ≡ seen_fields φ g → f.values ≡ V.Rate a ∷ V.Numeral c ∷ [] → g.values ≡ V.Rate b ∷ V.Numeral d ∷ []
    → (a ≡ b) × (c ≡ d)
rates_once φ f g a b c d e p q =
    let views : map (seen φ) (V.Rate a ∷ V.Numeral c ∷ []) ≡ map (seen φ) (V.Rate b ∷ V.Numeral d ∷ [])
    = ap (map (seen φ)) (sym p) ∙ ap (λ (s : Sight φ.A). s.views) e ∙ ap (map (seen φ)) q in
    (ap (λ (vs : List (View φ.A)). rate_or a (rate_in (at 0 vs))) views, ap (λ (vs : List (View φ.A)). decimal_or c (numeral_in (at 1 vs))) views)

pub span_once : (φ : Folded) (k : RowKind) (json : Json) (v w : Value) (f : Fields) (s : Span) → k ≡ R.span → f.values ≡ V.Time (Some s.len) ∷ V.Time (Some s.start) ∷ [] → v ≡ V.Span (Some s)
    → ((g : Fields) → Gives_fields C.RANGES json g → seen_fields φ f ≡ seen_fields φ g) → Gives k json w → seen φ v ≡ seen φ w
span_once φ k json v w f s ek ef ev once h =
    let (g, t, gives, eg, is) = given_as k R.span json w ek h in
    let both = times_once φ f g s.len s.start t.len t.start (once g gives) ef eg in
    ap (seen φ) (ev ∙ ap (λ (x : Span). V.Span (Some x)) (same_span s t both.1 both.0) ∙ sym is)

pub time_once_in : (φ : Folded) (k : RowKind) (json : Json) (v w : Value) (f : Fields) (r : Rate) (d : Decimal) (t : Time) → k ≡ R.time → f.values ≡ V.Rate r ∷ V.Numeral d ∷ []
    → IsTimeOf (value_of_decimal d) r t → v ≡ V.Time (Some t) → ((g : Fields) → Gives_fields C.TIMES json g → seen_fields φ f ≡ seen_fields φ g) → Gives k json w → seen φ v ≡ seen φ w
time_once_in φ k json v w f r d t ek ef time ev once h =
    let (g, s, e, u, gives, eg, also, is) = given_as k R.time json w ek h in
    let both = rates_once φ f g r s d e (once g gives) ef eg in
    let other : IsTimeOf (value_of_decimal d) r u = subst (λ (x : Rate). IsTimeOf (value_of_decimal d) x u) (sym both.0) (subst (λ (x : Decimal). IsTimeOf (value_of_decimal x) s u) (sym both.1) also) in
    ap (seen φ) (ev ∙ ap (λ (x : Time). V.Time (Some x)) (time_once d r t u time other) ∙ sym is)

-- the decimal of a numeral
pub decimal_in : (json : Json) (n m : List ℕ) (d e : Decimal) → json ≡ J.Num n → json ≡ J.Num m → IsSpelled n d → IsSpelled m e → d ≡ e
decimal_in json n m d e p q spells also = decimal_once n d e spells (subst (λ (x : List ℕ). IsSpelled x e) (num_once json m n q p) also)

pub number_once : (φ : Folded) (k : RowKind) (json : Json) (v w : Value) (d : ℤ) (n : List ℕ) (x : Decimal) (speed : ℤ) → k ≡ R.number d → json ≡ J.Num n → IsSpelled n x
    → IsHalfEven (millionths (value_of_decimal x)) speed → v ≡ V.Number speed → Gives k json w → seen φ v ≡ seen φ w
number_once φ k json v w d n x speed ek ej spells nearest ev h =
    let (m, y, other, e, also, near, fits, is) = given_as k (R.number d) json w ek h in
    let same = decimal_in json n m x y ej e spells also in
    let near_too : IsHalfEven (millionths (value_of_decimal x)) other = subst (λ (z : Decimal). IsHalfEven (millionths (value_of_decimal z)) other) (sym same) near in
    ap (seen φ) (ev ∙ ap V.Number (speed_once x speed other nearest near_too) ∙ sym is)

pub rate_once_in : (φ : Folded) (k : RowKind) (json : Json) (v w : Value) (n : List ℕ) (x : Decimal) (r : Rate) → k ≡ R.rate → json ≡ J.Num n → IsSpelled n x
    → GivesRate (value_of_decimal x) r.num r.den → v ≡ V.Rate r → Gives k json w → seen φ v ≡ seen φ w
rate_once_in φ k json v w n x r ek ej spells gives ev h =
    let (m, y, s, e, also, gives_too, is) = given_as k R.rate json w ek h in
    let same = decimal_in json n m x y ej e spells also in
    let other : GivesRate (value_of_decimal x) s.num s.den = subst (λ (z : Decimal). GivesRate (value_of_decimal z) s.num s.den) (sym same) gives_too in
    ap (seen φ) (ev ∙ ap V.Rate (rate_once x r s gives other) ∙ sym is)

pub numeral_once : (φ : Folded) (k : RowKind) (json : Json) (v w : Value) (n : List ℕ) (x : Decimal) → k ≡ R.numeral → json ≡ J.Num n → IsSpelled n x → v ≡ V.Numeral x → Gives k json w → seen φ v ≡ seen φ w
numeral_once φ k json v w n x ek ej spells ev h =
    let (m, y, e, also, is) = given_as k R.numeral json w ek h in
    ap (seen φ) (ev ∙ ap V.Numeral (decimal_in json n m x y ej e spells also) ∙ sym is)

abbrev AllOnce : Folded → Want → List Json → List Reading → Type 0
AllOnce φ want list rs = (others : List Reading) → Gives_all want list others → map (seen_reading φ) rs ≡ map (seen_reading φ) others

-- of equal lists
same_list : (φ : Folded) (want : Want) (json : Json) (a b : List Json) (rs ts : List Reading) → json ≡ J.List a → json ≡ J.List b → AllOnce φ want a rs → Gives_all want b ts
    → map (seen_reading φ) rs ≡ map (seen_reading φ) ts
same_list φ want json a b rs ts p q once g = once ts (subst (λ (x : List Json). Gives_all want x ts) (list_once json b a q p) g)

pub items_once : (φ : Folded) (k : RowKind) (json : Json) (v w : Value) (list : List Json) (xs : List (ItemOf Listed)) → k ≡ R.items → json ≡ J.List list → v ≡ V.Items xs
    → AllOnce φ (child C.ITEMS) list (map (λ item. known (item_fields item)) xs) → Gives k json w → seen φ v ≡ seen φ w
items_once φ k json v w list xs ek ej ev once h =
    let (other, ys, e, g, is) = given_as k R.items json w ek h in
    let same = read_once φ (λ (item : ItemOf Listed). known (item_fields item)) item_back (item_is φ) xs ys (same_list φ (child C.ITEMS) json list other _ _ ej e once g) in
    ap (seen φ) (ev ∙ ap V.Items same ∙ sym is)

pub objects_once : (φ : Folded) (k : RowKind) (json : Json) (v w : Value) (list : List Json) (xs : List Object) → k ≡ R.objects → json ≡ J.List list → v ≡ V.Objects xs
    → AllOnce φ (child C.ROOTS) list (map (λ object. known (object_fields object)) xs) → Gives k json w → seen φ v ≡ seen φ w
objects_once φ k json v w list xs ek ej ev once h =
    let (other, ys, e, g, is) = given_as k R.objects json w ek h in
    let same = made_once φ (λ (object : Object). known (object_fields object)) (object_back φ) (of_object φ) (object_is φ) xs ys (same_list φ (child C.ROOTS) json list other _ _ ej e once g) in
    ap (seen φ) ev ∙ ap these same ∙ sym (ap (seen φ) is)

pub effects_once : (φ : Folded) (k : RowKind) (json : Json) (v w : Value) (list : List Json) (xs : List Effect) → k ≡ R.effects → json ≡ J.List list → v ≡ V.Effects xs
    → AllOnce φ (member C.EFFECTS) list (map effect_reading xs) → Gives k json w → seen φ v ≡ seen φ w
effects_once φ k json v w list xs ek ej ev once h =
    let (other, ys, e, g, is) = given_as k R.effects json w ek h in
    let same = read_once φ effect_reading effect_back (effect_is φ) xs ys (same_list φ (member C.EFFECTS) json list other _ _ ej e once g) in
    ap (seen φ) (ev ∙ ap V.Effects same ∙ sym is)

pub markers_once : (φ : Folded) (k : RowKind) (json : Json) (v w : Value) (list : List Json) (xs : List Marker) → k ≡ R.markers → json ≡ J.List list → v ≡ V.Markers xs
    → AllOnce φ (member C.MARKERS) list (map marker_reading xs) → Gives k json w → seen φ v ≡ seen φ w
markers_once φ k json v w list xs ek ej ev once h =
    let (other, ys, e, g, is) = given_as k R.markers json w ek h in
    let same = read_once φ marker_reading marker_back (marker_is φ) xs ys (same_list φ (member C.MARKERS) json list other _ _ ej e once g) in
    ap (seen φ) (ev ∙ ap V.Markers same ∙ sym is)

abbrev pub values_of : List (List ℕ × Json) → List Json
values_of members = map (λ (member : List ℕ × Json). member.1) members

split_readings : (xs : List (List ℕ × Media)) → map (λ (m : List ℕ × Media). medium_reading m.1) xs ≡ map medium_reading (map (λ (m : List ℕ × Media). m.1) xs)
split_readings [] = refl
split_readings (x ∷ xs) = both_more (medium_reading x.1) (medium_reading x.1) _ _ refl (split_readings xs)

pub media_once : (φ : Folded) (k : RowKind) (json : Json) (v w : Value) (members : List (List ℕ × Json)) (xs : List (List ℕ × Media)) → k ≡ R.media → json ≡ J.Map members
    → names_of members ≡ names_of xs → v ≡ V.Media xs → AllOnce φ medium (values_of members) (map (λ m. medium_reading m.1) xs) → Gives k json w → seen φ v ≡ seen φ w
media_once φ k json v w members xs ek ej en ev once h =
    let (other, ys, e, also, g, is) = given_as k R.media json w ek h in
    let same = map_once json other members e ej in
    let names : names_of xs ≡ names_of ys = sym en ∙ ap (λ (m : List (List ℕ × Json)). names_of m) (sym same) ∙ also in
    let glances = once _ (subst (λ (m : List (List ℕ × Json)). Gives_all medium (values_of m) (map (λ m. medium_reading m.1) ys)) same g) in
    let split : map (seen_reading φ) (map medium_reading (map (λ (m : List ℕ × Media). m.1) xs)) ≡ map (seen_reading φ) (map medium_reading (map (λ (m : List ℕ × Media). m.1) ys))
    = ap (map (seen_reading φ)) (sym (split_readings xs)) ∙ glances ∙ ap (map (seen_reading φ)) (split_readings ys) in
    let values = read_once φ medium_reading medium_back (medium_is φ) (map (λ (m : List ℕ × Media). m.1) xs) (map (λ (m : List ℕ × Media). m.1) ys) split in
    ap (seen φ) (ev ∙ ap V.Media (pairs_once xs ys names values) ∙ sym is)

pub reference_once : (φ : Folded) (k : RowKind) (json : Json) (v w : Value) (m : Media) → k ≡ R.medium → v ≡ V.Medium m
    → ((r : Reading) → Gives_reading medium json r → seen_reading φ (medium_reading m) ≡ seen_reading φ r) → Gives k json w → seen φ v ≡ seen φ w
reference_once φ k json v w m ek ev once h =
    let (n, g, is) = given_as k R.medium json w ek h in
    let same : m ≡ n = sym (medium_is φ m) ∙ ap medium_back (once (medium_reading n) g) ∙ medium_is φ n in
    ap (seen φ) (ev ∙ ap V.Medium same ∙ sym is)

pub stack_once : (φ : Folded) (k : RowKind) (json : Json) (v w : Value) (s : StackOf Listed) → k ≡ R.stack → v ≡ V.Stack s
    → ((g : Fields) → Gives_fields C.STACKS json g → seen_fields φ (stack_fields s) ≡ seen_fields φ g) → Gives k json w → seen φ v ≡ seen φ w
stack_once φ k json v w s ek ev once h =
    let (t, g, is) = given_as k R.stack json w ek h in
    let same : s ≡ t = sym (stack_is φ s) ∙ ap (λ (x : Sight φ.A). stack_from x) (once (stack_fields t) g) ∙ stack_is φ t in
    ap (seen φ) (ev ∙ ap V.Stack same ∙ sym is)
