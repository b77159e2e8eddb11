-- What a value that was read is upgraded to is upgraded: another upgrade leaves it as it is.
use Rattle.std.proofs.Common.{◌≡◌, ◌⊎◌, inl, inr, ℕ, Bool, true, false, List, [], ◌∷◌, ◌++◌, Option, Some, None, refl, sym, ap, ap₂, subst, ◌∙◌, codes}
use Rattle.std.specs.Str.{bytes_eq}
use Rattle.std.specs.List.{after_first}
use Rattle.std.proofs.lemmas.Slice.Eq.{bytes_eq-Decides}
use Rattle.json_value.specs.declared.Json.{Json, Null, Bool as JsonOfBool, Num, Str, List as JsonOfList, Map, out-Json}
use Rattle.json_value.specs.declared.Json.TheVariants as J
use Rattle.json_value.specs.declared.Json.TheOpen.{Json-F}
use Rattle.sequences.specs.Pairs.{value_of, put, names_of, IsNew, AreDistinct}
use Rattle.sequences.proofs.PairLemmas.{bytes_eq-sym}
use Rattle.json_law.specs.Law.{UpgradedStays}
use Rattle.json_law.proofs.Reading.{read_is_json}
use Rattle.json_law.specs.Written.{IsJson, null, truth, number, string, list, object, AreJson, no_values, more_values, AreMembers, no_members, more_members}
use Rattle.schema_up.specs.declared.old_names.Form.{Form}
use Rattle.schema_up.specs.declared.old_names.Form.TheVariants as F
use Rattle.schema_up.specs.declared.old_names.Row.{Row}
use Rattle.schema_up.specs.declared.old_names.Row.TheVariants.{Kept, Object, Objects, Media}
use Rattle.schema_up.specs.Names.{is_point, schema_in, schema_text, schema_or_other, schema_named, versioned, version_in, string_in, text_at}
use Rattle.schema_up.specs.UpgradeRows.{row_of, item_row}
use Rattle.schema_up.specs.Upgrades.{Pairs, upgraded_at, items_at, pairs_at, map_at, renewed, with_name, without, named_anew, version_part, missing, medium_in, medium_of, media_of, clip_kept, second_clip, second_marker}
use Rattle.schema_up.proofs.MemberLemmas.{new_without}
use Rattle.schema_up.proofs.PutLemmas.{differs, put_same, put_other, Lacks}
use Rattle.schema_up.proofs.Levels.{upgraded_at-Null, upgraded_at-Bool, upgraded_at-Num, upgraded_at-Str, upgraded_at-List, upgraded_at-Map, kept_same, names_at}

-- the value stays at a place; and so does what it becomes, at each
abbrev Fixed : Row → Json → Type 0
Fixed row value = upgraded_at value row ≡ value

abbrev Twice : Json → Type 0
Twice value = (row : Row) → Fixed row (upgraded_at value row)

fixed_as : (row : Row) (v w : Json) → v ≡ w → Fixed row w → Fixed row v
fixed_as row v w e h = subst (Fixed row) (sym e) h

-- each member of an object of a form stays
abbrev FixedAt : Form → Pairs → Type 0
FixedAt form [] = Unit {0}
FixedAt form (m ∷ ms) = Fixed (row_of form m.0) m.1 × FixedAt form ms

fixed_pairs : (form : Form) (ms : Pairs) → FixedAt form ms → pairs_at Object form ms ≡ ms
fixed_pairs form [] h = refl
fixed_pairs form (m ∷ ms) h = ap₂ (λ (v : Json) (l : Pairs). (m.0, v) ∷ l) h.0 (fixed_pairs form ms h.1)

fixed_put : (form : Form) (name : List ℕ) (x : Json) (ms : Pairs) → Fixed (row_of form name) x
    → FixedAt form ms → FixedAt form (put name x ms)
fixed_put form name x [] h hs = (h, tt)
fixed_put form name x (m ∷ ms) h hs = by (bytes_eq name m.0) refl (fixed_put form name x ms h hs.1)
  where
    by : (t : Bool) → bytes_eq name m.0 ≡ t → FixedAt form (put name x ms)
        → FixedAt form (put name x (m ∷ ms))
    by true e below = rw e (h, hs.1)
    by false e below = rw e (hs.0, below)

fixed_without : (form : Form) (name : List ℕ) (ms : Pairs) → FixedAt form ms
    → FixedAt form (without name ms)
fixed_without form name [] h = tt
fixed_without form name (m ∷ ms) h = by (bytes_eq name m.0) refl (fixed_without form name ms h.1)
  where
    by : (t : Bool) → bytes_eq name m.0 ≡ t → FixedAt form (without name ms)
        → FixedAt form (without name (m ∷ ms))
    by true e below = rw e h.1
    by false e below = rw e (h.0, below)

fixed_other : (ms : Pairs) → FixedAt F.Other ms
fixed_other [] = tt
fixed_other (m ∷ ms) = (kept_same m.1, fixed_other ms)

fixed_form : (f g : Form) (ms : Pairs) → ((name : List ℕ) → row_of f name ≡ row_of g name)
    → FixedAt f ms → FixedAt g ms
fixed_form f g [] same h = tt
fixed_form f g (m ∷ ms) same h = (
  subst (λ (r : Row). Fixed r m.1) (same m.0) h.0,
  fixed_form f g ms same h.1,
)

fixed_value : (form : Form) (name : List ℕ) (ms : Pairs) (v : Json) → FixedAt form ms
    → value_of name ms ≡ Some v → Fixed (row_of form name) v
fixed_value form name [] v h at = absurd (cc at)
fixed_value form name (m ∷ ms) v h at =
    by (bytes_eq name m.0) refl at (fixed_value form name ms v h.1)
  where
    by : (t : Bool) → bytes_eq name m.0 ≡ t → value_of name (m ∷ ms) ≡ Some v
        → (value_of name ms ≡ Some v → Fixed (row_of form name) v) → Fixed (row_of form name) v
    by true e at below =
        let same : name ≡ m.0 = (bytes_eq-Decides name m.0).0 e in
        let is : m.1 ≡ v = cc (rw e at at) in
        subst (Fixed (row_of form name)) is
        (subst (λ (n : List ℕ). Fixed (row_of form n) m.1) (sym same) h.0)
    by false e at below = below (rw e at at)

-- an object of a new form whose members stay stays
again : (ms : Pairs) (form : Form) → schema_in ms ≡ form → ((xs : Pairs) → renewed form xs ≡ xs)
    → FixedAt form ms → Fixed Object (Map ms)
again ms form is new h =
    upgraded_at-Map ms Object ∙ ap (λ (f : Form). Map (renewed f (pairs_at Object f ms))) is
    ∙ ap Map (new (pairs_at Object form ms) ∙ fixed_pairs form ms h)

-- the schema stays where values are put under other names
abbrev key : List ℕ
key = codes "OTIO_SCHEMA"

schema_of_text : (ms : Pairs) (text : List ℕ) → value_of key ms ≡ Some (Str text)
    → schema_in ms ≡ schema_named text
schema_of_text ms text e = ap (λ (o : Option Json). schema_or_other (text_at o)) e
    ∙ ap (λ (layer : Json-F Json). schema_or_other (string_in layer)) (J.outs-Str text)

key_kept : (form : Form) → row_of form key ≡ Kept
key_kept F.Timeline = refl
key_kept F.Collection = refl
key_kept F.OldCollection = refl
key_kept F.Stack = refl
key_kept F.Track = refl
key_kept F.Sequence = refl
key_kept F.FirstClip = refl
key_kept F.Clip = refl
key_kept F.Gap = refl
key_kept F.Filler = refl
key_kept F.FirstMarker = refl
key_kept F.Other = refl

value_pairs : (form : Form) (ms : Pairs) → value_of key (pairs_at Object form ms) ≡ value_of key ms
value_pairs form [] = refl
value_pairs form (m ∷ ms) = by (bytes_eq key m.0) refl (value_pairs form ms)
  where
    by : (t : Bool) → bytes_eq key m.0 ≡ t
        → value_of key (pairs_at Object form ms) ≡ value_of key ms
        → value_of key (pairs_at Object form (m ∷ ms)) ≡ value_of key (m ∷ ms)
    by true e below =
        let same : key ≡ m.0 = (bytes_eq-Decides key m.0).0 e in
        rw e (ap (λ v. Some v) (ap (λ (n : List ℕ). upgraded_at m.1 (row_of form n)) (sym same)
        ∙ ap (upgraded_at m.1) (key_kept form) ∙ kept_same m.1))
    by false e below = rw e below

schema_pairs : (form : Form) (ms : Pairs) → schema_in (pairs_at Object form ms) ≡ schema_in ms
schema_pairs form ms = ap (λ (o : Option Json). schema_or_other (text_at o)) (value_pairs form ms)

-- an old name
renamed : (f g : Form) (name : List ℕ) (ms : Pairs)
    → ((n : List ℕ) → row_of f n ≡ row_of g n) → ((xs : Pairs) → renewed g xs ≡ xs)
    → ((o : Option (List ℕ)) → (schema_named (name ++ version_part o) ≡ g)
    ⊎ (schema_named (name ++ version_part o) ≡ F.Other))
    → FixedAt f ms → Fixed Object (Map (with_name name ms))
renamed f g name ms rows new either h =
    let text = name ++ version_part (schema_text ms) in
    let made = with_name name ms in
    let is = schema_of_text made text (put_same key (Str text) ms) in
    elim (either (schema_text ms)) [
      | inl e ↦ again made g (is ∙ e) new (fixed_put g key (Str text) ms
          (upgraded_at-Str text (row_of g key)) (fixed_form f g ms rows h))
      | inr e ↦ again made F.Other (is ∙ e) (λ xs. refl) (fixed_other made)
    ]

track_named : (o : Option ℕ) → (versioned (codes "Track") o ≡ F.Track)
    ⊎ (versioned (codes "Track") o ≡ F.Other)
track_named None = inr refl
track_named (Some v) = inl refl

gap_named : (o : Option ℕ) → (versioned (codes "Gap") o ≡ F.Gap)
    ⊎ (versioned (codes "Gap") o ≡ F.Other)
gap_named None = inr refl
gap_named (Some v) = inl refl

collection_named : (o : Option ℕ) → (versioned (codes "SerializableCollection") o ≡ F.Collection)
    ⊎ (versioned (codes "SerializableCollection") o ≡ F.Other)
collection_named None = inr refl
collection_named (Some v) = inl refl

track_text : (o : Option (List ℕ)) → (schema_named (codes "Track" ++ version_part o) ≡ F.Track)
    ⊎ (schema_named (codes "Track" ++ version_part o) ≡ F.Other)
track_text None = inr refl
track_text (Some text) = track_named (version_in (after_first is_point text))

gap_text : (o : Option (List ℕ)) → (schema_named (codes "Gap" ++ version_part o) ≡ F.Gap)
    ⊎ (schema_named (codes "Gap" ++ version_part o) ≡ F.Other)
gap_text None = inr refl
gap_text (Some text) = gap_named (version_in (after_first is_point text))

collection_text : (o : Option (List ℕ))
    → (schema_named (codes "SerializableCollection" ++ version_part o) ≡ F.Collection)
    ⊎ (schema_named (codes "SerializableCollection" ++ version_part o) ≡ F.Other)
collection_text None = inr refl
collection_text (Some text) = collection_named (version_in (after_first is_point text))

lacks_new : (name : List ℕ) (ms : Pairs) → IsNew name (names_of ms) → Lacks name ms
lacks_new name [] h = tt
lacks_new name (m ∷ ms) h = (differs name m.0 h.0, lacks_new name ms h.1)

lacks_without : (name other : List ℕ) (ms : Pairs) → Lacks name ms → Lacks name (without other ms)
lacks_without name other [] h = tt
lacks_without name other (m ∷ ms) h =
    by (bytes_eq other m.0) refl (lacks_without name other ms h.1)
  where
    by : (t : Bool) → bytes_eq other m.0 ≡ t → Lacks name (without other ms)
        → Lacks name (without other (m ∷ ms))
    by true e below = rw e h.1
    by false e below = rw e (h.0, below)

distinct_without : (name : List ℕ) (ms : Pairs) → AreDistinct (names_of ms)
    → AreDistinct (names_of (without name ms))
distinct_without name [] h = tt
distinct_without name (m ∷ ms) h = by (bytes_eq name m.0) refl (distinct_without name ms h.1)
  where
    by : (t : Bool) → bytes_eq name m.0 ≡ t → AreDistinct (names_of (without name ms))
        → AreDistinct (names_of (without name (m ∷ ms)))
    by true e below = rw e h.1
    by false e below = rw e (new_without m.0 name ms h.0, below)

gone : (name : List ℕ) (ms : Pairs) → AreDistinct (names_of ms) → Lacks name (without name ms)
gone name [] h = tt
gone name (m ∷ ms) h = by (bytes_eq name m.0) refl (gone name ms h.1)
  where
    by : (t : Bool) → bytes_eq name m.0 ≡ t → Lacks name (without name ms)
        → Lacks name (without name (m ∷ ms))
    by true e below =
        let same : name ≡ m.0 = (bytes_eq-Decides name m.0).0 e in
        rw e (lacks_new name ms (subst (λ (n : List ℕ). IsNew n (names_of ms)) (sym same) h.0))
    by false e below = rw e (e, below)

-- a clip of the first version
clip_rows_same : (name : List ℕ) → bytes_eq (codes "media_reference") name ≡ false
    → bytes_eq (codes "media_references") name ≡ false → row_of F.FirstClip name ≡ row_of F.Clip name
clip_rows_same name a b =
    rw (bytes_eq-sym name (codes "media_reference"), a, bytes_eq-sym name (codes "media_references"), b) refl

fixed_clip : (ms : Pairs) → Lacks (codes "media_reference") ms → Lacks (codes "media_references") ms
    → FixedAt F.FirstClip ms → FixedAt F.Clip ms
fixed_clip [] a b h = tt
fixed_clip (m ∷ ms) a b h = (
  subst (λ (r : Row). Fixed r m.1) (clip_rows_same m.0 a.0 b.0) h.0,
  fixed_clip ms a.1 b.1 h.1,
)

missing_fixed : Fixed Object missing
missing_fixed = again ((key, Str (codes "MissingReference.1")) ∷ []) F.Other
    (schema_of_text ((key, Str (codes "MissingReference.1")) ∷ []) (codes "MissingReference.1") refl)
    (λ xs. refl) (fixed_other ((key, Str (codes "MissingReference.1")) ∷ []))

medium_in_fixed : (layer : Json-F Json) (value : Json) → Fixed Object value
    → Fixed Object (medium_in layer value)
medium_in_fixed Json-F.Null value h = missing_fixed
medium_in_fixed (Json-F.Bool b) value h = h
medium_in_fixed (Json-F.Num n) value h = h
medium_in_fixed (Json-F.Str t) value h = h
medium_in_fixed (Json-F.List l) value h = h
medium_in_fixed (Json-F.Map ms) value h = h

medium_fixed : (o : Option Json) → ((v : Json) → o ≡ Some v → Fixed Object v)
    → Fixed Object (medium_of o)
medium_fixed None h = missing_fixed
medium_fixed (Some v) h = medium_in_fixed (out-Json v) v (h v refl)

media_fixed : (medium : Json) → Fixed Object medium → Fixed Media (media_of medium)
media_fixed medium h = upgraded_at-Map ((codes "DEFAULT_MEDIA", medium) ∷ []) Media
    ∙ ap (λ (v : Json). Map ((codes "DEFAULT_MEDIA", v) ∷ [])) h

clip_again : (ms : Pairs) → AreDistinct (names_of ms) → FixedAt F.FirstClip ms
    → Fixed Object (Map (second_clip ms))
clip_again ms d h =
    let one = codes "media_reference" in
    let many = codes "media_references" in
    let active = codes "active_media_reference_key" in
    let first = without one ms in
    let second = without many first in
    let kept = clip_kept ms in
    let medium = medium_of (value_of one ms) in
    let media = media_of medium in
    let schema = put key (Str (codes "Clip.2")) kept in
    let named = put many media schema in
    let fixed = fixed_without F.FirstClip active second
    (fixed_without F.FirstClip many first (fixed_without F.FirstClip one ms h)) in
    let no_one = lacks_without one active second (lacks_without one many first (gone one ms d)) in
    let no_many = lacks_without many active second (gone many first (distinct_without one ms d)) in
    let inside = medium_fixed (value_of one ms) (λ v at. fixed_value F.FirstClip one ms v h at) in
    let is = schema_of_text (second_clip ms) (codes "Clip.2")
    (put_other key active (Str (codes "DEFAULT_MEDIA")) named refl
    ∙ put_other key many media schema refl ∙ put_same key (Str (codes "Clip.2")) kept) in
    again (second_clip ms) F.Clip is (λ xs. refl)
    (fixed_put F.Clip active (Str (codes "DEFAULT_MEDIA")) named
    (upgraded_at-Str (codes "DEFAULT_MEDIA") (row_of F.Clip active))
    (fixed_put F.Clip many media schema (media_fixed medium inside)
    (fixed_put F.Clip key (Str (codes "Clip.2")) kept
    (upgraded_at-Str (codes "Clip.2") (row_of F.Clip key))
    (fixed_clip kept no_one no_many fixed))))

-- a marker of the first version
marker_again : (ms : Pairs) → Fixed Object (Map (second_marker ms))
marker_again ms = again (second_marker ms) F.Other
    (schema_of_text (second_marker ms) (codes "Marker.2") (put_same key (Str (codes "Marker.2"))
    (named_anew (codes "range") (codes "marked_range") (without (codes "marked_range") ms))))
    (λ xs. refl) (fixed_other (second_marker ms))

-- an object's members, each of which becomes what stays
abbrev AllTwice : Pairs → Type 0
AllTwice [] = Unit {0}
AllTwice (m ∷ ms) = Twice m.1 × AllTwice ms

become_fixed : (form : Form) (ms : Pairs) → AllTwice ms → FixedAt form (pairs_at Object form ms)
become_fixed form [] h = tt
become_fixed form (m ∷ ms) h = (h.0 (row_of form m.0), become_fixed form ms h.1)

object_again : (ms : Pairs) → AreDistinct (names_of ms) → AllTwice ms → (form : Form)
    → schema_in ms ≡ form → Fixed Object (Map (renewed form (pairs_at Object form ms)))
object_again ms d h F.Timeline e = again (pairs_at Object F.Timeline ms) F.Timeline
    (schema_pairs F.Timeline ms ∙ e) (λ xs. refl) (become_fixed F.Timeline ms h)
object_again ms d h F.Collection e = again (pairs_at Object F.Collection ms) F.Collection
    (schema_pairs F.Collection ms ∙ e) (λ xs. refl) (become_fixed F.Collection ms h)
object_again ms d h F.Stack e = again (pairs_at Object F.Stack ms) F.Stack
    (schema_pairs F.Stack ms ∙ e) (λ xs. refl) (become_fixed F.Stack ms h)
object_again ms d h F.Track e = again (pairs_at Object F.Track ms) F.Track
    (schema_pairs F.Track ms ∙ e) (λ xs. refl) (become_fixed F.Track ms h)
object_again ms d h F.Clip e = again (pairs_at Object F.Clip ms) F.Clip
    (schema_pairs F.Clip ms ∙ e) (λ xs. refl) (become_fixed F.Clip ms h)
object_again ms d h F.Gap e = again (pairs_at Object F.Gap ms) F.Gap
    (schema_pairs F.Gap ms ∙ e) (λ xs. refl) (become_fixed F.Gap ms h)
object_again ms d h F.Other e = again (pairs_at Object F.Other ms) F.Other
    (schema_pairs F.Other ms ∙ e) (λ xs. refl) (become_fixed F.Other ms h)
object_again ms d h F.OldCollection e = renamed F.OldCollection F.Collection
    (codes "SerializableCollection") (pairs_at Object F.OldCollection ms) (λ n. refl) (λ xs. refl)
    collection_text (become_fixed F.OldCollection ms h)
object_again ms d h F.Sequence e = renamed F.Sequence F.Track (codes "Track")
    (pairs_at Object F.Sequence ms) (λ n. refl) (λ xs. refl) track_text
    (become_fixed F.Sequence ms h)
object_again ms d h F.Filler e = renamed F.Filler F.Gap (codes "Gap")
    (pairs_at Object F.Filler ms) (λ n. refl) (λ xs. refl) gap_text (become_fixed F.Filler ms h)
object_again ms d h F.FirstClip e = clip_again (pairs_at Object F.FirstClip ms)
    (subst AreDistinct (sym (names_at Object F.FirstClip ms)) d) (become_fixed F.FirstClip ms h)
object_again ms d h F.FirstMarker e = marker_again (pairs_at Object F.FirstMarker ms)

-- at the other places
all_kept : (form : Form) (ms : Pairs) → pairs_at Objects form ms ≡ ms
all_kept form [] = refl
all_kept form (m ∷ ms) = ap₂ (λ (v : Json) (l : Pairs). (m.0, v) ∷ l) (kept_same m.1) (all_kept form ms)

media_again : (f g : Form) (ms : Pairs) → AllTwice ms
    → pairs_at Media g (pairs_at Media f ms) ≡ pairs_at Media f ms
media_again f g [] h = refl
media_again f g (m ∷ ms) h =
    ap₂ (λ (v : Json) (l : Pairs). (m.0, v) ∷ l) (h.0 Object) (media_again f g ms h.1)

map_twice : (ms : Pairs) → AreDistinct (names_of ms) → AllTwice ms → Twice (Map ms)
map_twice ms d h Kept = kept_same (upgraded_at (Map ms) Kept)
map_twice ms d h Object = fixed_as Object (upgraded_at (Map ms) Object) (Map (map_at Object ms))
    (upgraded_at-Map ms Object) (object_again ms d h (schema_in ms) refl)
map_twice ms d h Objects = fixed_as Objects (upgraded_at (Map ms) Objects) (Map (map_at Objects ms))
    (upgraded_at-Map ms Objects) (upgraded_at-Map (map_at Objects ms) Objects
    ∙ ap Map (all_kept (schema_in (map_at Objects ms)) (map_at Objects ms)))
map_twice ms d h Media = fixed_as Media (upgraded_at (Map ms) Media) (Map (map_at Media ms))
    (upgraded_at-Map ms Media) (upgraded_at-Map (map_at Media ms) Media
    ∙ ap Map (media_again (schema_in ms) (schema_in (map_at Media ms)) ms h))

abbrev EachTwice : List Json → Type 0
EachTwice [] = Unit {0}
EachTwice (v ∷ vs) = Twice v × EachTwice vs

items_twice : (row : Row) (vs : List Json) → EachTwice vs → items_at row (items_at row vs) ≡ items_at row vs
items_twice row [] h = refl
items_twice row (v ∷ vs) h = ap₂ (λ (x : Json) (l : List Json). x ∷ l) (h.0 row) (items_twice row vs h.1)

list_twice : (vs : List Json) → EachTwice vs → Twice (JsonOfList vs)
list_twice vs h row = fixed_as row (upgraded_at (JsonOfList vs) row)
    (JsonOfList (items_at (item_row row) vs)) (upgraded_at-List vs row)
    (upgraded_at-List (items_at (item_row row) vs) row
    ∙ ap JsonOfList (items_twice (item_row row) vs h))

is_twice : (v w : Json) → v ≡ w → Twice w → Twice v
is_twice v w e h = subst Twice (sym e) h

null_twice : Twice Null
null_twice row = fixed_as row (upgraded_at Null row) Null (upgraded_at-Null row) (upgraded_at-Null row)

bool_twice : (b : Bool) → Twice (JsonOfBool b)
bool_twice b row = fixed_as row (upgraded_at (JsonOfBool b) row) (JsonOfBool b) (upgraded_at-Bool b row) (upgraded_at-Bool b row)

num_twice : (n : List ℕ) → Twice (Num n)
num_twice n row = fixed_as row (upgraded_at (Num n) row) (Num n) (upgraded_at-Num n row) (upgraded_at-Num n row)

str_twice : (t : List ℕ) → Twice (Str t)
str_twice t row = fixed_as row (upgraded_at (Str t) row) (Str t) (upgraded_at-Str t row) (upgraded_at-Str t row)

mutual
  pub twice : {room : ℕ} {value : Json} → IsJson room value → Twice value
  twice (null room value e) = is_twice value Null e null_twice
  twice (truth room value b e) = is_twice value (JsonOfBool b) e (bool_twice b)
  twice (number room value numeral e k) = is_twice value (Num numeral) e (num_twice numeral)
  twice (string room value t e u) = is_twice value (Str t) e (str_twice t)
  twice (list room value inner items r e k) = is_twice value (JsonOfList items) e (list_twice items (each_twice k))
  twice (object room value inner members r e d k) = is_twice value (Map members) e (map_twice members d (all_twice k))

  each_twice : {room : ℕ} {items : List Json} → AreJson room items → EachTwice items
  each_twice (no_values room items e) = subst EachTwice (sym e) tt
  each_twice (more_values room items first others e h k) = subst EachTwice (sym e) (twice h, each_twice k)

  all_twice : {room : ℕ} {members : Pairs} → AreMembers room members → AllTwice members
  all_twice (no_members room members e) = subst AllTwice (sym e) tt
  all_twice (more_members room members name value others e u h k) = subst AllTwice (sym e) (twice h, all_twice k)

pub read_stays : UpgradedStays
read_stays bytes value read = twice (read_is_json bytes value read) Object
