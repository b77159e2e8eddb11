-- The form that an object's schema has in an upgrade.
use Rattle.std.proofs.Common.{◌≡◌, ◌≢◌, ◌<◌, ◌≤◌, ℕ, suc, true, false, List, [], ◌∷◌, ◌++◌, length, slice_index, take, drop, ◌+◌, add-one, Some, refl, ap, ◌∙◌, arith}
use Rattle.std.specs.Prelude.{◌==◌, nat_lt, nat_le}
use Rattle.std.specs.List.{before_first, after_first, position_or_len, list_all}
use Rattle.std.specs.Char.{is_ascii_digit}
use Rattle.std.specs.Str.Parse.{AllDigits, digits_value}
use Rattle.std.proofs.lemmas.Bool.Decides.{nat_tests}
use Rattle.schema_up.specs.Names.{is_point, version_in, schema_named, named}
use Rattle.schema_rows.specs.Schemas.{IsSchemaText}

-- a name without points, a point and digits
point_at : (name digits : List ℕ) → ((i : ℕ) → i < length name → slice_index name i ≢ 46)
    → position_or_len is_point (name ++ 46 ∷ digits) ≡ length name
point_at [] digits h = refl
point_at (c ∷ cs) digits h =
    let other : (c == 46) ≡ false = grind (arith, nat_tests, h 0 (omega arith)) in
    let below = point_at cs digits (λ i lt. h (suc i) (omega (arith, lt))) in
    rw other (omega (arith, below))

take_front : (xs ys : List ℕ) → take (length xs) (xs ++ ys) ≡ xs
take_front [] ys = refl
take_front (x ∷ xs) ys = ap (λ (l : List ℕ). x ∷ l) (take_front xs ys)

drop_front : (xs ys : List ℕ) (y : ℕ) → drop (suc (length xs)) (xs ++ y ∷ ys) ≡ ys
drop_front [] ys y = refl
drop_front (x ∷ xs) ys y = drop_front xs ys y

before_point : (name digits : List ℕ) → ((i : ℕ) → i < length name → slice_index name i ≢ 46)
    → before_first is_point (name ++ 46 ∷ digits) ≡ name
before_point name digits h = ap (λ n. take n (name ++ 46 ∷ digits)) (point_at name digits h)
    ∙ take_front name (46 ∷ digits)

behind_point : (name digits : List ℕ) → ((i : ℕ) → i < length name → slice_index name i ≢ 46)
    → after_first is_point (name ++ 46 ∷ digits) ≡ digits
behind_point name digits h =
    ap (λ n. drop (n + 1) (name ++ 46 ∷ digits)) (point_at name digits h)
    ∙ ap (λ n. drop n (name ++ 46 ∷ digits)) (add-one (length name)) ∙ drop_front name digits 46

are_digits : (ds : List ℕ) → AllDigits 10 ds → list_all is_ascii_digit ds ≡ true
are_digits [] h = refl
are_digits (d ∷ ds) h =
    let here : is_ascii_digit d ≡ true = grind (arith, nat_tests, h.0) in
    rw here (are_digits ds h.1)

version_is : (digits : List ℕ) → 0 < length digits → length digits ≤ 9 → AllDigits 10 digits
    → version_in digits ≡ Some (digits_value 10 digits)
version_is digits some few all =
    let a : nat_lt 0 (length digits) ≡ true = grind (arith, nat_tests) in
    let b : nat_le (length digits) 9 ≡ true = grind (arith, nat_tests) in
    rw (a, b, are_digits digits all) refl

pub form_is : (text name : List ℕ) (version : ℕ) → IsSchemaText text name version
    → schema_named text ≡ named name (version == 1)
form_is text name version h = rw (h.spelled, before_point name h.digits h.no_point, behind_point name h.digits h.no_point, version_is h.digits h.some_digits h.few_digits h.all_digits, h.version_is) refl
