-- Values in the written order, each known.
use Rattle.std.proofs.Common.{◌≡◌, ℕ, List, [], ◌∷◌, ◌++◌, ◌∙◌, map, IfOk, IsOkAnd, Result, Ok, Err, refl, ap, ap₂, subst, Bool}
use Rattle.json_value.specs.declared.Json.{Json, Map}
use Rattle.otio_model.specs.declared.media.Media.{Media}
use Rattle.sequences.specs.Pairs.{names_of}
use Rattle.schema_rows.specs.declared.schemas.Schema.{Schema}
use Rattle.schema_write.specs.Written.{written}
use Rattle.schema_rows.specs.Readings.{plain_schema}
use Rattle.schema_write.specs.Objects.{medium_pair}

-- one value more, where those before it and it are known
pub grown : {old new values : List Json} {x y : Json} → new ≡ old ++ x ∷ [] → old ≡ values → x ≡ y → new ≡ values ++ y ∷ []
grown added before it = added ∙ ap₂ (λ vs v. vs ++ v ∷ []) before it

-- the same where the value came of a call
pub added : {E : Type 0} (r : Result Json E) (y : Json) {old new values : List Json} → IsOkAnd r (λ x. new ≡ old ++ x ∷ []) → IfOk r (λ x. x ≡ y)
    → old ≡ values → new ≡ values ++ y ∷ []
added (Ok x) y is_added it before = grown is_added before it
added (Err _) y is_added it before = absurd is_added

-- values that begin with equal members
pub members_as : {values rest : List Json} {m n : List (List ℕ × Json)} → values ≡ Map m ∷ rest
    → m ≡ n → values ≡ Map n ∷ rest
members_as {rest} is same = is ∙ ap (λ members. Map members ∷ rest) same

-- the same object with equal values
pub written_as : {E : Type 0} (r : Result Json E) (schema : Schema) (rest : List (List ℕ × Json)) (xs ys : List Json) → xs ≡ ys
    → IfOk r (λ json. json ≡ written schema xs rest) → IfOk r (λ json. json ≡ written schema ys rest)
written_as r schema rest xs ys e h = subst (λ (vs : List Json). IfOk r (λ json. json ≡ written schema vs rest)) e h

-- the same object where it has no other members
pub written_bare : {E : Type 0} (r : Result Json E) (schema : Schema) (rest : List (List ℕ × Json)) (xs ys : List Json) → rest ≡ [] → xs ≡ ys
    → IfOk r (λ json. json ≡ written schema xs rest) → IfOk r (λ json. json ≡ written schema ys [])
written_bare r schema rest xs ys none e h =
    written_as r schema [] xs ys e (subst (λ (members : List (List ℕ × Json)). IfOk r (λ json. json ≡ written schema xs members)) none h)

-- the same effect, by whether it is one of time
pub plain_as : {E : Type 0} (r : Result Json E) (timed t : Bool) (rest : List (List ℕ × Json)) (values : List Json) → t ≡ timed
    → IfOk r (λ json. json ≡ written (plain_schema t) values rest) → IfOk r (λ json. json ≡ written (plain_schema timed) values rest)
plain_as r timed t rest values e h = subst (λ (b : Bool). IfOk r (λ json. json ≡ written (plain_schema b) values rest)) e h

-- keys stay
pub media_names : (media : List (List ℕ × Media)) → names_of (map medium_pair media) ≡ names_of media
media_names [] = refl
media_names (medium ∷ media) = ap (λ names. medium.0 ∷ names) (media_names media)
