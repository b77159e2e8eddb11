-- What stands in a JSON value of each kind is one.
use Rattle.std.proofs.Common.{◌≡◌, ℕ, Bool, false, List, [], sym, ap, ◌∙◌}
use Rattle.json_value.specs.declared.Json.{Json, out-Json}
use Rattle.json_value.specs.declared.Json.TheOpen.{Json-F}
use Rattle.json_value.specs.declared.Json.TheVariants as J

abbrev characters_in : Json-F Json → List ℕ
characters_in (Json-F.Str x) = x
characters_in (Json-F.Num x) = x
characters_in _ = []

abbrev truth_in : Json-F Json → Bool
truth_in (Json-F.Bool x) = x
truth_in _ = false

abbrev list_in : Json-F Json → List Json
list_in (Json-F.List x) = x
list_in _ = []

abbrev members_in : Json-F Json → List (List ℕ × Json)
members_in (Json-F.Map x) = x
members_in _ = []

pub str_once : (json : Json) (a b : List ℕ) → json ≡ J.Str a → json ≡ J.Str b → a ≡ b
str_once json a b p q =
    ap characters_in (sym (J.outs-Str a)) ∙ ap (λ (j : Json). characters_in (out-Json j)) (sym p ∙ q)
    ∙ ap characters_in (J.outs-Str b)

pub num_once : (json : Json) (a b : List ℕ) → json ≡ J.Num a → json ≡ J.Num b → a ≡ b
num_once json a b p q =
    ap characters_in (sym (J.outs-Num a)) ∙ ap (λ (j : Json). characters_in (out-Json j)) (sym p ∙ q)
    ∙ ap characters_in (J.outs-Num b)

pub bool_once : (json : Json) (a b : Bool) → json ≡ J.Bool a → json ≡ J.Bool b → a ≡ b
bool_once json a b p q =
    ap truth_in (sym (J.outs-Bool a)) ∙ ap (λ (j : Json). truth_in (out-Json j)) (sym p ∙ q)
    ∙ ap truth_in (J.outs-Bool b)

pub list_once : (json : Json) (a b : List Json) → json ≡ J.List a → json ≡ J.List b → a ≡ b
list_once json a b p q =
    ap list_in (sym (J.outs-List a)) ∙ ap (λ (j : Json). list_in (out-Json j)) (sym p ∙ q)
    ∙ ap list_in (J.outs-List b)

pub map_once : (json : Json) (a b : List (List ℕ × Json)) → json ≡ J.Map a → json ≡ J.Map b → a ≡ b
map_once json a b p q =
    ap members_in (sym (J.outs-Map a)) ∙ ap (λ (j : Json). members_in (out-Json j)) (sym p ∙ q)
    ∙ ap members_in (J.outs-Map b)
