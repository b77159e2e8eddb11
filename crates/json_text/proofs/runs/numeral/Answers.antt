use Rattle.std.proofs.Common.{◌≡◌, ℕ, List, Bool, true, false, refl, ◌∙◌, ap, subst, Some}
use Rattle.std.specs.Prelude.{string_bytes}
use Rattle.std.specs.Str.{IsUtf8, is_utf8}
use Rattle.std.proofs.lemmas.Str.{IsUtf8-from_is_utf8, is_utf8-from_IsUtf8, IsUtf8-string_bytes}
use Rattle.json_value.specs.declared.Json.TheVariants.{Num}
use Rattle.json_text.proofs.runs.numeral.Goals as goal

denied : (bytes : List ℕ) (t : Bool) → is_utf8 bytes ≡ t → (IsUtf8 bytes → ⊥) → is_utf8 bytes ≡ false
denied bytes true e h = absurd (h (IsUtf8-from_is_utf8 bytes e))
denied bytes false e h = e

pub returns-in-Ok : goal.returns-in-Ok
returns-in-Ok c =
    let e : string_bytes c.in-Ok.text ≡ c.args.spelling.items = ap (λ v. v.items) c.in-Ok.ensures.ok in
    let u : is_utf8 c.args.spelling.items ≡ true = is_utf8-from_IsUtf8 c.args.spelling.items (subst IsUtf8 e (IsUtf8-string_bytes c.in-Ok.text)) in
    rw u (ap (λ x. Some (Num x)) (c.in_room.ensures ∙ e))

pub returns-in-Err : goal.returns-in-Err
returns-in-Err c =
    let u : is_utf8 c.args.spelling.items ≡ false = denied c.args.spelling.items (is_utf8 c.args.spelling.items) refl (λ h. let k : false ≡ true = c.in-Err.ensures.succeeds h in cc k) in
    rw u refl
