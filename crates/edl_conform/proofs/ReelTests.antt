-- Whether a name is one of a reel, as a test.
use Rattle.std.proofs.Common.{◌≡◌, refl, ℕ, Bool, true, false, List}
use Rattle.text_lines.specs.ReelNames.{IsReelName, is_reel_name}
use Rattle.text_lines.proofs.ReelLemmas.{reel_name_is, name_of_reel}

pub is_named : (name : List ℕ) → IsReelName name → is_reel_name name ≡ true
is_named = name_of_reel

refused : (t : Bool) → (t ≡ true → ⊥) → t ≡ false
refused true h = absurd (h refl)
refused false h = refl

pub not_named : (name : List ℕ) → (IsReelName name → ⊥) → is_reel_name name ≡ false
not_named name h = refused (is_reel_name name) (λ e. h (reel_name_is name e))
