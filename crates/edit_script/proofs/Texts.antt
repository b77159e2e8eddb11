-- Bytes that are a text, and bytes that are none.
use Rattle.std.proofs.Common.{◌≡◌, ℕ, List, Bool, true, false, Some, None, refl}
use Rattle.std.specs.Str.{IsUtf8, is_utf8}
use Rattle.std.proofs.lemmas.Str.{IsUtf8-from_is_utf8}
use Rattle.edit_script.specs.Acts.{text}

pub not_utf8 : (bytes : List ℕ) → (IsUtf8 bytes → ⊥) → is_utf8 bytes ≡ false
not_utf8 bytes h = by (is_utf8 bytes) refl
  where
    by : (t : Bool) → is_utf8 bytes ≡ t → is_utf8 bytes ≡ false
    by true e = absurd (h (IsUtf8-from_is_utf8 bytes e))
    by false e = e

pub is_text : (bytes : List ℕ) → is_utf8 bytes ≡ true → text bytes ≡ Some bytes
is_text bytes e = rw e refl

pub no_text : (bytes : List ℕ) → is_utf8 bytes ≡ false → text bytes ≡ None
no_text bytes e = rw e refl
