-- What stands after the word of a color correction, as it is looked for.
use Rattle.std.specs.Prelude.{◌≡◌, ℕ, List, codes}
use Rattle.note_text.specs.Forms.{IsAfter}

-- what stands after a colon and the blanks that follow it, and the word where no colon stands at
-- its front
pub data HasColon (word rest : List ℕ) : Type 0 where
  colon : IsAfter (codes ":") word rest → HasColon word rest
  bare : ((other : List ℕ) → IsAfter (codes ":") word other → ⊥) → rest ≡ word
      → HasColon word rest
