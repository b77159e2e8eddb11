-- The lines of a text that was written line by line.
use Rattle.std.proofs.Common.{◌≡◌, ℕ, true, List, [], ◌∷◌, ◌++◌, ap₂, ◌∙◌, arith}
use Rattle.text_lines.specs.Lines.{lines_of}
use Rattle.text_lines.proofs.Splitting.{lines_at, lines_last}
use Rattle.text_lines.proofs.Returns.{return_none}
use Rattle.edl_text.specs.Spelling.{text_of}
use Rattle.edl_law.proofs.SolidTexts.{shown, shown_feed, shown_return}

-- each line is of bytes from the space on
abbrev pub AreShown : List (List ℕ) → Type 0
AreShown [] = Unit {0}
AreShown (line ∷ lines) = (shown line ≡ true) × AreShown lines

pub shown_lines : (a b : List (List ℕ)) → AreShown a → AreShown b → AreShown (a ++ b)
shown_lines [] b p q = q
shown_lines (line ∷ a) b p q = (p.0, shown_lines a b p.1 q)

-- they are the lines of their text, with an empty one behind the last line feed
pub lines_written : (lines : List (List ℕ)) → AreShown lines → lines_of (text_of lines) ≡ lines ++ [] ∷ []
lines_written [] p = lines_last [] (λ k d h. absurd (omega arith))
lines_written (line ∷ lines) p =
    lines_at line (text_of lines) (shown_feed line p.0)
    ∙ ap₂ (λ x xs. x ∷ xs) (return_none line (shown_return line p.0)) (lines_written lines p.1)
