-- Fields that are looked at one by one.
use Rattle.std.proofs.Common.{◌≡◌, ℕ, List, [], drop, refl, sym, ap, ◌∙◌}
use Rattle.text_lines.specs.Lines.{fields_of}
use Rattle.text_lines.proofs.Splitting.{fields_none}

-- behind no field stands none
pub none_behind : (line : List ℕ) → fields_of line ≡ [] → fields_of [] ≡ drop 1 (fields_of line)
none_behind line e = fields_none [] refl ∙ ap (drop 1) (sym e)
