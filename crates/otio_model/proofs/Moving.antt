-- Pieces whose items move, the first one first.
use Rattle.std.proofs.Common.{◌≡◌, refl, ap, ◌∙◌, List, [], ◌∷◌, ◌++◌, length, arith}
use Rattle.std.specs.Prelude.{reverse}
use Rattle.std.proofs.lemmas.List.{reverse-append}
use Rattle.otio_model.specs.declared.lists.Piece.{Piece}
use Rattle.otio_model.specs.Pieces.{all_items}

-- the items of pieces in the other order, of which the last one is the next
pub turned_next : (ps rest : List Piece) (p : Piece) → ps ≡ rest ++ p ∷ []
    → all_items (reverse ps) ≡ p.items.items ++ all_items (reverse rest)
turned_next ps rest p e =
    ap (λ l. all_items (reverse l)) e ∙ ap all_items (reverse-append rest (p ∷ []))

pub none_left : (ps : List Piece) → length ps ≡ 0 → ps ≡ []
none_left [] e = refl
none_left (p ∷ ps) e = absurd (omega (arith, e))
