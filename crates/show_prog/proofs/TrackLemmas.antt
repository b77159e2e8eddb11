-- The lines of tracks, child by child.
use Rattle.std.proofs.Common.{◌≡◌, ℕ, ◌+◌, ◌≤◌, List, [], ◌++◌, Some, ap, sym, codes, decimal, append_assoc, length, drop, slice_get}
use Rattle.otio_model.specs.declared.compositions.ItemOf.{ItemOf}
use Rattle.otio_model.specs.declared.compositions.Listed.{Listed}
use Rattle.coord.proofs.Members.{next, none_left}
use Rattle.show_prog.specs.ListingTexts.{line, track_line, track_lines}

-- the line of the next child, and those behind it
pub tracks_next : (xs : List (ItemOf Listed)) (i : ℕ) (x : ItemOf Listed) → slice_get xs i ≡ Some x
    → track_lines i (drop i xs) ≡ track_line i x ++ track_lines (i + 1) (drop (i + 1) xs)
tracks_next xs i x e = ap (track_lines i) (next xs i x e)

-- no line is left at the end
pub tracks_end : (xs : List (ItemOf Listed)) (i : ℕ) → length xs ≤ i → track_lines i (drop i xs) ≡ []
tracks_end xs i h = ap (track_lines i) (none_left xs i h)

-- the parts of a line, one after another
pub track_parts : (k : ℕ) (kind name : List ℕ)
    → codes "track " ++ (decimal k ++ (codes " " ++ (kind ++ (codes " " ++ (name ++ codes "\n")))))
    ≡ line (codes "track") (decimal k) (kind ++ (codes " " ++ name))
track_parts k kind name = ap (λ (l : List ℕ). codes "track " ++ (decimal k ++ (codes " " ++ l))) (sym (append_assoc kind (codes " " ++ name) (codes "\n")))
