-- Edits of edges by their parts.
use Rattle.std.specs.Prelude.{ℕ, ℤ, List}
use Rattle.otio_model.specs.declared.edit_types.Edit.{Edit}
use Rattle.otio_model.specs.declared.edit_types.Edit.TheVariants as A
use Rattle.edit_trim.specs.declared.edge_edits.Asked.{Asked}
use Rattle.edit_trim.specs.declared.edge_edits.EdgeEdit.{EdgeEdit}
use Rattle.edit_trim.specs.declared.edge_edits.EdgeEdit.TheVariants as M

abbrev pub edit_of : List ℕ → ℤ → EdgeEdit → Edit
edit_of place at (M.Trim head tail) = A.Trim place at head tail
edit_of place at (M.Slip by) = A.Slip place at by
edit_of place at (M.Slide by) = A.Slide place at by
edit_of place at (M.Ripple head tail) = A.Ripple place at head tail
edit_of place at (M.Roll head tail) = A.Roll place at head tail

abbrev pub asked : Asked → Edit
asked a = edit_of a.place a.at a.edges
