-- Acts by how they are carried out.
use Rattle.std.specs.Prelude.{Bool, true, false}
use Rattle.edit_script.specs.declared.commands.Act.{Act}
use Rattle.edit_script.specs.declared.commands.Act.TheVariants as A

-- what carries an act out: an edit of a list or of edges, or a step in the log
pub data ActGroup : Type 0 where
  OfLists : ActGroup
  OfEdges : ActGroup
  Back : ActGroup
  Forth : ActGroup

abbrev pub group : Act → ActGroup
group (A.Overwrite place at put) = OfLists
group (A.Insert place at put) = OfLists
group (A.Slice place at) = OfLists
group (A.Fill place at mode put) = OfLists
group (A.Remove place at mode) = OfLists
group (A.Trim place at head tail) = OfEdges
group (A.Slip place at by) = OfEdges
group (A.Slide place at by) = OfEdges
group (A.Ripple place at head tail) = OfEdges
group (A.Roll place at head tail) = OfEdges
group A.Undo = Back
group A.Redo = Forth

-- a ripple or a roll moves cuts
abbrev pub moves_cuts : Act → Bool
moves_cuts (A.Overwrite place at put) = false
moves_cuts (A.Insert place at put) = false
moves_cuts (A.Slice place at) = false
moves_cuts (A.Fill place at mode put) = false
moves_cuts (A.Remove place at mode) = false
moves_cuts (A.Trim place at head tail) = false
moves_cuts (A.Slip place at by) = false
moves_cuts (A.Slide place at by) = false
moves_cuts (A.Ripple place at head tail) = true
moves_cuts (A.Roll place at head tail) = true
moves_cuts A.Undo = false
moves_cuts A.Redo = false
