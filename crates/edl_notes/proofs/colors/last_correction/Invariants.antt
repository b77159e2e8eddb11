-- The last slope, offset and power of the notes so far.
use Rattle.std.proofs.Common.{◌≡◌, None, option_map, take}
use Rattle.note_text.specs.Noted.{last_sop}
use Rattle.edl_notes.specs.Steps.{correction, said_by}
use Rattle.edl_notes.proofs.colors.last_correction.Given as goal

abbrev pub invariant-notes : goal.invariant-notes
invariant-notes l = option_map correction l.last ≡ last_sop None (said_by (take l.note-index l.notes))
