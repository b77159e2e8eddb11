-- The last saturation of the notes so far.
use Rattle.std.proofs.Common.{◌≡◌, None, option_map, take}
use Rattle.json_value.specs.declared.Json.{Num}
use Rattle.note_text.specs.Noted.{last_sat}
use Rattle.edl_notes.specs.Steps.{said_by}
use Rattle.edl_notes.proofs.colors.last_saturation.Given as goal

abbrev pub invariant-notes : goal.invariant-notes
invariant-notes l = option_map (λ s. Num s.now) l.last ≡ last_sat None (said_by (take l.note-index l.notes))
