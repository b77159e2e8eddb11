-- The bytes so far as they are written.
use Rattle.std.proofs.Common.{◌≡◌, map, take}
use Rattle.edl_text.specs.Columns.{written_byte}
use Rattle.edl_notes.proofs.names.cleaned_text.Given as goal

abbrev pub invariant-bytes : goal.invariant-bytes
invariant-bytes l = l.bytes.items ≡ map written_byte (take l.byte-index l.trimmed)
