-- The bytes of a text, wherever they lie.
use Rattle.std.specs.Prelude.{ℕ, List, string_bytes}
use Rattle.sequences.specs.declared.texts.Held.{Held}
use Rattle.sequences.specs.declared.texts.Held.TheVariants.{Short, Long}

abbrev pub bytes_of : Held → List ℕ
bytes_of (Short bytes) = bytes
bytes_of (Long text) = string_bytes text.value
