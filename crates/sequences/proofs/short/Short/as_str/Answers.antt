use Rattle.std.proofs.Common.{subst, sym, take}
use Rattle.std.proofs.lemmas.Str.{IsUtf8-from_is_utf8}
use Rattle.std.specs.Str.{IsUtf8}
use Rattle.sequences.proofs.short.Short.as_str.Goals as goal

pub from_utf8_unchecked-requires : goal.from_utf8_unchecked-requires
from_utf8_unchecked-requires c = subst (λ n. IsUtf8 (take n c.self.inside.bytes)) (sym c.from.ensures) (IsUtf8-from_is_utf8 _ c.self.invariant.1)
