use Rattle.std.proofs.Common.{inl, inr, ◌++◌}
use Rattle.edl_text.proofs.reader.EdlReader.feed.Goals as goal

pub returns-in-Ok-clause-stands : goal.returns-in-Ok-clause-stands
returns-in-Ok-clause-stands c (inl (rate, bytes, read)) = inl (rate, bytes ++ c.args.piece.now, c.in-Ok.ensures.read rate bytes read)
returns-in-Ok-clause-stands c (inr (fault, failed)) = absurd (c.in_default.not-Some fault failed)
