use Rattle.std.proofs.Common.{inl, inr, ◌++◌}
use Rattle.json_text.proofs.reader.JsonReader.feed.Goals as goal

pub returns-in-Ok-clause-stands : goal.returns-in-Ok-clause-stands
returns-in-Ok-clause-stands c (inl (bytes, read)) =
    inl (bytes ++ c.args.piece.now, c.in-Ok.ensures.read bytes read)
returns-in-Ok-clause-stands c (inr (fault, failed)) = absurd (c.in_default.not-Some fault failed)
