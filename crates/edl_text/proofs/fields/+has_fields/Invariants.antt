use Rattle.std.proofs.Common.{length}
use Rattle.edl_text.proofs.fields.+has_fields.Given as goal

abbrev pub decreases-has_fields : goal.decreases-has_fields
decreases-has_fields l = length l.fields.now
