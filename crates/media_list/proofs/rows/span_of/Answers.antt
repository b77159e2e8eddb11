use Rattle.std.proofs.Common.{sym}
use Rattle.media_list.specs.Views.{fields_in}
use Rattle.media_list.proofs.SpanLemmas.{span_unsaid}
use Rattle.media_list.proofs.rows.span_of.Goals as goal

pub returns-in-None : goal.returns-in-None
returns-in-None c = span_unsaid c.args.rate (fields_in c.args.fields.now)
    (sym c.in-None.ensures.start)
