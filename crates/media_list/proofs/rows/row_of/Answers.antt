use Rattle.std.proofs.Common.{inr, refl}
use Rattle.media_list.specs.Views.{fields_in}
use Rattle.media_list.proofs.TabLemmas.{url_is_text}
use Rattle.media_list.proofs.rows.row_of.Goals as goal

pub row_from-requires-clause-url : goal.row_from-requires-clause-url
row_from-requires-clause-url c =
    url_is_text c.args.line.now (fields_in c.in-Some.fields) c.in-Some.ensures.text
    c.in-Some.ensures.fields

pub returns-in-None-clause-fault : goal.returns-in-None-clause-fault
returns-in-None-clause-fault c = inr (
  refl,
  record {
    fields = fields_in c.in-Some.fields;
    form = c.in-Some.ensures;
    rate = c.in-Some-rate_of.rate;
    is_rate = c.in-Some-rate_of.ensures;
    none = c.in-None.ensures;
  },
)
