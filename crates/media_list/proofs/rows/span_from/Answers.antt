use Rattle.std.proofs.Common.{◌↔◌, IsTrue, false, FitsSigned, w64, rules, refl}
use Rattle.std.proofs.lemmas.Bool.{false≢true}
use Rattle.std.proofs.lemmas.Int.{to_z-of_z}
use Rattle.media_list.specs.Lines.{IsSpanInRange}
use Rattle.media_list.specs.Views.{fields_in}
use Rattle.media_list.proofs.SpanLemmas.{span_refused}
use Rattle.media_list.proofs.rows.span_from.Goals as goal

pub returns-then-is_span_in_range : goal.returns-then-is_span_in_range
returns-then-is_span_in_range c =
    let a : FitsSigned w64 c.args.start = search rules in
    let b : FitsSigned w64 c.number_of-count.result = search rules in
    let range : IsSpanInRange c.args.rate c.args.start c.number_of-count.result =
    simp to_z-of_z at (c.if-is_span_in_range.ensures.0 refl) in
    simp to_z-of_z (record {
      starts = c.requires.start;
      counts = c.number_of-count.ensures.value;
      range = range;
    })

pub returns-else-is_span_in_range : goal.returns-else-is_span_in_range
returns-else-is_span_in_range c =
    let a : FitsSigned w64 c.args.start = search rules in
    let b : FitsSigned w64 c.number_of-count.result = search rules in
    let range : IsTrue false ↔ IsSpanInRange c.args.rate c.args.start c.number_of-count.result =
    simp to_z-of_z at c.if-is_span_in_range.ensures in
    span_refused c.args.rate (fields_in c.args.fields.now) c.args.start c.number_of-count.result
    c.requires.start c.number_of-count.ensures.value (λ h. false≢true (range.1 h))
