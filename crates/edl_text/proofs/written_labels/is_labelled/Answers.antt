use Rattle.edl_text.proofs.Days.{test_kept, untrue}
use Rattle.edl_text.proofs.written_labels.is_labelled.Goals as goal

pub returns-then-not-is_below_day-2 : goal.returns-then-not-is_below_day-2
returns-then-not-is_below_day-2 c =
    let event = c.args.event.now in
    untrue (test_kept c.args.rate c.args.drop event.to.src_out _ c.requires.to.src_out c.is_below_day-2.ensures) c.if-not-is_below_day-2.true (λ labelled. labelled.source_out)

pub returns-then-not-is_below_day-3 : goal.returns-then-not-is_below_day-3
returns-then-not-is_below_day-3 c =
    let event = c.args.event.now in
    untrue (test_kept c.args.rate c.args.drop event.rec_in _ c.requires.rec_in c.is_below_day-3.ensures) c.if-not-is_below_day-3.true (λ labelled. labelled.record_in)

pub returns : goal.returns
returns c =
    let rate = c.args.rate in
    let mode = c.args.drop in
    let event = c.args.event.now in
    let source_in = test_kept rate mode event.to.src_in _ c.requires.to.src_in c.is_below_day.ensures in
    let source_out = test_kept rate mode event.to.src_out _ c.requires.to.src_out c.is_below_day-2.ensures in
    let record_in = test_kept rate mode event.rec_in _ c.requires.rec_in c.is_below_day-3.ensures in
    let record_out = test_kept rate mode event.rec_out _ c.requires.rec_out c.is_below_day-4.ensures in (
      λ h. record {
        outgoing_in = c.is_source_below_day.ensures.0 c.if-not-is_source_below_day.false;
        source_in = source_in.0 c.if-not-is_below_day.false;
        source_out = source_out.0 c.if-not-is_below_day-2.false;
        record_in = record_in.0 c.if-not-is_below_day-3.false;
        record_out = record_out.0 h;
      },
      λ labelled. record_out.1 labelled.record_out,
    )
