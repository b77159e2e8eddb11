use Rattle.std.proofs.Common.{◌≡◌, arith, ◌∙◌, ap}
use Rattle.std.proofs.lemmas.Int.{ints}
use Rattle.dev_io.specs.declared.output_faults.OutputFault.TheVariants.{Memory}
use Rattle.show_prog.specs.Rows.{children_listed}
use Rattle.show_prog.specs.Handing.{indexes}
use Rattle.show_prog.proofs.SentLines.{cause_later, cut_listed, mix_listed, sent_cut, sent_listed}
use Rattle.show_prog.proofs.SentLines.{sent_more}
use Rattle.show_prog.proofs.frame_rows.write_rows.Goals as goal

pub returns-in-Err-clause-told : goal.returns-in-Err-clause-told
returns-in-Err-clause-told g c =
    let t = c.args.timeline.now in
    let l = c.args.listing.now in
    let ks = indexes c.children_listed.result in
    let listed = c.children_listed.ensures.listed ∙ ap (children_listed l.child) c.len.ensures in
    let cut = sent_cut _ _ _ t ks l.from _ c.parts.sent c.min-count.result l.count
    (omega (arith, ints)) (omega arith) c.parts.invariant.told c.in-Err.ensures.told in
    cut_listed _ _ t l ks listed cut

pub returns-in-Err-clause-cause : goal.returns-in-Err-clause-cause
returns-in-Err-clause-cause g c =
    cause_later _ _ _ c.in-Err.fault c.parts.invariant.later c.in-Err.ensures.cause

pub returns-in-Err-clause-memory : goal.returns-in-Err-clause-memory
returns-in-Err-clause-memory g c = λ memory.
    let l = c.args.listing.now in
    let out : c.in-Err.fault ≡ Memory = cc memory in
    let listed = c.children_listed.ensures.listed ∙ ap (children_listed l.child) c.len.ensures in
    mix_listed c.args.timeline.now l (indexes c.children_listed.result) _ c.parts.sent
    c.min-count.result c.in-Err.fault listed (omega (arith, ints)) (omega arith) out
    c.in-Err.ensures.cause

pub parts-preserved : goal.parts-preserved
parts-preserved g c =
    let l = c.args.listing.now in
    record {
      within = omega arith;
      later = omega (arith, c.in-Ok.ensures.cause.later);
      told = sent_more _ _ _ c.args.timeline.now (indexes c.children_listed.result) l.from _
          c.parts.sent c.min-count.result (omega (arith, ints)) c.parts.invariant.told
          c.in-Ok.ensures.told;
    }

pub returns-clause-told : goal.returns-clause-told
returns-clause-told g c =
    let l = c.args.listing.now in
    let listed = c.children_listed.ensures.listed ∙ ap (children_listed l.child) c.len.ensures in
    sent_listed _ _ c.args.timeline.now l (indexes c.children_listed.result) c.parts.sent listed
    (omega arith) c.parts.invariant.told
