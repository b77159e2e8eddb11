use Rattle.std.proofs.Common.{◌≡◌, ap, ◌∙◌, ◌-ℤ◌, pos, to_z, of_z, ◌∷◌, [], arith}
use Rattle.std.specs.Int.{w64}
use Rattle.std.specs.Option.{option_copied}
use Rattle.std.proofs.lemmas.Int.{ints}
use Rattle.edl_frames.specs.Refused.{outgoing_use, use_of}
use Rattle.edl_conform.specs.Uses.{uses_fault}
use Rattle.edl_conform.proofs.LoopSteps.{fault_of_pair, fault_of_uses}
use Rattle.edl_conform.proofs.media_faults.event_fault.Goals as goal

pub returns-in-Cut : goal.returns-in-Cut
returns-in-Cut c =
    let e = c.args.event.now in
    let media = option_copied c.args.media.now.rows in
    let shown = c.length_of.ensures.shown in
    let long : to_z w64 (of_z w64 c.length_of.result) ≡ e.rec_out -ℤ e.rec_in =
    omega (arith, ints, c.length_of.ensures.value, shown.some, shown.high) in
    c.cut_fault.ensures
    ∙ ap (λ z. uses_fault c.args.media.now.rate media e.line (use_of e.to z ∷ [])) long
    ∙ fault_of_uses c.args.media.now.rate media e [] (ap outgoing_use c.in-Cut.is)

pub returns-in-Dissolve : goal.returns-in-Dissolve
returns-in-Dissolve c =
    let e = c.args.event.now in
    let shown = c.length_of.ensures.shown in
    let long : to_z w64 (of_z w64 c.length_of.result) ≡ e.rec_out -ℤ e.rec_in =
    omega (arith, ints, c.length_of.ensures.value, shown.some, shown.high) in
    let few = c.count_of_frames-frames.ensures in
    let short : to_z w64 (of_z w64 c.count_of_frames-frames.result) ≡ pos c.in-Dissolve.frames =
    omega (arith, ints, few.value, few.shown.some, few.shown.high) in
    c.pair_fault.ensures
    ∙ fault_of_pair c.args.media.now.rate (option_copied c.args.media.now.rows) e c.in-Dissolve.from _ _ _
    c.in-Dissolve.frames (ap outgoing_use c.in-Dissolve.is) c.get.ensures short long

pub returns-in-Wipe : goal.returns-in-Wipe
returns-in-Wipe c =
    let e = c.args.event.now in
    let few = c.count_of_frames-frames-in-Wipe.ensures in
    let short : to_z w64 (of_z w64 c.count_of_frames-frames-in-Wipe.result) ≡ pos c.in-Wipe.frames =
    omega (arith, ints, few.value, few.shown.some, few.shown.high) in
    let shown = c.length_of.ensures.shown in
    let long : to_z w64 (of_z w64 c.length_of.result) ≡ e.rec_out -ℤ e.rec_in =
    omega (arith, ints, c.length_of.ensures.value, shown.some, shown.high) in
    c.pair_fault-in-Wipe.ensures
    ∙ fault_of_pair c.args.media.now.rate (option_copied c.args.media.now.rows) e c.in-Wipe.from _ _ _
    c.in-Wipe.frames (ap outgoing_use c.in-Wipe.is) c.get-in-Wipe.ensures short long
