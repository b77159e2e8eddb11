use Rattle.std.proofs.lemmas.Int.{to_z-of_z}
use Rattle.edit_script.specs.Words.{words_of}
use Rattle.edit_script.specs.declared.verbs.Verb.TheVariants as V
use Rattle.edit_script.proofs.ActLemmas.{of_verb}
use Rattle.edit_script.proofs.acts.edit_of.Goals as goal

pub returns-in-Slice : goal.returns-in-Slice
returns-in-Slice c =
    let fits = c.ranges.at in
    let same = simp to_z-of_z at c.slice_of.ensures in
    of_verb c.args.verb V.Slice c.args.place c.args.at (words_of c.args.line.now) c.slice_of.result
    c.in-Slice.is same

pub returns-in-Remove : goal.returns-in-Remove
returns-in-Remove c =
    let fits = c.ranges.at in
    let same = simp to_z-of_z at c.removal_of.ensures in
    of_verb c.args.verb V.Remove c.args.place c.args.at (words_of c.args.line.now)
    c.removal_of.result
    c.in-Remove.is same

pub returns-in-Trim : goal.returns-in-Trim
returns-in-Trim c =
    let fits = c.ranges.at in
    let same = simp to_z-of_z at c.trim_of.ensures in
    of_verb c.args.verb V.Trim c.args.place c.args.at (words_of c.args.line.now) c.trim_of.result
    c.in-Trim.is same

pub returns-in-Slip : goal.returns-in-Slip
returns-in-Slip c =
    let fits = c.ranges.at in
    let same = simp to_z-of_z at c.slip_of.ensures in
    of_verb c.args.verb V.Slip c.args.place c.args.at (words_of c.args.line.now) c.slip_of.result
    c.in-Slip.is same

pub returns-in-Slide : goal.returns-in-Slide
returns-in-Slide c =
    let fits = c.ranges.at in
    let same = simp to_z-of_z at c.slide_of.ensures in
    of_verb c.args.verb V.Slide c.args.place c.args.at (words_of c.args.line.now) c.slide_of.result
    c.in-Slide.is same

pub returns-in-Ripple : goal.returns-in-Ripple
returns-in-Ripple c =
    let fits = c.ranges.at in
    let same = simp to_z-of_z at c.ripple_of.ensures in
    of_verb c.args.verb V.Ripple c.args.place c.args.at (words_of c.args.line.now)
    c.ripple_of.result
    c.in-Ripple.is same

pub returns-in-Roll : goal.returns-in-Roll
returns-in-Roll c =
    let fits = c.ranges.at in
    let same = simp to_z-of_z at c.roll_of.ensures in
    of_verb c.args.verb V.Roll c.args.place c.args.at (words_of c.args.line.now) c.roll_of.result
    c.in-Roll.is same
