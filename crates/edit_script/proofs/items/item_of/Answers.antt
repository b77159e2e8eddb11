use Rattle.std.proofs.Common.{FitsSigned, w64, rules, ◌≡◌, Some}
use Rattle.std.proofs.lemmas.Int.{to_z-of_z}
use Rattle.std.proofs.lemmas.Result.{IfOk-weaker}
use Rattle.std.specs.Prelude.{IfOk}
use Rattle.std.specs.Option.{option_copied}
use Rattle.edits.specs.Children.{made, new_gap}
use Rattle.edit_script.specs.Items.{IsListedClip}
use Rattle.tick_time.specs.Frames.{IsFrameSpan, in_ticks}
use Rattle.edit_script.proofs.Puts.{clip_item, edit_item, edit_items, gap_item}
use Rattle.edit_script.proofs.items.item_of.Goals as goal

pub returns-in-Gap-clause-item : goal.returns-in-Gap-clause-item
returns-in-Gap-clause-item c =
    let n = c.in-Gap.length in
    let fits : FitsSigned w64 n = search rules in
    let is : made c.args.rate (new_gap (in_ticks c.args.rate n)) ≡ Some c.gap_of.result =
    simp to_z-of_z at c.gap_of.ensures in
    gap_item c.args.rate (option_copied c.args.media) c.args.put.now n c.gap_of.result c.in-Gap.is
    is

pub returns-in-Gap-clause-edit : goal.returns-in-Gap-clause-edit
returns-in-Gap-clause-edit c =
    edit_item c.args.rate (option_copied c.args.media) c.args.put.now c.gap_of.result
    (returns-in-Gap-clause-item c)

pub returns-in-Some-clause-item : goal.returns-in-Some-clause-item
returns-in-Some-clause-item c =
    let a : FitsSigned w64 c.in-Clip.start = search rules in
    let b : FitsSigned w64 c.in-Clip.length = search rules in
    let shows : IsFrameSpan c.in-Some.row.now.rate c.in-Clip.start c.args.rate c.in-Clip.length
    c.span.result = simp to_z-of_z at c.span.ensures in
    let is : IfOk c.clip_of.result (IsListedClip c.args.rate c.in-Some.row.now c.in-Clip.name
    c.in-Clip.start c.in-Clip.length) =
    IfOk-weaker c.clip_of.result _ _ (λ x g. g c.args.rate c.in-Clip.start c.in-Clip.length shows)
    c.clip_of.ensures in
    clip_item c.args.rate (option_copied c.args.media) c.args.put.now c.in-Some.row.now
    c.in-Clip.name
    c.in-Clip.reel c.in-Clip.start c.in-Clip.length c.clip_of.result c.in-Clip.is
    c.in-Some.ensures.row is

pub returns-in-Some-clause-edit : goal.returns-in-Some-clause-edit
returns-in-Some-clause-edit c =
    edit_items c.args.rate (option_copied c.args.media) c.args.put.now c.clip_of.result
    (returns-in-Some-clause-item c)
