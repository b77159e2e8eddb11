use Rattle.std.proofs.Common.{◌∙◌, ap, rules}
use Rattle.coord.specs.Images.{image}
use Rattle.coord.proofs.JudgingLemmas.{sound_child}
use Rattle.coord.proofs.Members.{child_few}
use Rattle.show_prog.proofs.SoundnessFacts.{no_fault}
use Rattle.show_prog.proofs.ShowLemmas.{image_of-Blank, ok_then, err_then}
use Rattle.show_prog.proofs.Roots.{program_at, program_far}
use Rattle.show_prog.proofs.shows.show_at.Goals as goal

pub show_root-requires-clause-few : goal.show_root-requires-clause-few
show_root-requires-clause-few c =
    child_few c.args.timeline.now.tracks.children c.args.child c.child-item.result.now
    c.child-item.ensures c.requires.few

pub show_root-requires-clause-sound : goal.show_root-requires-clause-sound
show_root-requires-clause-sound c =
    sound_child c.args.timeline.now.tracks.children c.args.child c.child-item.result.now
    c.child-item.ensures c.requires.sound.items

pub returns-in-None-clause-image : goal.returns-in-None-clause-image
returns-in-None-clause-image c =
    let t = c.args.timeline.now in let x = c.child-item.result.now in
    let s = sound_child t.tracks.children c.args.child x c.child-item.ensures c.requires.sound.items
    in
    image_of-Blank ∙ ap image (program_far t c.args.clock c.args.child c.args.frame x
    c.child-item.ensures (no_fault x s) c.requires.clock
    (search rules) (search rules) (search rules) c.in-None.ensures)

pub returns-in-Some-clause-image : goal.returns-in-Some-clause-image
returns-in-Some-clause-image c =
    ok_then c.show_root.result _ _ c.show_root.ensures.image
    (program_at c.args.timeline.now c.args.clock c.args.child c.args.frame c.in-Some.ticks
    c.child-item.result.now c.child-item.ensures c.requires.clock
    (search rules) (search rules) (search rules) (search rules) c.in-Some.ensures)

pub returns-in-Some-clause-memory : goal.returns-in-Some-clause-memory
returns-in-Some-clause-memory c =
    err_then c.show_root.result _ _ c.show_root.ensures.memory
    (program_at c.args.timeline.now c.args.clock c.args.child c.args.frame c.in-Some.ticks
    c.child-item.result.now c.child-item.ensures c.requires.clock
    (search rules) (search rules) (search rules) (search rules) c.in-Some.ensures)
