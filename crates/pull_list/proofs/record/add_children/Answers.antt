use Rattle.std.proofs.Common.{◌∙◌, ◌<◌, arith}
use Rattle.show_prog.proofs.SoundnessFacts.{here}
use Rattle.pull_list.specs.Record.{record_frames}
use Rattle.pull_list.proofs.Recording.{bounded_by, frames_one, roots_end, roots_go}
use Rattle.pull_list.proofs.record.add_children.Goals as goal

pub add_child-requires-clause-few : goal.add_child-requires-clause-few
add_child-requires-clause-few c =
    (here c.args.timeline.now.tracks.children c.children.index c.child.result.now c.child.ensures
    c.requires.sound.items c.requires.few).few

pub add_child-requires-clause-sound : goal.add_child-requires-clause-sound
add_child-requires-clause-sound c =
    (here c.args.timeline.now.tracks.children c.children.index c.child.result.now c.child.ensures
    c.requires.sound.items c.requires.few).sound

pub add_child-requires-clause-bounded : goal.add_child-requires-clause-bounded
add_child-requires-clause-bounded c =
    let one = frames_one c.frame_ticks-ticks.result c.args.timeline.now.tracks.children
    c.children.index c.child.result.now c.child.ensures in
    let e = c.frame_ticks-ticks.ensures.value in
    let b : 10000000 < record_frames c.args.timeline.now → ⊥ = c.requires.bounded in
    bounded_by c.args.timeline.now.tracks.children _ _ _ e one b

pub children-preserved : goal.children-preserved
children-preserved c = record {
  groups = c.add_child.ensures.groups ∙ c.children.invariant.groups;
  adds = roots_go _ _ _ _ _ _ _ _ _ c.child.ensures c.children.invariant.adds
      c.children.invariant.groups c.in_ok-add_child.ensures.added;
}

pub returns-clause-added : goal.returns-clause-added
returns-clause-added c =
    let e = c.frame_ticks-ticks.ensures.value in let s = c.frame_ticks-ticks.ensures.some in
    let f = c.children-test.false in let n = c.len-index-end.ensures in
    roots_end _ _ _ c.children.index _ _ e (omega (arith, s)) (omega (arith, f, n))
    c.children.invariant.adds
