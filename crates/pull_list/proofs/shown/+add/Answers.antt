use Rattle.std.proofs.Common.{◌≡◌, ◌∙◌, sym, ap, subst, ◌-◌, ℤ, Some, to_z, of_z, arith}
use Rattle.std.specs.Int.{w128}
use Rattle.std.specs.List.{Contains}
use Rattle.std.proofs.lemmas.Int.{ints}
use Rattle.otio_model.specs.declared.compositions.ItemOf.{ItemOf}
use Rattle.otio_model.specs.declared.compositions.ItemOf.TheVariants.{Clip as ClipItem}
use Rattle.otio_model.specs.declared.compositions.Listed.{Listed}
use Rattle.otio_model.specs.Falls.{child_counts}
use Rattle.otio_model.specs.Trees.{items_of}
use Rattle.coord.specs.Looks.{Show, track_shows, stack_shows}
use Rattle.coord.specs.Sights.{exact, sight, sights, looks, shows_inside}
use Rattle.show_prog.specs.Walk.{side, shown}
use Rattle.show_prog.proofs.SoundnessFacts.{here, no_fault, track_facts, stack_facts}
use Rattle.show_prog.proofs.ShowLemmas.{inside_track, same_kind, track_outside, track_mix, track_item, inside_stack, stack_before, stack_down, stack_here, nothing_past, nothing_shown}
use Rattle.pull_list.specs.Found.{Collects, clips_in, clips_of_item}
use Rattle.pull_list.proofs.Collecting.{clip_below, collects_blank, collects_none, collects_some, mixed_by, ok_as, or_left, or_right, same_clips, told_blank, told_some}
use Rattle.pull_list.proofs.shown.+add.Goals as goal

pub add_inside-add_stack-requires : goal.add_inside-add_stack-requires
add_inside-add_stack-requires t c =
    let f = stack_facts c.in-Stack.stack (rw c.in-Stack.is at c.requires.1.1.1.0) in
    let n = rw c.in-Stack.is at c.requires.1.1.0 in let d = rw c.in-Stack.is at c.requires.1.0 in
    (omega (arith, d, f.few), (omega (arith, n, f.few), (f.sound, c.requires.1.1.1.1.1.1)))

pub add_inside-add_track-requires : goal.add_inside-add_track-requires
add_inside-add_track-requires t c =
    let f = track_facts c.in-Track.track (rw c.in-Track.is at c.requires.1.1.1.0) in
    let n = rw c.in-Track.is at c.requires.1.1.0 in let d = rw c.in-Track.is at c.requires.1.0 in
    (omega (arith, d, f.few), (omega (arith, n, f.few), (f.sound, (f.fits, c.requires.1.1.1.1.1.1))))

pub add_inside-returns-in-Clip-clause-added : goal.add_inside-returns-in-Clip-clause-added
add_inside-returns-in-Clip-clause-added t c =
    let a : to_z w128 (of_z w128 c.args.at) ≡ c.args.at = omega (arith, ints) in
    let v = exact c.args.kind.now in
    ok_as c.add_clip.result _ _ (clips_of_item c.args.item.now) _ _ _ _
    (c.add_clip.ensures.added c.args.kind.now)
    (ap (λ (z : ℤ). shows_inside sights (ClipItem c.in-Clip.clip) v z) a
    ∙ ap (λ (x : ItemOf Listed). shows_inside sights x v c.args.at) (sym c.in-Clip.is))
    (λ k h. subst (λ (x : ItemOf Listed). Contains (clips_of_item x) k) (sym c.in-Clip.is) h)

pub add_inside-returns-else-not-stack-clause-added :
    goal.add_inside-returns-else-not-stack-clause-added
add_inside-returns-else-not-stack-clause-added t c =
    let a : to_z w128 (of_z w128 c.args.at) ≡ c.args.at = omega (arith, ints) in
    let v = exact c.args.kind.now in
    ok_as c.add_stack.result _ _ (clips_of_item c.args.item.now) _ _ _ _ c.add_stack.ensures.added
    (ap (stack_shows (looks v (items_of c.in-Stack.stack.children))) a
    ∙ sym (inside_stack c.in-Stack.stack c.args.kind.now c.args.at c.if-not-stack.false)
    ∙ ap (λ (x : ItemOf Listed). shows_inside sights x v c.args.at) (sym c.in-Stack.is))
    (λ k h. subst (λ (x : ItemOf Listed). Contains (clips_of_item x) k) (sym c.in-Stack.is) h)

pub add_inside-returns-else-ne-clause-added : goal.add_inside-returns-else-ne-clause-added
add_inside-returns-else-ne-clause-added t c =
    let a : to_z w128 (of_z w128 c.args.at) ≡ c.args.at = omega (arith, ints) in
    let v = exact c.args.kind.now in
    let k = same_kind c.ne.result c.as_str.result.now c.in-Track.track.kind c.args.kind.now
    c.ne.ensures c.if-ne.false c.as_str.ensures in
    ok_as c.add_track.result _ _ (clips_of_item c.args.item.now) _ _ _ _ c.add_track.ensures.added
    (ap (track_shows (looks v (items_of c.in-Track.track.children))) a
    ∙ sym (inside_track c.in-Track.track c.args.kind.now c.args.at c.if-not-track.false k)
    ∙ ap (λ (x : ItemOf Listed). shows_inside sights x v c.args.at) (sym c.in-Track.is))
    (λ k h. subst (λ (x : ItemOf Listed). Contains (clips_of_item x) k) (sym c.in-Track.is) h)

pub add_item-media_at-requires-clause-sound : goal.add_item-media_at-requires-clause-sound
add_item-media_at-requires-clause-sound t c = no_fault c.args.item.now c.requires.1.1.1.0

pub add_side-add_item-requires : goal.add_side-add_item-requires
add_side-add_item-requires t c =
    let h = here c.args.children.now _ c.child.result.now c.child.ensures c.requires.1.1.1.0
    c.requires.1.1.0 in
    let l = c.requires.1.1.1.1.1.0 in let u = c.requires.1.1.1.1.1.1.0 in (
      omega (arith, h.count, c.requires.1.0),
      (
        h.few,
        (
          h.sound,
          (omega (arith, ints), (omega (arith, ints), c.requires.1.1.1.1.1.1.1)),
        ),
      ),
    )

pub add_side-returns-in-Some-clause-added : goal.add_side-returns-in-Some-clause-added
add_side-returns-in-Some-clause-added t c =
    let x = c.child.result.now in let v = exact c.args.kind.now in let l = c.args.children.now in
    let a : to_z w128 (of_z w128 c.args.ticks) ≡ c.args.ticks = omega (arith, ints) in
    ok_as c.add_item.result _ _ (clips_in l) _ _ _ _ c.add_item.ensures.added
    (ap (λ (z : ℤ). (sight x).shows v z) a ∙ ap (λ o. shown v o c.args.ticks) (sym c.child.ensures)
    ∙ ap (λ o. side v (items_of l) o c.args.ticks) (sym c.in-Some.is))
    (clip_below l _ x c.child.ensures)

pub add_stack-returns-then-at-lt0-clause-added : goal.add_stack-returns-then-at-lt0-clause-added
add_stack-returns-then-at-lt0-clause-added t c =
    let n = c.if-at-lt0.true in
    collects_blank _ _ _ _ (stack_before (looks (exact c.args.kind.now) (items_of c.args.children.now))
    c.args.at (omega (arith, ints))) c.requires.1.1.1.1

pub add_stack-length_or_zero-requires : goal.add_stack-length_or_zero-requires
add_stack-length_or_zero-requires t c = record {
  few = let n = child_counts c.args.children.now _ c.child-item.result.now c.child-item.ensures in
      omega (arith, n, c.requires.1.1.0);
}

pub add_stack-add_item-requires : goal.add_stack-add_item-requires
add_stack-add_item-requires t c =
    let h = here c.args.children.now _ c.child-item.result.now c.child-item.ensures
    c.requires.1.1.1.0 c.requires.1.1.0 in
    let k = h.ticks in let e = c.length_or_zero.ensures in let m = c.if-at-length_or_zero.true in
    let n = c.if-at-lt0.false in (
      omega (arith, h.count, c.requires.1.0),
      (
        h.few,
        (
          h.sound,
          (omega (arith, ints), (omega (arith, ints), c.children.invariant.none.takes.runs)),
        ),
      ),
    )

pub add_mix-returns-then-from-clause-added : goal.add_mix-returns-then-from-clause-added
add_mix-returns-then-from-clause-added t c =
    let w = c.requires.1.1.1.1.0 in let k = c.args.active in
    let a = w.from_low in let b = w.from_high in let d = w.to_low in let e = w.to_high in
    let from : to_z w128 (of_z w128 k.from_ticks) ≡ k.from_ticks = omega (arith, ints, a, b) in
    let to : to_z w128 (of_z w128 k.to_ticks) ≡ k.to_ticks = omega (arith, ints, d, e) in
    mixed_by _ _ (clips_in c.args.children.now) _ _ _ c.in_ok-from.from c.in_ok-to.to
    c.in_ok-from.from k.kind.now
    (side (exact c.args.kind.now) (items_of c.args.children.now) k.from)
    (side (exact c.args.kind.now) (items_of c.args.children.now) k.to) _ _ k.from_ticks k.to_ticks
    k.part k.whole from to c.in_ok-from.ensures.added c.in_ok-from.ensures.groups
    c.in_ok-to.ensures.added (or_left c.in_ok-from.from c.in_ok-to.to c.if-from.true)

pub add_mix-returns-else-from-clause-added : goal.add_mix-returns-else-from-clause-added
add_mix-returns-else-from-clause-added t c =
    let w = c.requires.1.1.1.1.0 in let k = c.args.active in
    let a = w.from_low in let b = w.from_high in let d = w.to_low in let e = w.to_high in
    let from : to_z w128 (of_z w128 k.from_ticks) ≡ k.from_ticks = omega (arith, ints, a, b) in
    let to : to_z w128 (of_z w128 k.to_ticks) ≡ k.to_ticks = omega (arith, ints, d, e) in
    mixed_by _ _ (clips_in c.args.children.now) _ _ _ c.in_ok-from.from c.in_ok-to.to
    c.in_ok-to.to k.kind.now
    (side (exact c.args.kind.now) (items_of c.args.children.now) k.from)
    (side (exact c.args.kind.now) (items_of c.args.children.now) k.to) _ _ k.from_ticks k.to_ticks
    k.part k.whole from to c.in_ok-from.ensures.added c.in_ok-from.ensures.groups
    c.in_ok-to.ensures.added (or_right c.in_ok-from.from c.in_ok-to.to c.if-from.false)

pub add_stack-returns-then-branch-clause-added : goal.add_stack-returns-then-branch-clause-added
add_stack-returns-then-branch-clause-added t c =
    let x = c.child-item.result.now in let v = exact c.args.kind.now in let l = c.args.children.now in
    let a : to_z w128 (of_z w128 c.args.at) ≡ c.args.at = omega (arith, ints) in
    let e = c.length_or_zero.ensures in let m = c.if-at-length_or_zero.true in
    let n = c.if-at-lt0.false in let i = c.children.invariant in
    let s : Show = (sight x).shows v (to_z w128 (of_z w128 c.args.at)) in
    let here = subst (λ b. Collects c.children.used.groups (clips_of_item x) c.children.used.runs.items
    c.add_item.new.used.runs.items b s) c.if-branch.true c.in_ok-add_item.ensures.added in
    let some = told_some _ _ _ _ s here in
    collects_some _ _ (clips_in l) (clips_of_item x) _ _ _ s _ i.none i.groups here
    (sym (stack_here v (items_of l) c.children.index (c.children.index - 1) x _ _ c.child-item.ensures
    (omega arith) i.same (omega (arith, ints)) (omega (arith, ints)) some)
    ∙ ap (stack_shows (looks v (items_of l))) a)
    (clip_below l _ x c.child-item.ensures)

pub add_stack-children-preserved-else-branch : goal.add_stack-children-preserved-else-branch
add_stack-children-preserved-else-branch t c =
    let x = c.child-item.result.now in let v = exact c.args.kind.now in let l = c.args.children.now in
    let i = c.children.invariant in
    let s : Show = (sight x).shows v (to_z w128 (of_z w128 c.args.at)) in
    let here = subst (λ b. Collects c.children.used.groups (clips_of_item x) c.children.used.runs.items
    c.add_item.new.used.runs.items b s) c.if-branch.false c.in_ok-add_item.ensures.added in
    let none = told_blank _ _ _ _ s here in record {
      groups = c.in_ok-add_item.ensures.groups ∙ i.groups;
      none = collects_none _ _ (clips_in l) (clips_of_item x) _ _ _ s i.none i.groups here
          (clip_below l _ x c.child-item.ensures);
      same = stack_down v (items_of l) c.children.index (c.children.index - 1) x _ _
          c.child-item.ensures (omega arith) i.same (nothing_shown v x _ none);
    }

pub add_stack-children-preserved : goal.add_stack-children-preserved
add_stack-children-preserved t c =
    let x = c.child-item.result.now in let v = exact c.args.kind.now in
    let e = c.length_or_zero.ensures in let m = c.if-at-length_or_zero.false in
    let i = c.children.invariant in record {
      groups = i.groups;
      none = i.none;
      same = stack_down v (items_of c.args.children.now) c.children.index (c.children.index - 1) x _ _
          c.child-item.ensures (omega arith) i.same
          (nothing_past v x (to_z w128 (of_z w128 c.args.at)) (omega (arith, ints)));
    }

pub add_track-returns-in-None-clause-added : goal.add_track-returns-in-None-clause-added
add_track-returns-in-None-clause-added t c =
    let a : to_z w128 (of_z w128 c.args.at) ≡ c.args.at = omega (arith, ints) in
    let v = exact c.args.kind.now in
    collects_blank _ _ _ _ (sym (ap (track_shows (looks v (items_of c.args.children.now))) a)
    ∙ track_outside v c.args.children.now (to_z w128 (of_z w128 c.args.at)) c.in-None.ensures)
    c.requires.1.1.1.1.1

pub add_track-returns-in-None-overlap_at-clause-added :
    goal.add_track-returns-in-None-overlap_at-clause-added
add_track-returns-in-None-overlap_at-clause-added t c =
    let v = exact c.args.kind.now in let l = c.args.children.now in let h = c.in-Some.ensures in
    let a : to_z w128 (of_z w128 c.args.at) ≡ c.args.at = omega (arith, ints) in
    let low = h.low in let high = h.high in
    let u : to_z w128 (of_z w128 c.in-Some.held.ticks) ≡ c.in-Some.held.ticks = omega (arith, ints) in
    ok_as c.add_side.result _ _ (clips_in l) _ _ _ _ c.add_side.ensures.added
    (ap (side v (items_of l) (Some c.in-Some.held.index)) u ∙ sym (h.shows v)
    ∙ sym (track_item v l _ h.inside (c.in-None-overlap_at.ensures.shows v))
    ∙ ap (track_shows (looks v (items_of l))) a) (same_clips (clips_in l))

pub add_track-returns-in-Some-overlap_at-clause-added :
    goal.add_track-returns-in-Some-overlap_at-clause-added
add_track-returns-in-Some-overlap_at-clause-added t c =
    let v = exact c.args.kind.now in let l = c.args.children.now in
    let a : to_z w128 (of_z w128 c.args.at) ≡ c.args.at = omega (arith, ints) in
    ok_as c.add_mix.result _ _ (clips_in l) _ _ _ _ c.add_mix.ensures.added
    (sym (track_mix v l _ _ c.in-Some.ensures.inside (c.in-Some-overlap_at.ensures.shows v))
    ∙ ap (track_shows (looks v (items_of l))) a) (same_clips (clips_in l))
