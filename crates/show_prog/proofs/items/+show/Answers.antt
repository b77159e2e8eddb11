use Rattle.std.proofs.Common.{◌≡◌, ◌∙◌, sym, ap, ap₂, ◌+◌, ℤ, ◌&&◌, Bool, Some, to_z, of_z, arith}
use Rattle.std.specs.Int.{w128}
use Rattle.std.proofs.lemmas.Int.{ints}
use Rattle.otio_model.specs.declared.compositions.ItemOf.{ItemOf}
use Rattle.otio_model.specs.declared.compositions.ItemOf.TheVariants.{Clip as ClipItem}
use Rattle.otio_model.specs.declared.compositions.Listed.{Listed}
use Rattle.otio_model.specs.Trees.{items_of}
use Rattle.coord.specs.Looks.{Show, track_shows, stack_shows}
use Rattle.coord.specs.Sights.{sight, sights, looks, shows_inside}
use Rattle.coord.specs.Images.{image, is_empty, is_mix}
use Rattle.coord.proofs.ImageLemmas.{empty_is}
use Rattle.coord.specs.Sights.{exact}
use Rattle.show_prog.specs.Walk.{side, mixture}
use Rattle.show_prog.proofs.SoundnessFacts.{here, no_fault, track_facts, stack_facts}
use Rattle.show_prog.proofs.ShowLemmas.{image_of-Blank, ok_then, seen_then, err_then, err_map, on_err, mix_not_blank, seen_mixed, mixed_some, mixed_from, mixed_to, inside_track, same_kind, track_outside, track_mix, track_item, inside_stack, stack_before, stack_down, stack_here, nothing_shown}
use Rattle.show_prog.proofs.DarkItems.{lit_shows, stack_lit, stack_unlit}
use Rattle.otio_model.proofs.KeptLemmas.{taken_all}
use Rattle.show_prog.proofs.items.+show.Goals as goal

pub show_inside-show_stack-requires : goal.show_inside-show_stack-requires
show_inside-show_stack-requires t c =
    let f = stack_facts c.in-Stack.stack (rw c.in-Stack.is at c.requires.1.1.1) in
    let n = rw c.in-Stack.is at c.requires.1.1.0 in let d = rw c.in-Stack.is at c.requires.1.0 in
    (omega (arith, d, f.few), (omega (arith, n, f.few), f.sound))

pub show_inside-show_track-requires : goal.show_inside-show_track-requires
show_inside-show_track-requires t c =
    let f = track_facts c.in-Track.track (rw c.in-Track.is at c.requires.1.1.1) in
    let n = rw c.in-Track.is at c.requires.1.1.0 in let d = rw c.in-Track.is at c.requires.1.0 in
    (omega (arith, d, f.few), (omega (arith, n, f.few), (f.sound, f.fits)))

pub show_inside-returns-in-Clip-clause-image : goal.show_inside-returns-in-Clip-clause-image
show_inside-returns-in-Clip-clause-image t c =
    let a : to_z w128 (of_z w128 c.args.at) ≡ c.args.at = omega (arith, ints) in
    c.show_clip.ensures c.args.kind.now ∙ ap (λ (z : ℤ). image (shows_inside sights (ClipItem c.in-Clip.clip) (exact c.args.kind.now) z)) a
    ∙ ap (λ (x : ItemOf Listed). image (shows_inside sights x (exact c.args.kind.now) c.args.at)) (sym c.in-Clip.is)

pub show_inside-returns-else-not-stack-clause-image :
    goal.show_inside-returns-else-not-stack-clause-image
show_inside-returns-else-not-stack-clause-image t c =
    let a : to_z w128 (of_z w128 c.args.at) ≡ c.args.at = omega (arith, ints) in
    ok_then c.show_stack.result _ _ c.show_stack.ensures.image
    (ap (stack_shows (looks (exact c.args.kind.now) (items_of c.in-Stack.stack.children))) a
    ∙ sym (inside_stack c.in-Stack.stack c.args.kind.now c.args.at c.if-not-stack.false)
    ∙ ap (λ (x : ItemOf Listed). shows_inside sights x (exact c.args.kind.now) c.args.at) (sym c.in-Stack.is))

pub show_inside-returns-else-not-stack-clause-memory :
    goal.show_inside-returns-else-not-stack-clause-memory
show_inside-returns-else-not-stack-clause-memory t c =
    let a : to_z w128 (of_z w128 c.args.at) ≡ c.args.at = omega (arith, ints) in
    err_then c.show_stack.result _ _ c.show_stack.ensures.memory
    (ap (stack_shows (looks (exact c.args.kind.now) (items_of c.in-Stack.stack.children))) a
    ∙ sym (inside_stack c.in-Stack.stack c.args.kind.now c.args.at c.if-not-stack.false)
    ∙ ap (λ (x : ItemOf Listed). shows_inside sights x (exact c.args.kind.now) c.args.at) (sym c.in-Stack.is))

pub show_inside-returns-else-ne-clause-image : goal.show_inside-returns-else-ne-clause-image
show_inside-returns-else-ne-clause-image t c =
    let a : to_z w128 (of_z w128 c.args.at) ≡ c.args.at = omega (arith, ints) in
    let k = same_kind c.ne.result c.as_str.result.now c.in-Track.track.kind c.args.kind.now c.ne.ensures c.if-ne.false c.as_str.ensures in
    ok_then c.show_track.result _ _ c.show_track.ensures.image
    (ap (track_shows (looks (exact c.args.kind.now) (items_of c.in-Track.track.children))) a
    ∙ sym (inside_track c.in-Track.track c.args.kind.now c.args.at c.if-not-track.false k)
    ∙ ap (λ (x : ItemOf Listed). shows_inside sights x (exact c.args.kind.now) c.args.at) (sym c.in-Track.is))

pub show_inside-returns-else-ne-clause-memory : goal.show_inside-returns-else-ne-clause-memory
show_inside-returns-else-ne-clause-memory t c =
    let a : to_z w128 (of_z w128 c.args.at) ≡ c.args.at = omega (arith, ints) in
    let k = same_kind c.ne.result c.as_str.result.now c.in-Track.track.kind c.args.kind.now c.ne.ensures c.if-ne.false c.as_str.ensures in
    err_then c.show_track.result _ _ c.show_track.ensures.memory
    (ap (track_shows (looks (exact c.args.kind.now) (items_of c.in-Track.track.children))) a
    ∙ sym (inside_track c.in-Track.track c.args.kind.now c.args.at c.if-not-track.false k)
    ∙ ap (λ (x : ItemOf Listed). shows_inside sights x (exact c.args.kind.now) c.args.at) (sym c.in-Track.is))

pub show_item-media_at-requires-clause-sound : goal.show_item-media_at-requires-clause-sound
show_item-media_at-requires-clause-sound t c = no_fault c.args.item.now c.requires.1.1.1.0

pub show_side-show_item-requires : goal.show_side-show_item-requires
show_side-show_item-requires t c =
    let h = here c.args.children.now _ c.child.result.now c.child.ensures c.requires.1.1.1.0 c.requires.1.1.0 in
    let l = c.requires.1.1.1.1.1.0 in let u = c.requires.1.1.1.1.1.1 in
    (omega (arith, h.count, c.requires.1.0), (h.few, (h.sound, (omega (arith, ints), omega (arith, ints)))))

pub show_stack-returns-then-at-lt0-clause-image : goal.show_stack-returns-then-at-lt0-clause-image
show_stack-returns-then-at-lt0-clause-image t c =
    let n = c.if-at-lt0.true in
    image_of-Blank ∙ ap image (sym (stack_before (looks (exact c.args.kind.now) (items_of c.args.children.now)) c.args.at (omega (arith, ints))))

pub show_stack-children-init : goal.show_stack-children-init
show_stack-children-init t c =
    let l = items_of c.args.children.now in
    record {
      within = omega (arith, c.len-end.ensures);
      same = ap (λ m. stack_shows (looks (exact c.args.kind.now) m) (to_z w128 (of_z w128 c.args.at)))
          (sym (taken_all l c.len-end.result (omega (arith, c.len-end.ensures))));
    }

pub show_stack-last_lit-requires-clause-there : goal.show_stack-last_lit-requires-clause-there
show_stack-last_lit-requires-clause-there t c = omega (arith, c.children.invariant.within)

pub show_stack-last_lit-requires-clause-low : goal.show_stack-last_lit-requires-clause-low
show_stack-last_lit-requires-clause-low t c = let n = c.if-at-lt0.false in omega (arith, ints)

pub show_stack-child-requires : goal.show_stack-child-requires
show_stack-child-requires t c = record {
  there = omega (arith, c.in-Some.ensures.found.before, c.children.invariant.within);
}

pub show_stack-show_item-requires : goal.show_stack-show_item-requires
show_stack-show_item-requires t c =
    let h = here c.args.children.now _ c.child.result.now c.child.ensures c.requires.1.1.1 c.requires.1.1.0 in
    let k = h.ticks in let n = c.if-at-lt0.false in
    let m = lit_shows (items_of c.args.children.now) _ _ c.child.result.now _ c.in-Some.ensures.found c.child.ensures in
    (omega (arith, h.count, c.requires.1.0), (h.few, (h.sound, (omega (arith, ints), omega (arith, ints)))))

pub show_stack-returns-in_err-picture-in-Some-clause-memory :
    goal.show_stack-returns-in_err-picture-in-Some-clause-memory
show_stack-returns-in_err-picture-in-Some-clause-memory t c =
    let x = c.child.result.now in let v = exact c.args.kind.now in let l = items_of c.args.children.now in
    let i = c.in-Some.index in
    let a : to_z w128 (of_z w128 c.args.at) ≡ c.args.at = omega (arith, ints) in
    let n = c.if-at-lt0.false in
    let m = lit_shows l _ _ x _ c.in-Some.ensures.found c.child.ensures in
    let mix = c.in_err-picture-in-Some.ensures.memory in
    let down = stack_lit v l _ i _ _ c.children.invariant.same c.in-Some.ensures.found in
    on_err c.from_residual.result _
    (ap is_mix (ap (stack_shows (looks v l)) (sym a)
    ∙ stack_here v l (i + 1) i x _ _ c.child.ensures (omega arith) down (omega (arith, ints)) (omega (arith, ints)) (mix_not_blank _ mix))
    ∙ mix)

pub show_stack-returns-then-not-is_blank-clause-image :
    goal.show_stack-returns-then-not-is_blank-clause-image
show_stack-returns-then-not-is_blank-clause-image t c =
    let x = c.child.result.now in let v = exact c.args.kind.now in let l = items_of c.args.children.now in
    let i = c.in-Some.index in
    let a : to_z w128 (of_z w128 c.args.at) ≡ c.args.at = omega (arith, ints) in
    let n = c.if-at-lt0.false in
    let m = lit_shows l _ _ x _ c.in-Some.ensures.found c.child.ensures in
    let s : Show = (sight x).shows v (to_z w128 (of_z w128 c.args.at)) in
    let some = sym (empty_is s) ∙ ap is_empty (sym c.in_ok-picture-in-Some.ensures.image) ∙ sym c.is_blank.ensures ∙ c.if-not-is_blank.true in
    let down = stack_lit v l _ i _ _ c.children.invariant.same c.in-Some.ensures.found in
    c.in_ok-picture-in-Some.ensures.image
    ∙ ap image (sym (stack_here v l (i + 1) i x _ _ c.child.ensures (omega arith) down (omega (arith, ints)) (omega (arith, ints)) some)
    ∙ ap (stack_shows (looks v l)) a)

pub show_stack-children-preserved : goal.show_stack-children-preserved
show_stack-children-preserved t c =
    let x = c.child.result.now in let v = exact c.args.kind.now in let l = items_of c.args.children.now in
    let i = c.in-Some.index in
    let s : Show = (sight x).shows v (to_z w128 (of_z w128 c.args.at)) in
    let none = sym (empty_is s) ∙ ap is_empty (sym c.in_ok-picture-in-Some.ensures.image) ∙ sym c.is_blank.ensures ∙ c.if-not-is_blank.false in
    let down = stack_lit v l _ i _ _ c.children.invariant.same c.in-Some.ensures.found in
    record {
      within = omega (arith, c.in-Some.ensures.found.before, c.children.invariant.within);
      same = stack_down v l (i + 1) i x _ _ c.child.ensures (omega arith) down (nothing_shown v x _ none);
    }

pub show_stack-returns-in-None-clause-image : goal.show_stack-returns-in-None-clause-image
show_stack-returns-in-None-clause-image t c =
    let v = exact c.args.kind.now in let l = items_of c.args.children.now in
    let a : to_z w128 (of_z w128 c.args.at) ≡ c.args.at = omega (arith, ints) in
    let none = stack_unlit v l _ _ _ c.children.invariant.same c.in-None.ensures.none in
    image_of-Blank ∙ ap image (sym none ∙ ap (stack_shows (looks v l)) a)

pub show_track-returns-in_err-from-in-Some-overlap_at-clause-memory :
    goal.show_track-returns-in_err-from-in-Some-overlap_at-clause-memory
show_track-returns-in_err-from-in-Some-overlap_at-clause-memory t c =
    let v = exact c.args.kind.now in let l = c.args.children.now in let k = c.in-Some-overlap_at.active in let w = c.in-Some-overlap_at.ensures.within in
    let a : to_z w128 (of_z w128 c.args.at) ≡ c.args.at = omega (arith, ints) in
    let low = w.from_low in let high = w.from_high in
    let u : to_z w128 (of_z w128 k.from_ticks) ≡ k.from_ticks = omega (arith, ints) in
    on_err c.from_residual.result _
    (ap is_mix (ap (track_shows (looks v (items_of l))) (sym a) ∙ track_mix v l _ _ c.in-Some.ensures.inside (c.in-Some-overlap_at.ensures.shows v))
    ∙ mixed_from k.kind.now _ _ k.part k.whole (ap (λ (z : ℤ). is_mix (side v (items_of l) k.from z)) (sym u) ∙ c.in_err-from-in-Some-overlap_at.ensures.memory))

pub show_track-returns-in_err-to-in-Some-overlap_at-clause-memory :
    goal.show_track-returns-in_err-to-in-Some-overlap_at-clause-memory
show_track-returns-in_err-to-in-Some-overlap_at-clause-memory t c =
    let v = exact c.args.kind.now in let l = c.args.children.now in let k = c.in-Some-overlap_at.active in let w = c.in-Some-overlap_at.ensures.within in
    let a : to_z w128 (of_z w128 c.args.at) ≡ c.args.at = omega (arith, ints) in
    let low = w.to_low in let high = w.to_high in
    let u : to_z w128 (of_z w128 k.to_ticks) ≡ k.to_ticks = omega (arith, ints) in
    on_err c.from_residual-in_err-to-in-Some-overlap_at.result _
    (ap is_mix (ap (track_shows (looks v (items_of l))) (sym a) ∙ track_mix v l _ _ c.in-Some.ensures.inside (c.in-Some-overlap_at.ensures.shows v))
    ∙ mixed_to k.kind.now _ _ k.part k.whole (ap (λ (z : ℤ). is_mix (side v (items_of l) k.to z)) (sym u) ∙ c.in_err-to-in-Some-overlap_at.ensures.memory))

pub show_track-returns-in-None-clause-image : goal.show_track-returns-in-None-clause-image
show_track-returns-in-None-clause-image t c =
    let a : to_z w128 (of_z w128 c.args.at) ≡ c.args.at = omega (arith, ints) in
    let v = exact c.args.kind.now in
    image_of-Blank ∙ ap image (sym (track_outside v c.args.children.now (to_z w128 (of_z w128 c.args.at)) c.in-None.ensures) ∙ ap (track_shows (looks v (items_of c.args.children.now))) a)

pub show_track-returns-in-None-overlap_at-clause-image :
    goal.show_track-returns-in-None-overlap_at-clause-image
show_track-returns-in-None-overlap_at-clause-image t c =
    let v = exact c.args.kind.now in let l = c.args.children.now in let h = c.in-Some.ensures in
    let a : to_z w128 (of_z w128 c.args.at) ≡ c.args.at = omega (arith, ints) in
    let low = h.low in let high = h.high in
    let u : to_z w128 (of_z w128 c.in-Some.held.ticks) ≡ c.in-Some.held.ticks = omega (arith, ints) in
    ok_then c.show_side.result _ _ c.show_side.ensures.image
    (ap (side v (items_of l) (Some c.in-Some.held.index)) u ∙ sym (h.shows v) ∙ sym (track_item v l _ h.inside (c.in-None-overlap_at.ensures.shows v))
    ∙ ap (track_shows (looks v (items_of l))) a)

pub show_track-returns-in-None-overlap_at-clause-memory :
    goal.show_track-returns-in-None-overlap_at-clause-memory
show_track-returns-in-None-overlap_at-clause-memory t c =
    let v = exact c.args.kind.now in let l = c.args.children.now in let h = c.in-Some.ensures in
    let a : to_z w128 (of_z w128 c.args.at) ≡ c.args.at = omega (arith, ints) in
    let low = h.low in let high = h.high in
    let u : to_z w128 (of_z w128 c.in-Some.held.ticks) ≡ c.in-Some.held.ticks = omega (arith, ints) in
    err_then c.show_side.result _ _ c.show_side.ensures.memory
    (ap (side v (items_of l) (Some c.in-Some.held.index)) u ∙ sym (h.shows v) ∙ sym (track_item v l _ h.inside (c.in-None-overlap_at.ensures.shows v))
    ∙ ap (track_shows (looks v (items_of l))) a)

pub show_track-returns-in_ok-to-in-Some-overlap_at-clause-image :
    goal.show_track-returns-in_ok-to-in-Some-overlap_at-clause-image
show_track-returns-in_ok-to-in-Some-overlap_at-clause-image t c =
    let v = exact c.args.kind.now in let l = c.args.children.now in let k = c.in-Some-overlap_at.active in let w = c.in-Some-overlap_at.ensures.within in
    let a : to_z w128 (of_z w128 c.args.at) ≡ c.args.at = omega (arith, ints) in
    let b = w.from_low in let d = w.from_high in let e = w.to_low in let f = w.to_high in
    let p : to_z w128 (of_z w128 k.from_ticks) ≡ k.from_ticks = omega (arith, ints) in
    let q : to_z w128 (of_z w128 k.to_ticks) ≡ k.to_ticks = omega (arith, ints) in
    let from = c.in_ok-from-in-Some-overlap_at.ensures.image ∙ ap (λ (z : ℤ). image (side v (items_of l) k.from z)) p in
    let to = c.in_ok-to-in-Some-overlap_at.ensures.image ∙ ap (λ (z : ℤ). image (side v (items_of l) k.to z)) q in
    seen_then c.mix.result _ _ c.mix.ensures.image
    (ap₂ (λ x y. mixture k.kind.now x y k.part k.whole) from to
    ∙ seen_mixed k.kind.now (side v (items_of l) k.from k.from_ticks) (side v (items_of l) k.to k.to_ticks) k.part k.whole
    ∙ ap image (sym (track_mix v l _ _ c.in-Some.ensures.inside (c.in-Some-overlap_at.ensures.shows v)) ∙ ap (track_shows (looks v (items_of l))) a))

pub show_track-returns-in_ok-to-in-Some-overlap_at-clause-memory :
    goal.show_track-returns-in_ok-to-in-Some-overlap_at-clause-memory
show_track-returns-in_ok-to-in-Some-overlap_at-clause-memory t c =
    let v = exact c.args.kind.now in let l = c.args.children.now in let k = c.in-Some-overlap_at.active in let w = c.in-Some-overlap_at.ensures.within in
    let a : to_z w128 (of_z w128 c.args.at) ≡ c.args.at = omega (arith, ints) in
    let b = w.from_low in let d = w.from_high in let e = w.to_low in let f = w.to_high in
    let p : to_z w128 (of_z w128 k.from_ticks) ≡ k.from_ticks = omega (arith, ints) in
    let q : to_z w128 (of_z w128 k.to_ticks) ≡ k.to_ticks = omega (arith, ints) in
    let x : Show = side v (items_of l) k.from k.from_ticks in let y : Show = side v (items_of l) k.to k.to_ticks in
    let from = ap is_empty (c.in_ok-from-in-Some-overlap_at.ensures.image ∙ ap (λ (z : ℤ). image (side v (items_of l) k.from z)) p) ∙ empty_is x in
    let to = ap is_empty (c.in_ok-to-in-Some-overlap_at.ensures.image ∙ ap (λ (z : ℤ). image (side v (items_of l) k.to z)) q) ∙ empty_is y in
    err_map c.mix.result _ _ c.mix.ensures.memory
    (λ none. ap is_mix (ap (track_shows (looks v (items_of l))) (sym a) ∙ track_mix v l _ _ c.in-Some.ensures.inside (c.in-Some-overlap_at.ensures.shows v))
    ∙ mixed_some k.kind.now x y k.part k.whole (ap₂ (λ (m n : Bool). m && n) (sym from) (sym to) ∙ none))
