use Rattle.std.proofs.Common.{◌≡◌, sym, ap, subst, ◌∙◌, ℕ, ◌+◌, List, Some, map, length, rules}
use Rattle.std.specs.Prelude.{slice_get}
use Rattle.edl_list.specs.declared.list.Event.{Event}
use Rattle.edl_frames.specs.ChildEvents.{unnumbered}
use Rattle.edl_conform.proofs.ListFacts.{are_listed}
use Rattle.edl_conform.proofs.Numbering.{put_back}
use Rattle.edl_conform.proofs.merging.listed.Goals as goal

pub returns : goal.returns
returns c =
    let all : c.in_ok-events.events.len ≡ length c.in_ok-events.events.items = search rules in
    let same = c.number.ensures.same ∙ ap (map unnumbered) c.deref_mut.ensures.value in
    let back = c.of.ensures ∙ put_back c.in_ok-events.events.len c.number.new.events
    c.in_ok-events.events.items all same in
    are_listed c.args.gathered.items c.in_ok-events.events.items c.of.result
    c.in_ok-events.ensures.order c.in_ok-events.ensures.channels
    (ap (map unnumbered) back ∙ same)
    (subst (λ (l : List Event). (i : ℕ) (e : Event) → slice_get l i ≡ Some e → e.line ≡ i + 1)
    (sym back) c.number.ensures.lines)
