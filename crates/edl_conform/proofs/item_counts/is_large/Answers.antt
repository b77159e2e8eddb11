use Rattle.std.proofs.Common.{ap, ap₂, ◌∙◌, ◌+◌}
use Rattle.std.specs.Prelude.{nat_lt}
use Rattle.limits.specs.Limits.{most_items}
use Rattle.edl_list.specs.declared.list.Channel.TheVariants.{V, A, A2}
use Rattle.edl_frames.specs.Counted.{track_count}
use Rattle.edl_conform.proofs.CountLemmas.{large}
use Rattle.edl_conform.proofs.item_counts.is_large.Goals as goal

pub returns : goal.returns
returns c =
    let list = c.args.list.now in
    let v = c.track_count-v.ensures.count in
    let a = c.track_count-a.ensures.count in
    let a2 = c.track_count-a2.ensures.count in
    ap (nat_lt most_items) (ap₂ (λ x y. x + y) v (ap₂ (λ x y. x + y) a a2))
    ∙ large (track_count list V) (track_count list A) (track_count list A2)
