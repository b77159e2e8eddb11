use Rattle.std.proofs.Common.{rules}
use Rattle.std.proofs.lemmas.List.Sorted.{answers_always}
use Rattle.edl_list.specs.Formed.{rank}
use Rattle.edl_conform.proofs.EventOrder.{sorted_stand, channel_stays}
use Rattle.edl_conform.proofs.merging.in_order.Goals as goal

pub returns-clause-order : goal.returns-clause-order
returns-clause-order c =
    sorted_stand _
    (c.in_ok-sort_by_cached_key.ensures.sorted (λ e. (e.rec_in, rank e.channel))
    (answers_always _ _ _ (λ f a r g h. search rules)))

pub returns-clause-channels : goal.returns-clause-channels
returns-clause-channels c = λ channel rising.
    channel_stays channel _ _
    (c.in_ok-sort_by_cached_key.ensures.sorted (λ e. (e.rec_in, rank e.channel))
    (answers_always _ _ _ (λ f a r g h. search rules)))
    (c.in_ok-sort_by_cached_key.ensures.stable (λ e. (e.rec_in, rank e.channel))
    (answers_always _ _ _ (λ f a r g h. search rules)))
    rising
