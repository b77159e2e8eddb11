use Rattle.std.proofs.Common.{rules}
use Rattle.std.proofs.lemmas.List.Sorted.{answers_always}
use Rattle.edl_list.specs.Formed.{rank}
use Rattle.edl_text.proofs.Sorting.{sorted_stand, stable-keeps_places}
use Rattle.edl_text.proofs.StrictOrder.{strict}
use Rattle.edl_text.proofs.order.in_record_order.Goals as goal

pub returns-clause-order : goal.returns-clause-order
returns-clause-order c = rw c.of.ensures (sorted_stand _ (c.in_ok-sort_by_cached_key.ensures.sorted (λ e. (e.rec_in, rank e.channel, e.line)) (answers_always _ _ _ (λ f a r g h. search rules))))

pub returns-clause-strict : goal.returns-clause-strict
returns-clause-strict c = λ read. rw c.of.ensures (strict c.args.events.items _ read c.in_ok-sort_by_cached_key.ensures.permutation
    (sorted_stand _ (c.in_ok-sort_by_cached_key.ensures.sorted (λ e. (e.rec_in, rank e.channel, e.line)) (answers_always _ _ _ (λ f a r g h. search rules)))))

pub returns-clause-stable : goal.returns-clause-stable
returns-clause-stable c = rw c.of.ensures (stable-keeps_places _ _ (c.in_ok-sort_by_cached_key.ensures.stable (λ e. (e.rec_in, rank e.channel, e.line)) (answers_always _ _ _ (λ f a r g h. search rules))))
