use Rattle.std.proofs.Common.{◌∙◌, ap, sym, rules, arith}
use Rattle.std.proofs.lemmas.Fn.{always_returns_same}
use Rattle.std.proofs.lemmas.List.{take_all}
use Rattle.std.proofs.lemmas.List.Sorted.{IsNonDecreasingBy-from_sort_by_key}
use Rattle.note_text.specs.StateOwners.{owners_from}
use Rattle.note_text.specs.declared.reading.Owner.{Owner}
use Rattle.note_text.proofs.OwnerLemmas.{owners_more, owners_same, owners_are}
use Rattle.note_text.proofs.reading.owners_of.Goals.{then-not-is_black+in_ok-push, else-not-is_black}
use Rattle.note_text.proofs.reading.owners_of.Goals as goal

pub events-preserved : goal.events-preserved
events-preserved c =
    let black = sym c.is_black.ensures in
    elim c.if-not-is_black.branch [
      | then-not-is_black+in_ok-push w ↦
          owners_more c.args.events.now c.events.index c.index-events-index.result c.events.owners.items c.if-not-is_black.owners.items
          c.events-test.true c.index-events-index.is (black ∙ w.if-not-is_black.true) (ap (λ v. v.items) w.owners-is ∙ w.in_ok-push.ensures.items) c.events.invariant
      | else-not-is_black w ↦
          ap (λ v. v.items) w.owners-is ∙ owners_same c.args.events.now c.events.index c.index-events-index.result c.events.owners.items
          c.events-test.true c.index-events-index.is (black ∙ w.if-not-is_black.false) c.events.invariant
    ]

pub returns : goal.returns
returns c =
    owners_are c.args.events.now c.events.owners.items c.sort_by_key.new.self.items
    (c.events.invariant ∙ ap (owners_from 0) (take_all c.events.index c.args.events.now (omega (arith, c.events-test.false))))
    (c.in_ok-sort_by_key.ensures.stable (λ (o : Owner). o.line) (always_returns_same _ _ _ (λ a r f k. search rules)))
    (IsNonDecreasingBy-from_sort_by_key (λ (o : Owner). o.line) _ c.in_ok-sort_by_key.ensures.sorted (λ a r f k. search rules))
