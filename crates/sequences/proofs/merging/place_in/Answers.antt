use Rattle.std.proofs.Common.{◌≡◌, Some, None, sym, ◌∙◌, btree_map_len, ◌+◌, arith}
use Rattle.std.proofs.lemmas.Map.Text.{btree_map_updates_str}
use Rattle.std.specs.BTreeMap.{get_by}
use Rattle.std.specs.Cmp.Lexicographic.{slice_cmp}
use Rattle.std.specs.Ordering.{nat_cmp}
use Rattle.sequences.proofs.MapLemmas.{Knows-again, Knows-added, just_put}
use Rattle.sequences.proofs.merging.place_in.Goals as goal

pub returns-in-None : goal.returns-in-None
returns-in-None c = λ names knows.
    let none : get_by (λ k. slice_cmp nat_cmp c.args.name.now k.now) c.args.known.now ≡ None = sym c.in_ok-insert.ensures.old ∙ c.in-None.is in
    let gets = btree_map_updates_str c.args.name.now c.args.known.now c.insert.new.self _ c.in_ok-insert.ensures.updates in
    let long : btree_map_len c.insert.new.self ≡ btree_map_len c.args.known.now + 1 = rw c.in-None.is at c.in_ok-insert.ensures.len in
    Knows-added c.args.known.now c.insert.new.self c.args.name.now c.len-place.result names c.len-place.ensures.len none long gets knows

pub returns-in_ok-insert-in-Some : goal.returns-in_ok-insert-in-Some
returns-in_ok-insert-in-Some c = λ names knows.
    let known = c.args.known.now in
    let mid = c.insert.new.self in
    let found : get_by (λ k. slice_cmp nat_cmp c.args.name.now k.now) known ≡ Some c.in-Some.first = sym c.in_ok-insert.ensures.old ∙ c.in-Some.is in
    let first = btree_map_updates_str c.args.name.now known mid _ c.in_ok-insert.ensures.updates in
    let second = btree_map_updates_str c.args.name.now mid c.insert-in-Some.new.self _ c.in_ok-insert-in-Some.ensures.updates in
    let mid_long = rw c.in-Some.is at c.in_ok-insert.ensures.len in
    let back : c.in_ok-insert-in-Some.field-0 ≡ Some c.len-place.result = c.in_ok-insert-in-Some.ensures.old ∙ just_put known mid c.args.name.now c.len-place.result first in
    let long = rw back at c.in_ok-insert-in-Some.ensures.len in
    Knows-again known mid c.insert-in-Some.new.self c.args.name.now c.in-Some.first c.len-place.result names found (omega (arith, mid_long, long)) first second knows
