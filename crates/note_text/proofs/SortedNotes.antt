-- Notes sorted by their events.
use Rattle.std.proofs.Common.{◌≡◌, ◌<◌, ◌==◌, ◌&&◌, not, nat_lt, ℕ, Bool, true, false, List, [], filter, refl, sym, ap, ◌∙◌, arith}
use Rattle.std.specs.Ordering.{is_lt, nat_cmp}
use Rattle.std.specs.Cmp.{nat_cmp_is}
use Rattle.std.specs.declared.cmp.Ordering.TheVariants.{Less, Equal, Greater}
use Rattle.std.specs.List.Sorted.{IsStableByKey, ties}
use Rattle.std.proofs.lemmas.Bool.Decides.{nat_tests}
use Rattle.std.proofs.lemmas.List.Elements.{filter_agree}
use Rattle.note_text.specs.Belonging.{own_notes}
use Rattle.note_text.specs.declared.notes.Said.TheVariants.{Sat}
use Rattle.note_text.specs.declared.notes.Note.{Note}

tie_by : (x y : ℕ) (same less : Bool) → (y == x) ≡ same → nat_lt x y ≡ less → (not (is_lt (nat_cmp x y)) && not (is_lt (nat_cmp y x))) ≡ (y == x)
tie_by x y true less e f =
    let k : x ≡ y = grind (arith, nat_tests, e) in
    let later : is_lt (nat_cmp x y) ≡ false = ap is_lt (sym (nat_cmp_is x y Equal k)) in
    let sooner : is_lt (nat_cmp y x) ≡ false = ap is_lt (sym (nat_cmp_is y x Equal (sym k))) in
    ap (λ p. not p && not (is_lt (nat_cmp y x))) later ∙ ap (λ q. not false && not q) sooner ∙ sym e
tie_by x y false true e f =
    let k : x < y = grind (arith, nat_tests, f) in
    let sooner : is_lt (nat_cmp x y) ≡ true = ap is_lt (sym (nat_cmp_is x y Less k)) in
    ap (λ p. not p && not (is_lt (nat_cmp y x))) sooner ∙ sym e
tie_by x y false false e f =
    let k : y < x = grind (arith, nat_tests, e, f) in
    let later : is_lt (nat_cmp x y) ≡ false = ap is_lt (sym (nat_cmp_is x y Greater k)) in
    let sooner : is_lt (nat_cmp y x) ≡ true = ap is_lt (sym (nat_cmp_is y x Less k)) in
    ap (λ p. not p && not (is_lt (nat_cmp y x))) later ∙ ap (λ q. not false && not q) sooner ∙ sym e

pub tie : (x y : ℕ) → (not (is_lt (nat_cmp x y)) && not (is_lt (nat_cmp y x))) ≡ (y == x)
tie x y = tie_by x y (y == x) (nat_lt x y) refl refl

-- a stable sort keeps the notes of each event
pub own_sorted : (notes sorted : List Note) → IsStableByKey (λ n. n.event) nat_cmp notes sorted → (index : ℕ) → own_notes index sorted ≡ own_notes index notes
own_sorted notes sorted stable index =
    let one : Note = record { event = index; said = Sat [] } in
    let agree : (xs : List Note) → filter (ties (λ a b. is_lt (nat_cmp a.event b.event)) one) xs ≡ own_notes index xs =
    filter_agree (ties (λ (a b : Note). is_lt (nat_cmp a.event b.event)) one) (λ n. n.event == index) (λ n. tie index n.event) in
    sym (agree sorted) ∙ stable one ∙ agree notes
