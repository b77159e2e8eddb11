-- The child that a seat names shows what its list shows.
use Rattle.std.proofs.Common.{◌≡◌, refl, sym, ap, ◌∙◌, subst, ℕ, zero, suc, ◌+◌, ◌<◌, ◌≤◌, ◌^◌, ℤ, pos, negsuc, ◌-ℤ◌, ◌≤ℤ◌, false, List, [], ◌∷◌, map, Some, length, take, slice_get, arith}
use Rattle.std.proofs.lemmas.Int.{ints}
use Rattle.otio_model.specs.declared.compositions.ItemOf.{ItemOf}
use Rattle.otio_model.specs.declared.compositions.Listed.{Listed}
use Rattle.otio_model.specs.declared.seeks.Seat.{Seat}
use Rattle.otio_model.specs.Trees.{items_of}
use Rattle.otio_model.specs.Counts.{count}
use Rattle.otio_model.specs.Lengths.{added, lengths, length_of, start_of, or_zero}
use Rattle.otio_model.specs.Overlaps.{within}
use Rattle.otio_model.specs.Seats.{IsOutside, IsSeat}
use Rattle.coord.specs.Soundness.{AreFaultless}
use Rattle.show_prog.specs.Walk.{IsHolder}
use Rattle.show_prog.specs.declared.item_at.Held.{Held}
use Rattle.coord.proofs.SightLemmas.{lengths-items}
use Rattle.coord.proofs.ChildStarts.{start_next}
use Rattle.show_prog.proofs.SoundnessFacts.{here}
use Rattle.coord.proofs.LookSteps.{missed_behind, missed_before}
use Rattle.show_prog.proofs.Walk.{Passed, passed_begins, passed_next, passed_here}

pub record Got (xs : List (ItemOf Listed)) (i : ℕ) : Type 0 where
  pub item : ItemOf Listed
  pub got : slice_get xs i ≡ Some item

pub got : (xs : List (ItemOf Listed)) (i : ℕ) → i < length xs → Got xs i
got [] i h = absurd (omega (arith, h))
got (x ∷ xs) zero h = record { item = x; got = refl }
got (x ∷ xs) (suc i) h = let g =
    got xs i (omega (arith, h)) in record { item = g.item; got = g.got }

-- the walk up to a child that starts before the instant or at it
is_passed_to : (l : Listed) (at : ℤ) (i : ℕ) → AreFaultless l → count l < 2 ^ 32 → pos 0 ≤ℤ at
    → i ≤ length (items_of l) → pos (start_of l i) ≤ℤ at → Passed l at i (pos (start_of l i))
is_passed_to l at zero sound few low h past = passed_begins l at (pos (start_of l 0)) refl low
is_passed_to l at (suc i) sound few low h past =
    let g = got (items_of l) i (omega (arith, h)) in
    let s : i + 1 ≡ suc i = omega arith in
    let n = start_next l i g.item g.got in
    let e : start_of l (suc i) ≡ start_of l i + or_zero (length_of g.item) =
    ap (start_of l) (sym s) ∙ n in
    let p = is_passed_to l at i sound few low (omega (arith, h)) (omega (arith, ints, e, past)) in
    subst (λ k. Passed l at k (pos (start_of l (suc i)))) s
    (passed_next l at i g.item (pos (start_of l i)) (pos (start_of l (suc i))) p
    (here l i g.item g.got sound few) (omega (arith, ints, e)) past)

pub seated : (l : Listed) (at : ℤ) (s : Seat) (held : Held) → AreFaultless l → count l < 2 ^ 32
    → IsSeat l at s → held.index ≡ s.index → held.ticks ≡ at -ℤ s.start → IsHolder l at held
seated l at s held sound few k e f =
    let g = got (items_of l) s.index k.within in
    let n = start_next l s.index g.item g.got in
    let a = k.starts in let b = k.not_before in let c = k.not_behind in
    let p = is_passed_to l at s.index sound few (omega (arith, ints)) (omega (arith, k.within))
    (omega (arith, ints)) in
    passed_here l at s.index g.item (pos (start_of l s.index)) held p
    (here l s.index g.item g.got sound few) k.within (omega (arith, ints)) e (f
    ∙ ap (λ z. at -ℤ z) a)

pub unseated : (l : Listed) (at : ℤ) → IsOutside l at
    → within (pos 0) (pos (added (lengths l))) at ≡ false
unseated l (negsuc n) h = missed_before (pos 0) (pos (added (lengths l))) (negsuc n) (omega (arith, ints))
unseated l (pos n) h = let k : pos (added (lengths l)) ≤ℤ pos n =
    h (omega (arith, ints)) in missed_behind (pos 0) (pos (added (lengths l))) (pos n) (omega (arith, ints))
