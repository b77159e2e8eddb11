-- The events of one channel follow one another.
use Rattle.std.proofs.Common.{◌≡◌, ◌≤ℤ◌, ◌<ℤ◌, inl, inr, get_or, arith}
use Rattle.std.specs.Prelude.{AllPairs}
use Rattle.std.proofs.lemmas.Int.{ints}
use Rattle.edl_list.specs.declared.list.Event.{Event}
use Rattle.edl_list.specs.declared.list.EventList.{EventList}
use Rattle.edl_list.specs.Formed.{AreInOrder, AreApart, IsWellFormed}
use Rattle.edl_list.specs.Laws.{RunsOn}

pub goes_after : (a b : Event) → a.channel ≡ b.channel → a.rec_in <ℤ a.rec_out
    → b.rec_in <ℤ b.rec_out → AreInOrder a b → AreApart a b → a.rec_out ≤ℤ b.rec_in
goes_after a b c s t o p = elim (p c) [
  | inl h ↦ h
  | inr h ↦ elim o [
    | inl k ↦ absurd (omega (arith, ints, h, k, t))
    | inr k ↦ absurd (omega (arith, ints, h, k.0, t))
  ]
]

pub runs_on : (list : EventList) → IsWellFormed list → AllPairs RunsOn list.events
runs_on list w = λ i j d less within same.
    let a = get_or list.events i d in
    let b = get_or list.events j d in
    let first = (w.events i d (omega (arith, less, within))).some in
    let second = (w.events j d within).some in
    goes_after a b same first second (w.order i j d less within) (w.apart i j d less within)
