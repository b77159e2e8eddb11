-- The list that an accepted edit makes shows what its law says.
use Rattle.std.proofs.Common.{◌≡◌, refl, ap, ◌∙◌, ◌<◌, ℤ, ◌*ℤ◌, Some, None, List, arith}
use Rattle.std.proofs.lemmas.Int.{ints}
use Rattle.tick_time.specs.declared.rates.Rate.{Rate}
use Rattle.tick_time.specs.Rates.{unit, frame}
use Rattle.tick_time.proofs.Units.{unit_positive}
use Rattle.otio_model.specs.declared.compositions.ItemOf.{ItemOf}
use Rattle.otio_model.specs.declared.compositions.Listed.{Listed}
use Rattle.otio_model.specs.declared.timelines.Timeline.{Timeline}
use Rattle.otio_model.specs.declared.edit_types.Edit.{Edit}
use Rattle.coord.specs.Looks.{list_shows}
use Rattle.coord.specs.Sights.{View, looks}
use Rattle.edits.specs.Children.{all_made}
use Rattle.edits.specs.Edges.{held_at}
use Rattle.edits.specs.Edits.{edited}
use Rattle.edits.specs.Laws.{law}
use Rattle.edits.specs.Good.{AreFair, Suits}
use Rattle.edits.specs.Steady.{AreRangedBefore, Sees}
use Rattle.edits.specs.After.{frame_of, list_of, rate_of, place_of, at_of}
use Rattle.edits.specs.Refusals.{early_fault, place_fault, list_fault}
use Rattle.edits_law.proofs.Accepted.{later, passed}
use Rattle.edits_law.proofs.AllLaws.{accepted}
use Rattle.edits_law.proofs.Made.{made_looks}

pub frame_low : (r : Rate) → 0 < frame r.num r.den
frame_low r =
    let a = r.positive in let b = r.at_least_one in
    let e = unit_positive r.num r.den r.positive (omega (arith, ints)) r.small_num in omega (arith, e)

tests_left : (t : Timeline) (e : Edit) → early_fault t e ≡ None → list_fault t e (frame_of t) (list_of t e) (held_at (list_of t e) (at_of e *ℤ frame_of t)) ≡ None
tests_left t e k = later (place_fault (place_of e) t) (list_fault t e (frame_of t) (list_of t e) (held_at (list_of t e) (at_of e *ℤ frame_of t))) k

pub edit_shows : (v : View) (t : Timeline) (e : Edit) (m : List (ItemOf Listed)) (w : ℤ) → early_fault t e ≡ None → AreFair (list_of t e) → Suits e
    → all_made (rate_of t) (edited (frame_of t) e (list_of t e)) ≡ Some m → AreRangedBefore (edited (frame_of t) e (list_of t e)) → Sees v (edited (frame_of t) e (list_of t e))
    → list_shows (looks v m) w ≡ law v (frame_of t) e (list_of t e) w
edit_shows v t e m w k f s d b i =
    let r : Rate = rate_of t in
    ap (λ l. list_shows l w) (made_looks v (rate_of t) (edited (frame_of t) e (list_of t e)) m d b i)
    ∙ accepted v t e (frame (rate_of t).num (rate_of t).den) (unit (rate_of t).num (rate_of t).den) (list_of t e) w refl (frame_low (rate_of t)) f s
    (passed t e (frame_of t) (list_of t e) (held_at (list_of t e) (at_of e *ℤ frame_of t)) (tests_left t e k))
