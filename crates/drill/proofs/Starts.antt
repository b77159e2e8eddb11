-- A seed has one timeline, the memory that it keeps to spare aside.
use Rattle.std.proofs.Common.{◌≡◌, sym, ap, ◌∙◌, ℕ, List, [], ◌∷◌, Some}
use Rattle.otio_model.specs.declared.compositions.ItemOf.{ItemOf}
use Rattle.otio_model.specs.declared.compositions.Listed.{Listed}
use Rattle.otio_model.specs.declared.timelines.Timeline.{Timeline}
use Rattle.otio_model.specs.Timelines.{bare}
use Rattle.tick_time.specs.FixedRates.{rate_24}
use Rattle.edit_script.specs.declared.commands.Put.{Put}
use Rattle.tick_time.proofs.SameValues.{same_frames}
use Rattle.edit_script.proofs.OnceRun.{one_item}
use Rattle.drill.specs.Media.{rows}
use Rattle.drill.specs.Starting.{AreItems, IsStart, first_frame, start_clips, timeline_with}

one_list : (puts : List Put) (xs ys : List (ItemOf Listed)) → AreItems puts xs → AreItems puts ys
    → xs ≡ ys
one_list [] xs ys i j = i ∙ sym j
one_list (put ∷ puts) xs ys (x, others, e, item, more) (y, rest, f, again, left) =
    e
    ∙ ap (λ z. z ∷ others) (one_item rate_24 (Some rows) put x y item again)
    ∙ ap (λ l. y ∷ l) (one_list puts others rest more left)
    ∙ sym f

pub one_start : (seed : ℕ) (t u : Timeline) → IsStart seed t → IsStart seed u → bare t ≡ bare u
one_start seed t u i j =
    i.is
    ∙ ap (λ s. timeline_with s i.items) (same_frames rate_24 first_frame i.start j.start i.begins
    j.begins)
    ∙ ap (timeline_with j.start) (one_list (start_clips seed) i.items j.items i.drawn j.drawn)
    ∙ sym j.is
