use Rattle.std.proofs.Common.{◌∙◌, ap, sym}
use Rattle.dev_io.proofs.BufferLemmas.{puts_then, puts_as}
use Rattle.otio_model.specs.PlaceTexts.{place_text}
use Rattle.show_prog.specs.Places.{place_of}
use Rattle.show_prog.proofs.PlaceLemmas.{place_of-Child, place_of-Root, place_last}
use Rattle.show_prog.proofs.places.put_place.Goals as goal

pub returns-in-Root : goal.returns-in-Root
returns-in-Root g c =
    puts_as _ c.put.ensures (ap place_text (sym (ap place_of c.in-Root.is ∙ place_of-Root)))

pub returns-in-Child : goal.returns-in-Child
returns-in-Child g c =
    let way = c.in-Child in
    puts_as _ (puts_then c.put_lead.ensures c.put_number.ensures)
    (place_last (place_of way.outer.now) way.index
    ∙ ap place_text (sym (ap place_of way.is ∙ place_of-Child way.outer way.index)))
