use Rattle.std.proofs.Common.{◌∙◌, ap, sym}
use Rattle.dev_io.proofs.BufferLemmas.{puts_then, puts_as}
use Rattle.show_prog.specs.Places.{lead_text, place_of}
use Rattle.show_prog.proofs.PlaceLemmas.{place_of-Child, lead_more}
use Rattle.show_prog.proofs.places.+put_lead.Goals as goal

pub returns-in-Child : goal.returns-in-Child
returns-in-Child g t c =
    let way = c.in-Child in
    puts_as _ (puts_then c.put_lead.ensures (puts_then c.put_number.ensures c.put.ensures))
    (lead_more (place_of way.outer.now) way.index
    ∙ ap lead_text (sym (ap place_of way.is ∙ place_of-Child way.outer way.index)))
