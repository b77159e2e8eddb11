use Rattle.std.proofs.Common.{◌≡◌, Some, slice_get, sym, ap, ◌∙◌}
use Rattle.std.specs.Option.{option_copied}
use Rattle.flat.specs.Joined.{own_items}
use Rattle.flat_stack.specs.Inputs.{list_of}
use Rattle.flat_stack.specs.Portions.{items_or}
use Rattle.flat_stack.proofs.JoinedTracks.{own_in}
use Rattle.flat_stack.proofs.planned_tracks.enabled_track.Goals as goal

pub returns-in-Some-enabled_children-clause-there : goal.returns-in-Some-enabled_children-clause-there
returns-in-Some-enabled_children-clause-there c =
    let got : slice_get (list_of c.args.part.now) c.args.number ≡ Some c.in-Some.track.now =
    sym c.root_of.ensures ∙ ap option_copied c.in-Some.is in
    record { item = c.in-Some.track.now; there = got; are = c.in-Some-enabled_children.ensures.there }

pub returns-in-Some-enabled_children-clause-some : goal.returns-in-Some-enabled_children-clause-some
returns-in-Some-enabled_children-clause-some c =
    let got : slice_get (list_of c.args.part.now) c.args.number ≡ Some c.in-Some.track.now =
    sym c.root_of.ensures ∙ ap option_copied c.in-Some.is in
    c.in-Some-enabled_children.ensures.some ∙ ap own_items (sym got)

pub returns-in-Some-enabled_children-clause-number : goal.returns-in-Some-enabled_children-clause-number
returns-in-Some-enabled_children-clause-number c =
    let got : slice_get (list_of c.args.part.now) c.args.number ≡ Some c.in-Some.track.now =
    sym c.root_of.ensures ∙ ap option_copied c.in-Some.is in
    ap items_or got
    ∙ own_in c.in-Some.track.now c.in-Some-enabled_children.children.now
    c.in-Some-enabled_children.ensures.there c.in-Some-enabled_children.ensures.some
    ∙ ap own_items (sym got)

pub returns-in-None-enabled_children-clause-none : goal.returns-in-None-enabled_children-clause-none
returns-in-None-enabled_children-clause-none c =
    let got : slice_get (list_of c.args.part.now) c.args.number ≡ Some c.in-Some.track.now =
    sym c.root_of.ensures ∙ ap option_copied c.in-Some.is in
    ap own_items got ∙ c.in-None-enabled_children.ensures.none

pub returns-in-None-clause-none : goal.returns-in-None-clause-none
returns-in-None-clause-none c = ap own_items (sym c.root_of.ensures ∙ ap option_copied c.in-None.is)
