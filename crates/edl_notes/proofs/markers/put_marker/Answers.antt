use Rattle.std.proofs.Common.{◌≡◌, ◌∙◌, ap, refl, sym, subst, pos, ◌-ℤ◌, ◌*ℤ◌, ◌<ℤ◌, [], ◌∷◌, w64, FitsSigned, rules}
use Rattle.std.proofs.lemmas.Int.{to_z-of_z}
use Rattle.tick_time.specs.Rates.{frame}
use Rattle.tick_time.specs.Times.{IsInRange}
use Rattle.edl_frames.specs.Shown.{source_frame as shown}
use Rattle.edl_notes.specs.Steps.{AddsMarkers, IsMarkerAt}
use Rattle.edl_notes.proofs.MarkerSteps.{adds_marker, apart, counts_loc, in_range}
use Rattle.edl_notes.proofs.markers.put_marker.Goals as goal

pub source_frame-frame-requires-clause-high : goal.source_frame-frame-requires-clause-high
source_frame-frame-requires-clause-high c =
    let e = c.args.event.now in
    let k = counts_loc c.args.rate e c.args.said.now c.in-Loc.at c.in-Loc.color c.in-Loc.name c.in-Loc.is c.requires.counts in
    let a = apart c.args.rate e c.in-Loc.at c.requires.timecode c.requires.event k in
    subst (λ z. z <ℤ pos 5184000) (sym a.is) a.short

pub marker_of-requires : goal.marker_of-requires
marker_of-requires c =
    let rate = c.args.rate in
    let e = c.args.event.now in
    let k = counts_loc rate e c.args.said.now c.in-Loc.at c.in-Loc.color c.in-Loc.name c.in-Loc.is c.requires.counts in
    let a = apart rate e c.in-Loc.at c.requires.timecode c.requires.event k in
    let fits : FitsSigned w64 c.source_frame-frame.result = search rules in
    let is : c.source_frame-frame.result ≡ shown rate e.to (c.in-Loc.at -ℤ e.rec_in) = c.source_frame-frame.ensures ∙ ap (λ z. shown rate e.to z) a.is in
    subst (λ z. IsInRange (z *ℤ pos (frame rate.num rate.den))) (sym (to_z-of_z w64 c.source_frame-frame.result fits ∙ is)) (in_range rate e c.in-Loc.at c.requires.timecode c.requires.event k)

pub returns-in_ok-push-in-Loc : goal.returns-in_ok-push-in-Loc
returns-in_ok-push-in-Loc c =
    let rate = c.args.rate in
    let e = c.args.event.now in
    let at = c.in-Loc.at in
    let marker = c.in_ok-marker-in-Loc.marker in
    let k = counts_loc rate e c.args.said.now at c.in-Loc.color c.in-Loc.name c.in-Loc.is c.requires.counts in
    let a = apart rate e at c.requires.timecode c.requires.event k in
    let fits : FitsSigned w64 c.source_frame-frame.result = search rules in
    let is : c.source_frame-frame.result ≡ shown rate e.to (at -ℤ e.rec_in) = c.source_frame-frame.ensures ∙ ap (λ z. shown rate e.to z) a.is in
    let h : IsMarkerAt rate (shown rate e.to (at -ℤ e.rec_in)) c.in-Loc.color c.in-Loc.name marker =
    subst (λ z. IsMarkerAt rate z c.in-Loc.color c.in-Loc.name marker) (to_z-of_z w64 c.source_frame-frame.result fits ∙ is) c.in_ok-marker-in-Loc.ensures in
    subst (λ s. AddsMarkers rate e (s ∷ []) c.args.markers.now c.push.new.self) (sym c.in-Loc.is)
    (adds_marker rate e at (shown rate e.to (at -ℤ e.rec_in)) c.in-Loc.color c.in-Loc.name marker c.args.markers.now c.push.new.self refl h c.in_ok-push-in-Loc.ensures.added)
