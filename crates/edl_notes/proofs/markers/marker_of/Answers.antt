use Rattle.std.proofs.Common.{◌∙◌, ap, refl, pos, codes, [], ◌∷◌, w64, FitsSigned}
use Rattle.std.proofs.lemmas.Int.{to_z-of_z}
use Rattle.json_value.specs.declared.Json.{Str}
use Rattle.otio_model.specs.declared.markers.Mark.{Mark}
use Rattle.edl_frames.specs.Conformed.{IsSpanOf}
use Rattle.edl_notes.proofs.markers.marker_of.Goals as goal

pub returns : goal.returns
returns c =
    let m = c.in_ok-of-2.ensures in
    let frame : FitsSigned w64 c.args.frame = c.ranges.frame in
    let span : IsSpanOf c.args.rate c.args.frame (pos 1) c.frame_span.result = simp to_z-of_z at c.frame_span.ensures in
    record {
      mark = c.in_ok-of-2.field-0;
      is = refl;
      metadata = ap (λ (k : Mark). k.metadata) m ∙ c.new.ensures;
      name_is = ap (λ (k : Mark). k.name) m ∙ c.in_ok-of.ensures ∙ c.as_str-2.ensures;
      range = (c.frame_span.result, ap (λ (k : Mark). k.marked_range) m, span);
      rest = ap (λ (k : Mark). k.rest) m ∙ c.in_ok-one.ensures ∙ ap (λ s. (codes "color", Str s) ∷ []) (c.in_ok-color.ensures ∙ c.as_str.ensures);
    }
