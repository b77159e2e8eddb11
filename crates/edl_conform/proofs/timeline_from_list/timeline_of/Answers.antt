use Rattle.std.proofs.Common.{sym, subst, ap, ◌∙◌, ◌∷◌, [], pos, ◌*ℤ◌}
use Rattle.std.specs.Option.{option_copied}
use Rattle.otio_model.specs.declared.compositions.StackOf.{StackOf}
use Rattle.otio_model.specs.declared.compositions.Listed.{Listed}
use Rattle.otio_model.specs.Trees.{items_of}
use Rattle.edl_list.specs.declared.list.Channel.TheVariants.{V, A, A2}
use Rattle.edl_frames.specs.Conformed.{AreTracks}
use Rattle.tick_time.specs.Frames.{IsFrames}
use Rattle.tick_time.specs.Rates.{frame}
use Rattle.tick_time.specs.Times.{IsInRange}
use Rattle.edl_law.proofs.EventRanges.{first_timed}
use Rattle.edl_conform.proofs.LoopSteps.{kept_as}
use Rattle.edl_conform.proofs.timeline_from_list.timeline_of.Goals as goal

pub returns : goal.returns
returns c =
    let rate = c.args.list.now.rate in
    let first =
    kept_as rate _ _ c.first_record.ensures (first_timed c.args.list.now c.requires) in
    let media = option_copied c.args.media in
    let root = c.in_ok-root.ensures in
    let made = c.of-2.ensures in
    record {
      metadata = made.metadata ∙ c.new.ensures;
      name = made.name ∙ c.in_ok-title.ensures ∙ c.as_str.ensures;
      start = (
        c.of_frames.result,
        made.global_start_time,
        subst (λ z. IsFrames rate z c.of_frames.result) first c.of_frames.ensures,
      );
      tracks = subst (AreTracks c.args.list.now media (V ∷ A ∷ A2 ∷ []))
          (sym (ap (λ (s : StackOf Listed). items_of s.children) made.tracks ∙ root.children))
          c.in_ok-tracks.ensures;
      root_metadata = ap (λ (s : StackOf Listed). s.metadata) made.tracks ∙ root.metadata;
      root_name = ap (λ (s : StackOf Listed). s.name) made.tracks ∙ root.name;
      root_source = ap (λ (s : StackOf Listed). s.source_range) made.tracks ∙ root.source;
      root_effects = ap (λ (s : StackOf Listed). s.effects) made.tracks ∙ root.effects;
      root_markers = ap (λ (s : StackOf Listed). s.markers) made.tracks ∙ root.markers;
      root_enabled = ap (λ (s : StackOf Listed). s.enabled) made.tracks ∙ root.enabled;
      root_rest = ap (λ (s : StackOf Listed). s.rest) made.tracks ∙ root.rest;
      rest = made.rest ∙ c.new-2.ensures;
    }

pub of_frames-requires : goal.of_frames-requires
of_frames-requires c =
    let rate = c.args.list.now.rate in
    let timed = first_timed c.args.list.now c.requires in
    record {
      range = subst (λ z. IsInRange (z *ℤ pos (frame rate.num rate.den)))
          (sym (kept_as rate _ _ c.first_record.ensures timed)) timed.range;
    }
