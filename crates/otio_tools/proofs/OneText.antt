-- What is written of a timeline doesn't depend on its spare memory.
use Rattle.std.proofs.Common.{◌≡◌, ap}
use Rattle.json_text.specs.Layout.{layout}
use Rattle.otio_model.specs.declared.objects.Object.{Object}
use Rattle.otio_model.specs.declared.timelines.Timeline.{Timeline}
use Rattle.otio_model.specs.Timelines.{bare}
use Rattle.schema_write.specs.Objects.{json_of, old_json_of}
use Rattle.show_prog.specs.declared.frame_options.Listings.{Listings}
use Rattle.otio_tools.specs.Written.{listings_text, object_json, old_object_json, timeline_text}
use Rattle.otio_tools.proofs.Formats.{bare_json}

-- the JSON of objects that are written
pub same_json : (a b : Object) → json_of a ≡ json_of b → object_json a ≡ object_json b
unfolding object_json
same_json a b e = e

-- the same in the older family
pub same_old_json : (a b : Object) → old_json_of a ≡ old_json_of b
    → old_object_json a ≡ old_object_json b
unfolding old_object_json
same_old_json a b e = e

pub same_text : (t u : Timeline) → bare t ≡ bare u → timeline_text t ≡ timeline_text u
same_text t u same = ap layout (same_json _ _ (bare_json t u same))

pub same_listings : (t u : Timeline) (asked : Listings) → bare t ≡ bare u
    → listings_text t asked ≡ listings_text u asked
same_listings t u asked same = ap (λ x. listings_text x asked) same
