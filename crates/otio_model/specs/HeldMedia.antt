-- The media references of a clip, wherever they lie.
use Rattle.std.specs.Prelude.{ℕ, List}
use Rattle.otio_model.specs.declared.media.Media.{Media}
use Rattle.otio_model.specs.declared.media.HeldMedia.{HeldMedia}
use Rattle.otio_model.specs.declared.media.HeldMedia.TheVariants.{Own, Common}

abbrev pub pairs_of : HeldMedia → List (List ℕ × Media)
pairs_of (Own place pairs) = pairs
pairs_of (Common rc) = rc.value
