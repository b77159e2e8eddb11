-- What pictures stand for.
use Rattle.coord.specs.Looks.{Key, Url, Sequence, Generator, Reel, Name}
use Rattle.coord.specs.Images.{Kind, Dissolve, Wipe, Other, Image, Empty, Single, Mixture}
use Rattle.show_prog.specs.declared.picture.KeyRef.{KeyRef}
use Rattle.show_prog.specs.declared.picture.KeyRef.TheVariants as key
use Rattle.show_prog.specs.declared.picture.MixKind.{MixKind}
use Rattle.show_prog.specs.declared.picture.MixKind.TheVariants as kind
use Rattle.show_prog.specs.declared.picture.Picture.{Picture, fold-Picture}
use Rattle.show_prog.specs.declared.picture.Picture.TheOpen.{Picture-F}

abbrev pub key_of : KeyRef → Key
key_of (key.Url url) = Url url.now
key_of (key.Sequence base prefix suffix) = Sequence base.now prefix.now suffix.now
key_of (key.Generator generator) = Generator generator.now
key_of (key.Reel reel) = Reel reel.now
key_of (key.Name name) = Name name.now

abbrev pub kind_of : MixKind → Kind
kind_of kind.Dissolve = Dissolve
kind_of (kind.Wipe code) = Wipe code
kind_of (kind.Other type) = Other type.now

abbrev pub image_step : Picture-F Image → Image
image_step Picture-F.Blank = Empty
image_step (Picture-F.Frame key number) = Single (key_of key) number
image_step (Picture-F.Mix kind from to num den) =
    Mixture (kind_of kind) from.value to.value (record { num = num; den = den })

-- what a picture stands for
abbrev pub image_of : Picture → Image
image_of = fold-Picture Image image_step
