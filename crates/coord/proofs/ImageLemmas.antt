-- What is seen, and what is shown.
use Rattle.std.proofs.Common.{◌≡◌, refl}
use Rattle.coord.specs.Looks.{Show, Blank, Frame, Mix, is_blank}
use Rattle.coord.specs.Images.{image, is_empty}

pub empty_is : (s : Show) → is_empty (image s) ≡ is_blank s
empty_is Blank = refl
empty_is (Frame k m r) = refl
empty_is (Mix k a b w) = refl
