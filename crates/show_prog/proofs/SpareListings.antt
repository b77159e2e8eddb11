-- What is listed doesn't depend on the memory that a timeline keeps to spare.
use Rattle.std.proofs.Common.{◌≡◌, Bool, ap}
use Rattle.otio_model.specs.declared.timelines.Timeline.{Timeline}
use Rattle.otio_model.specs.Timelines.{bare}
use Rattle.show_prog.specs.ListingTexts.{listed_text}

pub listed_bare : (a b : Timeline) (tracks clips media stats : Bool) → bare a ≡ bare b
    → listed_text a tracks clips media stats ≡ listed_text b tracks clips media stats
listed_bare a b tracks clips media stats e = ap (λ (t : Timeline). listed_text t tracks clips media stats) e
