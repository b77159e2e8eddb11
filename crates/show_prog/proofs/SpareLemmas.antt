-- What is listed doesn't depend on the memory that a timeline keeps to spare.
use Rattle.std.proofs.Common.{◌≡◌, ℕ, ap, Option}
use Rattle.otio_model.specs.declared.timelines.Timeline.{Timeline}
use Rattle.otio_model.specs.Timelines.{bare}
use Rattle.smpte_tc.specs.declared.points.RecordPoint.{RecordPoint}
use Rattle.show_prog.specs.declared.frame_range.Listing.{Listing}
use Rattle.show_prog.specs.Rows.{listing_of, listing_text}

pub listing_bare : (a b : Timeline) (child : Option ℕ) (start : Option RecordPoint) (count : Option ℕ) → bare a ≡ bare b → listing_of a child start count ≡ listing_of b child start count
listing_bare a b child start count e = ap (λ (t : Timeline). listing_of t child start count) e

pub text_bare : (a b : Timeline) (l : Listing) → bare a ≡ bare b → listing_text a l ≡ listing_text b l
text_bare a b l e = ap (λ (t : Timeline). listing_text t l) e
