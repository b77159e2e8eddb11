-- Which objects have a form in the older family of schemas (OpenTimelineIO's schema pages: Clip.1
-- holds one media reference, Marker.1 names its range `range`), and why one has none.
use Rattle.std.specs.Prelude.{◌≡◌, ◌&&◌, ◌||◌, ℕ, Bool, false, cond, List, [], ◌∷◌, Option, Some, None, codes, slice_get, option_and_then}
use Rattle.std.specs.List.{list_any}
use Rattle.std.specs.Str.{bytes_eq}
use Rattle.json_value.specs.declared.Json.{Json}
use Rattle.otio_model.specs.declared.compositions.Listed.{Listed}
use Rattle.otio_model.specs.declared.compositions.ItemOf.{ItemOf}
use Rattle.otio_model.specs.declared.compositions.ItemOf.TheVariants as I
use Rattle.otio_model.specs.declared.compositions.Clip.{Clip}
use Rattle.otio_model.specs.declared.markers.Marker.{Marker}
use Rattle.otio_model.specs.declared.markers.Marker.TheVariants as K
use Rattle.otio_model.specs.declared.media.Media.{Media}
use Rattle.otio_model.specs.declared.objects.Object.{Object, out-Object}
use Rattle.otio_model.specs.declared.objects.Object.TheOpen.{Object-F}
use Rattle.otio_model.specs.declared.objects.Collection.{Collection, out-Collection}
use Rattle.otio_model.specs.Trees.{below}
use Rattle.coord.specs.Soundness.{Precedes}
use Rattle.schema_write.specs.declared.old_faults.OldFault.{OldFault}
use Rattle.schema_write.specs.declared.old_faults.OldFault.TheVariants.{Keys, Member}
use Rattle.schema_write.specs.declared.old_faults.FamilyFault.{FamilyFault}
use Rattle.schema_write.specs.declared.old_faults.FamilyFault.TheVariants as F

-- the key of the one reference that a Clip.1 holds
abbrev pub is_default : List ℕ → Bool
is_default key = bytes_eq key (codes "DEFAULT_MEDIA")

-- there is exactly one reference, under that key
abbrev pub is_one_default : List (List ℕ × Media) → Bool
is_one_default [] = false
is_one_default (m ∷ []) = is_default m.0
is_one_default (m ∷ n ∷ more) = false

-- the clip has exactly one reference, under that key, which is the active one
abbrev pub has_one_key : Clip → Bool
has_one_key c = is_one_default c.media_references && is_default c.active_media_reference_key

-- some member has the name
abbrev pub has_member : List ℕ → List (List ℕ × Json) → Bool
has_member name = list_any (λ member. bytes_eq name member.0)

-- a known marker has another member `range`
abbrev pub has_range : Marker → Bool
has_range (K.Known m) = has_member (codes "range") m.rest
has_range (K.Kept json) = false

-- why a clip has no form in the older family, and why the markers of an item have none
abbrev pub clip_fault : Clip → Option OldFault
clip_fault c = cond (has_one_key c)
    (cond (has_member (codes "media_reference") c.rest || list_any has_range c.markers)
    (Some Member) None) (Some Keys)

abbrev pub markers_fault : List Marker → Option OldFault
markers_fault markers = cond (list_any has_range markers) (Some Member) None

-- why an item has no form there, whatever the items below it have
abbrev pub old_fault_of : ItemOf Listed → Option OldFault
old_fault_of (I.Clip c) = clip_fault c
old_fault_of (I.Gap g) = markers_fault g.markers
old_fault_of (I.Transition t) = None
old_fault_of (I.Stack s) = markers_fault s.markers
old_fault_of (I.Track t) = markers_fault t.markers

-- What a place leads to in an object. In a timeline or an item each index leads one level down, and
-- the empty place to the root stack or the item itself. In a collection the first index leads to
-- one of its objects.
abbrev pub held_in : Object-F Object Collection → List ℕ → Option (ItemOf Listed)
held_in (Object-F.Timeline t) place = below place (I.Stack t.tracks)
held_in (Object-F.Item x) place = below place x
held_in (Object-F.Collection c) [] = None
held_in (Object-F.Collection c) (i ∷ place) =
    option_and_then (λ object. held_in (out-Object object) place)
    (slice_get (out-Collection c).children i)

abbrev pub held_at : List ℕ → Object → Option (ItemOf Listed)
held_at place object = held_in (out-Object object) place

-- the object has a form in the older family: each item of it has one
abbrev pub HasOldForm : Object → Type 0
HasOldForm object = (place : List ℕ) (x : ItemOf Listed) → held_at place object ≡ Some x
    → old_fault_of x ≡ None

-- the item at the place has no form, for this reason, and each item before it in document order has
-- one
pub record IsFirstOld (object : Object) (place : List ℕ) (fault : OldFault) : Type 0 where
  pub item : ItemOf Listed
  pub there : held_at place object ≡ Some item
  pub has : old_fault_of item ≡ Some fault
  pub first : (before : List ℕ) (x : ItemOf Listed) → Precedes before place
      → held_at before object ≡ Some x → old_fault_of x ≡ None

-- why an object has no form in the older family; memory may run out with any object
abbrev pub IsOldFault : Object → FamilyFault → Type 0
IsOldFault object (F.Keys place) = IsFirstOld object place Keys
IsOldFault object (F.Member place) = IsFirstOld object place Member
IsOldFault object F.Memory = Unit {0}

-- the reason of the item at a place as that of its object
abbrev pub fault_at : List ℕ → OldFault → FamilyFault
fault_at place Keys = F.Keys place
fault_at place Member = F.Member place
