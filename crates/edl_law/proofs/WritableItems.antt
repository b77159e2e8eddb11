-- The items of a conformed track are writable where the speeds of its sides are speeds.
use Rattle.std.proofs.Common.{◌≡◌, refl, sym, subst, ℕ, zero, suc, ◌==◌, ℤ, pos, ◌-ℤ◌, Bool, true, false, cond, List, [], ◌∷◌, Option, Some, None, slice_get}
use Rattle.std.specs.Prelude.{All}
use Rattle.std.proofs.lemmas.Bool.{or_parts}
use Rattle.std.proofs.lemmas.List.Elements.{All-head, All-tail}
use Rattle.tick_time.specs.declared.rates.Rate.{Rate}
use Rattle.tick_time.specs.Times.{IsSpeed}
use Rattle.otio_model.specs.declared.media.Media.{Media}
use Rattle.otio_model.specs.declared.compositions.ItemOf.{ItemOf}
use Rattle.otio_model.specs.declared.compositions.ItemOf.TheVariants.{Transition}
use Rattle.otio_model.specs.declared.compositions.Listed.{Listed}
use Rattle.otio_model.specs.Misplaced.{is_negative, has_misplaced}
use Rattle.schema_rows.specs.declared.schemas.Schema.TheVariants as S
use Rattle.edl_list.specs.declared.list.Reel.{Reel}
use Rattle.edl_list.specs.declared.list.Reel.TheVariants.{Black, Named}
use Rattle.edl_list.specs.declared.list.Side.{Side}
use Rattle.edl_list.specs.declared.list.Event.{Event}
use Rattle.edl_list.specs.Speeds.{side_speed}
use Rattle.media_rows.specs.declared.row.MediaRow.{MediaRow}
use Rattle.media_rows.specs.Rows.{MediaRows, row_of}
use Rattle.edl_frames.specs.Conformed as C
use Rattle.edl_frames.specs.Conformed.{Pair, pair_of, effects_at, still, warp, IsReference}
use Rattle.object_law.specs.Writable as W
use Rattle.object_law.specs.Writable.{AreOthers, AreEffects, AreMarkers, AreMedia, IsMedium}

-- the speed of a side is a speed of effects
abbrev pub IsSpeedy : Rate → Side → Type 0
IsSpeedy rate side = IsSpeed (pos (side_speed rate side))

-- so is that of each side of an event
pub record AreSpeedy (rate : Rate) (e : Event) : Type 0 where
  pub to : IsSpeedy rate e.to
  pub from : (p : Pair) → pair_of e.cross ≡ Some p → IsSpeedy rate p.from

effects_writable : (speed : ℕ) → IsSpeed (pos speed) → AreEffects (effects_at speed)
effects_writable speed h = by (speed == 1000000) (speed == 0)
  where
    by : (own stands : Bool)
        → AreEffects (cond own [] (cond stands (still ∷ []) (warp speed ∷ [])))
    by true stands = tt
    by false true = ((refl, refl), tt)
    by false false = ((h, refl), tt)

medium_writable : (row : Option MediaRow) (m : Media) → IsReference row m → IsMedium m
medium_writable None m e = subst IsMedium (sym e) refl
medium_writable (Some row) m e = subst IsMedium (sym e.2) refl

clip_writable : (rate : Rate) (row : Option MediaRow) (side : Side) (reel : List ℕ) (count : ℤ)
    (x : ItemOf Listed) → IsSpeedy rate side → C.IsClip rate row side reel count x → W.IsItem x
clip_writable rate row side reel count x h i = W.clip x i.clip i.is (
  subst (AreOthers S.Clip) (sym i.rest) refl,
  subst AreEffects (sym i.effects) (effects_writable (side_speed rate side) h),
  subst AreMarkers (sym i.markers) tt,
  subst AreMedia (sym i.references) (medium_writable row i.reference i.listed, tt),
)

gap_writable : (rate : Rate) (count : ℤ) (x : ItemOf Listed) → C.IsGap rate count x → W.IsItem x
gap_writable rate count x i = W.gap x i.gap i.is (
  subst (AreOthers S.Gap) (sym i.rest) refl,
  subst AreEffects (sym i.effects) tt,
  subst AreMarkers (sym i.markers) tt,
)

item_writable : (rate : Rate) (media : MediaRows) (side : Side) (count : ℤ) (x : ItemOf Listed)
    → IsSpeedy rate side → C.IsItem rate media side count x → W.IsItem x
item_writable rate media side count x h i = by side.reel i
  where
    by : (r : Reel) → C.IsReelItem rate media side r count x → W.IsItem x
    by Black j = gap_writable rate count x j
    by (Named reel) j = clip_writable rate (row_of media reel) side reel count x h j

transition_writable : (rate : Rate) (type : List ℕ) (frames : ℕ) (x : ItemOf Listed)
    → has_misplaced x ≡ false → C.IsTransition rate type frames x → W.IsItem x
transition_writable rate type frames x h i =
    let t = i.transition in
    let calm : has_misplaced (Transition t) ≡ false =
    subst (λ (y : ItemOf Listed). has_misplaced y ≡ false) i.is h in
    let offsets = or_parts (is_negative t.in_offset) (is_negative t.out_offset) calm in
    W.transition x t i.is
    (subst (AreOthers S.Transition) (sym i.rest) refl, offsets.0, offsets.1)

-- each item of the list keeps its rule on transitions
abbrev pub AreInPlace : List (ItemOf Listed) → Type 0
AreInPlace xs = (i : ℕ) (x : ItemOf Listed) → slice_get xs i ≡ Some x → has_misplaced x ≡ false

behind : (x : ItemOf Listed) (xs : List (ItemOf Listed)) → AreInPlace (x ∷ xs) → AreInPlace xs
behind x xs h = λ i y e. h (suc i) y e

pub items_more : (x : ItemOf Listed) (xs : List (ItemOf Listed)) → W.IsItem x → W.AreItems xs
    → W.AreItems (x ∷ xs)
items_more x xs i h = W.more_items (x ∷ xs) x xs refl i h

-- the items of a channel's events
pub items_writable : (rate : Rate) (media : MediaRows) (before : Option Event) (at : ℤ)
    (es : List Event) (items : List (ItemOf Listed)) → All (λ (e : Event). AreSpeedy rate e) es
    → AreInPlace items → C.AreItems rate media before at es items → W.AreItems items
items_writable rate media before at es items h calm (C.end _ _) = W.no_items [] refl
items_writable rate media before at es items h calm
    (C.gap _ _ e rest x others later is_gap others_are) =
    items_more x others (gap_writable rate (e.rec_in -ℤ at) x is_gap)
    (items_writable rate media before e.rec_in (e ∷ rest) others h (behind x others calm)
    others_are)
items_writable rate media before at es items h calm
    (C.cut _ _ e rest x others here is_cut item others_are) =
    let own = All-head (λ (e : Event). AreSpeedy rate e) e rest h in
    items_more x others (item_writable rate media e.to (e.rec_out -ℤ e.rec_in) x own.to item)
    (items_writable rate media (Some e) e.rec_out rest others
    (All-tail (λ (e : Event). AreSpeedy rate e) e rest h) (behind x others calm) others_are)
items_writable rate media before at es items h calm
    (C.pair _ _ e rest p t x others here is_pair served transition item others_are) =
    let own = All-head (λ (e : Event). AreSpeedy rate e) e rest h in
    let calm_behind = behind x others (behind t (x ∷ others) calm) in
    items_more t (x ∷ others)
    (transition_writable rate p.type p.frames t (calm zero t refl) transition)
    (items_more x others (item_writable rate media e.to (e.rec_out -ℤ e.rec_in) x own.to item)
    (items_writable rate media (Some e) e.rec_out rest others
    (All-tail (λ (e : Event). AreSpeedy rate e) e rest h) calm_behind others_are))
items_writable rate media before at es items h calm
    (C.pair_with_side _ _ e rest p s t x others here is_pair served side transition item
    others_are) =
    let own = All-head (λ (e : Event). AreSpeedy rate e) e rest h in
    let calm_pair = behind s (t ∷ x ∷ others) calm in
    let calm_behind = behind x others (behind t (x ∷ others) calm_pair) in
    items_more s (t ∷ x ∷ others)
    (item_writable rate media p.from (pos 0) s (own.from p is_pair) side)
    (items_more t (x ∷ others)
    (transition_writable rate p.type p.frames t (calm_pair zero t refl) transition)
    (items_more x others (item_writable rate media e.to (e.rec_out -ℤ e.rec_in) x own.to item)
    (items_writable rate media (Some e) e.rec_out rest others
    (All-tail (λ (e : Event). AreSpeedy rate e) e rest h) calm_behind others_are)))
