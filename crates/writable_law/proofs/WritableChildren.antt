-- What writable items become: another range, one effect more.
use Rattle.std.proofs.Common.{◌≡◌, refl, sym, ap, subst, ◌||◌, not, Bool, true, false}
use Rattle.std.proofs.Common.{ℤ, pos, ◌-ℤ◌, List, [], ◌∷◌, ◌++◌, Some, arith}
use Rattle.std.specs.Prelude.{int_le}
use Rattle.std.proofs.lemmas.Int.{ints}
use Rattle.std.proofs.lemmas.Bool.{and_parts as both_true}
use Rattle.tick_time.specs.declared.rates.Rate.{Rate}
use Rattle.tick_time.specs.declared.spans.Span.{Span}
use Rattle.tick_time.specs.Times.{IsSpeed, is_speed}
use Rattle.otio_model.specs.declared.compositions.ItemOf.{ItemOf}
use Rattle.otio_model.specs.declared.compositions.Listed.{Listed}
use Rattle.otio_model.specs.declared.compositions.StackOf.{StackOf}
use Rattle.otio_model.specs.declared.compositions.TrackOf.{TrackOf}
use Rattle.otio_model.specs.declared.effect_types.Effect.{Effect}
use Rattle.coord.specs.Speeds.{speed_of}
use Rattle.edits.specs.Children.{Child, Old, Ranged, made, new_gap, plain_gap, ticks, with_range}
use Rattle.edits.specs.Edges.{is_zero}
use Rattle.edits.specs.Edits.{fit_speed, fitted, warp, with_effect}
use Rattle.edits.specs.Refusals.{is_wrong_fit}
use Rattle.edits_law.proofs.MadeParts.{ranged_item, same_item}
use Rattle.object_law.specs.Writable as W
use Rattle.object_law.specs.Writable.{AreEffects, AreItems, IsEffect, IsItem}

-- whatever item a child makes is writable
abbrev pub IsWritableChild : Child → Type 0
IsWritableChild c = (r : Rate) (y : ItemOf Listed) → made r c ≡ Some y → IsItem y

abbrev pub AreWritable : List (ItemOf Listed) → Type 0
AreWritable [] = Unit {0}
AreWritable (x ∷ l) = IsItem x × AreWritable l

abbrev pub AreWritableChildren : List Child → Type 0
AreWritableChildren [] = Unit {0}
AreWritableChildren (c ∷ l) = IsWritableChild c × AreWritableChildren l

pub each_item : (l : List (ItemOf Listed)) → AreItems l → AreWritable l
each_item l (W.no_items _ e) = subst AreWritable (sym e) tt
each_item l (W.more_items _ x m e h k) = subst AreWritable (sym e) (h, each_item m k)

pub all_items : (l : List (ItemOf Listed)) → AreWritable l → AreItems l
all_items [] k = W.no_items [] refl
all_items (x ∷ l) k = W.more_items (x ∷ l) x l refl k.0 (all_items l k.1)

-- ---- another range

stack_ranged : (w : Span) (s : StackOf Listed) → W.IsStack s
    → W.IsStack (record s { source_range = Some w })
stack_ranged w s (W.stack_of _ o effects markers none items) =
    W.stack_of (record s { source_range = Some w }) o effects markers none items

track_ranged : (w : Span) (t : TrackOf Listed) → W.IsTrack t
    → W.IsTrack (record t { source_range = Some w })
track_ranged w t (W.track_of _ o effects markers apart items) =
    W.track_of (record t { source_range = Some w }) o effects markers apart items

with_range_is : (w : Span) (x : ItemOf Listed) → IsItem x → IsItem (with_range w x)
with_range_is w x (W.clip _ c e h) =
    W.clip (with_range w x) (record c { source_range = Some w }) (ap (with_range w) e) h
with_range_is w x (W.gap _ g e h) =
    W.gap (with_range w x) (record g { source_range = Some w }) (ap (with_range w) e) h
with_range_is w x (W.transition _ t e h) = W.transition (with_range w x) t (ap (with_range w) e) h
with_range_is w x (W.stack _ s e h) =
    W.stack (with_range w x) (record s { source_range = Some w }) (ap (with_range w) e)
    (stack_ranged w s h)
with_range_is w x (W.track _ t e h) =
    W.track (with_range w x) (record t { source_range = Some w }) (ap (with_range w) e)
    (track_ranged w t h)

pub ranged_writable : (x : ItemOf Listed) (s n : ℤ) → IsItem x → IsWritableChild (Ranged x s n)
ranged_writable x s n k r y e =
    let m = ranged_item r x s n y e in subst IsItem m.is (with_range_is m.span x k)

pub old_writable : (x : ItemOf Listed) → IsItem x → IsWritableChild (Old x)
old_writable x k r y e = subst IsItem (same_item x y e) k

pub gap_writable : (n : ℤ) → IsWritableChild (new_gap n)
gap_writable n = ranged_writable plain_gap (pos 0) n
    (W.gap plain_gap _ refl (refl, tt, tt))

-- ---- one effect more

effects_more : (es : List Effect) (e : Effect) → AreEffects es → IsEffect e
    → AreEffects (es ++ e ∷ [])
effects_more [] e k h = (h, tt)
effects_more (d ∷ es) e k h = (k.0, effects_more es e k.1 h)

stack_effected : (f : Effect) (s : StackOf Listed) → IsEffect f → W.IsStack s
    → W.IsStack (record s { effects = s.effects ++ f ∷ [] })
stack_effected f s k (W.stack_of _ o effects markers none items) =
    W.stack_of (record s { effects = s.effects ++ f ∷ [] }) o (effects_more s.effects f effects k)
    markers none items

track_effected : (f : Effect) (t : TrackOf Listed) → IsEffect f → W.IsTrack t
    → W.IsTrack (record t { effects = t.effects ++ f ∷ [] })
track_effected f t k (W.track_of _ o effects markers apart items) =
    W.track_of (record t { effects = t.effects ++ f ∷ [] }) o (effects_more t.effects f effects k)
    markers apart items

with_effect_is : (f : Effect) (x : ItemOf Listed) → IsEffect f → IsItem x → IsItem (with_effect f x)
with_effect_is f x k (W.clip _ c e h) =
    W.clip (with_effect f x) (record c { effects = c.effects ++ f ∷ [] }) (ap (with_effect f) e)
    (h.0, effects_more c.effects f h.1 k, h.2, h.3)
with_effect_is f x k (W.gap _ g e h) =
    W.gap (with_effect f x) (record g { effects = g.effects ++ f ∷ [] }) (ap (with_effect f) e)
    (h.0, effects_more g.effects f h.1 k, h.2)
with_effect_is f x k (W.transition _ t e h) =
    W.transition (with_effect f x) t (ap (with_effect f) e) h
with_effect_is f x k (W.stack _ s e h) =
    W.stack (with_effect f x) (record s { effects = s.effects ++ f ∷ [] }) (ap (with_effect f) e)
    (stack_effected f s k h)
with_effect_is f x k (W.track _ t e h) =
    W.track (with_effect f x) (record t { effects = t.effects ++ f ∷ [] }) (ap (with_effect f) e)
    (track_effected f t k h)

third : (a b c : Bool) → (a || (not b || not c)) ≡ false → c ≡ true
third false true true e = refl
third false true false e = absurd (cc e)
third false false c e = absurd (cc e)
third true b c e = absurd (cc e)

speed_is : (n : ℤ) → is_speed n ≡ true → IsSpeed n
speed_is n e =
    let b = both_true (int_le (pos 0 -ℤ pos 1000000000) n) (int_le n (pos 1000000000)) e in
    record { low = omega (arith, ints, b.0); high = omega (arith, ints, b.1) }

pub fit_writable : (x : ItemOf Listed) (room s n : ℤ) → IsItem x → is_wrong_fit x room ≡ false
    → IsWritableChild (Ranged (fitted x room) s n)
fit_writable x room s n k w =
    let f = third (is_zero (speed_of (fitted x room))) (is_speed (speed_of (fitted x room)))
    (is_speed (fit_speed (ticks x) room)) w in
    ranged_writable (fitted x room) s n
    (with_effect_is (warp (fit_speed (ticks x) room)) x
    (speed_is (fit_speed (ticks x) room) f, refl) k)
