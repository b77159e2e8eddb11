-- Where seats stand, and their tests one after another.
use Rattle.std.proofs.Common.{◌≡◌, refl, sym, ap, ap₂, ◌∙◌, ℕ, ◌≤◌, ℤ, pos, Bool, true, false, not, ◌&&◌, ◌||◌, cond, List, [], ◌∷◌, ◌++◌, Option, Some, None, arith}
use Rattle.std.proofs.lemmas.Int.{ints}
use Rattle.std.specs.Ordering.{int_eq}
use Rattle.std.specs.List.{list_any}
use Rattle.std.specs.Option.{option_to_list}
use Rattle.limits.specs.Limits.{most_ticks}
use Rattle.otio_model.specs.declared.compositions.Clip.{Clip as ClipRow}
use Rattle.edl_frames.specs.Jobs as D
use Rattle.edl_frames.specs.Seats as T
use Rattle.coord.specs.Keys.{media_rate}
use Rattle.edl_frames.specs.Sides as S
use Rattle.edl_frames.specs.Sides.{clip_row, speed_in}
use Rattle.edl_frames.specs.ChildReasons as C
use Rattle.edl_frames.specs.declared.reasons.Why.{Why}
use Rattle.edl_frames.specs.declared.reasons.Why.TheVariants as W
use Rattle.edl_conform.specs.declared.child_context.ChildContext.{ChildContext}
use Rattle.edl_conform.specs.declared.clip_sides.Tested.{Tested}
use Rattle.edl_conform.specs.Ranges.{IsNear}
use Rattle.edl_conform.specs.Seated.{IsSeated}
use Rattle.edl_conform.specs.Drafts.{IsTested, event_part_at, or_record_day, source_reason_by}
use Rattle.edl_conform.proofs.DraftLemmas.{parts_are, else_that, first_that-append}

-- a child starts and ends within a million seconds
pub record StandsNear (seat : ChildContext) : Type 0 where
  pub start : IsNear most_ticks seat.start
  pub end : IsNear most_ticks seat.end

pub stands_near : (seat : ChildContext) → IsSeated seat → StandsNear seat
stands_near seat s =
    let e = s.end in
    let l = s.low in
    let h = s.high in
    record {
      start = record { low = omega (arith, ints, e, l, h); high = omega (arith, ints, e, l, h) };
      end = record { low = omega (arith, ints, e, l, h); high = omega (arith, ints, e, l, h) };
    }

-- the same, from further off
pub wider : (m n : ℕ) (z : ℤ) → m ≤ n → IsNear m z → IsNear n z
wider m n z more near =
    let l = near.low in
    let h = near.high in
    record { low = omega (arith, ints, l, h, more); high = omega (arith, ints, l, h, more) }

-- the sides of a clip, from what the code has made of them
pub parts_by : (j : D.Job) (s : T.Seat) (b e : ℤ) (lap : Option T.Lap) (p : Option C.Part)
    (q : List C.Part) → b ≡ T.begin_of s → e ≡ T.end_of s → lap ≡ T.lap_behind s
    → p ≡ event_part_at j b e → q ≡ C.lap_part j lap → (option_to_list p ++ q) ≡ C.parts_of j s
parts_by j s b e lap p q eb ee el ep eq =
    ap₂ (λ x y. option_to_list x ++ y) (ep ∙ ap₂ (event_part_at j) eb ee)
    (eq ∙ ap (C.lap_part j) el)
    ∙ parts_are j s

-- ---- a clip's tests

chain : (a b c d p q r x y z : Bool) → a ≡ false → b ≡ false → c ≡ false → d ≡ false → x ≡ p
    → y ≡ q → z ≡ r
    → C.first_that ((x, W.Phase) ∷ (y, W.SourceDay) ∷ (z, W.Outside) ∷ [])
    ≡ C.first_that ((a, W.Effect) ∷ (b, W.Speed) ∷ (c, W.NoReel) ∷ (d, W.RateDiffers)
    ∷ (p, W.Phase) ∷ (q, W.SourceDay) ∷ (r, W.Outside) ∷ [])
chain true b c d p q r x y z ea eb ec ed ex ey ez = absurd (cc ea)
chain false true c d p q r x y z ea eb ec ed ex ey ez = absurd (cc eb)
chain false false true d p q r x y z ea eb ec ed ex ey ez = absurd (cc ec)
chain false false false true p q r x y z ea eb ec ed ex ey ez = absurd (cc ed)
chain false false false false p q r x y z ea eb ec ed ex ey ez =
    ap (λ t. cond t (Some W.Phase) (cond y (Some W.SourceDay) (cond z (Some W.Outside) None))) ex
    ∙ ap (λ t. cond p (Some W.Phase) (cond t (Some W.SourceDay) (cond z (Some W.Outside) None))) ey
    ∙ ap (λ t. cond p (Some W.Phase) (cond q (Some W.SourceDay) (cond t (Some W.Outside) None))) ez

-- a clip of which the first four tests don't hold
pub clip_reason_is : (j : D.Job) (s : T.Seat) (c : ClipRow) (t : Tested) (r : Option Why)
    → list_any C.is_other_effect c.effects ≡ false
    → not (T.is_there (D.tenths_of (D.count_in (D.mode_in j.rate false)) (speed_in c))) ≡ false
    → not (T.is_there (S.clip_reel j.layout j.media c)) ≡ false
    → (not (C.has_rate j (media_rate c)) || C.row_differs j (clip_row j.media c)) ≡ false
    → IsTested j c s.start (clip_row j.media c) (C.parts_of j s) t
    → r ≡ source_reason_by (speed_in c) t → r ≡ C.first_that (C.clip_tests j s c)
clip_reason_is j s c t r ea eb ec ed is er =
    er ∙ chain _ _ _ _ _ _ _ _ _ _ ea eb ec ed
    (ap (λ b. not (int_eq (speed_in c) (pos 1000000)) && b) is.between) is.past_day is.outside

-- ---- an item's tests

else_is : (o : Option Why) (b : Bool)
    → or_record_day o b ≡ else_that o (C.first_that ((b, W.RecordDay) ∷ []))
else_is None b = refl
else_is (Some why) b = refl

items : (a b : Bool) (xs : List (Bool × Why)) (p : Bool) → a ≡ false → b ≡ false
    → or_record_day (C.first_that xs) p
    ≡ C.first_that ((a, W.Nested) ∷ (b, W.OffFrame) ∷ (xs ++ ((p, W.RecordDay) ∷ [])))
items true b xs p ea eb = absurd (cc ea)
items false true xs p ea eb = absurd (cc eb)
items false false xs p ea eb =
    else_is (C.first_that xs) p ∙ sym (first_that-append xs ((p, W.RecordDay) ∷ []))

-- a clip or gap that is on frames
pub item_reason_is : (a b p : Bool) (xs : List (Bool × Why)) (o r : Option Why) (q : Bool)
    → a ≡ false → b ≡ false → o ≡ C.first_that xs → q ≡ p → r ≡ or_record_day o q
    → r ≡ C.first_that ((a, W.Nested) ∷ (b, W.OffFrame) ∷ (xs ++ ((p, W.RecordDay) ∷ [])))
item_reason_is a b p xs o r q ea eb eo eq er =
    er ∙ ap₂ or_record_day eo eq ∙ items a b xs p ea eb
