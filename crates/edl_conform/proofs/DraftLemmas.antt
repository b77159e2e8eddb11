-- Sides of clips and events in ticks.
use Rattle.std.proofs.Common.{◌≡◌, refl, ap, Bool, true, false, cond, List, [], ◌∷◌, ◌++◌, Option, Some, None}
use Rattle.std.specs.Prelude.{int_lt}
use Rattle.std.specs.Option.{option_to_list}
use Rattle.edl_frames.specs.Jobs as D
use Rattle.edl_frames.specs.Seats as T
use Rattle.edl_frames.specs.ChildReasons as C
use Rattle.edl_frames.specs.declared.reasons.Why.{Why}
use Rattle.edl_conform.specs.Drafts.{event_part_at}

listed_cond : {A : Type 0} (t : Bool) (x : A)
    → option_to_list (cond t (Some x) None) ≡ cond t (x ∷ []) []
listed_cond true x = refl
listed_cond false x = refl

-- the sides of a clip
pub parts_are : (j : D.Job) (s : T.Seat)
    → (option_to_list (event_part_at j (T.begin_of s) (T.end_of s)) ++ C.lap_part j
    (T.lap_behind s))
    ≡ C.parts_of j s
parts_are j s = ap (λ l. l ++ C.lap_part j (T.lap_behind s))
    (listed_cond (int_lt (T.begin_of s) (T.end_of s)) (C.event_side j s))

-- tests one after another: those of the first list, or else those behind it
abbrev pub else_that : Option Why → Option Why → Option Why
else_that None later = later
else_that (Some why) later = Some why

pub first_that-append : (xs ys : List (Bool × Why))
    → C.first_that (xs ++ ys) ≡ else_that (C.first_that xs) (C.first_that ys)
first_that-append [] ys = refl
first_that-append (x ∷ xs) ys =
    by x.0 x.1 (C.first_that (xs ++ ys)) (C.first_that xs) (first_that-append xs ys)
  where
    by : (t : Bool) (why : Why) (a b : Option Why) → a ≡ else_that b (C.first_that ys)
        → cond t (Some why) a ≡ else_that (cond t (Some why) b) (C.first_that ys)
    by true why a b e = refl
    by false why a b e = e
