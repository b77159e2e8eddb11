-- The events of a track against its stretches.
use Rattle.std.proofs.Common.{◌≡◌, refl, sym, ap, ap₂, ◌∙◌, ℤ, pos, ◌+ℤ◌, ◌-ℤ◌, ◌*ℤ◌, ◌≤ℤ◌, ◌&&◌, ◌||◌, Bool, true, false, not, cond, List, [], ◌∷◌, ◌++◌, Some, None}
use Rattle.std.specs.Prelude.{int_lt}
use Rattle.std.specs.List.{list_any}
use Rattle.tick_time.specs.declared.rates.Rate.{Rate}
use Rattle.otio_model.specs.declared.compositions.Clip.{Clip as ClipRow}
use Rattle.otio_model.specs.declared.compositions.ItemOf.{ItemOf}
use Rattle.otio_model.specs.declared.compositions.Listed.{Listed}
use Rattle.edl_list.specs.declared.list.Channel.{Channel}
use Rattle.coord.specs.Looks.{Overlap}
use Rattle.coord.specs.Keys.{media_rate}
use Rattle.coord.specs.Sights.{sight, overlap_of}
use Rattle.coord.specs.Images.{Image, image, kind_of}
use Rattle.edl_frames.specs.declared.reasons.Why.{Why}
use Rattle.edl_frames.specs.Jobs.{Job, is_on_frame, tenths_of, count_in, mode_in}
use Rattle.edl_frames.specs.Seats.{Past, Seat, lap_at, length_in, past_by, lap_behind, begin_of, end_of, clip_in, is_item, is_there}
use Rattle.edl_frames.specs.ChildEvents.{event_of}
use Rattle.edl_frames.specs.ChildReasons.{first_that, reason_of, item_tests, clip_tests, shown_tests, transition_tests, is_other_kind, is_bad_lap, parts_of, is_between, is_past_day, is_outside_row, has_rate, row_differs, is_past_record}
use Rattle.edl_frames.specs.Sides.{speed_in, clip_reel, clip_row}
use Rattle.edl_frames.specs.declared.reasons.Why.TheVariants as W
use Rattle.edl_law.proofs.ItemLooks.{Watch, exactly, ticks}
use Rattle.edl_law.proofs.Stretches.{Bit, piece, cross}
use Rattle.std.specs.Ordering.{int_eq}
use Rattle.tick_time.proofs.BoolLemmas.{both}

-- what is seen of an item, so many frames from its start
abbrev pub gives : Rate → Watch → ItemOf Listed → ℤ → Image
gives rate kind x k = image ((sight x).shows (exactly kind) (k *ℤ pos (ticks rate)))

-- a child as a bit
abbrev pub IsBitOf : Rate → Watch → ItemOf Listed → Bit → Type 0
IsBitOf rate kind x (piece n g) = (overlap_of x ≡ None) × (length_in x ≡ n *ℤ pos (ticks rate))
    × (pos 0 ≤ℤ n) × (g ≡ gives rate kind x)
IsBitOf rate kind x (cross type b a) = (o : Overlap) × (overlap_of x ≡ Some o)
    × (length_in x ≡ pos 0) × (o.kind ≡ type) × (o.before ≡ pos b *ℤ pos (ticks rate))
    × (o.after ≡ pos a *ℤ pos (ticks rate))

abbrev pub AreBitsOf : Rate → Watch → List (ItemOf Listed) → List Bit → Type 0
AreBitsOf rate kind [] [] = Unit {0}
AreBitsOf rate kind [] (y ∷ ys) = ⊥
AreBitsOf rate kind (x ∷ xs) [] = ⊥
AreBitsOf rate kind (x ∷ xs) (y ∷ ys) = IsBitOf rate kind x y × AreBitsOf rate kind xs ys

-- no child of the track has a reason
abbrev pub AreFree : Job → Channel → ℤ → Past → List (ItemOf Listed) → Type 0
AreFree j c at past [] = Unit {0}
AreFree j c at past (x ∷ l) =
    (reason_of j c (record { item = x; start = at; past = past; next = l }) ≡ None) × AreFree j c
    (at +ℤ length_in x) (past_by (overlap_of x) x at past) l

-- ---- reasons that don't hold

pub none_first : (p : Bool × Why) (ps : List (Bool × Why)) → first_that (p ∷ ps) ≡ None
    → (p.0 ≡ false) × (first_that ps ≡ None)
none_first p ps e = by p.0 refl e
  where
    by : (b : Bool) → p.0 ≡ b → cond b (Some p.1) (first_that ps) ≡ None
        → (p.0 ≡ false) × (first_that ps ≡ None)
    by true f g = absurd (cc g)
    by false f g = (f, g)

none_front : (ps qs : List (Bool × Why)) → first_that (ps ++ qs) ≡ None → first_that ps ≡ None
none_front [] qs e = refl
none_front (p ∷ ps) qs e = let n = none_first p (ps ++ qs) e in ap₂ (λ b o. cond b (Some p.1) o) n.0
    (none_front ps qs n.1)

-- none of the tests holds
abbrev pub AllFail : List (Bool × Why) → Type 0
AllFail [] = Unit {0}
AllFail (p ∷ ps) = (p.0 ≡ false) × AllFail ps

pub all_fail : (ps : List (Bool × Why)) → first_that ps ≡ None → AllFail ps
all_fail [] e = tt
all_fail (p ∷ ps) e = let n = none_first p ps e in (n.0, all_fail ps n.1)

not_false : (t : Bool) → not t ≡ false → t ≡ true
not_false true e = refl
not_false false e = absurd (cc e)

not_and : (a b : Bool) → not (a && b) ≡ false → (a ≡ true) × (b ≡ true)
not_and a b e = both a b (not_false (a && b) e)

pub not_or : (a b : Bool) → (a || b) ≡ false → (a ≡ false) × (b ≡ false)
not_or true b e = absurd (cc e)
not_or false b e = (refl, e)

pub record ClipFree (j : Job) (s : Seat) (r : ClipRow) : Type 0 where
  pub tenths : is_there (tenths_of (count_in (mode_in j.rate false)) (speed_in r)) ≡ true
  pub named : is_there (clip_reel j.layout j.media r) ≡ true
  pub rated : has_rate j (media_rate r) ≡ true
  pub same_row : row_differs j (clip_row j.media r) ≡ false
  pub phase : (not (int_eq (speed_in r) (pos 1000000)) && list_any (is_between j r s.start)
      (parts_of j s)) ≡ false
  pub day : list_any (is_past_day j r s.start) (parts_of j s) ≡ false
  pub row : list_any (is_outside_row j r s.start (clip_row j.media r)) (parts_of j s) ≡ false

clip_free : (j : Job) (s : Seat) (r : ClipRow) → first_that (clip_tests j s r) ≡ None
    → ClipFree j s r
clip_free j s r e =
    let a = all_fail (clip_tests j s r) e in
    record {
      tenths = not_false (is_there (tenths_of (count_in (mode_in j.rate false)) (speed_in r)))
          a.1.0;
      named = not_false (is_there (clip_reel j.layout j.media r)) a.1.1.0;
      rated = not_false (has_rate j (media_rate r))
          (not_or (not (has_rate j (media_rate r))) (row_differs j (clip_row j.media r))
          a.1.1.1.0).0;
      same_row = (not_or (not (has_rate j (media_rate r))) (row_differs j (clip_row j.media r))
          a.1.1.1.0).1;
      phase = a.1.1.1.1.0;
      day = a.1.1.1.1.1.0;
      row = a.1.1.1.1.1.1.0;
    }

pub record ItemFree (j : Job) (c : Channel) (s : Seat) : Type 0 where
  pub item : is_item s.item ≡ true
  pub begins : is_on_frame j s.start ≡ true
  pub ends : is_on_frame j (s.start +ℤ length_in s.item) ≡ true
  pub clip : (r : ClipRow) → clip_in s.item ≡ Some r
      → (int_lt (begin_of s) (end_of s) || is_there (lap_behind s)) ≡ true → ClipFree j s r

pub item_free : (j : Job) (c : Channel) (s : Seat) → reason_of j c s ≡ None
    → overlap_of s.item ≡ None → ItemFree j c s
item_free j c s e f =
    let g : first_that (item_tests j c s) ≡ None =
    sym
    (ap
    (λ o. first_that (elim o [ None ↦ item_tests j c s | Some o ↦ transition_tests j c s o ]))
    f) ∙ e in
    let a = all_fail (item_tests j c s) g in
    let k = not_and (is_on_frame j s.start) (is_on_frame j (s.start +ℤ length_in s.item)) a.1.0 in
    let t = none_front (shown_tests j s (clip_in s.item))
    ((is_past_record j (event_of j c s), W.RecordDay) ∷ [])
    (none_first (
      not (is_on_frame j s.start && is_on_frame j (s.start +ℤ length_in s.item)),
      W.OffFrame,
    ) (shown_tests j s (clip_in s.item) ++
    ((is_past_record j (event_of j c s), W.RecordDay) ∷ []))
    (none_first (not (is_item s.item), W.Nested)
    ((not (is_on_frame j s.start && is_on_frame j (s.start +ℤ length_in s.item)), W.OffFrame)
    ∷ (shown_tests j s (clip_in s.item) ++
    ((is_past_record j (event_of j c s), W.RecordDay) ∷ []))) g).1).1 in
    record {
      item = not_false (is_item s.item) a.0;
      begins = k.0;
      ends = k.1;
      clip = λ r h i. clip_free j s r
          (sym (ap (λ o. first_that (shown_tests j s o)) h
          ∙ ap (λ b. first_that (cond b (clip_tests j s r) [])) i) ∙ t);
    }

pub record CrossFree (j : Job) (s : Seat) (o : Overlap) : Type 0 where
  pub cut : is_on_frame j s.start ≡ true
  pub begins : is_on_frame j (s.start -ℤ o.before) ≡ true
  pub ends : is_on_frame j (s.start +ℤ o.after) ≡ true
  pub kind : (is_there (lap_at s.start o) && is_other_kind (kind_of o.kind)) ≡ false
  pub fits : is_bad_lap j s o ≡ false

pub cross_free : (j : Job) (c : Channel) (s : Seat) (o : Overlap) → reason_of j c s ≡ None
    → overlap_of s.item ≡ Some o → CrossFree j s o
cross_free j c s o e f =
    let g : first_that (transition_tests j c s o) ≡ None =
    sym
    (ap
    (λ o. first_that (elim o [ None ↦ item_tests j c s | Some o ↦ transition_tests j c s o ]))
    f) ∙ e in
    let a = all_fail (transition_tests j c s o) g in
    let k = not_and (is_on_frame j s.start)
    (is_on_frame j (s.start -ℤ o.before) && is_on_frame j (s.start +ℤ o.after)) a.0 in
    let m = both (is_on_frame j (s.start -ℤ o.before)) (is_on_frame j (s.start +ℤ o.after)) k.1 in
    record { cut = k.0; begins = m.0; ends = m.1; kind = a.1.0; fits = a.1.1.0 }
