-- The worked rows hold.
use Rattle.std.proofs.Common.{◌≡◌, ◌≢◌, refl, sym, subst, ap, ap₂, ◌∙◌, ◌⊎◌, inl, inr, map, ◌<◌, ◌||◌, ℕ, ℤ, pos, ◌-ℤ◌, ◌≤ℤ◌, ◌<ℤ◌, ◌&&◌, true, false, Option, Some, None, List, [], ◌∷◌, arith}
use Rattle.std.specs.Prelude.{slice_get, option_map, codes, not, cond, int_lt}
use Rattle.std.specs.Option.{option_or}
use Rattle.otio_model.specs.Lengths.{Range, from_zero, sum_of}
use Rattle.tick_time.specs.Rates.{frame}
use Rattle.coord.specs.Sights.{sight, lengths_seen}
use Rattle.otio_model.specs.Lengths.{or_zero}
use Rattle.coord.proofs.SightLemmas.{sights-listed}
use Rattle.edits.specs.Children.{ticks}
use Rattle.flat.specs.declared.faults.Cause.TheVariants as C
use Rattle.flat.specs.Joined.{joined_children, begins_early, ends_late}
use Rattle.std.proofs.lemmas.Int.{ints}
use Rattle.otio_model.specs.declared.compositions.ItemOf.{ItemOf}
use Rattle.otio_model.specs.declared.compositions.Listed.{Listed}
use Rattle.edits.specs.Finest.{rate_24}
use Rattle.edits.specs.Children.{all_made}
use Rattle.edits.specs.WorkedItems.{frames, dissolve}
use Rattle.coord.proofs.LookSteps.{is_within, missed_behind}
use Rattle.flat.specs.Pieces.{Giver, giver, longest, holder, AreLongest, no_more, one_more}
use Rattle.flat.specs.Joined.{crossing, JoinBlocks}
use Rattle.flat.specs.Worked.{video, track, a, b, low, high, layers, giver_a, giver_c, pieces, AreFlatsWorked}
use Rattle.flat_law.proofs.Flat.{items-listed}

track_ticks : (l : List (ItemOf Listed)) → or_zero (sight (track l)).length ≡ or_zero (option_map (λ (r : Range). r.len) (option_map from_zero (sum_of (lengths_seen (map sight l)))))
track_ticks l = ap (λ m. or_zero (option_map (λ (r : Range). r.len) (option_map from_zero (sum_of (lengths_seen m))))) (sights-listed l)

low_ticks : ticks (track low) ≡ frames 100
low_ticks = ap pos (track_ticks low)

high_ticks : ticks (track high) ≡ frames 50
high_ticks = ap pos (track_ticks high)

end_is : longest video layers ≡ frames 100
end_is = ap₂ (λ x y. cond (int_lt (cond (int_lt (pos 0) y) y (pos 0)) x) x (cond (int_lt (pos 0) y) y (pos 0))) low_ticks high_ticks

-- the giver at each instant
abbrev given : ℤ → Option Giver
given w = option_or (holder 1 0 (pos 0) high w) (holder 0 0 (pos 0) low w)

given_is : (w : ℤ) → giver 0 video layers w ≡ given w
given_is w = ap₂ (λ h l. option_or (holder 1 0 (pos 0) h w) (holder 0 0 (pos 0) l w)) (items-listed high) (items-listed low)

first : (w : ℤ) → frames 0 ≤ℤ w → w <ℤ frames 20 → given w ≡ Some giver_a
first w h k = rw (is_within (pos 0) (frames 20) w h k, is_within (pos 0) (frames 100) w h (omega (arith, ints))) refl

second : (w : ℤ) → frames 20 ≤ℤ w → w <ℤ frames 50 → given w ≡ Some giver_c
second w h k = rw (missed_behind (pos 0) (frames 20) w h, is_within (pos 0) (frames 30) (w -ℤ frames 20) (omega (arith, ints)) (omega (arith, ints))) refl

third : (w : ℤ) → frames 50 ≤ℤ w → w <ℤ frames 100 → given w ≡ Some giver_a
third w h k = rw (missed_behind (pos 0) (frames 20) w (omega (arith, ints)), missed_behind (pos 0) (frames 30) (w -ℤ frames 20) (omega (arith, ints)), is_within (pos 0) (frames 100) w (omega (arith, ints)) k) refl

-- on which track
abbrev where_is : Option Giver → ℕ
where_is None = 7
where_is (Some g) = g.track

differ : (o p : Option Giver) (m n : ℕ) → where_is o ≡ m → where_is p ≡ n → m < n ⊎ n < m → o ≢ p
differ o p m n e f h g = let k : where_is o ≡ where_is p = ap where_is g in elim h [ inl a ↦ omega (arith, a, e, f, k) | inr a ↦ omega (arith, a, e, f, k) ]

row_24 : AreLongest (giver 0 video layers) (frames 100) (pos 0) pieces
row_24 =
    one_more (frames 0) (frames 20) (Some giver_a) _ pieces (omega (arith, ints)) (omega (arith, ints)) (λ w h k. given_is w ∙ first w h k)
    (λ h. differ _ (Some giver_a) 1 0 (ap where_is (given_is (frames 20) ∙ second (frames 20) (omega (arith, ints)) (omega (arith, ints)))) refl (inr (omega arith)))
    (one_more (frames 20) (frames 50) (Some giver_c) _ _ (omega (arith, ints)) (omega (arith, ints)) (λ w h k. given_is w ∙ second w h k)
    (λ h. differ _ (Some giver_c) 0 1 (ap where_is (given_is (frames 50) ∙ third (frames 50) (omega (arith, ints)) (omega (arith, ints)))) refl (inl (omega arith)))
    (one_more (frames 50) (frames 100) (Some giver_a) [] _ (omega (arith, ints)) (omega (arith, ints)) (λ w h k. given_is w ∙ third w h k) (λ h. absurd (omega (arith, ints, h)))
    (no_more (frames 100) [] refl refl) refl) refl) refl

len_a : or_zero (sight (track (a 0 10 ∷ []))).length ≡ 294000000000000000
len_a = track_ticks (a 0 10 ∷ [])

row_f3 : all_made rate_24 (joined_children (frame (pos 24) (pos 1)) video 0 (track (a 0 10 ∷ []) ∷ []) ((track (b 0 5 ∷ []) ∷ []) ∷ [])) ≡ Some (a 0 10 ∷ b 0 5 ∷ [])
row_f3 = rw (items-listed (a 0 10 ∷ []), items-listed (b 0 5 ∷ []), len_a) refl

abbrev row_list : List (ItemOf Listed)
row_list = a 0 10 ∷ dissolve 2 8 ∷ b 0 3 ∷ []

row_f8 : JoinBlocks true false (track row_list ∷ []) (0 ∷ 1 ∷ []) C.Crossing
row_f8 = crossing (0 ∷ 1 ∷ []) 0 1 (track row_list) (dissolve 2 8) (record { kind = codes "SMPTE_Dissolve"; before = frames 2; after = frames 8 }) refl refl refl
    (ap (λ l. slice_get l 1) (items-listed row_list)) refl
    (ap (λ l. (not true && begins_early l 1 (record { kind = codes "SMPTE_Dissolve"; before = frames 2; after = frames 8 })) || (not false && ends_late l 1 (record { kind = codes "SMPTE_Dissolve"; before = frames 2; after = frames 8 }))) (items-listed row_list))

pub are_worked : AreFlatsWorked
are_worked = record {
  stretches = subst (λ z. AreLongest (giver 0 video layers) z (pos 0) pieces) (sym end_is) row_24;
  flat = refl;
  window = refl;
  join = row_f3;
  straight = refl;
  refused = row_f8;
}
