-- Frames of the day, and the labels that are written for them.
use Rattle.std.proofs.Common.{◌≡◌, ◌<◌, ◌≤◌, ℕ, ℤ, pos, negsuc, true, false, ◌&&◌, int_le, int_lt, List, Option, Some, None, Result, Ok, Err, is_ok, length, map, refl, arith}
use Rattle.std.proofs.lemmas.Int.{ints}
use Rattle.std.proofs.lemmas.Option.{slice_get_within}
use Rattle.std.proofs.lemmas.List.{length-map}
use Rattle.smpte_tc.specs.Answers.{WritesAt}
use Rattle.smpte_tc.specs.Day.{counted_of, labels_with, spelled, mark_of, IsLabel}
use Rattle.smpte_tc.specs.declared.modes.Mode.{Mode}
use Rattle.smpte_tc.specs.declared.faults.TcFault.{TcFault}
use Rattle.smpte_tc.specs.declared.faults.TcFault.TheVariants.{Form, Field, Dropped, Day, NoTimecode}
use Rattle.note_text.specs.Belonging.{is_day_frame}

labelled : (mode : Mode) (k : ℕ) (bytes : List ℕ) → IsLabel mode k bytes → k < length (counted_of mode)
unfolding labels_with
labelled mode k bytes h =
    let f = slice_get_within (map (spelled (mark_of mode)) (counted_of mode)) k bytes h.stands in
    let g : length (map (spelled (mark_of mode)) (counted_of mode)) ≡ length (counted_of mode) = length-map (counted_of mode) (spelled (mark_of mode)) in
    omega (arith, f, g)

below : (k n : ℕ) → k < n → true ≡ (int_le (pos 0) (pos k) && int_lt (pos k) (pos n))
below k n h = let f : int_le (pos 0) (pos k) ≡ true = grind (arith, ints) in let g : int_lt (pos k) (pos n) ≡ true = grind (arith, ints, h) in rw (f, g) refl

above : (k n : ℕ) → n ≤ k → false ≡ (int_le (pos 0) (pos k) && int_lt (pos k) (pos n))
above k n h = let f : int_le (pos 0) (pos k) ≡ true = grind (arith, ints) in let g : int_lt (pos k) (pos n) ≡ false = grind (arith, ints, h) in rw (f, g) refl

pub day_is : (m : Option Mode) (n : ℤ) (r : Result (List ℕ) TcFault) → WritesAt m n r → is_ok r ≡ is_day_frame m n
day_is None n r w = rw w refl
day_is (Some mode) n (Ok bytes) w = rw w.1 (below w.0 (length (counted_of mode)) (labelled mode w.0 bytes w.2))
day_is (Some mode) (pos k) (Err Day) w = above k (length (counted_of mode)) (w k refl)
day_is (Some mode) (negsuc k) (Err Day) w = let f : int_le (pos 0) (negsuc k) ≡ false = grind (arith, ints) in rw f refl
day_is (Some mode) n (Err Form) w = absurd w
day_is (Some mode) n (Err Field) w = absurd w
day_is (Some mode) n (Err Dropped) w = absurd w
day_is (Some mode) n (Err NoTimecode) w = absurd w
