-- One step of what a list shows.
use Rattle.std.proofs.Common.{◌≡◌, refl, ap, ℤ, pos, ◌-ℤ◌, ◌≤ℤ◌, ◌<ℤ◌, ◌&&◌, Bool, true, false}
use Rattle.std.proofs.Common.{List, ◌∷◌, Option, Some, None, arith}
use Rattle.std.specs.Prelude.{int_lt, int_le}
use Rattle.std.proofs.lemmas.Int.{ints, by_lt_z}
use Rattle.otio_model.specs.Overlaps.{within}
use Rattle.coord.specs.Looks.{Show, Look, Overlap, item_shows, next_shows, from_end, mix_shows}

pub is_within : (a b w : ℤ) → a ≤ℤ w → w <ℤ b → within a b w ≡ true
is_within a b w h k =
    let e : int_le a w ≡ true = grind (arith, ints) in
    let f : int_lt w b ≡ true = grind (arith, ints) in rw (e, f)

pub missed_before : (a b w : ℤ) → w <ℤ a → within a b w ≡ false
missed_before a b w h = let e : int_le a w ≡ false = grind (arith, ints) in rw e

pub missed_behind : (a b w : ℤ) → b ≤ℤ w → within a b w ≡ false
missed_behind a b w h =
    let f : int_lt w b ≡ false = grind (arith, ints) in rw f (last_false (int_le a w))
  where
    last_false : (t : Bool) → (t && false) ≡ false
    last_false true = refl
    last_false false = refl

-- an item, or a transition with its overlap
pub data LookKind (x : Look) : Type 0 where
  item : x.overlap ≡ None → LookKind x
  transition : (o : Overlap) → x.overlap ≡ Some o → LookKind x

pub look_kind : (x : Look) → LookKind x
look_kind x = of x.overlap refl
  where
    of : (o : Option Overlap) → x.overlap ≡ o → LookKind x
    of None e = item e
    of (Some o) e = transition o e

pub mix_item : (p : ℤ → Show) (x : Look) (l : List Look) (w : ℤ) → x.overlap ≡ None
    → mix_shows p (x ∷ l) w ≡ mix_shows (from_end x) l (w -ℤ x.length)
mix_item p x l w e = rw e

pub mix_miss : (p : ℤ → Show) (x : Look) (o : Overlap) (l : List Look) (w : ℤ) → x.overlap ≡ Some o
    → within (pos 0 -ℤ o.before) o.after w ≡ false → mix_shows p (x ∷ l) w ≡ mix_shows p l w
mix_miss p x o l w e m = rw (e, m)

pub item_hit : (x : Look) (l : List Look) (w : ℤ) → pos 0 ≤ℤ w → w <ℤ x.length
    → item_shows (x ∷ l) w ≡ x.shows w
item_hit x l w h k = rw (is_within (pos 0) x.length w h k)

pub item_past : (x : Look) (l : List Look) (w : ℤ) → x.length ≤ℤ w
    → item_shows (x ∷ l) w ≡ item_shows l (w -ℤ x.length)
item_past x l w k = rw (missed_behind (pos 0) x.length w k)

pub side_item : (x : Look) (l : List Look) (w : ℤ) → x.overlap ≡ None
    → next_shows (x ∷ l) w ≡ x.shows w
side_item x l w e = rw e

-- a transition holds no instant
pub no_hold : (x : Look) (l : List Look) (w : ℤ) → x.length ≡ pos 0
    → item_shows (x ∷ l) w ≡ item_shows l w
no_hold x l w e =
    let same : w -ℤ pos 0 ≡ w = omega (arith, ints) in
    rw e (by_lt_z w (pos 0)
    (λ h. rw (missed_before (pos 0) (pos 0) w h) (ap (item_shows l) same))
    (λ h. rw (missed_behind (pos 0) (pos 0) w h) (ap (item_shows l) same)))
