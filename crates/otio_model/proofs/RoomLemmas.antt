-- A patch that fits, and for which there is room.
use Rattle.std.proofs.Common.{◌≡◌, ℕ, ◌+◌, ◌*◌, ◌/◌, ◌≤◌, arith, List, Option, Some, None, Result, Ok, Err, ap, sym}
use Rattle.std.proofs.Common.{◌∙◌, length, subst}
use Rattle.std.specs.Prelude.{IsSomeAnd, IfSome, OnOk, vec_len}
use Rattle.std.specs.Vec.{vec_capacity}
use Rattle.std.specs.declared.alloc.AllocError.{AllocError}
use Rattle.otio_model.specs.declared.patches.Patch.{Patch}
use Rattle.otio_model.specs.declared.timelines.Timeline.{Timeline}
use Rattle.otio_model.specs.declared.compositions.Listed.{Listed}
use Rattle.otio_model.specs.Trees.{items_of}
use Rattle.otio_model.specs.Edits.{list_at}
use Rattle.otio_model.specs.Rooms.{Holds, Room, Suits}
use Rattle.otio_model.specs.Spares.{room_of}
use Rattle.otio_model.specs.declared.reserve.Spare.TheInside.{Inside}
use Rattle.otio_model.specs.declared.compositions.ItemOf.{ItemOf}
use Rattle.otio_model.specs.declared.patches.Put.{Put}
use Rattle.otio_model.specs.declared.patches.Put.TheVariants.{Items, Ranges}
use Rattle.tick_time.specs.declared.spans.Span.{Span}
use Rattle.otio_model.specs.Patches.{Fits, goes, IsRoomFor, Suffices}

-- the vectors of a spare have room for a replacement
pub record HasRoom (s : Inside) (count long put : ℕ) : Type 0 where
  pub mid : 2 * count + 384 + put ≤ vec_capacity s.mid
  pub outer : long / 32 + 1 + vec_len s.fresh ≤ vec_capacity s.outer
  pub fresh : 2 * count + 384 + put ≤ 32 * vec_len s.fresh
  pub taken : count ≤ vec_capacity s.taken

pub has_room : (s : Inside) (r : Room) (count long put : ℕ) → room_of s ≡ r → Suits count long put r
    → HasRoom s count long put
has_room s r count long put e h =
    let same : (room_of s).room ≡ r.room = ap (λ (q : Room). q.room) e in
    let handed : (room_of s).taken ≡ r.taken = ap (λ (q : Room). q.taken) e in
    record {
      mid = omega (arith, same, h.room);
      outer = omega (arith, same, h.room);
      fresh = omega (arith, same, h.room);
      taken = omega (arith, handed, h.taken);
    }

both : (o : Option Listed) (P Q : Listed → Type 0) → IsSomeAnd o P → IfSome o Q
    → IsSomeAnd o (λ l. P l × Q l)
both None P Q h k = absurd h
both (Some l) P Q h k = (h, k)

-- the children that the place leads to have what is taken out, and the spare has room
pub roomy : (p : Patch) (t : Timeline) (place : List ℕ) → place ≡ p.place → Fits p t
    → IsRoomFor p t
    → IsSomeAnd (list_at place t.tracks.children)
    (λ l. (p.at + goes p.put ≤ length (items_of l)) × Suffices p.put (length (items_of l)) t.spare)
unfolding IsRoomFor
roomy p t place e f r =
    subst (λ q. IsSomeAnd (list_at q t.tracks.children) (λ l. (p.at + goes p.put ≤ length (items_of l))
    × Suffices p.put (length (items_of l)) t.spare)) (sym e)
    (both (list_at p.place t.tracks.children) (λ l. p.at + goes p.put ≤ length (items_of l))
    (λ l. Suffices p.put (length (items_of l)) t.spare) f r)

-- room that was made for the children that the place leads to
pub room_made : (r : Result (Unit {0}) AllocError) (p : Patch) (t : Timeline) (l : Listed)
    (place : List ℕ) (long : ℕ) → place ≡ p.place → Some l ≡ list_at place t.tracks.children
    → long ≡ length (items_of l) → OnOk r (Suffices p.put long t.spare) → OnOk r (IsRoomFor p t)
unfolding IsRoomFor
room_made (Err e) p t l place long e1 e2 e3 h = tt
room_made (Ok u) p t l place long e1 e2 e3 h =
    let there : list_at p.place t.tracks.children ≡ Some l =
    ap (λ q. list_at q t.tracks.children) (sym e1) ∙ sym e2 in
    let suffices : Suffices p.put (length (items_of l)) t.spare =
    subst (λ n. Suffices p.put n t.spare) e3 h in
    subst (λ o. IfSome o (λ l. Suffices p.put (length (items_of l)) t.spare)) (sym there) suffices

-- the same by what is put
pub items_room : (r : Result (Unit {0}) AllocError) (q : Put) (count long n : ℕ)
    (items : List (ItemOf Listed)) (s : Room) → q ≡ Items count items → n ≡ length items
    → OnOk r (Holds count long n s) → OnOk r (Suffices q long s)
items_room (Err e) q count long n items s f g h = tt
items_room (Ok u) q count long n items s f g h =
    subst (λ p. Suffices p long s) (sym f) (subst (λ m. Holds count long m s) g h)

pub ranges_room : (q : Put) (long : ℕ) (rs : List (Option Span)) (s : Room) → q ≡ Ranges rs
    → Suffices q long s
ranges_room q long rs s f = subst (λ p. Suffices p long s) (sym f) tt
