-- The root children one after another, and the channels of their tracks.
use Rattle.std.proofs.Common.{◌≡◌, ◌≤◌, ◌+◌, ℕ, suc, pos, Bool, true, false, cond, List, [], ◌∷◌, ◌++◌, Some, None, codes, length, take, drop, slice_get, bytes_eq, refl, sym, ap, ap₂, subst, ◌∙◌, append_assoc, append-nil, arith}
use Rattle.std.proofs.lemmas.List.{take_more, length-take-le}
use Rattle.std.proofs.lemmas.Option.{get_or_from_slice_get}
use Rattle.otio_model.specs.declared.compositions.ItemOf.{ItemOf}
use Rattle.otio_model.specs.declared.compositions.ItemOf.TheVariants.{Clip, Gap, Transition, Stack, Track}
use Rattle.otio_model.specs.declared.compositions.Listed.{Listed}
use Rattle.otio_model.specs.declared.compositions.TrackOf.{TrackOf}
use Rattle.otio_model.specs.declared.timelines.Timeline.{Timeline}
use Rattle.otio_model.specs.Timelines.{bare}
use Rattle.otio_model.specs.Trees.{items_of}
use Rattle.otio_model.proofs.Views.{listed-items}
use Rattle.coord.proofs.Members.{next, got_below, none_left}
use Rattle.edl_list.specs.declared.list.Channel.{Channel}
use Rattle.edl_list.specs.declared.list.EventList.{EventList}
use Rattle.edl_frames.specs.Carried.{channel_of, count_of_kind}
use Rattle.note_text.specs.Noted.{AreNotedBelow, AreNotedChildren, AreNotedRoots, IsNoted, IsNotedRoot}
use Rattle.note_text.specs.declared.notes.Note.{Note}
use Rattle.edl_notes.specs.declared.kinds.Kinds.{Kinds}
use Rattle.edl_notes.specs.Kinds.{AreCounted, channel_by, one_of, picture_channel, sound_channel}
use Rattle.note_text.specs.Belonging.{HaveSameOwn}

-- ---- kinds

count_append : (kind : List ℕ) (past : List (ItemOf Listed)) (x : ItemOf Listed) → count_of_kind kind (past ++ x ∷ []) ≡ count_of_kind kind past + one_of kind x
count_append kind [] (Clip c) = refl
count_append kind [] (Gap g) = refl
count_append kind [] (Transition t) = refl
count_append kind [] (Stack s) = refl
count_append kind [] (Track t) = let z : cond (bytes_eq t.kind kind) 1 0 + 0 ≡ 0 + cond (bytes_eq t.kind kind) 1 0 = omega arith in z
count_append kind (Clip c ∷ past) x = count_append kind past x
count_append kind (Gap g ∷ past) x = count_append kind past x
count_append kind (Transition t ∷ past) x = count_append kind past x
count_append kind (Stack s ∷ past) x = count_append kind past x
count_append kind (Track t ∷ past) x = let h = count_append kind past x in
    let z : cond (bytes_eq t.kind kind) 1 0 + count_of_kind kind (past ++ x ∷ []) ≡ (cond (bytes_eq t.kind kind) 1 0 + count_of_kind kind past) + one_of kind x = omega (arith, h) in z

-- one root child more
pub counted_next : (past : List (ItemOf Listed)) (x : ItemOf Listed) (kinds more : Kinds) → more.video ≡ kinds.video + one_of (codes "Video") x → more.audio ≡ kinds.audio + one_of (codes "Audio") x
    → AreCounted past kinds → AreCounted (past ++ x ∷ []) more
counted_next past x kinds more v a h = record {
  video = v ∙ ap (λ n. n + one_of (codes "Video") x) h.video ∙ sym (count_append (codes "Video") past x);
  audio = a ∙ ap (λ n. n + one_of (codes "Audio") x) h.audio ∙ sym (count_append (codes "Audio") past x);
}

-- the channel goes by how many tracks of its kind stand before
pub channel_is : (past : List (ItemOf Listed)) (kinds : Kinds) (t : TrackOf Listed) → AreCounted past kinds → channel_of past t ≡ channel_by kinds t
channel_is past kinds t h =
    ap₂ (λ v a. cond (bytes_eq t.kind (codes "Video")) (picture_channel v) (cond (bytes_eq t.kind (codes "Audio")) (sound_channel a) None)) (sym h.video) (sym h.audio)

count_small : (kind : List ℕ) (past : List (ItemOf Listed)) → count_of_kind kind past ≤ length past
count_small kind [] = omega arith
count_small kind (Clip c ∷ past) = let h = count_small kind past in omega (arith, h)
count_small kind (Gap g ∷ past) = let h = count_small kind past in omega (arith, h)
count_small kind (Transition t ∷ past) = let h = count_small kind past in omega (arith, h)
count_small kind (Stack s ∷ past) = let h = count_small kind past in omega (arith, h)
count_small kind (Track t ∷ past) = by (bytes_eq t.kind kind) (count_small kind past)
  where
    by : (b : Bool) → count_of_kind kind past ≤ length past → cond b 1 0 + count_of_kind kind past ≤ suc (length past)
    by true h = omega (arith, h)
    by false h = omega (arith, h)

-- ---- a root child

-- a track of a channel with the noted children
pub root_on : (list : EventList) (notes : List Note) (past : List (ItemOf Listed)) (kinds : Kinds) (t r : TrackOf Listed) (c : Channel) (made : Listed) → AreCounted past kinds → channel_by kinds t ≡ Some c
    → AreNotedChildren list notes c (pos 0) (items_of t.children) (items_of made) → r ≡ record t { children = made } → IsNotedRoot list notes past (Track t) (Track r)
root_on list notes past kinds t r c made counted e are is = (
  items_of made,
  subst (λ o. AreNotedBelow list notes o (items_of t.children) (items_of made)) (sym (channel_is past kinds t counted ∙ e)) are,
  ap (λ (z : TrackOf Listed). Track z) (is ∙ ap (λ l. record t { children = l }) (sym (listed-items made))),
)

-- a track of no channel
pub root_off : (list : EventList) (notes : List Note) (past : List (ItemOf Listed)) (kinds : Kinds) (t : TrackOf Listed) → AreCounted past kinds → channel_by kinds t ≡ None → IsNotedRoot list notes past (Track t) (Track t)
root_off list notes past kinds t counted e = (
  items_of t.children,
  subst (λ o. AreNotedBelow list notes o (items_of t.children) (items_of t.children)) (sym (channel_is past kinds t counted ∙ e)) refl,
  ap (λ l. Track (record t { children = l })) (sym (listed-items t.children)),
)

-- a root child that isn't a track
pub root_other : (list : EventList) (notes : List Note) (past : List (ItemOf Listed)) (x : ItemOf Listed) → ((t : TrackOf Listed) → x ≡ Track t → ⊥) → IsNotedRoot list notes past x x
root_other list notes past (Clip c) n = refl
root_other list notes past (Gap g) n = refl
root_other list notes past (Transition t) n = refl
root_other list notes past (Stack s) n = refl
root_other list notes past (Track t) n = absurd (n t refl)

-- ---- all root children

pub record HaveNoted (list : EventList) (order : List Note) (items : List (ItemOf Listed)) (i : ℕ) (kinds : Kinds) (copies : List (ItemOf Listed)) : Type 0 where
  pub counted : AreCounted (take i items) kinds
  pub way : (notes : List Note) → HaveSameOwn notes order → (rest : List (ItemOf Listed)) → AreNotedRoots list notes (take i items) (drop i items) rest → AreNotedRoots list notes [] items (copies ++ rest)

pub roots_begin : (list : EventList) (order : List Note) (items : List (ItemOf Listed)) (kinds : Kinds) → kinds.video ≡ 0 → kinds.audio ≡ 0 → HaveNoted list order items 0 kinds []
roots_begin list order items kinds v a = record {
  counted = record { video = v; audio = a };
  way = λ notes same rest h. h;
}

take_next : (xs : List (ItemOf Listed)) (i : ℕ) (x : ItemOf Listed) → slice_get xs i ≡ Some x → take (i + 1) xs ≡ take i xs ++ x ∷ []
take_next xs i x e = take_more xs i x (got_below xs i x e) ∙ ap (λ y. take i xs ++ y ∷ []) (get_or_from_slice_get xs i x x e)

pub roots_more : (list : EventList) (order : List Note) (items : List (ItemOf Listed)) (i : ℕ) (x y : ItemOf Listed) (kinds more : Kinds) (copies new : List (ItemOf Listed)) → slice_get items i ≡ Some x
    → ((past : List (ItemOf Listed)) → AreCounted past kinds → (notes : List Note) → HaveSameOwn notes order → IsNotedRoot list notes past x y)
    → ((past : List (ItemOf Listed)) → AreCounted past kinds → AreCounted (past ++ x ∷ []) more) → new ≡ copies ++ y ∷ []
    → HaveNoted list order items i kinds copies → HaveNoted list order items (i + 1) more new
roots_more list order items i x y kinds more copies new is one count push h = record {
  counted = subst (λ l. AreCounted l more) (sym (take_next items i x is)) (count (take i items) h.counted);
  way = λ notes same rest k.
      let tail : AreNotedRoots list notes (take i items ++ x ∷ []) (drop (i + 1) items) rest = subst (λ l. AreNotedRoots list notes l (drop (i + 1) items) rest) (take_next items i x is) k in
      let step : AreNotedRoots list notes (take i items) (drop i items) (y ∷ rest) =
      subst (λ l. AreNotedRoots list notes (take i items) l (y ∷ rest)) (sym (next items i x is)) (y, rest, refl, one (take i items) h.counted notes same, tail) in
      subst (AreNotedRoots list notes [] items) (sym (ap (λ l. l ++ rest) push ∙ append_assoc copies (y ∷ []) rest)) (h.way notes same (y ∷ rest) step);
}

pub roots_end : (list : EventList) (order : List Note) (items : List (ItemOf Listed)) (i : ℕ) (kinds : Kinds) (copies : List (ItemOf Listed)) → length items ≤ i → HaveNoted list order items i kinds copies
    → (notes : List Note) → HaveSameOwn notes order → AreNotedRoots list notes [] items copies
roots_end list order items i kinds copies le h notes same =
    subst (AreNotedRoots list notes [] items) (append-nil copies)
    (h.way notes same [] (subst (λ l. AreNotedRoots list notes (take i items) l []) (sym (none_left items i le)) refl))

-- so many tracks of a kind can be counted
pub few_kinds : (list : EventList) (order : List Note) (items : List (ItemOf Listed)) (i : ℕ) (kinds : Kinds) (copies : List (ItemOf Listed)) → i ≤ length items → HaveNoted list order items i kinds copies
    → (kinds.video ≤ i) × (kinds.audio ≤ i)
few_kinds list order items i kinds copies le h =
    let v = h.counted.video in let a = h.counted.audio in
    let m = count_small (codes "Video") (take i items) in let n = count_small (codes "Audio") (take i items) in
    let s = length-take-le i items le in
    (omega (arith, v, m, s), omega (arith, a, n, s))

-- ---- the timeline

pub timeline_noted : (t r : Timeline) (list : EventList) (notes : List Note) (made : Listed) → AreNotedRoots list notes [] (items_of t.tracks.children) (items_of made)
    → bare r ≡ bare (record t { tracks = record t.tracks { children = made } }) → IsNoted t list notes r
timeline_noted t r list notes made are is = record {
  roots = items_of made;
  are = are;
  is = is ∙ ap (λ l. bare (record t { tracks = record t.tracks { children = l } })) (sym (listed-items made));
}
