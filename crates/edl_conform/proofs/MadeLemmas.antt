-- Sides and events from their fields.
use Rattle.std.proofs.Common.{◌≡◌, ap, ap₂, subst, ◌∙◌, ℕ, ℤ, pos, List, Option, Some, None, Result, IfOk, option_map}
use Rattle.std.specs.declared.alloc.AllocError.{AllocError}
use Rattle.otio_model.specs.declared.compositions.Clip.{Clip as ClipRow}
use Rattle.edl_frames.specs.Jobs as D
use Rattle.edl_frames.specs.Seats as T
use Rattle.edl_frames.specs.Sides.{side_of, side_out, black_side}
use Rattle.edl_conform.specs.Drafts.{ClipAt, clip_at, shown_at}
use Rattle.edl_list.specs.declared.list.Channel.{Channel}
use Rattle.edl_list.specs.declared.list.Reel.{Reel}
use Rattle.edl_list.specs.declared.list.Side.{Side}
use Rattle.edl_list.specs.declared.list.Cross.{Cross}
use Rattle.edl_list.specs.declared.list.Event.{Event}

abbrev pub side_with : Reel → Option (List ℕ) → ℤ → ℤ → Option ℕ → Side
side_with reel name src_in src_out speed = record {
  reel = reel;
  name = name;
  src_in = src_in;
  src_out = src_out;
  speed = speed;
}

pub same_side : (r q : Reel) (n m : Option (List ℕ)) (a b c d : ℤ) (s t : Option ℕ) → r ≡ q → n ≡ m
    → a ≡ b → c ≡ d → s ≡ t → side_with r n a c s ≡ side_with q m b d t
same_side r q n m a b c d s t er en ea ec es =
    ap (λ x. side_with x n a c s) er
    ∙ ap (λ x. side_with q x a c s) en
    ∙ ap (λ x. side_with q m x c s) ea
    ∙ ap (λ x. side_with q m b x s) ec
    ∙ ap (λ x. side_with q m b d x) es

abbrev pub event_with : Channel → Side → Cross → ℤ → ℤ → Event
event_with channel to cross rec_in rec_out = record {
  line = 0;
  channel = channel;
  to = to;
  cross = cross;
  rec_in = rec_in;
  rec_out = rec_out;
}

pub same_event : (k : Channel) (s t : Side) (x y : Cross) (a b c d : ℤ) → s ≡ t → x ≡ y → a ≡ b
    → c ≡ d
    → event_with k s x a c ≡ event_with k t y b d
same_event k s t x y a b c d es ex ea ec =
    ap (λ z. event_with k z x a c) es
    ∙ ap (λ z. event_with k t z a c) ex
    ∙ ap (λ z. event_with k t y z c) ea
    ∙ ap (λ z. event_with k t y b z) ec

-- a side that is another one
pub ok_as : (r : Result Side AllocError) (a b : Side) → a ≡ b → IfOk r (λ s. s ≡ a)
    → IfOk r (λ s. s ≡ b)
ok_as r a b e h = subst (λ z. IfOk r (λ s. s ≡ z)) e h

out_by : (j : D.Job) (w : Option ClipRow) (clip : ClipRow) (start at u : ℤ)
    → Some (clip_at clip start) ≡ option_map (λ c. clip_at c at) w
    → side_of j clip start u (pos 0)
    ≡ elim w [ None ↦ black_side (pos 0) | Some c ↦ side_of j c at u (pos 0) ]
out_by j None clip start at u e = absurd (cc e)
out_by j (Some c) clip start at u e =
    let same : clip_at clip start ≡ clip_at c at = cc e in
    ap₂ (λ x y. side_of j x y u (pos 0)) (ap (λ (s : ClipAt). s.clip) same)
    (ap (λ (s : ClipAt). s.start) same)

-- the side that goes out is that of the clip that stands before
pub out_is : (j : D.Job) (o : Option T.ItemAt) (clip : ClipRow) (start u : ℤ)
    → Some (clip_at clip start) ≡ shown_at o
    → side_of j clip start u (pos 0) ≡ side_out j o u
out_is j None clip start u e = absurd (cc e)
out_is j (Some s) clip start u e = out_by j (T.clip_in s.item) clip start s.start u e
