-- The notes that are found, one event after another.
use Rattle.std.proofs.Common.{◌≡◌, ◌<◌, ◌≤◌, ◌+◌, ℕ, zero, suc, ℤ, pos, ◌+ℤ◌, ◌-ℤ◌, ◌≤ℤ◌, ◌<ℤ◌, unsigned_abs, Bool, true, false, cond, List, [], ◌∷◌, ◌++◌, Option, Some, None, codes, length, take, drop, slice_get, slice_index_or, refl, sym, ap, subst, ◌∙◌, append_assoc, append-nil, arith}
use Rattle.std.specs.Ordering.{int_eq}
use Rattle.std.proofs.lemmas.Int.{ints}
use Rattle.std.proofs.lemmas.List.{take_more}
use Rattle.otio_model.specs.declared.markers.Marker.{Marker}
use Rattle.otio_model.specs.declared.markers.Mark.{Mark}
use Rattle.otio_model.specs.declared.compositions.Clip.{Clip as ClipRow}
use Rattle.otio_model.specs.declared.compositions.ItemOf.{ItemOf}
use Rattle.otio_model.specs.declared.compositions.ItemOf.TheVariants.{Clip, Gap, Transition, Stack, Track}
use Rattle.otio_model.specs.declared.compositions.Listed.{Listed}
use Rattle.otio_model.specs.declared.timelines.Timeline.{Timeline}
use Rattle.otio_model.specs.Trees.{item_at}
use Rattle.coord.proofs.Members.{next, none_left, same_some}
use Rattle.tick_time.specs.declared.rates.Rate.{Rate}
use Rattle.edl_list.specs.declared.list.Event.{Event}
use Rattle.edl_list.specs.declared.list.Side.{Side}
use Rattle.edl_list.specs.Formed.{IsEvent}
use Rattle.edl_list.specs.Speeds.{count_of, day_of}
use Rattle.edl_frames.specs.Shown.{source_frame}
use Rattle.edl_list.specs.declared.list.EventList.{EventList}
use Rattle.edl_frames.specs.Conformed.{is_black}
use Rattle.edl_frames.specs.Homes.{AreHomes}
use Rattle.edl_text.specs.Columns.{cleaned}
use Rattle.note_text.specs.Forms.{IsColor}
use Rattle.json_value.specs.declared.Json.{Json}
use Rattle.note_text.specs.Belonging.{first_from, first_shown}
use Rattle.note_text.proofs.SourceFrames.{short_day}
use Rattle.note_text.specs.Found.{AreNotesFrom, AreNotesOf, HasSat, HasSop, IsColorOf, SaysClip, SaysHome, SaysMark, SaysSat, SaysSop, SayMarkers, SaysMarker, as_notes, color_text, marked_frame}
use Rattle.note_text.specs.declared.notes.Triple.{Triple}
use Rattle.note_text.specs.declared.notes.Said.{Said}
use Rattle.note_text.specs.declared.notes.Said.TheVariants.{Loc, Sop, Sat}
use Rattle.note_text.specs.declared.notes.Note.{Note}
use Rattle.edl_notes.specs.Steps.{AddsSaid, SaysAt, shown_clip}
use Rattle.limits.proofs.IntegerSums.{size-of_natural}

as_append : (index : ℕ) (a b : List Said) → as_notes index (a ++ b) ≡ as_notes index a ++ as_notes index b
as_append index [] b = refl
as_append index (s ∷ a) b = ap (λ l. record { event = index; said = s } ∷ l) (as_append index a b)

-- nothing was put
pub adds_nothing : (index : ℕ) (Says : List Said → Type 0) (old : List Note) → Says [] → AddsSaid index Says old old
adds_nothing index Says old h = record { said = []; says = h; is = sym (append-nil old) }

-- one note was put
pub adds_one : (index : ℕ) (Says : List Said → Type 0) (said : Said) (old new : List Note) → Says (said ∷ []) → new ≡ old ++ record { event = index; said = said } ∷ [] → AddsSaid index Says old new
adds_one index Says said old new h push = record { said = said ∷ []; says = h; is = push }

-- the same, in other words
pub adds_as : (index : ℕ) (Says As : List Said → Type 0) (old new : List Note) → ((said : List Said) → Says said → As said) → AddsSaid index Says old new → AddsSaid index As old new
adds_as index Says As old new f h = record { said = h.said; says = f h.said h.says; is = h.is }

-- ---- markers

markers_more : (rate : Rate) (e : Event) (ms : List Marker) (m : Marker) (a b : List Said) → SayMarkers rate e ms a → SaysMarker rate e m b → SayMarkers rate e (ms ++ m ∷ []) (a ++ b)
markers_more rate e [] m a b h k = (b, [], ap (λ l. l ++ b) h ∙ sym (append-nil b), k, refl)
markers_more rate e (x ∷ ms) m a b h k =
    (h.0, h.1 ++ b, ap (λ l. l ++ b) h.2 ∙ append_assoc h.0 h.1 b, h.3, markers_more rate e ms m h.1 b h.4 k)

-- one marker more
pub markers_next : (rate : Rate) (e : Event) (index : ℕ) (ms : List Marker) (i : ℕ) (m : Marker) (old mid new : List Note) → i < length ms → m ≡ slice_index_or ms i m
    → AddsSaid index (SaysMarker rate e m) mid new → AddsSaid index (SayMarkers rate e (take i ms)) old mid → AddsSaid index (SayMarkers rate e (take (i + 1) ms)) old new
markers_next rate e index ms i m old mid new within is here before =
    let taken : take (i + 1) ms ≡ take i ms ++ m ∷ [] = take_more ms i m within ∙ ap (λ x. take i ms ++ x ∷ []) (sym is) in
    record {
      said = before.said ++ here.said;
      says = subst (λ l. SayMarkers rate e l (before.said ++ here.said)) (sym taken) (markers_more rate e (take i ms) m before.said here.said before.says here.says);
      is = here.is ∙ ap (λ l. l ++ as_notes index here.said) before.is ∙ append_assoc old (as_notes index before.said) (as_notes index here.said)
          ∙ ap (λ l. old ++ l) (sym (as_append index before.said here.said));
    }

-- the locator of a mark
pub says_mark : (rate : Rate) (e : Event) (mark : Mark) (at : ℤ) (color name : List ℕ) → IsColorOf mark color → name ≡ cleaned mark.name → SaysAt rate e mark at → SaysMark rate e mark (Loc at color name ∷ [])
says_mark rate e mark at color name c n h =
    subst (λ z. SaysMark rate e mark (Loc z color name ∷ [])) (sym h.is)
    (subst (λ z. SaysMark rate e mark (Loc (e.rec_in +ℤ pos h.k) color z ∷ [])) (sym n) (SaysMark.some h.v h.k color h.marked h.first c))

-- ---- clips

-- what a clip says was put: its color corrections, and then its markers
pub clip_adds : (rate : Rate) (e : Event) (c : ClipRow) (index : ℕ) (old a b new : List Note) → AddsSaid index (SaysSop c.metadata) old a → AddsSaid index (SaysSat c.metadata) a b
    → AddsSaid index (SayMarkers rate e c.markers) b new → AddsSaid index (SaysClip rate e c) old new
clip_adds rate e c index old a b new sop sat marks = record {
  said = sop.said ++ (sat.said ++ marks.said);
  says = record { sop = sop.said; sat = sat.said; marks = marks.said; is = refl; is_sop = sop.says; is_sat = sat.says; are_marks = marks.says };
  is = marks.is ∙ ap (λ l. l ++ as_notes index marks.said) (sat.is ∙ ap (λ l. l ++ as_notes index sat.said) sop.is)
      ∙ append_assoc (old ++ as_notes index sop.said) (as_notes index sat.said) (as_notes index marks.said)
      ∙ append_assoc old (as_notes index sop.said) (as_notes index sat.said ++ as_notes index marks.said)
      ∙ ap (λ l. old ++ l) (sym (as_append index sop.said (sat.said ++ marks.said) ∙ ap (λ l. as_notes index sop.said ++ l) (as_append index sat.said marks.said)));
}

-- what the item at its home says of an event whose clip is this
pub home_clip : (rate : Rate) (e : Event) (o : Option (ItemOf Listed)) (c : ClipRow) (said : List Said) → shown_clip e o ≡ Some c → SaysClip rate e c said → SaysHome rate e o said
home_clip rate e None c said f h = absurd (cc f)
home_clip rate e (Some (Clip r)) c said f h = by (is_black e.to.reel) f
  where
    by : (b : Bool) → ◌≡◌ {A = Option ClipRow} (cond b None (Some r)) (Some c) → cond b (said ≡ []) (SaysClip rate e r said)
    by true g = absurd (cc g)
    by false g = subst (λ x. SaysClip rate e x said) (sym (same_some r c g)) h
home_clip rate e (Some (Gap g)) c said f h = absurd (cc f)
home_clip rate e (Some (Transition t)) c said f h = absurd (cc f)
home_clip rate e (Some (Stack s)) c said f h = absurd (cc f)
home_clip rate e (Some (Track t)) c said f h = absurd (cc f)

-- and of one that shows none
pub home_none : (rate : Rate) (e : Event) (o : Option (ItemOf Listed)) → shown_clip e o ≡ None → SaysHome rate e o []
home_none rate e None f = refl
home_none rate e (Some (Clip r)) f = by (is_black e.to.reel) f
  where
    by : (b : Bool) → ◌≡◌ {A = Option ClipRow} (cond b None (Some r)) None → cond b (◌≡◌ {A = List Said} [] []) (SaysClip rate e r [])
    by true g = refl
    by false g = absurd (cc g)
home_none rate e (Some (Gap g)) f = refl
home_none rate e (Some (Transition t)) f = refl
home_none rate e (Some (Stack s)) f = refl
home_none rate e (Some (Track t)) f = refl

-- ---- all events

-- the notes of the events so far were put: with those of the others they are the notes of all
abbrev pub HaveFound : Timeline → Rate → List Event → List (List ℕ) → ℕ → List Note → Type 0
HaveFound t rate events homes i notes = (rest : List Note) → AreNotesFrom t rate i (drop i events) (drop i homes) rest → AreNotesFrom t rate 0 events homes (notes ++ rest)

pub found_more : (t : Timeline) (rate : Rate) (events : List Event) (homes : List (List ℕ)) (i : ℕ) (e : Event) (home : List ℕ) (old new : List Note) → slice_get events i ≡ Some e → slice_get homes i ≡ Some home
    → AddsSaid i (SaysHome rate e (item_at home t.tracks.children)) old new → HaveFound t rate events homes i old → HaveFound t rate events homes (i + 1) new
found_more t rate events homes i e home old new at_e at_h here before rest h =
    let turned : AreNotesFrom t rate (suc i) (drop (i + 1) events) (drop (i + 1) homes) rest = subst (λ n. AreNotesFrom t rate n (drop (i + 1) events) (drop (i + 1) homes) rest) (let z : i + 1 ≡ suc i = omega arith in z) h in
    let step : AreNotesFrom t rate i (e ∷ drop (i + 1) events) (home ∷ drop (i + 1) homes) (as_notes i here.said ++ rest) = (here.said, rest, refl, here.says, turned) in
    let all : AreNotesFrom t rate i (drop i events) (drop i homes) (as_notes i here.said ++ rest) =
    subst (λ l. AreNotesFrom t rate i l (drop i homes) (as_notes i here.said ++ rest)) (sym (next events i e at_e))
    (subst (λ l. AreNotesFrom t rate i (e ∷ drop (i + 1) events) l (as_notes i here.said ++ rest)) (sym (next homes i home at_h)) step) in
    subst (AreNotesFrom t rate 0 events homes) (sym (ap (λ l. l ++ rest) here.is ∙ append_assoc old (as_notes i here.said) rest)) (before (as_notes i here.said ++ rest) all)

pub found_all : (t : Timeline) (list : EventList) (homes : List (List ℕ)) (i : ℕ) (notes : List Note) → length list.events ≤ i → AreHomes t list homes → HaveFound t list.rate list.events homes i notes → AreNotesOf t list notes
found_all t list homes i notes le are h = record {
  homes = homes;
  are_homes = are;
  are = subst (AreNotesFrom t list.rate 0 list.events homes) (append-nil notes)
      (h [] (subst (λ l. AreNotesFrom t list.rate i l (drop i homes) []) (sym (none_left list.events i le)) refl));
}

-- ---- what metadata and marks say

pub says_sop : (metadata : List (List ℕ × Json)) (slope offset power : Triple) → HasSop metadata slope offset power → SaysSop metadata (Sop slope offset power ∷ [])
says_sop metadata slope offset power h = SaysSop.some slope offset power h

pub says_no_sop : (metadata : List (List ℕ × Json)) → ((slope offset power : Triple) → HasSop metadata slope offset power → ⊥) → SaysSop metadata []
says_no_sop metadata h = SaysSop.none h

pub says_sat : (metadata : List (List ℕ × Json)) (numeral : List ℕ) → HasSat metadata numeral → SaysSat metadata (Sat numeral ∷ [])
says_sat metadata numeral h = SaysSat.some numeral h

pub says_no_sat : (metadata : List (List ℕ × Json)) → ((numeral : List ℕ) → HasSat metadata numeral → ⊥) → SaysSat metadata []
says_no_sat metadata h = SaysSat.none h

pub says_no_mark : (rate : Rate) (e : Event) (mark : Mark) → ((v : ℤ) (k : ℕ) → marked_frame rate mark ≡ Some v → first_shown rate e v ≡ Some k → ⊥) → SaysMark rate e mark []
says_no_mark rate e mark h = SaysMark.none h

pub own_color : (mark : Mark) (color : List ℕ) → color_text mark ≡ Some color → IsColor color → IsColorOf mark color
own_color mark color e h = IsColorOf.own color e h

pub not_own : (mark : Mark) (color : List ℕ) → color_text mark ≡ Some color → (IsColor color → ⊥) → IsColorOf mark (codes "RED")
not_own mark color e n = IsColorOf.red (λ other f h. n (subst IsColor (same_some other color (sym f ∙ e)) h))

pub no_color : (mark : Mark) → color_text mark ≡ None → IsColorOf mark (codes "RED")
no_color mark e = IsColorOf.red (λ other f h. absurd (cc (sym e ∙ f)))

-- ---- the record frame of a mark

first_below : (left : ℕ) (rate : Rate) (side : Side) (frame : ℤ) (k r : ℕ) → first_from rate side frame k left ≡ Some r → r < k + left
first_below zero rate side frame k r e = absurd (cc e)
first_below (suc left) rate side frame k r e = by (int_eq (source_frame rate side (pos k)) frame) (first_below left rate side frame (suc k) r) e
  where
    by : (b : Bool) → (first_from rate side frame (suc k) left ≡ Some r → r < suc k + left) → cond b (Some k) (first_from rate side frame (suc k) left) ≡ Some r → r < k + suc left
    by true h f = let same : k ≡ r = cc f in omega (arith, same)
    by false h f = let g = h f in omega (arith, g)

-- so many frames after its record in lies in the event
pub record IsShownAt (e : Event) (k : ℤ) : Type 0 where
  pub few : unsigned_abs k < 5184000
  pub begins : pos 0 ≤ℤ e.rec_in
  pub low : pos 0 ≤ℤ (e.rec_in +ℤ pos (unsigned_abs k))
  pub high : (e.rec_in +ℤ pos (unsigned_abs k)) <ℤ pos 5184000

pub shown_at : (rate : Rate) (e : Event) (v k : ℤ) → 1 ≤ count_of rate → IsEvent (day_of rate) e → Some (unsigned_abs k) ≡ first_shown rate e v → IsShownAt e k
shown_at rate e v k some is h =
    let day = short_day rate some in
    let below = first_below (unsigned_abs (e.rec_out -ℤ e.rec_in)) rate e.to v 0 (unsigned_abs k) (sym h) in
    let a = is.rec_in.low in let b = is.rec_out.high in let c = is.some in
    let long = size-of_natural (e.rec_out -ℤ e.rec_in) (omega (arith, ints, c)) in
    record {
      few = omega (arith, ints, day, below, a, b, long);
      begins = a;
      low = omega (arith, ints, a);
      high = omega (arith, ints, day, below, a, b, long);
    }
