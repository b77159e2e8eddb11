-- The joined timeline, from what is kept of the inputs.
use mathlib.Core.Path.{Path}
use Rattle.std.proofs.Common.{◌≡◌, refl, sym, subst, ap, ap₂, ◌∙◌, ℕ, zero, suc, ◌+◌, ◌<◌, ◌≤◌, ◌-ℤ◌, Bool, true, false, Some, None, List, [], ◌∷◌, ◌++◌, map, take, append_assoc, arith}
use Rattle.std.specs.Prelude.{slice_get, option_map}
use Rattle.std.proofs.lemmas.List.{append-nil, map-append}
use Rattle.tick_time.specs.declared.rates.Rate.{Rate}
use Rattle.tick_time.specs.Rates.{frame}
use Rattle.otio_model.specs.declared.compositions.ItemOf.{ItemOf}
use Rattle.otio_model.specs.declared.compositions.Listed.{Listed}
use Rattle.otio_model.specs.declared.timelines.Timeline.{Timeline}
use Rattle.otio_model.specs.Counts.{count, counts_by}
use Rattle.otio_model.specs.Falls.{count-listed}
use Rattle.otio_model.specs.Timelines.{bare}
use Rattle.edits.specs.Children.{all_made, with_first}
use Rattle.edits.specs.Cuts.{olds}
use Rattle.edits_law.proofs.Splice.{cases}
use Rattle.edits.specs.After.{rate_of}
use Rattle.edits.specs.Edges.{added}
use Rattle.flat.specs.declared.faults.Cause.TheVariants as C
use Rattle.flat.specs.Answers.{AreFree, Joins, joins}
use Rattle.flat.specs.Blocked.{IsFree}
use Rattle.flat.specs.Joined.{IsJoined, JoinBlocks, Slot, joined_children, joined_slots, joined_tracks, joined_with, own_items, pad, slots, stretch, track_of}
use Rattle.flat.specs.Joined as J
use Rattle.flat.specs.Roots.{is_plain, roots, with_roots}
use Rattle.flat_stack.proofs.CopyLemmas.{head_is, tail_is, taken_more}
use Rattle.flat_law.proofs.Joined.{AllPlain, AreGoodSlots, good_slots}
use Rattle.flat.specs.Roots.{ArePlainTracks}
use Rattle.coord.proofs.Members.{same_some}
use Rattle.flat_stack.specs.declared.inputs.Part.{Part}
use Rattle.flat_stack.specs.Inputs.{AreParts, AreStretched, IsJoinedOf, IsPreparedInput, IsWithin, children_from, given, inputs_of, list_of, lists_of, pad_behind, track_counts, tracks_from}
use Rattle.flat_stack.proofs.CountLemmas.{tracks_made}

-- ---- inputs that nothing refuses have plain tracks alone

plain_by : (l : List (ItemOf Listed))
    → ((i : ℕ) (x : ItemOf Listed) → slice_get l i ≡ Some x → is_plain x ≡ true) → ArePlainTracks l
plain_by [] f = tt
plain_by (x ∷ l) f = (f 0 x refl, plain_by l (λ i y e. f (suc i) y e))

free_plain : (f s : Bool) (t : Timeline) → IsFree (JoinBlocks f s (roots t)) → ArePlainTracks (roots t)
free_plain f s t free = plain_by (roots t) (λ i x e. cases (is_plain x) (λ z. z)
    (λ z. absurd (free (i ∷ []) C.Nested (J.not_plain (i ∷ []) i x refl e z))))

pub plain_inputs : (f : Bool) (l : List Timeline) (i : ℕ) (t : Timeline) → AreFree f l
    → slice_get l i ≡ Some t → ArePlainTracks (roots t)
plain_inputs f [] i t a e = absurd (cc e)
plain_inputs f (q ∷ []) zero t a e =
    subst (λ (z : Timeline). ArePlainTracks (roots z)) (same_some q t e) (free_plain f true q a)
plain_inputs f (q ∷ []) (suc i) t a e = absurd (cc e)
plain_inputs f (q ∷ (m ∷ more)) zero t a e =
    subst (λ (z : Timeline). ArePlainTracks (roots z)) (same_some q t e) (free_plain f false q a.0)
plain_inputs f (q ∷ (m ∷ more)) (suc i) t a e = plain_inputs false (m ∷ more) i t a.1 e

-- ---- the loop over inputs

-- of so many inputs all is kept
pub record AreKept (f : ℕ) (l : List Timeline) (ps : List Part) (i : ℕ) : Type 0 where
  pub parts : AreParts ps
  pub inputs : inputs_of ps ≡ take i l
  pub stretched : AreStretched f ps

pub kept_first : (f : ℕ) (l : List Timeline) (ps : List Part) → ps ≡ [] → AreKept f l ps 0
kept_first f l ps e = subst (λ z. AreKept f l z 0) (sym e)
    (record { parts = λ i p h. absurd (cc h); inputs = refl; stretched = tt })

parts_more : (ps : List Part) (p : Part) → AreParts ps → IsPreparedInput p → AreParts (ps ++ p ∷ [])
parts_more [] p a k zero q e = subst IsPreparedInput (same_some p q e) k
parts_more [] p a k (suc i) q e = absurd (none i e)
  where
    none : (i : ℕ) → slice_get {X = Part} [] i ≡ Some q → ⊥
    none zero e = cc e
    none (suc i) e = cc e
parts_more (r ∷ ps) p a k zero q e = a zero q e
parts_more (r ∷ ps) p a k (suc i) q e = parts_more ps p (λ j z h. a (suc j) z h) k i q e

stretched_more : (f : ℕ) (ps : List Part) (p : Part) → AreStretched f ps
    → p.stretch ≡ stretch f (list_of p) → AreStretched f (ps ++ p ∷ [])
stretched_more f [] p a e = (e, tt)
stretched_more f (r ∷ ps) p a e = (a.0, stretched_more f ps p a.1 e)

pub kept_more : (f : ℕ) (l : List Timeline) (ps more : List Part) (i : ℕ) (t : Timeline) (p : Part)
    → AreKept f l ps i → slice_get l i ≡ Some t → IsPreparedInput p → p.input.now ≡ t
    → p.stretch ≡ stretch f (roots t) → more ≡ ps ++ p ∷ [] → AreKept f l more (i + 1)
kept_more f l ps more i t p a e k g h n = subst (λ z. AreKept f l z (i + 1)) (sym n) (record {
  parts = parts_more ps p a.parts k;
  inputs = map-append (λ (q : Part). q.input.now) ps (p ∷ []) ∙ ap₂ (λ y z. y ++ z ∷ []) a.inputs g
      ∙ sym (taken_more l i t e);
  stretched = stretched_more f ps p a.stretched
      (h ∙ ap (λ (z : Timeline). stretch f (roots z)) (sym g));
})

-- ---- a joined track is as it is defined

children_same : (f : ℕ) (s : Slot) (p : Part) (ps : List Part) → AreStretched f (p ∷ ps)
    → children_from s (p ∷ ps) ≡ joined_children f s.kind s.index (list_of p) (lists_of ps)
children_same f s p [] a =
    append-nil (olds (given s p) ++ []) ∙ append-nil (olds (given s p))
children_same f s p (q ∷ ps) a =
    append_assoc (olds (given s p)) (pad_behind s p) (children_from s (q ∷ ps))
    ∙ ap₂ (λ n m. olds (given s p) ++ (pad (n -ℤ added (given s p)) ++ m)) a.0 (children_same f s q ps a.1)

tracks_same : (r : Rate) (p : Part) (ps : List Part) (ss : List Slot)
    → AreStretched (frame r.num r.den) (p ∷ ps)
    → tracks_from r (p ∷ ps) ss ≡ joined_tracks r (list_of p) (lists_of ps) ss
tracks_same r p ps [] a = refl
tracks_same r p ps (s ∷ ss) a =
    ap₂ (λ m o. with_first (option_map (joined_with s.first) (all_made r m)) o)
    (children_same (frame r.num r.den) s p ps a) (tracks_same r p ps ss a)

lists_are : (ps : List Part) → lists_of ps ≡ map roots (inputs_of ps)
lists_are [] = refl
lists_are (p ∷ ps) = ap (λ l. list_of p ∷ l) (lists_are ps)

pub slots_are : (ps : List Part) (t : Timeline) (more : List Timeline) → inputs_of ps ≡ t ∷ more
    → slots [] (lists_of ps) ≡ joined_slots t more
slots_are ps t more e = ap (slots []) (lists_are ps ∙ ap (map roots) e)

pub tracks_are : (r : Rate) (ps : List Part) (t : Timeline) (more : List Timeline) (ss : List Slot)
    → inputs_of ps ≡ t ∷ more → AreStretched (frame r.num r.den) ps
    → tracks_from r ps ss ≡ joined_tracks r (roots t) (map roots more) ss
tracks_are r [] t more ss e a = absurd (none e)
  where
    none : Path (List Timeline) [] (t ∷ more) → ⊥
    none f = cc f
tracks_are r (p ∷ ps) t more ss e a =
    tracks_same r p ps ss a
    ∙ ap (λ m. joined_tracks r (list_of p) m ss) (lists_are ps ∙ ap (map roots) (tail_is p.input.now t (inputs_of ps) more e))
    ∙ ap (λ (z : Timeline). joined_tracks r (roots z) (map roots more) ss) (head_is p.input.now t (inputs_of ps) more e)

-- ---- what is joined

all_plain : (ps : List Part) → AreParts ps → AllPlain (lists_of ps)
all_plain [] a = tt
all_plain (p ∷ ps) a = ((a 0 p refl).plain, all_plain ps (λ i q e. a (suc i) q e))

good : (ps : List Part) (ss : List Slot) → AreParts ps → ss ≡ slots [] (lists_of ps) → AreGoodSlots ss
good ps ss a e = subst AreGoodSlots (sym e) (good_slots [] (lists_of ps) (all_plain ps a))

count_bare : (t r : Timeline) (l : List (ItemOf Listed)) → bare r ≡ bare (with_roots l t)
    → count r.tracks.children ≡ counts_by count l
count_bare t r l e = ap (λ (z : Timeline). count z.tracks.children) e ∙ count-listed l

-- all that is known of the inputs, and of the first
pub record IsAll (l : List Timeline) (t : Timeline) (r : Rate) (ps : List Part) (ss : List Slot)
    : Type 0 where
  pub free : AreFree true l
  pub there : slice_get l 0 ≡ Some t
  pub rate : r ≡ rate_of t
  pub parts : AreParts ps
  pub inputs : inputs_of ps ≡ l
  pub stretched : AreStretched (frame r.num r.den) ps
  pub slots : ss ≡ J.slots [] (lists_of ps)

-- with the inputs kept under another name
pub all_kept : (l : List Timeline) (t : Timeline) (r : Rate) (ps kept : List Part) (ss : List Slot)
    → AreFree true l → slice_get l 0 ≡ Some t → r ≡ rate_of t → AreParts ps → ps ≡ kept
    → inputs_of kept ≡ l → AreStretched (frame r.num r.den) kept → ss ≡ J.slots [] (lists_of ps)
    → IsAll l t r ps ss
all_kept l t r ps kept ss free there rate parts same inputs stretched slots = record {
  free = free;
  there = there;
  rate = rate;
  parts = parts;
  inputs = ap inputs_of same ∙ inputs;
  stretched = subst (AreStretched (frame r.num r.den)) (sym same) stretched;
  slots = slots;
}

pub first_of : (l : List Timeline) (t : Timeline) → slice_get l 0 ≡ Some t
    → (more : List Timeline) × (l ≡ t ∷ more)
first_of [] t e = absurd (cc e)
first_of (q ∷ l) t e = (l, ap (λ (z : Timeline). z ∷ l) (same_some q t e))

pub joined_is : (l : List Timeline) (t : Timeline) (r : Rate) (ps : List Part) (ss : List Slot)
    (j : Timeline) → IsAll l t r ps ss → IsJoinedOf r t ps ss j → Joins l j
joined_is l t r ps ss j a k =
    let m = first_of l t a.there in
    joins t m.0 l j m.1 a.free (record {
      tracks = k.tracks;
      are = ap (λ (z : Rate). joined_tracks z (roots t) (map roots m.0) (joined_slots t m.0)) (sym a.rate)
          ∙ ap (joined_tracks r (roots t) (map roots m.0)) (sym (slots_are ps t m.0 (a.inputs ∙ m.1)) ∙ sym a.slots)
          ∙ sym (tracks_are r ps t m.0 ss (a.inputs ∙ m.1) a.stretched) ∙ k.are;
      is = k.is;
    })

pub joined_count : (l : List Timeline) (t : Timeline) (r : Rate) (ps : List Part) (ss : List Slot)
    (j : Timeline) → IsAll l t r ps ss → IsJoinedOf r t ps ss j
    → count j.tracks.children ≡ track_counts ps ss
joined_count l t r ps ss j a k =
    count_bare t j k.tracks k.is ∙ tracks_made r ps ss k.tracks (good ps ss a.parts a.slots) k.are

pub within_some : (l : List Timeline) (t : Timeline) (r : Rate) (ps : List Part) (ss : List Slot)
    (j : Timeline) (most : ℕ) → IsAll l t r ps ss → IsJoinedOf r t ps ss j
    → track_counts ps ss ≤ most → IsWithin l most (Some j)
within_some l t r ps ss j most a k h =
    let n = joined_count l t r ps ss j a k in (joined_is l t r ps ss j a k, omega (arith, n, h))

pub within_none : (l : List Timeline) (t : Timeline) (r : Rate) (ps : List Part) (ss : List Slot)
    (most : ℕ) → IsAll l t r ps ss → most < track_counts ps ss → IsWithin l most None
within_none l t r ps ss most a h j k = of l a k
  where
    of : (m : List Timeline) → IsAll m t r ps ss → Joins m j → most < count j.tracks.children
    of _ b (joins u more m j e free is) =
        let same : u ≡ t = same_some u t (sym (ap (λ z. slice_get z 0) e) ∙ b.there) in
        let rate : r ≡ rate_of u = b.rate ∙ ap (λ (z : Timeline). rate_of z) (sym same) in
        let are : tracks_from r ps ss ≡ Some is.tracks =
        tracks_are r ps u more ss (b.inputs ∙ e) b.stretched
        ∙ ap (joined_tracks r (roots u) (map roots more)) (b.slots ∙ slots_are ps u more (b.inputs ∙ e))
        ∙ ap (λ (z : Rate). joined_tracks z (roots u) (map roots more) (joined_slots u more)) rate ∙ is.are in
        let n : count j.tracks.children ≡ track_counts ps ss =
        count_bare u j is.tracks is.is ∙ tracks_made r ps ss is.tracks (good ps ss b.parts b.slots) are in
        omega (arith, n, h)
