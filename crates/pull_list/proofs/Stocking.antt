-- How the clips of a timeline are stocked, one after another.
use Rattle.std.proofs.Common.{◌≡◌, refl, sym, ap, ap₂, subst, ◌∙◌, append_assoc, ℕ, zero, suc, ◌+◌, ◌<◌, ◌≤◌, ℤ, pos, ◌-ℤ◌, ◌≤ℤ◌, ◌<ℤ◌, ◌⊎◌, inl, inr, List, [], ◌∷◌, ◌++◌, length, map, get_or, take, Option, Some, None, slice_get, OnOk, arith}
use Rattle.std.specs.List.{Contains}
use Rattle.std.specs.Prelude.{Result, Ok, Err}
use Rattle.std.specs.declared.alloc.AllocError.{AllocError}
use Rattle.std.proofs.lemmas.List.{take_all, take_more}
use Rattle.std.proofs.lemmas.List.Quantifiers.{all_pairs_push}
use Rattle.std.proofs.lemmas.Option.{get_or_from_slice_get, same_Some, slice_get_within, slice_get-get_or}
use Rattle.otio_model.specs.Lengths.{clip_range}
use Rattle.otio_model.specs.declared.compositions.Clip.{Clip as ClipRow}
use Rattle.otio_model.specs.declared.compositions.ItemOf.{ItemOf}
use Rattle.otio_model.specs.declared.compositions.Listed.{Listed}
use Rattle.otio_model.specs.Trees.{items_of}
use Rattle.tick_time.specs.declared.spans.Span.{Span}
use Rattle.coord.specs.Keys.{media_rate}
use Rattle.show_prog.specs.Spots.{below_index, spots, spots_from, spots_of}
use Rattle.show_prog.proofs.SpotLemmas.{spots_are}
use Rattle.pull_list.specs.Found.{AddsFrames, AddsGroup, AreGroups, HasClip, IsHad, IsStock, clips_in, clips_of_item}
use Rattle.pull_list.specs.Labels.{HasNumber}
use Rattle.pull_list.specs.Pulled.{StandsFirst}
use Rattle.pull_list.specs.Runs.{Has, further}
use Rattle.pull_list.specs.Used.{ClipGroup}
use Rattle.pull_list.specs.Wanted.{HasAvailable, IsOf}
use Rattle.pull_list.specs.declared.runs.Run.{Run}
use Rattle.pull_list.proofs.Collecting.{clip_of, clips_append, clips_below, contains_back, contains_front}
use Rattle.pull_list.proofs.LabelLemmas.{get_either, get_front}

-- ---- one clip more

-- a clip is of one group
one_group : (c : ClipRow) (g h : ClipGroup) → IsOf g c → IsOf h c → g ≡ h
one_group c g h a b =
    let key = sym a.0 ∙ b.0 in let rate = same_Some g.rate h.rate (sym a.1 ∙ b.1) in
    λ i. record { key = key i; rate = rate i }

last_of : (clips : List ClipRow) (c d : ClipRow) → Contains (clips ++ c ∷ []) d
    → Contains clips d ⊎ (c ≡ d)
last_of [] c d (zero, lt, e) = inr e
last_of [] c d (suc k, lt, e) = absurd (omega (arith, lt))
last_of (x ∷ clips) c d (zero, lt, e) = inl (0, omega arith, e)
last_of (x ∷ clips) c d (suc k, lt, e) = by (last_of clips c d (k, omega (arith, lt), e))
  where
    by : Contains clips d ⊎ (c ≡ d) → Contains (x ∷ clips) d ⊎ (c ≡ d)
    by (inl h) = inl (suc h.0, omega (arith, h.1), h.2)
    by (inr h) = inr h

front_clip : (clips : List ClipRow) (c : ClipRow) (g : ClipGroup) → HasClip clips g
    → HasClip (clips ++ c ∷ []) g
front_clip clips c g h = record {
  clip = h.clip;
  among = contains_front clips (c ∷ []) h.clip h.among.0 h.among.1 h.among.2;
  is = h.is;
}

last_clip : (clips : List ClipRow) (c : ClipRow) (g : ClipGroup) → IsOf g c → HasClip (clips ++ c ∷ []) g
last_clip clips c g is = record {
  clip = c;
  among = contains_back clips (c ∷ []) c (0, omega arith, refl);
  is = is;
}

-- a group that had no clip gets one only with this one
has_either : (clips : List ClipRow) (c : ClipRow) (g : ClipGroup) → HasClip (clips ++ c ∷ []) g
    → HasClip clips g ⊎ IsOf g c
has_either clips c g h = by (last_of clips c h.clip h.among)
  where
    by : Contains clips h.clip ⊎ (c ≡ h.clip) → HasClip clips g ⊎ IsOf g c
    by (inl x) = inl (record { clip = h.clip; among = x; is = h.is })
    by (inr e) = inr (subst (IsOf g) (sym e) h.is)

stands_more : (clips : List ClipRow) (c : ClipRow) (g h : ClipGroup) → StandsFirst clips g h
    → StandsFirst (clips ++ c ∷ []) g h
stands_more clips c g h s = record {
  ahead = s.ahead;
  first = s.first;
  after = s.after ++ c ∷ [];
  clips_are = ap (λ l. l ++ c ∷ []) s.clips_are ∙ append_assoc s.ahead (s.first ∷ s.after) (c ∷ []);
  is_first = s.is_first;
  not_yet = s.not_yet;
}

-- a list at one of its clips
record IsCut (clips : List ClipRow) (c : ClipRow) : Type 0 where
  ahead : List ClipRow
  after : List ClipRow
  are : clips ≡ ahead ++ c ∷ after

cut : (clips : List ClipRow) (c : ClipRow) (k : ℕ) → k < length clips → get_or clips k c ≡ c
    → IsCut clips c
cut [] c k lt e = absurd (omega (arith, lt))
cut (x ∷ clips) c zero lt e =
    record { ahead = []; after = clips; are = ap (λ y. y ∷ clips) e }
cut (x ∷ clips) c (suc k) lt e =
    let more = cut clips c k (omega (arith, lt)) e in
    record { ahead = x ∷ more.ahead; after = more.after; are = ap (λ l. x ∷ l) more.are }

-- where none of the clips is of a group, the other stands first
stands_last : (clips : List ClipRow) (c : ClipRow) (g h : ClipGroup) → HasClip clips g
    → (HasClip clips h → ⊥) → StandsFirst (clips ++ c ∷ []) g h
stands_last clips c g h has none =
    let k = cut clips has.clip has.among.0 has.among.1 has.among.2 in
    stands_more clips c g h (record {
      ahead = k.ahead;
      first = has.clip;
      after = k.after;
      clips_are = k.are;
      is_first = has.is;
      not_yet = λ i d lt is. none (record {
        clip = get_or (k.ahead ++ has.clip ∷ []) i d;
        among = subst (λ l. Contains l (get_or (k.ahead ++ has.clip ∷ []) i d))
            (append_assoc k.ahead (has.clip ∷ []) k.after ∙ sym k.are)
            (contains_front (k.ahead ++ has.clip ∷ []) k.after (get_or (k.ahead ++ has.clip ∷ []) i d) i
            lt (get_same (k.ahead ++ has.clip ∷ []) i d (get_or (k.ahead ++ has.clip ∷ []) i d) lt));
        is = is;
      });
    })
  where
    get_same : (xs : List ClipRow) (i : ℕ) (d e : ClipRow) → i < length xs → get_or xs i e ≡ get_or xs i d
    get_same xs i d e lt =
        same_Some (get_or xs i e) (get_or xs i d)
        (sym (slice_get-get_or xs i e lt) ∙ slice_get-get_or xs i d lt)

-- ---- groups

-- the group of a number is one of a clip
has_at : (clips : List ClipRow) (groups : List ClipGroup) → AreGroups clips groups → (k : ℕ) (d : ClipGroup)
    → k < length groups → HasClip clips (get_or groups k d)
has_at clips groups are k d lt = are.of_clips (get_or groups k d) (k, slice_get-get_or groups k d lt)

groups_same : (clips : List ClipRow) (c : ClipRow) (groups : List ClipGroup) → AreGroups clips groups
    → ((g : ClipGroup) → IsOf g c → HasNumber groups g) → AreGroups (clips ++ c ∷ []) groups
groups_same clips c groups are of = record {
  of_clips = λ g n. front_clip clips c g (are.of_clips g n);
  all = λ g h. by g (has_either clips c g h);
  ordered = λ i j d lt m. stands_more clips c (get_or groups i d) (get_or groups j d)
      (are.ordered i j d lt m);
}
  where
    by : (g : ClipGroup) → HasClip clips g ⊎ IsOf g c → HasNumber groups g
    by g (inl h) = are.all g h
    by g (inr h) = of g h

number_front : (groups : List ClipGroup) (g h : ClipGroup) → HasNumber groups h → HasNumber (groups ++ g ∷ []) h
number_front groups g h n = (n.0, get_front groups (g ∷ []) n.0 h n.1)

number_last : (groups : List ClipGroup) (g : ClipGroup) → HasNumber (groups ++ g ∷ []) g
number_last [] g = (0, refl)
number_last (x ∷ groups) g = let n = number_last groups g in (suc n.0, n.1)

groups_more : (clips : List ClipRow) (c : ClipRow) (groups : List ClipGroup) (g : ClipGroup)
    → AreGroups clips groups → IsOf g c → (HasNumber groups g → ⊥)
    → AreGroups (clips ++ c ∷ []) (groups ++ g ∷ [])
groups_more clips c groups g are is none = record {
  of_clips = λ h n. of h n.0 (get_either groups g n.0 h n.1);
  all = λ h has. by h (has_either clips c h has);
  ordered = all_pairs_push (StandsFirst (clips ++ c ∷ [])) groups g
      (λ i j d lt m. stands_more clips c (get_or groups i d) (get_or groups j d) (are.ordered i j d lt m))
      (λ k d lt. stands_last clips c (get_or groups k d) g (has_at clips groups are k d lt)
      (λ h. none (are.all g h)));
}
  where
    of : (h : ClipGroup) (k : ℕ) → (slice_get groups k ≡ Some h) ⊎ ((k ≡ length groups) × (g ≡ h))
        → HasClip (clips ++ c ∷ []) h
    of h k (inl e) = front_clip clips c h (are.of_clips h (k, e))
    of h k (inr e) = last_clip clips c h (subst (λ x. IsOf x c) e.1 is)

    by : (h : ClipGroup) → HasClip clips h ⊎ IsOf h c → HasNumber (groups ++ g ∷ []) h
    by h (inl has) = number_front groups g h (are.all h has)
    by h (inr of_h) = subst (HasNumber (groups ++ g ∷ [])) (one_group c g h is of_h) (number_last groups g)

-- what was known of groups, once one may have been added
record Grows (clips : List ClipRow) (c : ClipRow) (old new : List ClipGroup) : Type 0 where
  are : AreGroups (clips ++ c ∷ []) new
  front : (k : ℕ) (g : ClipGroup) → slice_get old k ≡ Some g → slice_get new k ≡ Some g
  back : (k : ℕ) (g : ClipGroup) → HasNumber old g → slice_get new k ≡ Some g → slice_get old k ≡ Some g

grows_by : (clips : List ClipRow) (c : ClipRow) (old new : List ClipGroup) (g : ClipGroup) → AreGroups clips old
    → IsOf g c → AddsGroup old new g → Grows clips c old new
grows_by clips c old new g are is (inl same) = subst (Grows clips c old) (sym same.0) (record {
  are = groups_same clips c old are (λ h of. subst (HasNumber old) (one_group c g h is of) same.1);
  front = λ k h e. e;
  back = λ k h n e. e;
})
grows_by clips c old new g are is (inr more) = subst (Grows clips c old) (sym more.0) (record {
  are = groups_more clips c old g are is more.1;
  front = λ k h e. get_front old (g ∷ []) k h e;
  back = λ k h n e. by k h n (get_either old g k h e);
})
  where
    by : (k : ℕ) (h : ClipGroup) → HasNumber old h
        → (slice_get old k ≡ Some h) ⊎ ((k ≡ length old) × (g ≡ h)) → slice_get old k ≡ Some h
    by k h n (inl e) = e
    by k h n (inr e) = absurd (more.1 (subst (HasNumber old) (sym e.1) n))

-- no two groups are the same
stands_not : (clips : List ClipRow) (g : ClipGroup) → StandsFirst clips g g → ⊥
stands_not clips g s =
    let here = contains_back s.ahead (s.first ∷ []) s.first (0, omega arith, refl) in
    s.not_yet here.0 s.first here.1 (subst (IsOf g) (sym here.2) s.is_first)

same_number : (clips : List ClipRow) (groups : List ClipGroup) → AreGroups clips groups → (j k : ℕ)
    (g : ClipGroup) → slice_get groups j ≡ Some g → slice_get groups k ≡ Some g → (j < k → ⊥)
same_number clips groups are j k g e f lt =
    stands_not clips g
    (subst (λ x. StandsFirst clips x g) (get_or_from_slice_get groups j g g e)
    (subst (λ x. StandsFirst clips (get_or groups j g) x) (get_or_from_slice_get groups k g g f)
    (are.ordered j k g lt (slice_get_within groups k g f))))

-- ---- what is available

had_more : (clips : List ClipRow) (c : ClipRow) (old new : List ClipGroup) → Grows clips c old new → (k : ℕ)
    (v : ℤ) → IsHad clips old k v → IsHad (clips ++ c ∷ []) new k v
had_more clips c old new g k v had = record {
  group = had.group;
  at = g.front k had.group had.at;
  clip = had.clip;
  among = contains_front clips (c ∷ []) had.clip had.among.0 had.among.1 had.among.2;
  is = had.is;
  has = had.has;
}

-- what a clip had before, or the new one
had_either : (clips : List ClipRow) (c : ClipRow) (old new : List ClipGroup) → AreGroups clips old
    → Grows clips c old new → (k : ℕ) (v : ℤ) → (had : IsHad (clips ++ c ∷ []) new k v)
    → IsHad clips old k v ⊎ (IsOf had.group c × HasAvailable (clip_range c) had.group.rate v)
had_either clips c old new are g k v had = by (last_of clips c had.clip had.among)
  where
    by : Contains clips had.clip ⊎ (c ≡ had.clip)
        → IsHad clips old k v ⊎ (IsOf had.group c × HasAvailable (clip_range c) had.group.rate v)
    by (inl x) = inl (record {
      group = had.group;
      at = g.back k had.group
          (are.all had.group (record { clip = had.clip; among = x; is = had.is })) had.at;
      clip = had.clip;
      among = x;
      is = had.is;
      has = had.has;
    })
    by (inr e) = inr (
      subst (IsOf had.group) (sym e) had.is,
      subst (λ d. HasAvailable (clip_range d) had.group.rate v) (sym e) had.has,
    )

pub stock_more : (clips : List ClipRow) (c : ClipRow) (old new : List ClipGroup) (a b : List Run) (g : ClipGroup)
    (number : ℕ) → IsOf g c → AddsGroup old new g → slice_get new number ≡ Some g
    → AddsFrames a b number (clip_range c) g.rate → IsStock clips old a
    → IsStock (clips ++ c ∷ []) new b
stock_more clips c old new a b g number is added at frames stock = record {
  are_groups = grown.are;
  available = record {
    only = λ k v h. only k v (frames.only k v h);
    all = λ k v low high had.
        all k v (low, high) had (had_either clips c old new stock.are_groups grown k v had);
    are_runs = frames.are_runs stock.available.are_runs;
  };
}
  where
    grown : Grows clips c old new
    grown = grows_by clips c old new g stock.are_groups is added

    only : (k : ℕ) (v : ℤ) → Has a k v ⊎ ((k ≡ number) × HasAvailable (clip_range c) g.rate v)
        → IsHad (clips ++ c ∷ []) new k v
    only k v (inl h) = had_more clips c old new grown k v (stock.available.only k v h)
    only k v (inr h) = record {
      group = g;
      at = subst (λ j. slice_get new j ≡ Some g) (sym h.0) at;
      clip = c;
      among = contains_back clips (c ∷ []) c (0, omega arith, refl);
      is = is;
      has = h.1;
    }

    numbers : (k : ℕ) (h : ClipGroup) → slice_get new k ≡ Some h → IsOf h c → number ≡ k
    numbers k h e of =
        let f = subst (λ x. slice_get new k ≡ Some x) (one_group c h g of is) e in
        same (same_number (clips ++ c ∷ []) new grown.are k number g f at)
        (same_number (clips ++ c ∷ []) new grown.are number k g at f)
      where
        same : (k < number → ⊥) → (number < k → ⊥) → number ≡ k
        same p q = omega (arith, p, q)

    all : (k : ℕ) (v : ℤ) → ((pos 0 -ℤ pos further) ≤ℤ v) × (v <ℤ pos further)
        → (had : IsHad (clips ++ c ∷ []) new k v)
        → IsHad clips old k v ⊎ (IsOf had.group c × HasAvailable (clip_range c) had.group.rate v)
        → Has b k v
    all k v near had (inl h) = frames.old_stay k v (stock.available.all k v near.0 near.1 h)
    all k v near had (inr h) =
        let rate = one_group c had.group g h.0 is in
        subst (λ j. Has b j v) (numbers k had.group had.at h.0)
        (frames.all v near (subst (λ x. HasAvailable (clip_range c) x.rate v) rate h.1))

-- a clip of no group
pub stock_same : (clips : List ClipRow) (c : ClipRow) (groups : List ClipGroup) (a : List Run)
    → media_rate c ≡ None → IsStock clips groups a → IsStock (clips ++ c ∷ []) groups a
stock_same clips c groups a none stock = record {
  are_groups = groups_same clips c groups stock.are_groups (λ g of. absurd (not g of));
  available = record {
    only = λ k v h. let had = stock.available.only k v h in record {
      group = had.group;
      at = had.at;
      clip = had.clip;
      among = contains_front clips (c ∷ []) had.clip had.among.0 had.among.1 had.among.2;
      is = had.is;
      has = had.has;
    };
    all = λ k v low high had. by k v low high had (last_of clips c had.clip had.among);
    are_runs = stock.available.are_runs;
  };
}
  where
    not : (g : ClipGroup) → IsOf g c → ⊥
    not g of = let e = sym none ∙ of.1 in cc e

    by : (k : ℕ) (v : ℤ) → (pos 0 -ℤ pos further) ≤ℤ v → v <ℤ pos further
        → (had : IsHad (clips ++ c ∷ []) groups k v) → Contains clips had.clip ⊎ (c ≡ had.clip)
        → Has a k v
    by k v low high had (inl x) = stock.available.all k v low high (record {
      group = had.group;
      at = had.at;
      clip = had.clip;
      among = x;
      is = had.is;
      has = had.has;
    })
    by k v low high had (inr e) = absurd (not had.group (subst (IsOf had.group) (sym e) had.is))

-- ---- no clips

pub stock_none : (groups : List ClipGroup) (a : List Run) → groups ≡ [] → a ≡ [] → IsStock [] groups a
stock_none groups a e f =
    subst (λ g. IsStock [] g a) (sym e) (subst (IsStock [] []) (sym f) (record {
      are_groups = record {
        of_clips = λ g n. absurd (nothing g n.0 n.1);
        all = λ g h. let lt = h.among.1 in absurd (omega (arith, lt));
        ordered = λ i j d lt m. absurd (omega (arith, m));
      };
      available = record {
        only = λ k v h. absurd h;
        all = λ k v low high had. let lt = had.among.1 in absurd (omega (arith, lt));
        are_runs = tt;
      };
    }))
  where
    nothing : (g : ClipGroup) (k : ℕ) → slice_get [] k ≡ Some g → ⊥
    nothing g zero e = cc e
    nothing g (suc k) e = cc e

-- ---- clips of children

abbrev pub clips_among : List (ItemOf Listed) → List ClipRow
clips_among [] = []
clips_among (x ∷ xs) = clips_of_item x ++ clips_among xs

among_from : (n : ℕ) (xs : List (ItemOf Listed)) → map clip_of (spots_from spots n xs) ≡ clips_among xs
among_from n [] = refl
among_from n (x ∷ xs) =
    clips_append (below_index n (spots_of x)) (spots_from spots (n + 1) xs)
    ∙ ap₂ (λ a b. a ++ b) (clips_below n (spots_of x)) (among_from (n + 1) xs)

pub clips_are : (l : Listed) → clips_among (items_of l) ≡ clips_in l
clips_are l = sym (among_from 0 (items_of l)) ∙ ap (map clip_of) (spots_are l)

among_append : (xs ys : List (ItemOf Listed)) → clips_among (xs ++ ys) ≡ clips_among xs ++ clips_among ys
among_append [] ys = refl
among_append (x ∷ xs) ys =
    ap (λ l. clips_of_item x ++ l) (among_append xs ys)
    ∙ sym (append_assoc (clips_of_item x) (clips_among xs) (clips_among ys))

nothing_more : {A : Type 0} (xs : List A) → xs ++ [] ≡ xs
nothing_more [] = refl
nothing_more (x ∷ xs) = ap (λ l. x ∷ l) (nothing_more xs)

-- the clips of the children so far, and those of the next one
pub among_next : (xs : List (ItemOf Listed)) (i : ℕ) (x : ItemOf Listed) → slice_get xs i ≡ Some x
    → clips_among (take (i + 1) xs) ≡ clips_among (take i xs) ++ clips_of_item x
among_next xs i x e =
    ap clips_among (take_more xs i x (slice_get_within xs i x e))
    ∙ ap (λ y. clips_among (take i xs ++ y ∷ [])) (get_or_from_slice_get xs i x x e)
    ∙ among_append (take i xs) (x ∷ [])
    ∙ ap (λ l. clips_among (take i xs) ++ l) (nothing_more (clips_of_item x))

pub stock_next : (clips : List ClipRow) (xs : List (ItemOf Listed)) (i : ℕ) (x : ItemOf Listed)
    (groups : List ClipGroup) (runs : List Run) → slice_get xs i ≡ Some x
    → IsStock ((clips ++ clips_among (take i xs)) ++ clips_of_item x) groups runs
    → IsStock (clips ++ clips_among (take (i + 1) xs)) groups runs
stock_next clips xs i x groups runs e stock =
    subst (λ l. IsStock l groups runs)
    (append_assoc clips (clips_among (take i xs)) (clips_of_item x)
    ∙ ap (λ l. clips ++ l) (sym (among_next xs i x e))) stock

pub on_ok_stock : (r : Result (Unit {0}) AllocError) (c : ClipRow) (old new : List ClipGroup) (a b : List Run)
    (g : ClipGroup) (number : ℕ) (range : Option Span) → IsOf g c → AddsGroup old new g
    → slice_get new number ≡ Some g → range ≡ clip_range c
    → OnOk r (AddsFrames a b number range g.rate)
    → OnOk r ((clips : List ClipRow) → IsStock clips old a → IsStock (clips ++ c ∷ []) new b)
on_ok_stock (Ok u) c old new a b g number range is added at e frames = λ clips stock.
    stock_more clips c old new a b g number is added at
    (subst (λ r. AddsFrames a b number r g.rate) e frames) stock
on_ok_stock (Err x) c old new a b g number range is added at e frames = tt

-- ---- what the code has done with an item, and with children

pub on_ok_item : (r : Result (Unit {0}) AllocError) (old new : List ClipGroup) (a b : List Run)
    (these those : List ClipRow) → these ≡ those
    → OnOk r ((clips : List ClipRow) → IsStock clips old a → IsStock (clips ++ these) new b)
    → OnOk r ((clips : List ClipRow) → IsStock clips old a → IsStock (clips ++ those) new b)
on_ok_item (Ok u) old new a b these those e f = λ clips stock.
    subst (λ l. IsStock (clips ++ l) new b) e (f clips stock)
on_ok_item (Err x) old new a b these those e f = tt

pub stock_all : (clips : List ClipRow) (l : Listed) (i : ℕ) (groups : List ClipGroup) (runs : List Run)
    → length (items_of l) ≤ i → IsStock (clips ++ clips_among (take i (items_of l))) groups runs
    → IsStock (clips ++ clips_in l) groups runs
stock_all clips l i groups runs le stock =
    subst (λ x. IsStock (clips ++ x) groups runs)
    (ap clips_among (take_all i (items_of l) le) ∙ clips_are l) stock

pub stock_first : (clips : List ClipRow) (groups : List ClipGroup) (runs : List Run) → IsStock clips groups runs
    → IsStock (clips ++ []) groups runs
stock_first clips groups runs stock =
    subst (λ l. IsStock l groups runs) (sym (nothing_more clips)) stock
