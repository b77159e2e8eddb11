-- What a tree shows depends on a track only through its list's show and its length.
use mathlib.Core.Path.{fun_ext}
use Rattle.std.proofs.Common.{◌≡◌, refl, sym, ap, subst, ◌∙◌, ℕ, zero, suc, ◌+◌, ℤ, pos, ◌+ℤ◌, ◌&&◌, Bool, true, false, cond, List, [], ◌∷◌, map, Option, Some, None, slice_get, arith}
use Rattle.std.specs.Prelude.{option_and_then}
use Rattle.std.specs.Str.{bytes_eq}
use Rattle.std.proofs.lemmas.Int.{ints}
use Rattle.otio_model.specs.declared.compositions.StackOf.{StackOf}
use Rattle.otio_model.specs.declared.compositions.TrackOf.{TrackOf}
use Rattle.otio_model.specs.declared.compositions.ItemOf.{ItemOf}
use Rattle.otio_model.specs.declared.compositions.ItemOf.TheVariants.{Clip, Gap, Transition, Stack, Track}
use Rattle.otio_model.specs.declared.compositions.Listed.{Listed}
use Rattle.otio_model.specs.Trees.{listed, items_of, below}
use Rattle.otio_model.specs.Edits.{deeper, changed, with_at}
use Rattle.otio_model.specs.Lengths.{sum_of, longest_of, lengths, both}
use Rattle.coord.specs.Looks.{Show, Blank, Overlap, Look, total, list_shows, track_shows, stack_shows}
use Rattle.otio_model.specs.Overlaps.{within}
use Rattle.coord.specs.Speeds.{speed_of, media_at}
use Rattle.coord.specs.Sights.{View, Sight, seen, sights, sight, sight_by, lengths_seen}
use Rattle.otio_model.specs.Lengths.{trimmed_start}
use Rattle.otio_model.specs.Lengths.{or_zero}
use Rattle.coord.proofs.SightLemmas.{sights-listed, seen_lengths}
use Rattle.edits_law.specs.Through.{sight_through, lawful, sights_with}
use Rattle.edits_law.proofs.Unreached.{above_length, by_length}

-- the list shows what the law says at each instant inside its length
abbrev pub IsLawOf : View → Listed → ℕ → (View → ℤ → Show) → Type 0
IsLawOf v m n law = (w : ℤ) → within (pos 0) (pos n) w ≡ true → list_shows (map (seen v) (sights m)) w ≡ law v w

twice : (t : Bool) (s : Show) → cond t (cond t s Blank) Blank ≡ cond t s Blank
twice true s = refl
twice false s = refl

once : (v : View) (n : ℕ) (law : View → ℤ → Show) (w : ℤ) → track_shows (seen v (lawful n law) ∷ []) w ≡ cond (within (pos 0) (pos n) w) (law v w) Blank
once v n law w = let e : (pos n +ℤ pos 0) ≡ pos n = omega (arith, ints) in rw e (twice (within (pos 0) (pos n) w) (law v w))

-- two items that look alike to a viewer
pub record Alike (v : View) (x y : Sight) : Type 0 where
  pub length : x.length ≡ y.length
  pub shows : x.shows v ≡ y.shows v
  pub overlap : x.overlap ≡ y.overlap

same : (v : View) (x : Sight) → Alike v x x
same v x = record { length = refl; shows = refl; overlap = refl }

abbrev look_of : Option ℕ → (ℤ → Show) → Option Overlap → Look
look_of n s o = record { length = pos (or_zero n); shows = s; overlap = o }

alike_seen : (v : View) (x y : Sight) → Alike v x y → seen v x ≡ seen v y
alike_seen v x y a =
    ap (λ n. look_of n (x.shows v) x.overlap) a.length
    ∙ ap (λ s. look_of y.length s x.overlap) a.shows
    ∙ ap (λ o. look_of y.length (y.shows v) o) a.overlap

-- lists that look alike
record AllAlike (v : View) (xs ys : List Sight) : Type 0 where
  lengths : lengths_seen xs ≡ lengths_seen ys
  looks : map (seen v) xs ≡ map (seen v) ys

cons : (v : View) (x y : Sight) (xs ys : List Sight) → Alike v x y → AllAlike v xs ys → AllAlike v (x ∷ xs) (y ∷ ys)
cons v x y xs ys a l = record {
  lengths = ap (λ n. n ∷ lengths_seen xs) a.length ∙ ap (λ ns. y.length ∷ ns) l.lengths;
  looks = ap (λ k. k ∷ map (seen v) xs) (alike_seen v x y a) ∙ ap (λ ks. seen v y ∷ ks) l.looks;
}

all_same : (v : View) (xs : List Sight) → AllAlike v xs xs
all_same v xs = record { lengths = refl; looks = refl }

one_changed : (v : View) (i : ℕ) (xs : List (ItemOf Listed)) (g : ItemOf Listed → ItemOf Listed) (f : ItemOf Listed → Sight)
    → ((x : ItemOf Listed) → slice_get xs i ≡ Some x → Alike v (sight (g x)) (f x)) → AllAlike v (map sight (changed g i xs)) (sights_with i f xs)
one_changed v zero [] g f h = all_same v []
one_changed v (suc i) [] g f h = all_same v []
one_changed v zero (x ∷ xs) g f h = cons v (sight (g x)) (f x) (map sight xs) (map sight xs) (h x refl) (all_same v (map sight xs))
one_changed v (suc i) (x ∷ xs) g f h =
    cons v (sight x) (sight x) (map sight (changed g i xs)) (sights_with i f xs) (same v (sight x)) (one_changed v i xs g f h)

track_alike : (v : View) (t : TrackOf Listed) (c : Listed) (g : Listed → List Sight) → AllAlike v (sights c) (g t.children)
    → Alike v (sight (Track (record t { children = c }))) (sight_by g (Track t))
track_alike v t c g a = record {
  length = ap (λ ns. by_length (sum_of ns) t) a.lengths;
  shows = ap (λ l u. cond (t.enabled && bytes_eq t.kind v.kind) (track_shows l (media_at (trimmed_start (Track t)) (speed_of (Track t)) u)) Blank) a.looks;
  overlap = refl;
}

stack_alike : (v : View) (s : StackOf Listed) (c : Listed) (g : Listed → List Sight) → AllAlike v (sights c) (g s.children)
    → Alike v (sight (Stack (record s { children = c }))) (sight_by g (Stack s))
stack_alike v s c g a = record {
  length = ap (λ ns. above_length (longest_of ns) s) a.lengths;
  shows = ap (λ l u. cond s.enabled (stack_shows l (media_at (trimmed_start (Stack s)) (speed_of (Stack s)) u)) Blank) a.looks;
  overlap = refl;
}

-- lengths that are or_zero add up to the total of the looks
total_of : (v : View) (xs : List Sight) (n : ℕ) → sum_of (lengths_seen xs) ≡ Some n → total (map (seen v) xs) ≡ pos n
total_of v [] n e = let k : 0 ≡ n = cc e in ap pos k
total_of v (x ∷ xs) n e = total_step x.length (sum_of (lengths_seen xs)) n (total (map (seen v) xs)) e (λ k d. total_of v xs k d)
  where
    total_step : (a b : Option ℕ) (n : ℕ) (t : ℤ) → both (λ p q. p + q) a b ≡ Some n → ((k : ℕ) → b ≡ Some k → t ≡ pos k) → (pos (or_zero a) +ℤ t) ≡ pos n
    total_step None b n t e h = absurd (cc e)
    total_step (Some p) None n t e h = absurd (cc e)
    total_step (Some p) (Some q) n t e h = let d : p + q ≡ n = cc e in let f = h q refl in omega (arith, ints, d, f)

inside : (b : Bool) (s k : Show) → (b ≡ true → s ≡ k) → cond b s Blank ≡ cond b k Blank
inside true s k h = h refl
inside false s k h = refl

-- the track that the place leads to
track_lawful : (v : View) (t : TrackOf Listed) (m : Listed) (n : ℕ) (law : View → ℤ → Show) → sum_of (lengths m) ≡ Some n → IsLawOf v m n law
    → Alike v (sight (Track (record t { children = m }))) (sight_by (λ _. lawful n law ∷ []) (Track t))
track_lawful v t m n law e h = record {
  length = ap (λ k. by_length k t) (ap sum_of (seen_lengths m) ∙ e ∙ ap Some (let k : n ≡ n + 0 = omega arith in k));
  shows = fun_ext (λ u. ap (λ s. cond (t.enabled && bytes_eq t.kind v.kind) s Blank) (at (media_at (trimmed_start (Track t)) (speed_of (Track t)) u)));
  overlap = refl;
}
  where
    at : (w : ℤ) → track_shows (map (seen v) (sights m)) w ≡ track_shows (seen v (lawful n law) ∷ []) w
    at w =
        ap (λ k. cond (within (pos 0) k w) (list_shows (map (seen v) (sights m)) w) Blank) (total_of v (sights m) n (ap sum_of (seen_lengths m) ∙ e))
        ∙ inside (within (pos 0) (pos n) w) (list_shows (map (seen v) (sights m)) w) (law v w) (h w)
        ∙ sym (once v n law w)

-- one step down
children_alike : (v : View) (i : ℕ) (l : Listed) (g : ItemOf Listed → ItemOf Listed) (f : ItemOf Listed → Sight)
    → ((x : ItemOf Listed) → slice_get (items_of l) i ≡ Some x → Alike v (sight (g x)) (f x)) → AllAlike v (sights (listed (changed g i (items_of l)))) (sights_with i f (items_of l))
children_alike v i l g f h = subst (λ xs. AllAlike v xs (sights_with i f (items_of l))) (sym (sights-listed (changed g i (items_of l)))) (one_changed v i (items_of l) g f h)

found : (place : List ℕ) (o : Option (ItemOf Listed)) (x y : ItemOf Listed) → o ≡ Some x → option_and_then (below place) o ≡ Some y → below place x ≡ Some y
found place o x y e h = let d = ap (option_and_then (below place)) e in sym d ∙ h

pub nested : (v : View) (place : List ℕ) (x : ItemOf Listed) (t : TrackOf Listed) (m : Listed) (n : ℕ) (law : View → ℤ → Show)
    → below place x ≡ Some (Track t) → sum_of (lengths m) ≡ Some n → IsLawOf v m n law
    → Alike v (sight (deeper (with_at place m) x)) (sight_through place (lawful n law) x)
nested v [] (Clip c) t m n law b e h = absurd (cc b)
nested v [] (Gap c) t m n law b e h = absurd (cc b)
nested v [] (Transition c) t m n law b e h = absurd (cc b)
nested v [] (Stack c) t m n law b e h = absurd (cc b)
nested v [] (Track c) t m n law b e h = track_lawful v c m n law e h
nested v (i ∷ place) (Clip c) t m n law b e h = absurd (cc b)
nested v (i ∷ place) (Gap c) t m n law b e h = absurd (cc b)
nested v (i ∷ place) (Transition c) t m n law b e h = absurd (cc b)
nested v (i ∷ place) (Stack s) t m n law b e h =
    stack_alike v s (with_at (i ∷ place) m s.children) (λ l. sights_with i (sight_through place (lawful n law)) (items_of l))
    (children_alike v i s.children (deeper (with_at place m)) (sight_through place (lawful n law))
    (λ y d. nested v place y t m n law (found place (slice_get (items_of s.children) i) y (Track t) d b) e h))
nested v (i ∷ place) (Track s) t m n law b e h =
    track_alike v s (with_at (i ∷ place) m s.children) (λ l. sights_with i (sight_through place (lawful n law)) (items_of l))
    (children_alike v i s.children (deeper (with_at place m)) (sight_through place (lawful n law))
    (λ y d. nested v place y t m n law (found place (slice_get (items_of s.children) i) y (Track t) d b) e h))
