-- Room for the next call of a log.
use Rattle.std.proofs.Common.{◌≡◌, ℕ, zero, suc, ◌+◌, ◌-◌, ◌≤◌, List, [], ◌∷◌, ◌++◌, length, Some}
use Rattle.std.proofs.Common.{None, Result, Ok, Err, refl, arith, ap, sym, ◌∙◌, subst}
use Rattle.std.specs.Prelude.{OnOk, reverse, slice_get}
use Rattle.otio_model.specs.declared.patches.Patch.{Patch}
use Rattle.otio_model.specs.declared.timelines.Timeline.{Timeline}
use Rattle.otio_model.specs.Patches.{IsRoomFor}
use Rattle.undo_log.specs.Histories.{History}
use Rattle.undo_log.proofs.Moves.{reverse_last}
use Rattle.undo_log.specs.Rooms.{IsRoomForFirst, IsRoomForCommit, IsRoomForUndo, IsRoomForRedo}

-- what there is room for
pub record Has (p : Patch) (n : ℕ) (t : Timeline) : Type 0 where
  pub patch : IsRoomFor p t
  pub one : 1 ≤ n

pub has_commit : (p : Patch) (h : History) (t : Timeline) → IsRoomForCommit p h t
    → Has p h.past_room t
unfolding IsRoomForCommit
has_commit p h t k = record { patch = k.0; one = k.1 }

pub has_undo : {p : Patch} {ps : List Patch} {t : Timeline} (h : History) → h.past ≡ p ∷ ps
    → IsRoomForUndo h t → Has p h.future_room t
unfolding IsRoomForUndo
has_undo {t = t} h e k = let f = subst (λ l. IsRoomForFirst l h.future_room t) e k in
    record { patch = f.0; one = f.1 }

pub has_redo : {p : Patch} {ps : List Patch} {t : Timeline} (h : History) → h.future ≡ p ∷ ps
    → IsRoomForRedo h t → Has p h.past_room t
unfolding IsRoomForRedo
has_redo {t = t} h e k = let f = subst (λ l. IsRoomForFirst l h.past_room t) e k in
    record { patch = f.0; one = f.1 }

-- room that was made
pub made_commit : {E : Type 0} (r : Result (Unit {0}) E) (p : Patch) (h : History) (t : Timeline)
    → IsRoomFor p t → OnOk r (1 ≤ h.past_room) → OnOk r (IsRoomForCommit p h t)
unfolding IsRoomForCommit
made_commit (Err e) p h t k n = tt
made_commit (Ok u) p h t k n = (k, n)

pub made_undo : {E : Type 0} (r : Result (Unit {0}) E) (p : Patch) (ps : List Patch) (h : History)
    (t : Timeline) → h.past ≡ p ∷ ps → IsRoomFor p t → OnOk r (1 ≤ h.future_room)
    → OnOk r (IsRoomForUndo h t)
unfolding IsRoomForUndo
made_undo (Err e) p ps h t i k n = tt
made_undo (Ok u) p ps h t i k n = subst (λ l. IsRoomForFirst l h.future_room t) (sym i) (k, n)

pub made_redo : {E : Type 0} (r : Result (Unit {0}) E) (p : Patch) (ps : List Patch) (h : History)
    (t : Timeline) → h.future ≡ p ∷ ps → IsRoomFor p t → OnOk r (1 ≤ h.past_room)
    → OnOk r (IsRoomForRedo h t)
unfolding IsRoomForRedo
made_redo (Err e) p ps h t i k n = tt
made_redo (Ok u) p ps h t i k n = subst (λ l. IsRoomForFirst l h.past_room t) (sym i) (k, n)

pub none_undo : (h : History) (t : Timeline) → h.past ≡ [] → IsRoomForUndo h t
unfolding IsRoomForUndo
none_undo h t e = subst (λ l. IsRoomForFirst l h.future_room t) (sym e) tt

pub none_redo : (h : History) (t : Timeline) → h.future ≡ [] → IsRoomForRedo h t
unfolding IsRoomForRedo
none_redo h t e = subst (λ l. IsRoomForFirst l h.past_room t) (sym e) tt

-- a list by its last member
record Last (xs : List Patch) : Type 0 where
  front : List Patch
  last : Patch
  is : xs ≡ front ++ last ∷ []
  got : slice_get xs (length xs - 1) ≡ Some last

last_of : (x : Patch) (xs : List Patch) → Last (x ∷ xs)
last_of x [] = record { front = []; last = x; is = refl; got = refl }
last_of x (y ∷ ys) =
    let l = last_of y ys in
    let n : length (x ∷ y ∷ ys) - 1 ≡ suc (length (y ∷ ys) - 1) = omega arith in
    record {
      front = x ∷ l.front;
      last = l.last;
      is = ap (λ zs. x ∷ zs) l.is;
      got =
          ap (slice_get (x ∷ y ∷ ys)) n ∙ l.got;
    }

pub none_last : (xs : List Patch) → None ≡ slice_get xs (length xs - 1) → reverse xs ≡ []
none_last [] e = refl
none_last (x ∷ xs) e =
    absurd (let l = last_of x xs in let f : None ≡ Some l.last = e ∙ l.got in cc f)

got_none : (xs : List Patch) (i : ℕ) → length xs ≡ 0 → slice_get xs i ≡ None
got_none [] zero e = refl
got_none [] (suc i) e = refl
got_none (x ∷ xs) i e = absurd (omega (arith, e))

-- the last member is the first from the end
pub record First (q : Patch) (xs : List Patch) : Type 0 where
  pub rest : List Patch
  pub is : reverse xs ≡ q ∷ rest

pub some_last : (q : Patch) (xs : List Patch) → Some q ≡ slice_get xs (length xs - 1) → First q xs
some_last q [] e = absurd (let f : Some q ≡ None = e
    ∙ got_none [] (length {A = Patch} [] - 1) refl in cc f)
some_last q (x ∷ xs) e =
    let l = last_of x xs in
    let same : q ≡ l.last = let f : Some q ≡ Some l.last = e ∙ l.got in cc f in
    record {
      rest = reverse l.front;
      is = ap reverse l.is ∙ reverse_last l.front l.last
          ∙ ap (λ p. p ∷ reverse l.front) (sym same);
    }

-- what a vector was made room for
pub room_one : {E : Type 0} (r : Result (Unit {0}) E) (l c : ℕ) → OnOk r (l + 1 ≤ c)
    → OnOk r (1 ≤ c - l)
room_one (Err e) l c h = tt
room_one (Ok u) l c h = omega (arith, h)
