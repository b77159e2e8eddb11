-- An edited list is the old one but for the children that were touched.
use Rattle.std.proofs.Common.{◌≡◌, refl, sym, subst, ap, ap₂, ◌∙◌, ◌⊎◌, inl, inr, ◌+◌, ◌≤◌, ℤ, pos, ◌+ℤ◌, ◌-ℤ◌, ◌≤ℤ◌, ◌<ℤ◌, true, false, Option, Some, None, List, [], ◌∷◌, ◌++◌, length, arith, append_assoc, length-append}
use Rattle.std.specs.Prelude.{int_lt, int_le, option_map}
use Rattle.std.proofs.lemmas.Int.{ints, by_lt_z}
use Rattle.otio_model.specs.declared.compositions.ItemOf.{ItemOf}
use Rattle.otio_model.specs.declared.compositions.Listed.{Listed}
use Rattle.otio_model.specs.Edits.{replaced}
use Rattle.std.proofs.Math.Seq.{take-append_seam, drop-append_seam, drop-append-add}
use Rattle.std.proofs.lemmas.List.{append-nil as none_more}
pub use Rattle.limits.proofs.IntegerTests.{below-int_lt as lt_yes, below-int_le as le_yes}
use Rattle.tick_time.specs.declared.rates.Rate.{Rate}
use Rattle.edits.specs.Children.{Child, Old, ticks, made, all_made, with_first}
use Rattle.edits.specs.Cuts.{strip, olds, front, back, put_between, right_piece}
use Rattle.edits.specs.Edges.{added}
use Rattle.edits.specs.Splices.{is_stripped}
pub use Rattle.edits.proofs.NextStarts.{added_low}
use Rattle.coord.specs.Sights.{overlap_of}
use Rattle.edits_law.proofs.Beside.{strip_append}
use Rattle.edits_law.proofs.Sorts.{point, thing, sort, strip_thing}
use Rattle.edits_law.proofs.Splice.{cases}

pub added_strip : (l : List (ItemOf Listed)) (a b : ℤ) → added (strip l a b) ≡ added l
added_strip [] a b = refl
added_strip (x ∷ l) a b = elim (sort x) [
  | point o t e z ↦ cases (is_stripped a b (overlap_of x))
      (λ s. let f = added_strip l a b in rw s (omega (arith, ints)))
      (λ s. let f = added_strip l (a -ℤ ticks x) (b -ℤ ticks x) in rw s (omega (arith, ints)))
  | thing t e ↦ let f = added_strip l (a -ℤ ticks x) (b -ℤ ticks x) in rw (strip_thing x l a b e) (omega (arith, ints))
]

-- what ends before t is in the front
front_past : (l r : List (ItemOf Listed)) (t : ℤ) → added l <ℤ t → front (l ++ r) t ≡ olds l ++ front r (t -ℤ added l)
front_past [] r t h = ap (front r) (omega (arith, ints))
front_past (x ∷ l) r t h = let k = added_low l in
    let e : int_lt (pos 0) t ≡ true = lt_yes (pos 0) t (omega (arith, ints)) in
    let f : int_le (ticks x) t ≡ true = le_yes (ticks x) t (omega (arith, ints)) in
    rw (e, f) (ap (λ m. Old x ∷ m) (front_past l r (t -ℤ ticks x) (omega (arith, ints)) ∙ ap (λ u. olds l ++ front r u) (omega (arith, ints))))

-- and nothing of it in the back
back_past : (l r : List (ItemOf Listed)) (t : ℤ) → added l <ℤ t → back (l ++ r) t ≡ back r (t -ℤ added l)
back_past [] r t h = ap (back r) (omega (arith, ints))
back_past (x ∷ l) r t h = let k = added_low l in
    let e : int_lt (pos 0) t ≡ true = lt_yes (pos 0) t (omega (arith, ints)) in
    let f : int_le (ticks x) t ≡ true = le_yes (ticks x) t (omega (arith, ints)) in
    rw (e, f) (back_past l r (t -ℤ ticks x) (omega (arith, ints)) ∙ ap (back r) (omega (arith, ints)))

-- what begins at t or later isn't in the front
front_until : (l r : List (ItemOf Listed)) (t : ℤ) → t ≤ℤ added l → front (l ++ r) t ≡ front l t
front_until [] [] t h = refl
front_until [] (x ∷ r) t h = let e : int_lt (pos 0) t ≡ false = grind (arith, ints) in rw e refl
front_until (x ∷ l) r t h = by_lt_z (pos 0) t
    (λ s. let e : int_lt (pos 0) t ≡ true = grind (arith, ints) in by_lt_z t (ticks x)
    (λ k. let f : int_le (ticks x) t ≡ false = grind (arith, ints) in rw (e, f) refl)
    (λ k. let f : int_le (ticks x) t ≡ true = grind (arith, ints) in rw (e, f) (ap (λ m. Old x ∷ m) (front_until l r (t -ℤ ticks x) (omega (arith, ints))))))
    (λ s. let e : int_lt (pos 0) t ≡ false = grind (arith, ints) in rw e refl)

pub olds_append : (l r : List (ItemOf Listed)) → olds (l ++ r) ≡ olds l ++ olds r
olds_append [] r = refl
olds_append (x ∷ l) r = ap (λ m. Old x ∷ m) (olds_append l r)

-- and is whole in the back
back_until : (l r : List (ItemOf Listed)) (t : ℤ) → t ≤ℤ added l → back (l ++ r) t ≡ back l t ++ olds r
back_until [] [] t h = refl
back_until [] (x ∷ r) t h = let e : int_lt (pos 0) t ≡ false = grind (arith, ints) in rw e refl
back_until (x ∷ l) r t h = by_lt_z (pos 0) t
    (λ s. let e : int_lt (pos 0) t ≡ true = grind (arith, ints) in by_lt_z t (ticks x)
    (λ k. let f : int_le (ticks x) t ≡ false = grind (arith, ints) in rw (e, f) (ap (λ m. right_piece x t ∷ m) (olds_append l r)))
    (λ k. let f : int_le (ticks x) t ≡ true = grind (arith, ints) in rw (e, f) (back_until l r (t -ℤ ticks x) (omega (arith, ints)))))
    (λ s. let e : int_lt (pos 0) t ≡ false = grind (arith, ints) in rw e (ap (λ m. Old x ∷ m) (olds_append l r)))

-- the list in three parts, of which the outer two are clear of the zone
pub record IsApart (l m r : List (ItemOf Listed)) (a b : ℤ) : Type 0 where
  pub zone : a ≤ℤ b
  pub kept : strip l a b ≡ l
  pub early : (l ≡ []) ⊎ (added l <ℤ a)
  pub kept_behind : strip r (a -ℤ (added l +ℤ added m)) (b -ℤ (added l +ℤ added m)) ≡ r
  pub late : (r ≡ []) ⊎ (b ≤ℤ (added l +ℤ added m))

-- what stands between two cuts in the middle part alone
abbrev pub between_in : List (ItemOf Listed) → ℤ → List Child → ℤ → List Child
between_in m a n b = put_between (strip m a b) a n b

fronts : (l m r : List (ItemOf Listed)) (t : ℤ) → (l ≡ []) ⊎ (added l <ℤ t) → (r ≡ []) ⊎ (t ≤ℤ (added l +ℤ added m)) → front (l ++ (m ++ r)) t ≡ olds l ++ front m (t -ℤ added l)
fronts l m r t (inl e) f =
    let k : front (m ++ r) t ≡ front m t = until f in
    subst (λ q. front (q ++ (m ++ r)) t ≡ olds q ++ front m (t -ℤ added q)) (sym e) (k ∙ ap (front m) (omega (arith, ints)))
  where
    until : (r ≡ []) ⊎ (t ≤ℤ (added l +ℤ added m)) → front (m ++ r) t ≡ front m t
    until (inl g) = ap (λ q. front (m ++ q) t) g ∙ ap (λ q. front q t) (none_more m)
    until (inr g) = let z : added l ≡ pos 0 = ap added e in front_until m r t (omega (arith, ints))
fronts l m r t (inr h) f = front_past l (m ++ r) t h ∙ ap (λ q. olds l ++ q) (until f)
  where
    until : (r ≡ []) ⊎ (t ≤ℤ (added l +ℤ added m)) → front (m ++ r) (t -ℤ added l) ≡ front m (t -ℤ added l)
    until (inl g) = ap (λ q. front (m ++ q) (t -ℤ added l)) g ∙ ap (λ q. front q (t -ℤ added l)) (none_more m)
    until (inr g) = front_until m r (t -ℤ added l) (omega (arith, ints))

backs : (l m r : List (ItemOf Listed)) (t : ℤ) → (l ≡ []) ⊎ (added l <ℤ t) → (r ≡ []) ⊎ (t ≤ℤ (added l +ℤ added m)) → back (l ++ (m ++ r)) t ≡ back m (t -ℤ added l) ++ olds r
backs l m r t (inl e) f =
    let k : back (m ++ r) t ≡ back m t ++ olds r = until f in
    subst (λ q. back (q ++ (m ++ r)) t ≡ back m (t -ℤ added q) ++ olds r) (sym e) (k ∙ ap (λ u. back m u ++ olds r) (omega (arith, ints)))
  where
    until : (r ≡ []) ⊎ (t ≤ℤ (added l +ℤ added m)) → back (m ++ r) t ≡ back m t ++ olds r
    until (inl g) = subst (λ q. back (m ++ q) t ≡ back m t ++ olds q) (sym g) (ap (λ q. back q t) (none_more m) ∙ sym (none_more (back m t)))
    until (inr g) = let z : added l ≡ pos 0 = ap added e in back_until m r t (omega (arith, ints))
backs l m r t (inr h) f = back_past l (m ++ r) t h ∙ until f
  where
    until : (r ≡ []) ⊎ (t ≤ℤ (added l +ℤ added m)) → back (m ++ r) (t -ℤ added l) ≡ back m (t -ℤ added l) ++ olds r
    until (inl g) = subst (λ q. back (m ++ q) (t -ℤ added l) ≡ back m (t -ℤ added l) ++ olds q) (sym g) (ap (λ q. back q (t -ℤ added l)) (none_more m) ∙ sym (none_more (back m (t -ℤ added l))))
    until (inr g) = back_until m r (t -ℤ added l) (omega (arith, ints))

-- a splice changes the middle part alone
pub narrow_between : (l m r : List (ItemOf Listed)) (a b : ℤ) (n : List Child) → IsApart l m r a b
    → put_between (strip (l ++ (m ++ r)) a b) a n b ≡ olds l ++ (between_in m (a -ℤ added l) n (b -ℤ added l) ++ olds r)
narrow_between l m r a b n k =
    let z = k.zone in
    let s : List (ItemOf Listed) = strip m (a -ℤ added l) (b -ℤ added l) in
    let same : strip (l ++ (m ++ r)) a b ≡ l ++ (strip m (a -ℤ added l) (b -ℤ added l) ++ r) =
    strip_append l (m ++ r) a b ∙ ap₂ (λ p q. p ++ q) k.kept
    (strip_append m r (a -ℤ added l) (b -ℤ added l)
    ∙ ap (λ q. strip m (a -ℤ added l) (b -ℤ added l) ++ q) (ap₂ (strip r) (omega (arith, ints)) (omega (arith, ints)) ∙ k.kept_behind)) in
    let long = added_strip m (a -ℤ added l) (b -ℤ added l) in
    let early_b : (l ≡ []) ⊎ (added l <ℤ b) = elim k.early [ inl e ↦ inl e | inr h ↦ inr (omega (arith, ints)) ] in
    let late_b : (r ≡ []) ⊎ (b ≤ℤ (added l +ℤ added (strip m (a -ℤ added l) (b -ℤ added l)))) = elim k.late [ inl e ↦ inl e | inr h ↦ inr (omega (arith, ints)) ] in
    let late_a : (r ≡ []) ⊎ (a ≤ℤ (added l +ℤ added (strip m (a -ℤ added l) (b -ℤ added l)))) = elim k.late [ inl e ↦ inl e | inr h ↦ inr (omega (arith, ints)) ] in
    ap (λ q. put_between q a n b) same
    ∙ ap₂ (λ p q. p ++ (n ++ q)) (fronts l (strip m (a -ℤ added l) (b -ℤ added l)) r a k.early late_a) (backs l (strip m (a -ℤ added l) (b -ℤ added l)) r b early_b late_b)
    ∙ append_assoc (olds l) (front (strip m (a -ℤ added l) (b -ℤ added l)) (a -ℤ added l)) _
    ∙ ap (λ q. olds l ++ q) (ap (λ q. front (strip m (a -ℤ added l) (b -ℤ added l)) (a -ℤ added l) ++ q) (sym (append_assoc n (back (strip m (a -ℤ added l) (b -ℤ added l)) (b -ℤ added l)) (olds r)))
    ∙ sym (append_assoc (front (strip m (a -ℤ added l) (b -ℤ added l)) (a -ℤ added l)) (n ++ back (strip m (a -ℤ added l) (b -ℤ added l)) (b -ℤ added l)) (olds r)))

-- ---- what is made of it

made_olds : (rate : Rate) (l : List (ItemOf Listed)) (c : List Child) → all_made rate (olds l ++ c) ≡ option_map (λ m. l ++ m) (all_made rate c)
made_olds rate [] c = same (all_made rate c)
  where
    same : (o : Option (List (ItemOf Listed))) → o ≡ option_map (λ m. m) o
    same None = refl
    same (Some m) = refl
made_olds rate (x ∷ l) c = ap (with_first (Some x)) (made_olds rate l c) ∙ by (all_made rate c)
  where
    by : (o : Option (List (ItemOf Listed))) → with_first (Some x) (option_map (λ m. l ++ m) o) ≡ option_map (λ m. x ∷ (l ++ m)) o
    by None = refl
    by (Some m) = refl

made_before : (rate : Rate) (c : List Child) (r : List (ItemOf Listed)) → all_made rate (c ++ olds r) ≡ option_map (λ m. m ++ r) (all_made rate c)
made_before rate [] r = all r
  where
    all : (q : List (ItemOf Listed)) → all_made rate (olds q) ≡ Some q
    all [] = refl
    all (x ∷ q) = ap (with_first (Some x)) (all q)
made_before rate (c ∷ cs) r = ap (with_first (made rate c)) (made_before rate cs r) ∙ by (made rate c) (all_made rate cs)
  where
    by : (o : Option (ItemOf Listed)) (p : Option (List (ItemOf Listed))) → with_first o (option_map (λ m. m ++ r) p) ≡ option_map (λ m. m ++ r) (with_first o p)
    by None p = refl
    by (Some x) None = refl
    by (Some x) (Some m) = refl

-- the middle part alone has to be made
pub made_narrow : (rate : Rate) (l : List (ItemOf Listed)) (c : List Child) (r : List (ItemOf Listed)) → all_made rate (olds l ++ (c ++ olds r)) ≡ option_map (λ m. l ++ (m ++ r)) (all_made rate c)
made_narrow rate l c r = made_olds rate l (c ++ olds r) ∙ ap (option_map (λ m. l ++ m)) (made_before rate c r) ∙ by (all_made rate c)
  where
    by : (o : Option (List (ItemOf Listed))) → option_map (λ m. l ++ m) (option_map (λ m. m ++ r) o) ≡ option_map (λ m. l ++ (m ++ r)) o
    by None = refl
    by (Some m) = refl

-- and a patch of it gives the whole
pub replaced_middle : {A : Type 0} (l m r put : List A) → replaced (length l) (length m) put (l ++ (m ++ r)) ≡ l ++ (put ++ r)
replaced_middle l m r put =
    ap₂ (λ p q. p ++ (put ++ q)) (take-append_seam l (m ++ r)) (drop-append-add l (m ++ r) (length m) ∙ drop-append_seam m r)

-- ---- how many there are

back_few : (l : List (ItemOf Listed)) (t : ℤ) → length (back l t) ≤ length l
back_few [] t = omega arith
back_few (x ∷ l) t = let k = olds_many l in by_lt_z (pos 0) t
    (λ s. let e : int_lt (pos 0) t ≡ true = grind (arith, ints) in by_lt_z t (ticks x)
    (λ h. let f : int_le (ticks x) t ≡ false = grind (arith, ints) in rw (e, f) (omega (arith, k)))
    (λ h. let f : int_le (ticks x) t ≡ true = grind (arith, ints) in rw (e, f) (omega (arith, back_few l (t -ℤ ticks x)))))
    (λ s. let e : int_lt (pos 0) t ≡ false = grind (arith, ints) in rw e (omega (arith, k)))
  where
    olds_many : (q : List (ItemOf Listed)) → length (olds q) ≡ length q
    olds_many [] = refl
    olds_many (y ∷ q) = omega (arith, olds_many q)

-- a front and a back together hold one child more at most
pub ends_few : (l : List (ItemOf Listed)) (a b : ℤ) → a ≤ℤ b → length (front l a) + length (back l b) ≤ length l + 1
ends_few [] a b h = by_lt_z (pos 0) a
    (λ s. let e : int_lt (pos 0) a ≡ true = grind (arith, ints) in rw e (omega arith))
    (λ s. let e : int_lt (pos 0) a ≡ false = grind (arith, ints) in rw e (omega arith))
ends_few (x ∷ l) a b h = by_lt_z (pos 0) a
    (λ s. let e : int_lt (pos 0) a ≡ true = grind (arith, ints) in by_lt_z a (ticks x)
    (λ k. let f : int_le (ticks x) a ≡ false = grind (arith, ints) in let n = back_few (x ∷ l) b in rw (e, f) (omega (arith, n)))
    (λ k. let f : int_le (ticks x) a ≡ true = grind (arith, ints) in let g : int_lt (pos 0) b ≡ true = grind (arith, ints) in let i : int_le (ticks x) b ≡ true = grind (arith, ints) in
    let n = ends_few l (a -ℤ ticks x) (b -ℤ ticks x) (omega (arith, ints)) in rw (e, f, g, i) (omega (arith, n))))
    (λ s. let e : int_lt (pos 0) a ≡ false = grind (arith, ints) in let n = back_few (x ∷ l) b in rw e (omega (arith, n)))

pub strip_few : (l : List (ItemOf Listed)) (a b : ℤ) → length (strip l a b) ≤ length l
strip_few [] a b = omega arith
strip_few (x ∷ l) a b = cases (is_stripped a b (overlap_of x))
    (λ s. rw s (omega (arith, strip_few l a b)))
    (λ s. rw s (omega (arith, strip_few l (a -ℤ ticks x) (b -ℤ ticks x))))

-- so a splice puts at most that many and the new ones in place of the middle part
pub between_few : (m : List (ItemOf Listed)) (a b : ℤ) (n : List Child) → a ≤ℤ b → length (between_in m a n b) ≤ length m + 1 + length n
between_few m a b n h =
    let e = ends_few (strip m a b) a b h in
    let f = strip_few m a b in
    let g = length-append (front (strip m a b) a) (n ++ back (strip m a b) b) in
    let i = length-append n (back (strip m a b) b) in
    omega (arith, e, f, g, i)
