-- What the words of a line say, taken off one by one.
use Rattle.std.proofs.Common.{◌≡◌, refl, sym, ap, subst, ◌∙◌, ℕ, ℤ, true, false, List, [], ◌∷◌, Option, Some, None}
use Rattle.std.specs.Prelude.{option_map, option_and_then, codes}
use Rattle.std.specs.Str.{bytes_eq}
use Rattle.otio_model.specs.declared.edit_types.FillMode.{FillMode}
use Rattle.edit_script.specs.declared.commands.Act.{Act}
use Rattle.edit_script.specs.declared.commands.Act.TheVariants as A
use Rattle.edit_script.specs.declared.commands.Put.{Put}
use Rattle.edit_script.specs.declared.commands.Put.TheVariants as P
use Rattle.edit_script.specs.declared.verbs.Verb.{Verb}
use Rattle.edit_script.specs.declared.verbs.Verb.TheVariants as V
use Rattle.edit_script.specs.Numbers.{whole, place}
use Rattle.edit_script.specs.Words.{with_word, is_end}
use Rattle.edit_script.proofs.WordLemmas.{end_is}
use Rattle.text_lines.specs.KeyWords.{meaning}
use Rattle.edit_script.specs.Acts.{edit_words, step_words, fill_words, count, text, clip_of, gap_words, clip_words, put_of, edges_of, by_of, filling_of, mode_of, nothing_of, edit_of, placed_of, step_of, act_of}

abbrev MaybeWords : Type 0
MaybeWords = Option (List (List ℕ))

abbrev HasNoFirst : MaybeWords → Type 0
HasNoFirst o = (word : List ℕ) (words : List (List ℕ)) → o ≡ Some (word ∷ words) → ⊥

abbrev HasNotOne : MaybeWords → Type 0
HasNotOne o = (word : List ℕ) → o ≡ Some (word ∷ []) → ⊥

and_none : {A : Type 0} (f : List (List ℕ) → Option A) (o : MaybeWords) → HasNoFirst o → f [] ≡ None
    → option_and_then f o ≡ None
and_none f None h e = refl
and_none f (Some []) h e = e
and_none f (Some (w ∷ ws)) h e = absurd (h w ws refl)

and_not_one : {A : Type 0} (f : List (List ℕ) → Option A) (o : MaybeWords) → HasNotOne o
    → f [] ≡ None
    → ((a b : List ℕ) (ws : List (List ℕ)) → f (a ∷ b ∷ ws) ≡ None) → option_and_then f o ≡ None
and_not_one f None h e g = refl
and_not_one f (Some []) h e g = e
and_not_one f (Some (w ∷ [])) h e g = absurd (h w refl)
and_not_one f (Some (w ∷ x ∷ ws)) h e g = g w x ws

-- a word before the others
behind : {A : Type 0} (f : List (List ℕ) → Option A) (word : List ℕ) (o p : MaybeWords)
    → p ≡ with_word word o → option_and_then f p ≡ option_and_then (λ ws. f (word ∷ ws)) o
behind f word o p e = ap (option_and_then f) e ∙ of o
  where
    of : (q : MaybeWords) → option_and_then f (with_word word q)
        ≡ option_and_then (λ ws. f (word ∷ ws)) q
    of None = refl
    of (Some ws) = refl

pub only_none : (o : MaybeWords) → HasNoFirst o → (word : List ℕ) → o ≡ Some (word ∷ []) → ⊥
only_none o h word e = h word [] e

pub only_more : (word : List ℕ) (o p : MaybeWords) → p ≡ with_word word o → is_end o ≡ false
    → (other : List ℕ) → p ≡ Some (other ∷ []) → ⊥
only_more word o p e h other f = of o (sym e ∙ f) h
  where
    of : (q : MaybeWords) → with_word word q ≡ Some (other ∷ []) → is_end q ≡ false → ⊥
    of None g k = cc g
    of (Some []) g k = cc k
    of (Some (w ∷ ws)) g k = cc g

pub only_is : (word : List ℕ) (o p : MaybeWords) → p ≡ with_word word o → is_end o ≡ true
    → p ≡ Some (word ∷ [])
only_is word o p e h = e ∙ ap (with_word word) (end_is o h)

pub edges_none : (o : MaybeWords) → HasNoFirst o → option_and_then edges_of o ≡ None
edges_none o h = and_none edges_of o h refl

pub edges_one : (head : List ℕ) (o p : MaybeWords) → p ≡ with_word head o → HasNotOne o
    → option_and_then edges_of p ≡ None
edges_one head o p e h = behind edges_of head o p e
    ∙ and_not_one (λ ws. edges_of (head ∷ ws)) o h refl (λ a b ws. refl)

pub edges_two : (head tail : List ℕ) (o p : MaybeWords) → p ≡ with_word head o
    → o ≡ Some (tail ∷ [])
    → option_and_then edges_of p ≡ option_and_then (λ h. option_map (λ t. (h, t)) (whole tail))
    (whole head)
edges_two head tail o p e f = ap (option_and_then edges_of) (e ∙ ap (with_word head) f)

pub by_none : (o : MaybeWords) → HasNotOne o → option_and_then by_of o ≡ None
by_none o h = and_not_one by_of o h refl (λ a b ws. refl)

pub mode_none : (o : MaybeWords) → HasNotOne o → option_and_then mode_of o ≡ None
mode_none o h = and_not_one mode_of o h refl (λ a b ws. refl)

pub gap_none : (o : MaybeWords) → HasNotOne o → option_and_then gap_words o ≡ None
gap_none o h = and_not_one gap_words o h refl (λ a b ws. refl)

-- ---- clips

pub clip_none : (o : MaybeWords) → HasNoFirst o → option_and_then clip_words o ≡ None
clip_none o h = and_none clip_words o h refl

pub clip_one : (a : List ℕ) (o p : MaybeWords) → p ≡ with_word a o → HasNoFirst o
    → option_and_then clip_words p ≡ None
clip_one a o p e h = behind clip_words a o p e ∙ and_none (λ ws. clip_words (a ∷ ws)) o h refl

pub clip_two : (a b : List ℕ) (o p q : MaybeWords) → q ≡ with_word a p → p ≡ with_word b o
    → HasNoFirst o
    → option_and_then clip_words q ≡ None
clip_two a b o p q e f h = behind clip_words a p q e ∙ behind (λ ws. clip_words (a ∷ ws)) b o p f
    ∙ and_none (λ ws. clip_words (a ∷ b ∷ ws)) o h refl

pub clip_three : (a b c : List ℕ) (o p q r : MaybeWords) → r ≡ with_word a q → q ≡ with_word b p
    → p ≡ with_word c o → HasNotOne o → option_and_then clip_words r ≡ None
clip_three a b c o p q r e f g h =
    behind clip_words a q r e ∙ behind (λ ws. clip_words (a ∷ ws)) b p q f
    ∙ behind (λ ws. clip_words (a ∷ b ∷ ws)) c o p g
    ∙ and_not_one (λ ws. clip_words (a ∷ b ∷ c ∷ ws)) o h refl (λ x y ws. refl)

clip_start : (x y : Option (List ℕ)) (z : Option ℤ) → clip_of x y None z ≡ None
clip_start None y z = refl
clip_start (Some a) None z = refl
clip_start (Some a) (Some b) z = refl

clip_length : (x y : Option (List ℕ)) (z : Option ℤ) → clip_of x y z None ≡ None
clip_length None y z = refl
clip_length (Some a) None z = refl
clip_length (Some a) (Some b) None = refl
clip_length (Some a) (Some b) (Some c) = refl

clip_reel : (x : Option (List ℕ)) (y z : Option ℤ) → clip_of x None y z ≡ None
clip_reel None y z = refl
clip_reel (Some a) y z = refl

clip_four : (a b c d : List ℕ) (o p q r : MaybeWords) → r ≡ with_word a q → q ≡ with_word b p
    → p ≡ with_word c o → o ≡ Some (d ∷ []) → option_and_then clip_words r
    ≡ clip_of (text a) (text b) (count c) (count d)
clip_four a b c d o p q r e f g h = ap (option_and_then clip_words)
    (e ∙ ap (with_word a) (f ∙ ap (with_word b) (g ∙ ap (with_word c) h)))

pub clip_no_start : (a b c d : List ℕ) (o p q r : MaybeWords) → r ≡ with_word a q
    → q ≡ with_word b p
    → p ≡ with_word c o → o ≡ Some (d ∷ []) → count c ≡ None → option_and_then clip_words r ≡ None
clip_no_start a b c d o p q r e f g h k = clip_four a b c d o p q r e f g h
    ∙ ap (λ z. clip_of (text a) (text b) z (count d)) k ∙ clip_start (text a) (text b) (count d)

pub clip_no_length : (a b c d : List ℕ) (o p q r : MaybeWords) → r ≡ with_word a q
    → q ≡ with_word b p
    → p ≡ with_word c o → o ≡ Some (d ∷ []) → count d ≡ None → option_and_then clip_words r ≡ None
clip_no_length a b c d o p q r e f g h k = clip_four a b c d o p q r e f g h
    ∙ ap (λ z. clip_of (text a) (text b) (count c) z) k ∙ clip_length (text a) (text b) (count c)

pub clip_no_name : (a b c d : List ℕ) (o p q r : MaybeWords) → r ≡ with_word a q → q ≡ with_word b p
    → p ≡ with_word c o → o ≡ Some (d ∷ []) → text a ≡ None → option_and_then clip_words r ≡ None
clip_no_name a b c d o p q r e f g h k = clip_four a b c d o p q r e f g h
    ∙ ap (λ z. clip_of z (text b) (count c) (count d)) k

pub clip_no_reel : (a b c d : List ℕ) (o p q r : MaybeWords) → r ≡ with_word a q → q ≡ with_word b p
    → p ≡ with_word c o → o ≡ Some (d ∷ []) → text b ≡ None → option_and_then clip_words r ≡ None
clip_no_reel a b c d o p q r e f g h k = clip_four a b c d o p q r e f g h
    ∙ ap (λ z. clip_of (text a) z (count c) (count d)) k ∙ clip_reel (text a) (count c) (count d)

pub clip_is : (a b c d : List ℕ) (o p q r : MaybeWords) (name reel : List ℕ) (start length : ℤ)
    → r ≡ with_word a q → q ≡ with_word b p → p ≡ with_word c o → o ≡ Some (d ∷ [])
    → text a ≡ Some name → text b ≡ Some reel → count c ≡ Some start → count d ≡ Some length
    → option_and_then clip_words r ≡ Some (P.Clip name reel start length)
clip_is a b c d o p q r name reel start length e f g h i j k l = clip_four a b c d o p q r e f g h
    ∙ rw (i, j, k, l) refl

-- ---- items

pub put_none : (o : MaybeWords) → HasNoFirst o → option_and_then put_of o ≡ None
put_none o h = and_none put_of o h refl

pub put_gap : (word : List ℕ) (o p : MaybeWords) → p ≡ with_word word o
    → bytes_eq word (codes "gap") ≡ true → option_and_then put_of p
    ≡ option_map P.Gap (option_and_then gap_words o)
put_gap word o p e h = behind put_of word o p e ∙ of o
  where
    of : (q : MaybeWords) → option_and_then (λ ws. put_of (word ∷ ws)) q
        ≡ option_map P.Gap (option_and_then gap_words q)
    of None = refl
    of (Some ws) = rw h refl

pub put_clip : (word : List ℕ) (o p : MaybeWords) → p ≡ with_word word o
    → bytes_eq word (codes "gap") ≡ false → bytes_eq word (codes "clip") ≡ true
    → option_and_then put_of p ≡ option_and_then clip_words o
put_clip word o p e h k = behind put_of word o p e ∙ of o
  where
    of : (q : MaybeWords)
        → option_and_then (λ ws. put_of (word ∷ ws)) q ≡ option_and_then clip_words q
    of None = refl
    of (Some ws) = rw (h, k) refl

pub put_other : (word : List ℕ) (o p : MaybeWords) → p ≡ with_word word o
    → bytes_eq word (codes "gap") ≡ false → bytes_eq word (codes "clip") ≡ false
    → option_and_then put_of p ≡ None
put_other word o p e h k = behind put_of word o p e ∙ of o
  where
    of : (q : MaybeWords) → option_and_then (λ ws. put_of (word ∷ ws)) q ≡ None
    of None = refl
    of (Some ws) = rw (h, k) refl

pub filling_none : (o : MaybeWords) → HasNoFirst o → option_and_then filling_of o ≡ None
filling_none o h = and_none filling_of o h refl

pub filling_wrong : (word : List ℕ) (o p : MaybeWords) → p ≡ with_word word o
    → meaning word fill_words ≡ None → option_and_then filling_of p ≡ None
filling_wrong word o p e h = behind filling_of word o p e ∙ of o
  where
    of : (q : MaybeWords) → option_and_then (λ ws. filling_of (word ∷ ws)) q ≡ None
    of None = refl
    of (Some ws) = ap (option_and_then (λ m. option_map (λ p. (m, p)) (put_of ws))) h

pub filling_is : (word : List ℕ) (m : FillMode) (o p : MaybeWords) → p ≡ with_word word o
    → meaning word fill_words ≡ Some m → option_and_then filling_of p
    ≡ option_map (λ p. (m, p)) (option_and_then put_of o)
filling_is word m o p e h = behind filling_of word o p e ∙ of o
  where
    of : (q : MaybeWords) → option_and_then (λ ws. filling_of (word ∷ ws)) q
        ≡ option_map (λ p. (m, p)) (option_and_then put_of q)
    of None = refl
    of (Some ws) = ap (option_and_then (λ m. option_map (λ p. (m, p)) (put_of ws))) h

-- ---- edits

pub map_then : {A B : Type 0} (g : A → B) (f : List (List ℕ) → Option A) (o : MaybeWords)
    → option_and_then (λ ws. option_map g (f ws)) o ≡ option_map g (option_and_then f o)
map_then g f None = refl
map_then g f (Some ws) = refl

pub nothing_none : {B : Type 0} (b : B) (o : MaybeWords) → is_end o ≡ false
    → option_and_then (λ ws. option_map (λ n. b) (nothing_of ws)) o ≡ None
nothing_none b None h = refl
nothing_none b (Some []) h = absurd (cc h)
nothing_none b (Some (w ∷ ws)) h = refl

pub placed_none : (verb : Verb) (o : MaybeWords) → HasNoFirst o
    → option_and_then (placed_of verb) o ≡ None
placed_none verb o h = and_none (placed_of verb) o h refl

pub placed_one : (verb : Verb) (a : List ℕ) (o p : MaybeWords) → p ≡ with_word a o → HasNoFirst o
    → option_and_then (placed_of verb) p ≡ None
placed_one verb a o p e h = behind (placed_of verb) a o p e
    ∙ and_none (λ ws. placed_of verb (a ∷ ws)) o h refl

placed_two : (verb : Verb) (a b : List ℕ) (o p q : MaybeWords) → q ≡ with_word a p
    → p ≡ with_word b o
    → option_and_then (placed_of verb) q ≡ option_and_then (λ ws. placed_of verb (a ∷ b ∷ ws)) o
placed_two verb a b o p q e f = behind (placed_of verb) a p q e
    ∙ behind (λ ws. placed_of verb (a ∷ ws)) b o p f

pub placed_no_number : (verb : Verb) (a b : List ℕ) (o p q : MaybeWords) → q ≡ with_word a p
    → p ≡ with_word b o → whole b ≡ None → option_and_then (placed_of verb) q ≡ None
placed_no_number verb a b o p q e f h = placed_two verb a b o p q e f ∙ of o
  where
    inside : (x : Option (List ℕ)) (ws : List (List ℕ))
        → option_and_then (λ place. option_and_then (λ at. edit_of verb place at ws) (whole b)) x
        ≡ None
    inside None ws = refl
    inside (Some l) ws = ap (option_and_then (λ at. edit_of verb l at ws)) h

    of : (r : MaybeWords) → option_and_then (λ ws. placed_of verb (a ∷ b ∷ ws)) r ≡ None
    of None = refl
    of (Some ws) = inside (place a) ws

pub placed_no_place : (verb : Verb) (a b : List ℕ) (o p q : MaybeWords) → q ≡ with_word a p
    → p ≡ with_word b o → place a ≡ None → option_and_then (placed_of verb) q ≡ None
placed_no_place verb a b o p q e f h = placed_two verb a b o p q e f ∙ of o
  where
    of : (r : MaybeWords) → option_and_then (λ ws. placed_of verb (a ∷ b ∷ ws)) r ≡ None
    of None = refl
    of (Some ws) = ap (option_and_then (λ place. option_and_then (λ at. edit_of verb place at ws)
        (whole b))) h

pub placed_is : (verb : Verb) (a b l : List ℕ) (at : ℤ) (o p q : MaybeWords) → q ≡ with_word a p
    → p ≡ with_word b o → place a ≡ Some l → whole b ≡ Some at
    → option_and_then (placed_of verb) q ≡ option_and_then (edit_of verb l at) o
placed_is verb a b l at o p q e f h k = placed_two verb a b o p q e f ∙ of o
  where
    of : (r : MaybeWords) → option_and_then (λ ws. placed_of verb (a ∷ b ∷ ws)) r
        ≡ option_and_then (edit_of verb l at) r
    of None = refl
    of (Some ws) = ap (option_and_then (λ place. option_and_then (λ at. edit_of verb place at ws)
        (whole b))) h ∙ ap (option_and_then (λ at. edit_of verb l at ws)) k

pub step_is : (word : List ℕ) (o : MaybeWords) → is_end o ≡ true
    → option_and_then (step_of word) o ≡ meaning word step_words
step_is word o e = ap (option_and_then (step_of word)) (end_is o e)

pub step_more : (word : List ℕ) (o : MaybeWords) → is_end o ≡ false
    → option_and_then (step_of word) o ≡ None
step_more word None h = refl
step_more word (Some []) h = absurd (cc h)
step_more word (Some (w ∷ ws)) h = refl

pub said_none : (o : MaybeWords) → HasNoFirst o → option_and_then act_of o ≡ None
said_none o h = and_none act_of o h refl

abbrev by_verb : List ℕ → List (List ℕ) → Option Verb → Option Act
by_verb word ws m = elim m [ None ↦ step_of word ws | Some verb ↦ placed_of verb ws ]

pub said_verb : (word : List ℕ) (verb : Verb) (o p : MaybeWords) → p ≡ with_word word o
    → meaning word edit_words ≡ Some verb → option_and_then act_of p
    ≡ option_and_then (placed_of verb) o
said_verb word verb o p e h = behind act_of word o p e ∙ of o
  where
    of : (q : MaybeWords) → option_and_then (λ ws. act_of (word ∷ ws)) q
        ≡ option_and_then (placed_of verb) q
    of None = refl
    of (Some ws) = ap (by_verb word ws) h

pub said_step : (word : List ℕ) (o p : MaybeWords) → p ≡ with_word word o
    → meaning word edit_words ≡ None → option_and_then act_of p ≡ option_and_then (step_of word) o
said_step word o p e h = behind act_of word o p e ∙ of o
  where
    of : (q : MaybeWords) → option_and_then (λ ws. act_of (word ∷ ws)) q
        ≡ option_and_then (step_of word) q
    of None = refl
    of (Some ws) = ap (by_verb word ws) h

-- ---- the same as calls tell it

pub filling_some : (word : List ℕ) (m : FillMode) (put : Put) (o p : MaybeWords)
    → p ≡ with_word word o
    → meaning word fill_words ≡ Some m → Some put ≡ option_and_then put_of o
    → Some (m, put) ≡ option_and_then filling_of p
filling_some word m put o p e h k = sym (filling_is word m o p e h
    ∙ ap (option_map (λ p. (m, p))) (sym k))

pub filling_no_put : (word : List ℕ) (m : FillMode) (o p : MaybeWords) → p ≡ with_word word o
    → meaning word fill_words ≡ Some m → None ≡ option_and_then put_of o
    → None ≡ option_and_then filling_of p
filling_no_put word m o p e h k = sym (filling_is word m o p e h
    ∙ ap (option_map (λ p. (m, p))) (sym k))

-- the edit of a word, where what follows is right, and where it isn't
pub made : {R : Type 0} (f : List (List ℕ) → Option R) (g : R → Act) (r : R) (o : MaybeWords)
    → Some r ≡ option_and_then f o
    → Some (g r) ≡ option_and_then (λ ws. option_map g (f ws)) o
made f g r None e = absurd (cc e)
made f g r (Some ws) e = ap (option_map g) e

pub not_made : {R : Type 0} (f : List (List ℕ) → Option R) (g : R → Act) (o : MaybeWords)
    → None ≡ option_and_then f o → None ≡ option_and_then (λ ws. option_map g (f ws)) o
not_made f g None e = refl
not_made f g (Some ws) e = ap (option_map g) e

pub slice_made : (place : List ℕ) (at : ℤ) (o : MaybeWords) → is_end o ≡ true
    → Some (A.Slice place at) ≡ option_and_then (edit_of V.Slice place at) o
slice_made place at o e = sym (ap (option_and_then (edit_of V.Slice place at)) (end_is o e))

pub no_slice : (place : List ℕ) (at : ℤ) (o : MaybeWords) → is_end o ≡ false
    → None ≡ option_and_then (edit_of V.Slice place at) o
no_slice place at o h = sym (nothing_none (A.Slice place at) o h)

-- the edit of a word that is this one
pub of_verb : (verb v : Verb) (place : List ℕ) (at : ℤ) (o : MaybeWords) (r : Option Act) → verb ≡ v
    → r ≡ option_and_then (edit_of v place at) o → r ≡ option_and_then (edit_of verb place at) o
of_verb verb v place at o r e h =
    subst (λ (z : Verb). r ≡ option_and_then (edit_of z place at) o) (sym e) h

pub gap_put : (word : List ℕ) (n : ℤ) (o : MaybeWords) → o ≡ Some (word ∷ []) → count word ≡ Some n
    → Some (P.Gap n) ≡ option_map P.Gap (option_and_then gap_words o)
gap_put word n o e h = sym (ap (λ q. option_map P.Gap (option_and_then gap_words q)) e
    ∙ ap (option_map P.Gap) h)

pub gap_put_none : (word : List ℕ) (o : MaybeWords) → o ≡ Some (word ∷ []) → count word ≡ None
    → None ≡ option_map P.Gap (option_and_then gap_words o)
gap_put_none word o e h = sym (ap (λ q. option_map P.Gap (option_and_then gap_words q)) e
    ∙ ap (option_map P.Gap) h)

pub gap_not_one : (o : MaybeWords) → HasNotOne o
    → None ≡ option_map P.Gap (option_and_then gap_words o)
gap_not_one o h = sym (ap (option_map P.Gap) (gap_none o h))

pub put_gap_some : (word : List ℕ) (n : ℤ) (o p : MaybeWords) → p ≡ with_word word o
    → bytes_eq word (codes "gap") ≡ true → option_and_then gap_words o ≡ Some n
    → Some (P.Gap n) ≡ option_and_then put_of p
put_gap_some word n o p e h k = sym (put_gap word o p e h ∙ ap (option_map P.Gap) k)

pub put_clip_is : (word : List ℕ) (o p : MaybeWords) (r : Option Put) → p ≡ with_word word o
    → bytes_eq word (codes "gap") ≡ false → bytes_eq word (codes "clip") ≡ true
    → r ≡ option_and_then clip_words o → r ≡ option_and_then put_of p
put_clip_is word o p r e h k m = m ∙ sym (put_clip word o p e h k)

-- ---- by the function that they serve

pub ruleset only_words = (only_none, only_more, only_is)

pub ruleset edges = (edges_none, edges_one, edges_two)

pub ruleset clips = (
  clip_none,
  clip_one,
  clip_two,
  clip_three,
  clip_no_start,
  clip_no_length,
  clip_no_name,
  clip_no_reel,
  clip_is,
)

pub ruleset gaps = (gap_put, gap_put_none, gap_not_one)

pub ruleset puts = (put_none, put_gap, put_gap_some, put_clip_is, put_other)

pub ruleset fillings = (filling_none, filling_wrong, filling_some, filling_no_put)

pub ruleset placings = (placed_none, placed_one, placed_no_number, placed_no_place, placed_is)

pub ruleset sayings = (said_none, said_verb, said_step)
