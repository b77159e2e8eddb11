-- The words of commands.
use Rattle.std.proofs.Common.{◌≡◌, ℕ, Bool, true, false, List, [], ◌∷◌, Option, Some, refl, sym, ◌∙◌, ap, subst, bytes_eq, cond}
use Rattle.std.proofs.lemmas.Slice.Eq.{bytes_eq-Decides}
use Rattle.text_lines.specs.KeyWords.{meaning}
use Rattle.command_words.specs.Names.{word_of, command_verbs}
use Rattle.command_words.specs.declared.names.Verb.{Verb}
use Rattle.command_words.specs.declared.names.Verb.TheVariants.{Convert, Cat, Stat, Tool, Frames, Edit, Drill, Pull, Media}

word_is : (verb : Verb) → meaning (word_of verb) command_verbs ≡ Some verb
word_is Convert = refl
word_is Cat = refl
word_is Stat = refl
word_is Tool = refl
word_is Frames = refl
word_is Edit = refl
word_is Drill = refl
word_is Pull = refl
word_is Media = refl

-- a word is that of at most one command
pub verb_once : (one other : Verb) → word_of one ≡ word_of other → one ≡ other
verb_once one other e = let k : Some one ≡ Some other =
    sym (word_is one) ∙ ap (λ w. meaning w command_verbs) e ∙ word_is other in cc

by_row : {A : Type 0} (b : Bool) (word : List ℕ) (row : List ℕ × A) (rest : Option A) (x : A) (P : A
    → Type 0) → bytes_eq word row.0 ≡ b → (word ≡ row.0 → P row.1) → (rest ≡ Some x → P x)
    → cond b (Some row.1) rest ≡ Some x → P x
by_row true word row rest x P same here others e = let k : row.1 ≡ x =
    cc in subst P k (here ((bytes_eq-Decides word row.0).0 same))
by_row false word row rest x P other here others e = others e

-- each row of a table of words has the word of its command
abbrev AreWords : List (List ℕ × Verb) → Type 0
AreWords [] = Unit {0}
AreWords (row ∷ rows) = (row.0 ≡ word_of row.1) × AreWords rows

by_table : (word : List ℕ) (verb : Verb) (rows : List (List ℕ × Verb)) → AreWords rows
    → meaning word rows ≡ Some verb → word ≡ word_of verb
by_table word verb [] are e = absurd (let h = e in cc)
by_table word verb (row ∷ rows) are e =
    by_row (bytes_eq word row.0) word row (meaning word rows) verb (λ v. word ≡ word_of v) refl
    (λ h. h ∙ are.0) (λ f. by_table word verb rows are.1 f) e

-- a word that stands for a command is the word of that command
pub verb_word : (word : List ℕ) (verb : Verb) → meaning word command_verbs ≡ Some verb
    → word ≡ word_of verb
verb_word word verb e =
    by_table word verb command_verbs
    (refl, (refl, (refl, (refl, (refl, (refl, (refl, (refl, (refl, tt))))))))) e
