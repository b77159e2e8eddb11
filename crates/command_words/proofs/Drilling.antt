-- Drills that words ask for.
use Rattle.std.proofs.Common.{◌≡◌, ℕ, ◌≤◌, List, [], ◌∷◌, Option, Some, sym, ◌∙◌, subst, arith}
use Rattle.smpte_tc.specs.Words.{IsWholeNumber}
use Rattle.smpte_tc.proofs.OnePoint.{number_once}
use Rattle.command_words.specs.Given.{Given}
use Rattle.command_words.specs.Asked.{Ask, IsAskedBy, OtherNames}
use Rattle.command_words.specs.Drills.{AsksDrill, IsDrill, IsEditCount, IsSeed}
use Rattle.command_words.specs.Tasks.{HasNoTask}
use Rattle.command_words.specs.declared.names.Verb.{Verb}
use Rattle.command_words.specs.declared.names.Verb.TheVariants.{Drill}
use Rattle.command_words.specs.declared.requests.Command.{Command}
use Rattle.command_words.proofs.Asking.{same_given, same_words}
use Rattle.command_words.proofs.Seeds.{seed_once}

-- a number beyond the limit of a count is none
pub no_edit_count : (word : List ℕ) (n : ℕ) → IsWholeNumber word n → (n ≤ 10000 → ⊥)
    → (m : ℕ) → IsEditCount word m → ⊥
no_edit_count word n w past m count =
    let same = number_once word m n count.0 w in past (omega (arith, same, count.1))

edit_count_once : (word : List ℕ) (m n : ℕ) → IsEditCount word m → IsEditCount word n → m ≡ n
edit_count_once word m n p q = number_once word m n p.0 q.0

first_once : (a b : List ℕ) (given : Given) → given.file ≡ Some a → given.file ≡ Some b → a ≡ b
first_once a b given p q = let e = sym p ∙ q in cc

second_once : (a b : List ℕ) (given : Given) → given.more ≡ a ∷ [] → given.more ≡ b ∷ [] → a ≡ b
second_once a b given p q = let e = sym p ∙ q in cc

-- what is given asks for one drill
given_once : (given : Given) (seed other count tries : ℕ) (s t : Option (List ℕ))
    → IsDrill seed count s given → IsDrill other tries t given
    → (seed ≡ other) × (count ≡ tries) × (s ≡ t)
given_once given seed other count tries s t p q =
    let first = first_once p.seed_word q.seed_word given p.first q.first in
    let second = second_once p.count_word q.count_word given p.second q.second in (
      seed_once q.seed_word seed other (subst (λ w. IsSeed w seed) first p.is_seed) q.is_seed,
      edit_count_once q.count_word count tries
          (subst (λ w. IsEditCount w count) second p.is_count) q.is_count,
      sym p.target_is ∙ q.target_is,
    )

-- words ask for at most one drill
pub drill_once : (words : List (List ℕ)) (seed other count tries : ℕ) (s t : Option (List ℕ))
    → AsksDrill words seed count s → AsksDrill words other tries t
    → (seed ≡ other) × (count ≡ tries) × (s ≡ t)
drill_once words seed other count tries s t p q =
    let same = same_words words p.behind q.behind Drill Drill p.words_are q.words_are in
    let given = same_given Drill Drill p.behind q.behind p.given q.given same p.gives q.gives in
    given_once q.given seed other count tries s t
    (subst (λ g. IsDrill seed count s g) given p.is) q.is

-- a drill is no command on files
drill_on_files : (verb : Verb) (command : Command) (name : List ℕ) (given : Given) → verb ≡ Drill
    → IsAskedBy verb command name given → ⊥
drill_on_files verb command name given e asked =
    subst (λ v. IsAskedBy v command name given) e asked

-- words that ask for a drill ask for no command on files
pub not_both : (words : List (List ℕ)) (command : Command) (name : List ℕ) (others : OtherNames)
    (seed count : ℕ) (s t : Option (List ℕ)) → Ask words command name others s
    → AsksDrill words seed count t → ⊥
not_both words command name others seed count s t ask drill =
    let same = same_words words ask.behind drill.behind ask.verb Drill ask.words_are drill.words_are
    in drill_on_files ask.verb command name ask.given same.verbs ask.is.asked

-- where a drill is asked for by no option and words, nothing is
pub no_drill : (verb : Verb) (given : Given) → verb ≡ Drill
    → ((seed count : ℕ) (target : Option (List ℕ)) → IsDrill seed count target given → ⊥)
    → HasNoTask verb given
no_drill verb given e none = record {
  no_request = λ command name others target r. drill_on_files verb command name given e r.asked;
  no_drill = λ seed count target _ d. none seed count target d;
}
