-- Bytes are one script at most, or have one fault at most, and never both.
use Rattle.std.proofs.Common.{◌≡◌, refl, sym, ap, ap₂, subst, ◌∙◌, ℕ, ◌+◌, List, [], ◌∷◌, ◌++◌, Option, Some, None, length, arith}
use Rattle.std.proofs.lemmas.Option.{same_Some}
use Rattle.text_lines.specs.Lines.{lines_of}
use Rattle.edit_script.specs.declared.commands.ScriptCommand.{ScriptCommand}
use Rattle.edit_script.specs.declared.commands.ScriptFault.{ScriptFault}
use Rattle.edit_script.specs.declared.commands.ScriptFault.TheVariants as F
use Rattle.edit_script.specs.Scripts.{says, Say, IsScript, IsFirstWrong, IsFault}

-- lines say one list of commands at most
say_once : (n : ℕ) (lines : List (List ℕ)) (a b : List ScriptCommand) → Say n lines a
    → Say n lines b
    → a ≡ b
say_once n [] a b s t = s ∙ sym t
say_once n (line ∷ lines) a b s t =
    let here = same_Some s.0 t.0 (sym s.3 ∙ t.3) in
    s.2 ∙ ap₂ (λ x y. x ++ y) here (say_once (n + 1) lines s.1 t.1 s.4 t.4) ∙ sym t.2

pub script_once : (bytes : List ℕ) (a b : List ScriptCommand) → IsScript bytes a → IsScript bytes b
    → a ≡ b
script_once bytes a b s t = say_once 1 (lines_of bytes) a b s.say t.say

-- a line that says nothing among lines that say something
wrong_among : (n : ℕ) (before : List (List ℕ)) (line : List ℕ) (behind : List (List ℕ))
    (a : List ScriptCommand) → Say n (before ++ line ∷ behind) a
    → says (n + length before) line ≡ None
    → ⊥
wrong_among n [] line behind a s e =
    let z : n ≡ n + 0 = omega arith in
    cc (sym (ap (λ k. says k line) z ∙ e) ∙ s.3)
wrong_among n (x ∷ before) line behind a s e =
    let z : n + 1 + length before ≡ n + length (x ∷ before) = omega arith in
    wrong_among (n + 1) before line behind s.1 s.4 (ap (λ k. says k line) z ∙ e)

-- the first wrong line is one: the lists before two of them are as long
record Wrong (lines : List (List ℕ)) (n k : ℕ) : Type 0 where
  before : List (List ℕ)
  line : List ℕ
  behind : List (List ℕ)
  split : lines ≡ before ++ line ∷ behind
  commands : List ScriptCommand
  say : Say n before commands
  number : k ≡ n + length before
  wrong : says k line ≡ None

some_none : {A : Type 0} (o : Option A) (x : A) → o ≡ Some x → o ≡ None → ⊥
some_none o x e f = cc (sym e ∙ f)

first_of_lists : (x y : List ℕ) (l m : List (List ℕ)) → Path (List (List ℕ)) (x ∷ l) (y ∷ m) → x ≡ y
first_of_lists x y l m e = cc e

rest_of_lists : (x y : List ℕ) (l m : List (List ℕ)) → Path (List (List ℕ)) (x ∷ l) (y ∷ m) → l ≡ m
rest_of_lists x y l m e = cc e

wrong_once : (n j k : ℕ) (b c : List (List ℕ)) (x y : List ℕ) (d e : List (List ℕ))
    (p q : List ScriptCommand) → b ++ x ∷ d ≡ c ++ y ∷ e → Say n b p → Say n c q
    → j ≡ n + length b → k ≡ n + length c → says j x ≡ None → says k y ≡ None → j ≡ k
wrong_once n j k [] [] x y d e p q s t u v w f g = omega (arith, v, w)
wrong_once n j k [] (z ∷ c) x y d e p q s t u v w f g =
    let same = first_of_lists x z d (c ++ y ∷ e) s in
    let at : j ≡ n = omega (arith, v) in
    absurd (some_none (says n z) u.0 u.3 (sym (ap₂ (λ i l. says i l) at same) ∙ f))
wrong_once n j k (z ∷ b) [] x y d e p q s t u v w f g =
    let same = first_of_lists z y (b ++ x ∷ d) e s in
    let at : k ≡ n = omega (arith, w) in
    absurd (some_none (says n z) t.0 t.3 (sym (ap₂ (λ i l. says i l) at (sym same)) ∙ g))
wrong_once n j k (z ∷ b) (z2 ∷ c) x y d e p q s t u v w f g =
    wrong_once (n + 1) j k b c x y d e t.1 u.1 (rest_of_lists z z2 (b ++ x ∷ d) (c ++ y ∷ e) s) t.4
    u.4
    (omega (arith, v)) (omega (arith, w)) f g

first_once : (lines : List (List ℕ)) (j k : ℕ) → IsFirstWrong lines j → IsFirstWrong lines k → j ≡ k
first_once lines j k a b =
    let m = a.number in let o = b.number in
    wrong_once 1 j k a.before b.before a.line b.line a.behind b.behind a.commands b.commands
    (sym a.split ∙ b.split) a.say b.say
    (omega (arith, m)) (omega (arith, o)) a.wrong b.wrong

said_right : (lines : List (List ℕ)) (k : ℕ) (c : List ScriptCommand) → IsFirstWrong lines k
    → Say 1 lines c → ⊥
said_right lines k c a s =
    let m = a.number in
    let at : k ≡ 1 + length a.before = omega (arith, m) in
    wrong_among 1 a.before a.line a.behind c (subst (λ (l : List (List ℕ)). Say 1 l c) a.split s)
    (ap (λ i. says i a.line) (sym at) ∙ a.wrong)

pub fault_once : (bytes : List ℕ) (f g : ScriptFault) → IsFault bytes f → IsFault bytes g → f ≡ g
fault_once bytes F.Large F.Large a b = refl
fault_once bytes F.Large (F.Line n) a b = absurd (let k = b.0 in omega (arith, a, k))
fault_once bytes F.Large F.Many a b = absurd (let k = b.0 in omega (arith, a, k))
fault_once bytes F.Large F.Memory a b = absurd b
fault_once bytes (F.Line n) F.Large a b = absurd (let k = a.0 in omega (arith, b, k))
fault_once bytes (F.Line n) (F.Line m) a b = ap F.Line (first_once (lines_of bytes) n m a.1 b.1)
fault_once bytes (F.Line n) F.Many a b = absurd (said_right (lines_of bytes) n b.1.commands a.1
    b.1.say)
fault_once bytes (F.Line n) F.Memory a b = absurd b
fault_once bytes F.Many F.Large a b = absurd (let k = a.0 in omega (arith, b, k))
fault_once bytes F.Many (F.Line n) a b = absurd (said_right (lines_of bytes) n a.1.commands b.1
    a.1.say)
fault_once bytes F.Many F.Many a b = refl
fault_once bytes F.Many F.Memory a b = absurd b
fault_once bytes F.Memory g a b = absurd a

pub never_both : (bytes : List ℕ) (c : List ScriptCommand) (f : ScriptFault) → IsScript bytes c
    → IsFault bytes f → ⊥
never_both bytes c F.Large s a = let k = s.small in omega (arith, a, k)
never_both bytes c (F.Line n) s a = said_right (lines_of bytes) n c a.1 s.say
never_both bytes c F.Many s a =
    let k = s.few in let m = a.1.many in
    let e = ap (λ (l : List ScriptCommand). length l) (say_once 1 (lines_of bytes) c a.1.commands
    s.say
    a.1.say) in
    omega (arith, k, m, e)
never_both bytes c F.Memory s a = a
