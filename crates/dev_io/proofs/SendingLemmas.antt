-- What was sent by several calls, one after another.
use Rattle.std.proofs.Common.{◌≡◌, ℕ, List, [], ◌++◌, Some, None, sym, ap, ◌∙◌, append_assoc, append-nil, take, drop, take-append-drop, length, ◌-◌}
use Rattle.std.specs.declared.option.Option.{Option}
use Rattle.std.proofs.lemmas.List.{take_rest}
use Rattle.dev_io.specs.Known.{KnownOut}
use Rattle.dev_io.specs.Calls.{Tells, Adds, AddsPrefix}

pub adds_nothing : (k : Option KnownOut) → Tells (Adds []) k k
adds_nothing None = tt
adds_nothing (Some k) = ap (λ (s : List ℕ). record k { sent = s }) (sym (append-nil k.sent))

pub adds_more : (a b c : Option KnownOut) (xs ys : List ℕ) → Tells (Adds xs) a b → Tells (Adds ys) b c → Tells (Adds (xs ++ ys)) a c
adds_more None b c xs ys p q = tt
adds_more (Some a) None c xs ys p q = absurd p
adds_more (Some a) (Some b) None xs ys p q = absurd q
adds_more (Some a) (Some b) (Some c) xs ys p q = q ∙ ap (λ (k : KnownOut). record k { sent = k.sent ++ ys }) p ∙ ap (λ (s : List ℕ). record a { sent = s }) (append_assoc a.sent xs ys)

-- a prefix behind what was sent is a prefix of all
pub prefix_more : (a b c : Option KnownOut) (xs ys zs all : List ℕ) → all ≡ xs ++ (ys ++ zs) → Tells (Adds xs) a b → Tells (AddsPrefix ys) b c → Tells (AddsPrefix all) a c
prefix_more None b c xs ys zs all e p q = tt
prefix_more (Some a) None c xs ys zs all e p q = absurd p
prefix_more (Some a) (Some b) None xs ys zs all e p q = absurd q
prefix_more (Some a) (Some b) (Some c) xs ys zs all e p q = (
  xs ++ q.0,
  q.1 ++ zs,
  e ∙ ap (λ l. xs ++ (l ++ zs)) q.2 ∙ simp append_assoc,
  adds_more (Some a) (Some b) (Some c) xs q.0 p q.3,
)

-- what was sent is a prefix of all, also after a call that changed nothing
pub prefix_stays : (a b c : Option KnownOut) (xs zs all : List ℕ) → all ≡ xs ++ zs → Tells (Adds xs) a b → Tells (λ old new. new ≡ old) b c → Tells (AddsPrefix all) a c
prefix_stays None b c xs zs all e p q = tt
prefix_stays (Some a) None c xs zs all e p q = absurd p
prefix_stays (Some a) (Some b) None xs zs all e p q = absurd q
prefix_stays (Some a) (Some b) (Some c) xs zs all e p q = (xs, zs, e, q ∙ p)

-- what is left after the next bytes of it, as a slice to the end
pub left_after : (all front rest : List ℕ) (n : ℕ) → all ≡ front ++ rest → all ≡ (front ++ take n rest) ++ take (length rest - n) (drop n rest)
left_after all front rest n e =
    e ∙ ap (λ l. front ++ l) (sym (take-append-drop n rest)) ∙ sym (append_assoc front (take n rest) (drop n rest)) ∙ ap (λ l. (front ++ take n rest) ++ l) (sym (take_rest rest n))
