-- Edits by their kinds.
use Rattle.std.proofs.Common.{◌≡◌, ◌+◌, ◌==◌, sym, ap, ◌∙◌, ℕ, ℤ, pos, Bool, false, List, arith}
use Rattle.std.proofs.lemmas.Bool.Decides.{nat_tests}
use Rattle.std.specs.Prelude.{cond, IfOk, OnOk, Result, Ok, Err}
use Rattle.edit_script.specs.declared.commands.Act.{Act}
use Rattle.edit_script.specs.declared.commands.Act.TheVariants as A
use Rattle.drill.specs.Draws.{next, draw, after}
use Rattle.drill.specs.Acts.{Drawn, act, act_of, moving, shift, track}

other : {A : Type 0} (b : Bool) (x y : A) → b ≡ false → cond b x y ≡ y
other b x y e = ap (λ c. cond c x y) e

not_is : (k n : ℕ) → (k ≡ n → ⊥) → (k == n) ≡ false
not_is k n h = grind (arith, nat_tests, h)

roll_of : (kind : ℕ) (at : ℤ) (x : ℕ) → (kind ≡ 5 → ⊥) → (kind ≡ 6 → ⊥) → (kind ≡ 7 → ⊥)
    → (moving kind at x).act ≡ A.Roll track at (shift x) (shift (next x))
roll_of kind at x e f g =
    ap (λ (d : Drawn). d.act) (other (kind == 5) _ _ (not_is kind 5 e)
    ∙ other (kind == 6) _ _ (not_is kind 6 f) ∙ other (kind == 7) _ _ (not_is kind 7 g))

-- the last kind is a roll
pub rolled : (kind : ℕ) (at : ℤ) (x : ℕ) (place : List ℕ) (a h t : ℤ) → (kind ≡ 5 → ⊥)
    → (kind ≡ 6 → ⊥) → (kind ≡ 7 → ⊥) → place ≡ track → a ≡ at → h ≡ shift x
    → t ≡ shift (next x) → A.Roll place a h t ≡ (moving kind at x).act
rolled kind at x place a h t e f g p q r s =
    (λ i. A.Roll (p i) (q i) (r i) (s i)) ∙ sym (roll_of kind at x e f g)

-- a kind behind the fifth moves cuts or media
pub moved : (kind : ℕ) (at : ℤ) (x : ℕ) → (kind ≡ 0 → ⊥) → (kind ≡ 1 → ⊥) → (kind ≡ 2 → ⊥)
    → (kind ≡ 3 → ⊥) → (kind ≡ 4 → ⊥) → moving kind at x ≡ act_of kind at x
moved kind at x e f g h i =
    sym (other (kind == 0) _ _ (not_is kind 0 e) ∙ other (kind == 1) _ _ (not_is kind 1 f)
    ∙ other (kind == 2) _ _ (not_is kind 2 g) ∙ other (kind == 3) _ _ (not_is kind 3 h)
    ∙ other (kind == 4) _ _ (not_is kind 4 i))

-- what was drawn before gives the act
drawn : (frames x kind y : ℕ) (at : ℤ) → kind ≡ draw 9 x
    → at ≡ pos (draw (frames + 10) (next x)) → y ≡ after 2 x → act_of kind at y ≡ act frames x
drawn frames x kind y at e f g = λ i. act_of (e i) (f i) (g i)

pub drawn_act : {F : Type 0} (frames x kind y : ℕ) (at : ℤ) (r : Result Act F)
    → kind ≡ draw 9 x → at ≡ pos (draw (frames + 10) (next x)) → y ≡ after 2 x
    → IfOk r (λ a. a ≡ (act_of kind at y).act) → IfOk r (λ a. a ≡ (act frames x).act)
drawn_act frames x kind y at (Err f) a b c h = tt
drawn_act frames x kind y at (Ok r) a b c h =
    h ∙ ap (λ (d : Drawn). d.act) (drawn frames x kind y at a b c)

pub drawn_state : {F : Type 0} (frames x kind y z : ℕ) (at : ℤ) (r : Result Act F)
    → kind ≡ draw 9 x → at ≡ pos (draw (frames + 10) (next x)) → y ≡ after 2 x
    → OnOk r (z ≡ (act_of kind at y).state) → OnOk r (z ≡ (act frames x).state)
drawn_state frames x kind y z at (Err f) a b c h = tt
drawn_state frames x kind y z at (Ok r) a b c h =
    h ∙ ap (λ (d : Drawn). d.state) (drawn frames x kind y at a b c)
