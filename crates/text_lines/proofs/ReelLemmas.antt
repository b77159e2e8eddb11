-- The name of a reel is text, and whether bytes are one.
use Rattle.std.proofs.Common.{◌≡◌, ◌<◌, ◌≤◌, ◌&&◌, ◌∙◌, ℕ, Bool, true, false, not, List, [], ◌∷◌, All, codes, get_or, length, refl, sym, ap, arith}
use Rattle.std.specs.Prelude.{nat_le}
use Rattle.std.specs.List.{list_all}
use Rattle.std.specs.Str.{IsUtf8, bytes_eq}
use Rattle.std.proofs.lemmas.Grind.{common_steps}
use Rattle.std.proofs.lemmas.List.Elements.{All-cons, All-head, All-tail}
use Rattle.std.proofs.lemmas.Slice.Eq.{bytes_eq-Decides}
use Rattle.std.proofs.lemmas.Str.{IsUtf8-from_ascii}
use Rattle.text_lines.specs.ReelNames.{IsReelName, is_reel_name, most_reel_bytes}

low_at : (name : List ℕ) → All (λ b. (33 ≤ b) × (b ≤ 126)) name → (i : ℕ) → get_or name i 0 < 128
low_at name h i = grind (arith, common_steps, h i 0)

pub reel_is_text : (name : List ℕ) → IsReelName name → IsUtf8 name
reel_is_text name h = IsUtf8-from_ascii name (low_at name h.prints)

both : (a b : Bool) → a && b ≡ true → (a ≡ true) × (b ≡ true)
both true true e = (refl, refl)
both true false e = absurd (cc e)
both false b e = absurd (cc e)

joint : (a b : Bool) → a ≡ true → b ≡ true → a && b ≡ true
joint a b e f = rw (e, f) refl

at_most : (x y : ℕ) → nat_le x y ≡ true → x ≤ y
at_most x y f = grind (arith, f)

is_at_most : (x y : ℕ) → x ≤ y → nat_le x y ≡ true
is_at_most x y f = grind (arith, f)

abbrev prints : ℕ → Bool
prints b = nat_le 33 b && nat_le b 126

abbrev Prints : ℕ → Type 0
Prints b = (33 ≤ b) × (b ≤ 126)

all_print : (name : List ℕ) → list_all prints name ≡ true → All Prints name
all_print [] e = λ k d l. absurd (omega (arith, l))
all_print (b ∷ name) e =
    let q = both (prints b) (list_all prints name) e in
    let here = both (nat_le 33 b) (nat_le b 126) q.0 in
    All-cons Prints b name (at_most 33 b here.0, at_most b 126 here.1) (all_print name q.1)

are_printed : (name : List ℕ) → All Prints name → list_all prints name ≡ true
are_printed [] h = refl
are_printed (b ∷ name) h =
    let here : Prints b = All-head Prints b name h in
    joint (prints b) (list_all prints name)
    (joint (nat_le 33 b) (nat_le b 126) (is_at_most 33 b here.0) (is_at_most b 126 here.1))
    (are_printed name (All-tail Prints b name h))

not_black : (name : List ℕ) (t : Bool) → bytes_eq name (codes "BL") ≡ t
    → (name ≡ codes "BL" → ⊥) → not t ≡ true
not_black name true e other = absurd (other ((bytes_eq-Decides name (codes "BL")).0 e))
not_black name false e other = refl

-- the test of a name, in both directions
pub reel_name_is : (name : List ℕ) → is_reel_name name ≡ true → IsReelName name
reel_name_is name e =
    let black = not (bytes_eq name (codes "BL")) in
    let a = both (nat_le 1 (length name))
    (nat_le (length name) most_reel_bytes && (list_all prints name && black)) e in
    let b = both (nat_le (length name) most_reel_bytes) (list_all prints name && black) a.1 in
    let d = both (list_all prints name) black b.1 in
    record {
      some = at_most 1 (length name) a.0;
      short = at_most (length name) most_reel_bytes b.0;
      prints = all_print name d.0;
      not_black = λ f. absurd (cc (sym d.1 ∙ ap not ((bytes_eq-Decides name (codes "BL")).1 f)));
    }

pub name_of_reel : (name : List ℕ) → IsReelName name → is_reel_name name ≡ true
name_of_reel name h =
    let black = not (bytes_eq name (codes "BL")) in
    joint (nat_le 1 (length name))
    (nat_le (length name) most_reel_bytes && (list_all prints name && black))
    (is_at_most 1 (length name) h.some)
    (joint (nat_le (length name) most_reel_bytes) (list_all prints name && black)
    (is_at_most (length name) most_reel_bytes h.short)
    (joint (list_all prints name) black (are_printed name h.prints)
    (not_black name (bytes_eq name (codes "BL")) refl h.not_black)))
