-- Children that are copied one after another, those of a track without its transitions.
use Rattle.std.proofs.Common.{◌≡◌, refl, sym, ap, ◌∙◌, ℕ, ◌+◌, ◌≤◌, Bool, true, false, ◌&&◌, cond, map, List, [], ◌∷◌, ◌++◌, length, append_assoc, arith}
use Rattle.std.specs.Prelude.{reverse}
use Rattle.otio_model.specs.declared.compositions.ItemOf.{ItemOf}
use Rattle.otio_model.specs.declared.compositions.ItemOf.TheVariants.{Clip, Gap, Transition, Stack, Track}
use Rattle.otio_model.specs.declared.compositions.Listed.{Listed}
use Rattle.otio_model.specs.Trees.{listed, items_of, is_transition}
use Rattle.edits_law.proofs.Splice.{cases}
use Rattle.flat.specs.Straight.{without}
use Rattle.flat_law.proofs.Flat.{items-listed}
use Rattle.flat_law.proofs.Straight.{whole_item, straight-items, step_out, step_in}
use Rattle.flat_stack.specs.Straighten.{straight_children, straight_items}
use Rattle.std.proofs.lemmas.List.{append-nil, reverse-append, reverse-reverse}
use Rattle.otio_model.specs.Counts.{count, count_of, counts_by}
use Rattle.otio_model.specs.Falls.{count-listed}
use Rattle.otio_model.specs.declared.compositions.Listed.TheViews.{roll-out-Listed}

-- with the copies so far and those of the rest all are copied
abbrev pub Copied : Bool → List (ItemOf Listed) → List (ItemOf Listed) → List (ItemOf Listed)
    → Type 0
Copied in_track done rest all = done ++ straight_items in_track rest ≡ straight_items in_track all

pub copied_first : (b : Bool) (rest all : List (ItemOf Listed)) → rest ≡ all → Copied b [] rest all
copied_first b rest all e = ap (straight_items b) e

pub copied_more : (b c : Bool) (done new rest more all : List (ItemOf Listed)) (x y : ItemOf Listed)
    → Copied b done rest all → rest ≡ x ∷ more → c ≡ (b && is_transition x) → c ≡ false
    → y ≡ whole_item x → new ≡ done ++ y ∷ [] → Copied b new more all
copied_more b c done new rest more all x y k r e f g n =
    ap (λ l. l ++ straight_items b more) n
    ∙ append_assoc done (y ∷ []) (straight_items b more)
    ∙ ap (λ z. done ++ (z ∷ straight_items b more)) g
    ∙ ap (λ d. done ++ cond d (straight_items b more) (whole_item x ∷ straight_items b more))
    (sym (sym e ∙ f))
    ∙ ap (λ l. done ++ straight_items b l) (sym r) ∙ k

kept_kind : (x : ItemOf Listed) → is_transition (whole_item x) ≡ is_transition x
kept_kind (Clip c) = refl
kept_kind (Gap c) = refl
kept_kind (Transition c) = refl
kept_kind (Stack c) = refl
kept_kind (Track c) = refl

all_whole : (l : List (ItemOf Listed)) → straight_items false l ≡ map whole_item l
all_whole [] = refl
all_whole (x ∷ l) = ap (λ m. whole_item x ∷ m) (all_whole l)

whole_without : (l : List (ItemOf Listed)) → straight_items true l ≡ without (map whole_item l)
whole_without [] = refl
whole_without (x ∷ l) = cases (is_transition x)
    (λ t. rw t (whole_without l ∙ sym (step_out (whole_item x) (map whole_item l) (kept_kind x ∙ t))))
    (λ t. rw t (ap (λ m. whole_item x ∷ m) (whole_without l)
    ∙ sym (step_in (whole_item x) (map whole_item l) (kept_kind x ∙ t))))

whole_children : (b : Bool) (l : Listed)
    → listed (straight_items b (items_of l)) ≡ straight_children b l
whole_children false l = ap listed (all_whole (items_of l)) ∙ sym (straight-items l)
whole_children true l =
    ap listed (whole_without (items_of l))
    ∙ ap (λ m. listed (without m)) (sym (ap items_of (straight-items l)
    ∙ items-listed (map whole_item (items_of l))))

pub copied_all : (b : Bool) (done rest : List (ItemOf Listed)) (l made : Listed)
    → Copied b done rest (items_of l) → rest ≡ [] → made ≡ listed done → made ≡ straight_children b l
copied_all b done rest l made k r e =
    e ∙ ap listed (sym (append-nil done) ∙ ap (λ m. done ++ straight_items b m) (sym r) ∙ k)
    ∙ whole_children b l

-- ---- children that move, the last one of a list in the other order first

pub turned_next : {A : Type 0} (left rest : List A) (x : A) → left ≡ rest ++ x ∷ []
    → reverse left ≡ x ∷ reverse rest
turned_next left rest x e = ap reverse e ∙ reverse-append rest (x ∷ [])

pub turned_back : {A : Type 0} (new old : List A) → new ≡ reverse old → reverse new ≡ old
turned_back new old e = ap reverse e ∙ reverse-reverse old

pub none_left : {A : Type 0} (left : List A) → length left ≡ 0 → reverse left ≡ []
none_left [] e = refl
none_left (x ∷ left) e = absurd (omega (arith, e))

pub all_small : (l : Listed) (left : List (ItemOf Listed)) → left ≡ items_of l
    → counts_by count left ≤ count l
all_small l left e =
    omega (arith, ap (counts_by count) e, count-listed (items_of l), ap count (roll-out-Listed l))

pub next_small : (n : ℕ) (left rest : List (ItemOf Listed)) (x : ItemOf Listed)
    → counts_by count left ≤ n → left ≡ x ∷ rest
    → (count_of x ≤ n) × (counts_by count rest ≤ n)
next_small n left rest x h e =
    let k : counts_by count left ≡ count_of x + counts_by count rest = ap (counts_by count) e in
    (omega (arith, h, k), omega (arith, h, k))
