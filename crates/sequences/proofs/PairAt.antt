-- A part of the pair at an index, through a slice that is seen.
use Rattle.std.proofs.Common.{◌≡◌, ◌∙◌, sym, ap, refl, ℕ, ◌<◌, ◌≤◌, List, length, get_or, slice_get}
use Rattle.std.proofs.Common.{Some, None, option_map}
use Rattle.std.proofs.lemmas.Option.{slice_get_read, slice_get_past}

pub part_at : {X Y : Type 0} (f : X → Y) (seen all : List X) (i : ℕ) (x : X) → seen ≡ all
    → i < length seen → x ≡ get_or seen i x → Some (f x) ≡ option_map f (slice_get all i)
part_at f seen all i x same within e =
    let there = slice_get_read seen (length seen) i x refl within e in
    sym (ap (λ xs. option_map f (slice_get xs i)) (sym same) ∙ ap (option_map f) there)

pub part_past : {X Y : Type 0} (f : X → Y) (seen all : List X) (i : ℕ) → seen ≡ all
    → length seen ≤ i → None ≡ option_map f (slice_get all i)
part_past f seen all i same past =
    sym (ap (λ xs. option_map f (slice_get xs i)) (sym same)
    ∙ ap (option_map f) (slice_get_past seen i past))
