-- What the two layouts have columns for.
use Rattle.std.proofs.Common.{◌≡◌, ◌+◌, ◌/◌, ◌%◌, ◌≤◌, ℕ, zero, suc, Bool, true, false, List, [], ◌∷◌, ◌++◌, Some, length, take, drop, replicate, refl, ap, subst, ◌∙◌, arith, length-append}
use Rattle.std.specs.Prelude.{IfSome, Option}
use Rattle.std.proofs.lemmas.List.{take-replicate, drop_all, drop-append-le}
use Rattle.edl_list.specs.declared.layout.Layout.{Layout}
use Rattle.edl_list.specs.declared.list.Reel.{Reel}
use Rattle.edl_list.specs.declared.list.Reel.TheVariants.{Black, Named}
use Rattle.edl_list.specs.declared.list.Side.{Side}
use Rattle.edl_list.specs.declared.list.Event.{Event}
use Rattle.edl_list.specs.Labelled.{outgoing}
use Rattle.edl_list.specs.Layouts.{wide_layout, layout_of, most_events, FitsReel, FitsEvent}
use Rattle.edl_text.specs.Columns.{AreWidths, digits, spaces, reel_text}

pub widths_of : (wide : Bool) → AreWidths (layout_of wide)
widths_of true = record { some = omega arith; few = omega arith; black = omega arith; short = omega arith }
widths_of false = record { some = omega arith; few = omega arith; black = omega arith; short = omega arith }

-- the wide layout has the most numbers
pub few_events : (wide : Bool) (n : ℕ) → n ≤ most_events (layout_of wide) → n ≤ most_events wide_layout
few_events true n h = h
few_events false n h = omega (arith, h)

-- the front of the widest column
pub widest_front : (n : ℕ) → n ≤ 32 → take n (replicate 32 32) ≡ spaces n
widest_front n h = take-replicate n 32 32 h

-- a reel that stands in its column is no longer than that
pub reel_short : (layout : Layout) (reel : Reel) → AreWidths layout → FitsReel layout reel
    → length (reel_text reel) ≤ layout.reel_width
reel_short layout Black widths fits = widths.black
reel_short layout (Named name) widths fits = fits

pub length_digits : (width n : ℕ) → length (digits width n) ≡ width
length_digits zero n = refl
length_digits (suc width) n =
    length-append (digits width (n / 10)) ((48 + n % 10) ∷ [])
    ∙ let e = length_digits width (n / 10) in omega (arith, e)

-- the last digits
pub digits_back : (all front width n : ℕ) → all ≡ front + width
    → drop front (digits all n) ≡ digits width n
digits_back zero front zero n e = drop_all front [] (omega arith)
digits_back zero front (suc width) n e = absurd (omega (arith, e))
digits_back (suc all) front zero n e =
    let long = length_digits (suc all) n in
    drop_all front (digits (suc all) n) (omega (arith, e, long))
digits_back (suc all) front (suc width) n e =
    let long = length_digits all (n / 10) in
    let here : front ≤ length (digits all (n / 10)) = omega (arith, e, long) in
    drop-append-le front (digits all (n / 10)) ((48 + n % 10) ∷ []) here
    ∙ ap (λ l. l ++ (48 + n % 10) ∷ []) (digits_back all front width (n / 10) (omega (arith, e)))

-- the outgoing side of an event whose reels stand in their columns
pub outgoing_fits : (layout : Layout) (event : Event) (from : Side) → FitsEvent layout event
    → outgoing event.cross ≡ Some from → FitsReel layout from.reel
outgoing_fits layout event from fits e =
    subst (λ (o : Option Side). IfSome o (λ (side : Side). FitsReel layout side.reel)) e fits.from

-- the number of an event in its digits, as the back of the digits of the widest layout
pub number_parts : (width n front : ℕ) (six back : List ℕ) → six ≡ digits 6 n
    → 6 ≡ front + width → back ≡ drop front six → back ≡ digits width n
number_parts width n front six back e all f =
    f ∙ ap (drop front) e ∙ digits_back 6 front width n all
