-- Texts of pictures, by the parts that are handed over.
use Rattle.std.proofs.Common.{◌≡◌, List, ℕ, ℤ, ◌∷◌, ◌++◌, codes, sym, ap, ◌∙◌, append_assoc}
use Rattle.std.proofs.lemmas.Grind.{flat_map-append}
use Rattle.std.specs.Global.{Box}
use Rattle.json_text.specs.StringTexts.{escape, escaped}
use Rattle.coord.specs.Looks.{Sequence}
use Rattle.coord.specs.Images.{Image, Mixture}
use Rattle.show_prog.specs.Pictures.{image_of, image_step, kind_of}
use Rattle.show_prog.specs.Texts.{key_text}
use Rattle.show_prog.specs.declared.picture.MixKind.{MixKind}
use Rattle.show_prog.specs.declared.picture.Picture.{Picture}
use Rattle.show_prog.specs.declared.picture.Picture.TheVariants.{Mix}
use Rattle.show_prog.specs.declared.picture.Picture.TheOpen.{Picture-F}
use Rattle.show_prog.specs.declared.picture.Picture.TheFolds.{fold-roll-Picture}

-- what a mix stands for
pub image_of-Mix : (kind : MixKind) (from to : Box Picture) (num den : ℤ)
    → image_of (Mix kind from to num den) ≡ Mixture (kind_of kind) (image_of from.value) (image_of to.value) (record { num = num; den = den })
unfolding Rattle.show_prog.specs.declared.picture.Picture.TheViews.roll-Picture denote.Hole.Carrier.roll
image_of-Mix kind from to num den = fold-roll-Picture Image image_step (Picture-F.Mix kind from to num den)

-- the key of a sequence: its texts stand between quotes one after another
pub sequence_parts : (base prefix suffix : List ℕ)
    → codes "seq:\"" ++ (escaped base ++ (escaped prefix ++ (codes "#" ++ (escaped suffix ++ codes "\"")))) ≡ key_text (Sequence base prefix suffix)
sequence_parts base prefix suffix =
    let inner : escaped (prefix ++ (35 ∷ suffix)) ≡ escaped prefix ++ (35 ∷ escaped suffix) = flat_map-append escape prefix (35 ∷ suffix) in
    let all : escaped (base ++ (prefix ++ (35 ∷ suffix))) ≡ escaped base ++ (escaped prefix ++ (35 ∷ escaped suffix)) = flat_map-append escape base (prefix ++ (35 ∷ suffix)) ∙ ap (λ l. escaped base ++ l) inner in
    let one : escaped (base ++ (prefix ++ (35 ∷ suffix))) ++ codes "\"" ≡ escaped base ++ (escaped prefix ++ (35 ∷ (escaped suffix ++ codes "\""))) =
    ap (λ l. l ++ codes "\"") all ∙ append_assoc (escaped base) (escaped prefix ++ (35 ∷ escaped suffix)) (codes "\"")
    ∙ ap (λ l. escaped base ++ l) (append_assoc (escaped prefix) (35 ∷ escaped suffix) (codes "\"")) in
    ap (λ l. codes "seq:\"" ++ l) (sym one)
