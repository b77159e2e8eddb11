use Rattle.std.proofs.Common.{◌≡◌, List, ℕ, [], ◌∷◌, codes, drop, map, refl, ap, ◌∙◌}
use Rattle.std.proofs.lemmas.Result.{IfOk-weaker}
use denote.Ref.{Bor}
use Rattle.clap.specs.Words.{found_of}
use Rattle.clap.proofs.WalkLemmas.{raw_values-rows}
use Rattle.command_words.specs.Given.{names_behind}
use Rattle.command_words.proofs.lines.files_behind.Goals as goal

abbrev now : Bor (List ℕ) → List ℕ
now s = s.now

behind_map : (names : List (Bor (List ℕ))) → map now (drop 1 names) ≡ drop 1 (map now names)
behind_map [] = refl
behind_map (name ∷ names) = refl

pub returns-in-Some : goal.returns-in-Some
returns-in-Some c =
    let rows = c.in-Some.ensures ∙ raw_values-rows (found_of c.args.matches.now) (codes "file") in
    IfOk-weaker c.without_first.result _ _
    (λ more h. ap (map now) h ∙ behind_map c.in-Some.names.now ∙ ap names_behind rows)
    c.without_first.ensures

pub returns-in-None : goal.returns-in-None
returns-in-None c =
    let rows = c.in-None.ensures ∙ raw_values-rows (found_of c.args.matches.now) (codes "file") in
    ap (map now) c.new.ensures.items ∙ ap names_behind rows
