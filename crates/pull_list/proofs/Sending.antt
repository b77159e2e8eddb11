-- The lines of spans, one after another.
use Rattle.std.proofs.Common.{◌≡◌, refl, sym, ap, ◌∙◌, ℕ, ◌+◌, ◌<◌, ◌≤◌, List, [], ◌∷◌, ◌++◌, Some, drop, length, get_or}
use Rattle.coord.proofs.Members.{next}
use Rattle.std.proofs.lemmas.List.{drop_all}
use Rattle.std.proofs.lemmas.Option.{slice_get-get_or}
use Rattle.pull_list.specs.Lines.{stretch_line, stretches_text}
use Rattle.pull_list.specs.Pulled.{stretch_of, stretches_of}
use Rattle.pull_list.specs.declared.spans.PullSpan.{PullSpan}

first_line : (s : PullSpan) (spans : List PullSpan) → stretches_text (stretches_of (s ∷ spans))
    ≡ stretch_line (stretch_of s) ++ stretches_text (stretches_of spans)
first_line s spans = refl

pub lines_end : (spans : List PullSpan) (i : ℕ) → length spans ≤ i
    → stretches_text (stretches_of (drop i spans)) ≡ []
lines_end spans i le = ap (λ l. stretches_text (stretches_of l)) (drop_all i spans le)

pub lines_at : (spans : List PullSpan) (i : ℕ) (s : PullSpan) → i < length spans
    → s ≡ get_or spans i s → stretches_text (stretches_of (drop i spans))
    ≡ stretch_line (stretch_of s) ++ stretches_text (stretches_of (drop (i + 1) spans))
lines_at spans i s lt e =
    ap (λ l. stretches_text (stretches_of l)) (next spans i s (slice_get-get_or spans i s lt ∙ ap Some (sym e)))
    ∙ first_line s (drop (i + 1) spans)
