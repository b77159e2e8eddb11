-- A timeline whose pull list is asked for has one answer.
use Rattle.std.proofs.Common.{◌≡◌, ℕ, Option, List, sym, ap, ◌∙◌}
use Rattle.otio_model.specs.declared.timelines.Timeline.{Timeline}
use Rattle.otio_model.specs.Timelines.{bare}
use Rattle.coord.proofs.OneFault.{same_fault, no_fault_of}
use Rattle.coord.proofs.SpareLemmas.{faultless_bare, fault_bare}
use Rattle.source_files.specs.Faults.{coord_fault_text}
use Rattle.pull_list.specs.Lines.{stretches_text}
use Rattle.pull_list.specs.Pulled.{Stretch}
use Rattle.pull_list.proofs.OnePullList.{one_pull_list}
use Rattle.pull_list.proofs.SpareLemmas.{too_many_bare}
use Rattle.otio_tools.specs.Forms.{Answer, done, refused}
use Rattle.otio_tools.specs.Pulled.{AnswersPull, Unsound, Many, Told}

-- it has at most one, whatever memory it has to spare
pub pulled_once : (handles : ℕ) (name : List ℕ) (target : Option (List ℕ)) (t u : Timeline)
    (a b : Answer) → bare t ≡ bare u → AnswersPull handles name target t a
    → AnswersPull handles name target u b → a ≡ b
pulled_once handles name target t u a b same (Unsound f n p e) (Unsound g m q h) =
    e ∙ ap (λ fault. refused name (coord_fault_text fault))
    (same_fault t f g n m p (fault_bare u t g (sym same) q)) ∙ sym h
pulled_once handles name target t u a b same (Unsound f n p e) (Many s q h) =
    absurd (no_fault_of t f (faultless_bare u t (sym same) s) p)
pulled_once handles name target t u a b same (Unsound f n p e) (Told s few list q h) =
    absurd (no_fault_of t f (faultless_bare u t (sym same) s) p)
pulled_once handles name target t u a b same (Many s p e) (Unsound g m q h) =
    absurd (no_fault_of u g (faultless_bare t u same s) q)
pulled_once handles name target t u a b same (Many s p e) (Many r q h) = e ∙ sym h
pulled_once handles name target t u a b same (Many s p e) (Told r few list q h) =
    absurd (few (too_many_bare t u same p))
pulled_once handles name target t u a b same (Told s few list p e) (Unsound g m q h) =
    absurd (no_fault_of u g (faultless_bare t u same s) q)
pulled_once handles name target t u a b same (Told s few list p e) (Many r q h) =
    absurd (few (too_many_bare u t (sym same) q))
pulled_once handles name target t u a b same (Told s few list p e) (Told r low other q h) =
    e ∙ ap (λ (x : List Stretch). done target (stretches_text x))
    (one_pull_list t u handles list other same p q) ∙ sym h
