-- What a row says.
use Rattle.std.proofs.Common.{◌≡◌, ◌⊎◌, inl, inr, ◌<ℤ◌, ℕ, ℤ, pos, true, false, List, [], Option, Some, None, option_map, FitsSigned, to_z, of_z, w64, refl, sym, ap, subst, ◌∙◌, arith}
use Rattle.std.proofs.lemmas.Int.{ints, to_z-of_z}
use Rattle.std.specs.Int.Signed.{lt_z, lt_z_yes}
use Rattle.tick_time.specs.declared.rates.Rate.{Rate}
use Rattle.smpte_tc.specs.declared.modes.Mode.{Mode}
use Rattle.smpte_tc.specs.Modes.{mode_at}
use Rattle.smpte_tc.specs.Frames.{index_by, label_frame_at, label_index}
use Rattle.ale_text.specs.Words.{IsTape}
use Rattle.ale_text.specs.Lines.{RowSays, nothing, field_of, frame_of}
use Rattle.ale_text.specs.Views.{HasTaken}
use Rattle.ale_text.specs.declared.rows.Take.{Take}
use Rattle.ale_text.specs.declared.sections.Columns.{Columns}

no_index : (o : Option Mode) → index_by o [] ≡ None
unfolding label_index
no_index None = refl
no_index (Some mode) = refl

-- an empty field is no label
no_frame : (rate : Rate) → frame_of rate [] ≡ None
unfolding label_frame_at
no_frame rate = no_index (mode_at rate.num rate.den false)

empty_says_none : (rate : Rate) (field : List ℕ) (n : ℕ) → field ≡ [] → frame_of rate field ≡ Some n
    → ⊥
empty_says_none rate field n empty e =
    let h : None ≡ Some n = sym (no_frame rate) ∙ ap (frame_of rate) (sym empty) ∙ e in cc

-- a row without a start or an end says nothing
pub says_nothing : (rate : Rate) (columns : Columns) (row start end : List ℕ)
    → start ≡ field_of row columns.start → end ≡ field_of row columns.end
    → (start ≡ []) ⊎ (end ≡ []) → RowSays rate columns row []
says_nothing rate columns row start end a b (inl empty) = nothing
    (λ taking t. empty_says_none rate (field_of row columns.start) taking.start (sym a ∙ empty)
    t.start)
    (λ l. l.start (sym a ∙ empty)) refl
says_nothing rate columns row start end a b (inr empty) = nothing
    (λ taking t. empty_says_none rate (field_of row columns.end) taking.end (sym b ∙ empty) t.end)
    (λ l. l.end (sym b ∙ empty)) refl

-- a frame that is said is one of a label
frame_said : (o : Option ℕ) (z : ℤ) → Some z ≡ option_map pos o
    → (n : ℕ) × (o ≡ Some n) × (z ≡ pos n)
frame_said None z e = let h : Some z ≡ None = e in cc
frame_said (Some n) z e = let h : Some z ≡ Some (pos n) = e in (n, refl, cc)

-- two numbers of 64 bits in order
pub in_order : (a b : ℤ) → FitsSigned w64 a → FitsSigned w64 b
    → lt_z (to_z w64 (of_z w64 a)) (to_z w64 (of_z w64 b)) ≡ true → a <ℤ b
in_order a b p q e =
    let same : lt_z a b ≡ true = ap (λ x. lt_z x b) (sym (to_z-of_z w64 a p))
    ∙ ap (lt_z (to_z w64 (of_z w64 a))) (sym (to_z-of_z w64 b q)) ∙ e in
    lt_z_yes (rw same tt)

-- a row with a tape and two labels in order says that their frames were taken
pub has_taken : (rate : Rate) (columns : Columns) (row : List ℕ) (take : Take)
    (tape start end : List ℕ) (a b : ℤ)
    → tape ≡ field_of row columns.tape → IsTape tape → take.tape.now ≡ tape
    → start ≡ field_of row columns.start → Some a ≡ option_map pos (frame_of rate start)
    → take.start ≡ a
    → end ≡ field_of row columns.end → Some b ≡ option_map pos (frame_of rate end)
    → take.end ≡ b → a <ℤ b → HasTaken rate columns row take
has_taken rate columns row take tape start end a b tape_is named tape_at start_is start_says start_at
    end_is end_says end_at above =
    let n = frame_said (frame_of rate start) a start_says in
    let k = frame_said (frame_of rate end) b end_says in
    let low : pos n.0 <ℤ pos k.0 =
    subst (λ x. x <ℤ pos k.0) n.2 (subst (λ x. a <ℤ x) k.2 above) in
    record {
      taking = record { tape = tape; start = n.0; end = k.0 };
      is = record { tape = tape_at; start = start_at ∙ n.2; end = end_at ∙ k.2 };
      takes = record {
        tape = sym tape_is;
        named = named;
        start = ap (frame_of rate) (sym start_is) ∙ n.1;
        end = ap (frame_of rate) (sym end_is) ∙ k.1;
        above = omega (arith, ints, low);
      };
    }
