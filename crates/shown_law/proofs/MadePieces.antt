-- The items that a cut makes show what the item showed.
use Rattle.std.proofs.Common.{◌≡◌, ℕ, ℤ, ◌+ℤ◌, List, Some, None, true, refl, sym, ap, ◌∙◌, ◌⊎◌, inl, inr}
use Rattle.tick_time.specs.declared.rates.Rate.{Rate}
use Rattle.otio_model.specs.declared.compositions.ItemOf.{ItemOf}
use Rattle.otio_model.specs.declared.compositions.Listed.{Listed}
use Rattle.coord.specs.Agreement.{Agree}
use Rattle.coord.specs.Looks.{Look}
use Rattle.coord.specs.Sights.{View, exact, overlap_of, sight}
use Rattle.coord.specs.Soundness.{fault_of}
use Rattle.coord.proofs.AgreementLemmas.{plain, item_agrees}
use Rattle.edits.specs.Children.{made}
use Rattle.edits.specs.Cuts.{is_whole_at, left_piece, right_piece}
use Rattle.edits.specs.Steady.{IsBlind, is_steady}
use Rattle.edits_law.proofs.Made.{made_look}
use Rattle.edits_law.proofs.Pieces.{left_looks, right_looks}
use Rattle.edits_law.proofs.Readied.{sound_ready}

-- for a viewer who sees what the piece shows
left_seen : (v : View) (rate : Rate) (x piece : ItemOf Listed) (t u : ℤ) → fault_of x ≡ None
    → overlap_of x ≡ None → made rate (left_piece x t) ≡ Some piece
    → IsBlind v ⊎ (is_steady (left_piece x t) ≡ true)
    → (sight piece).shows v u ≡ (sight x).shows v u
left_seen v rate x piece t u f o m k =
    ap (λ (l : Look). l.shows u)
    (made_look v rate (left_piece x t) piece m (sound_ready x f _ _ o) k ∙ left_looks v x t o)

right_seen : (v : View) (rate : Rate) (x piece : ItemOf Listed) (t u : ℤ) → fault_of x ≡ None
    → overlap_of x ≡ None → is_whole_at x t ≡ true → made rate (right_piece x t) ≡ Some piece
    → IsBlind v ⊎ (is_steady (right_piece x t) ≡ true)
    → (sight piece).shows v u ≡ (sight x).shows v (u +ℤ t)
right_seen v rate x piece t u f o w m k =
    ap (λ (l : Look). l.shows u)
    (made_look v rate (right_piece x t) piece m (sound_ready x f _ _ o) k ∙ right_looks v x t o w)

pub left_shows : (rate : Rate) (x piece : ItemOf Listed) (t u : ℤ) (kind : List ℕ)
    → fault_of x ≡ None → overlap_of x ≡ None → made rate (left_piece x t) ≡ Some piece
    → Agree ((sight piece).shows (exact kind) u) ((sight x).shows (exact kind) u)
left_shows rate x piece t u kind f o m =
    sym (item_agrees piece kind u)
    ∙ left_seen (plain kind) rate x piece t u f o m (inl (λ a b. refl))
    ∙ item_agrees x kind u

pub right_shows : (rate : Rate) (x piece : ItemOf Listed) (t u : ℤ) (kind : List ℕ)
    → fault_of x ≡ None → overlap_of x ≡ None → is_whole_at x t ≡ true
    → made rate (right_piece x t) ≡ Some piece
    → Agree ((sight piece).shows (exact kind) u) ((sight x).shows (exact kind) (u +ℤ t))
right_shows rate x piece t u kind f o w m =
    sym (item_agrees piece kind u)
    ∙ right_seen (plain kind) rate x piece t u f o w m (inl (λ a b. refl))
    ∙ item_agrees x kind (u +ℤ t)

pub left_equals : (rate : Rate) (x piece : ItemOf Listed) (t u : ℤ) (kind : List ℕ)
    → fault_of x ≡ None → overlap_of x ≡ None → is_steady (left_piece x t) ≡ true
    → made rate (left_piece x t) ≡ Some piece
    → (sight piece).shows (exact kind) u ≡ (sight x).shows (exact kind) u
left_equals rate x piece t u kind f o k m = left_seen (exact kind) rate x piece t u f o m (inr k)

pub right_equals : (rate : Rate) (x piece : ItemOf Listed) (t u : ℤ) (kind : List ℕ)
    → fault_of x ≡ None → overlap_of x ≡ None → is_whole_at x t ≡ true
    → is_steady (right_piece x t) ≡ true → made rate (right_piece x t) ≡ Some piece
    → (sight piece).shows (exact kind) u ≡ (sight x).shows (exact kind) (u +ℤ t)
right_equals rate x piece t u kind f o w k m =
    right_seen (exact kind) rate x piece t u f o w m (inr k)
