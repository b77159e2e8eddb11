-- One round after another.
use Rattle.std.proofs.Common.{◌≡◌, refl, sym, subst, ℕ, ◌+◌, Bool, true, false, add-one, ◌≤◌, arith}
use Rattle.std.specs.Prelude.{IfOk, Result, Ok, Err}
use Rattle.undo_log.specs.Histories.{History}
use Rattle.undo_log.specs.States.{state_of}
use Rattle.otio_model.specs.declared.timelines.Timeline.{Timeline}
use Rattle.edit_script.specs.declared.commands.Act.{Act}
use Rattle.edit_script.specs.Keeping.{HoldsEdits}
use Rattle.edit_script.specs.Steps.{IsReady}
use Rattle.media_rows.specs.Rows.{MediaRows}
use Rattle.edit_script.specs.Runs.{IsHalted, Takes}
use Rattle.drill.specs.Acts.{act}
use Rattle.drill.specs.Frames.{track_frames}
use Rattle.drill.specs.Rounds.{Drills, Goes, accepted, refused}
use Rattle.drill.specs.Turns.{HasDrilled, WasTried, counted, round_of}

-- what was tried is the drawn act
pub gone : (m : MediaRows) (x y : ℕ) (a : Act) (h k : History) (t u : Timeline) (done : Bool)
    → a ≡ (act (track_frames t) x).act → y ≡ (act (track_frames t) x).state
    → WasTried m a h t k u done → (n : ℕ)
    → Goes m (round_of x h t n) (round_of y k u (counted n done))
gone m x y a h k t u true e f w n =
    accepted (subst (λ b. Takes m b (state_of h t) (state_of k u)) e w) f refl
gone m x y a h k t u false e f w n =
    refused
    (w.0.0, subst (λ b. IsHalted m (record { line = 0; act = b }) (state_of h t) w.0.0) e w.0.1)
    (λ i. record { number = f i; state = w.1 i; accepted = n })

pub goes_on : {F : Type 0} (m : MediaRows) (x y : ℕ) (a : Act) (h k : History) (t u : Timeline)
    (res : Result Bool F) → a ≡ (act (track_frames t) x).act
    → y ≡ (act (track_frames t) x).state → IfOk res (WasTried m a h t k u)
    → IfOk res (λ done. (n : ℕ) → Goes m (round_of x h t n) (round_of y k u (counted n done)))
goes_on m x y a h k t u (Err f) e g w = tt
goes_on m x y a h k t u (Ok done) e g w = gone m x y a h k t u done e g w

counted_few : (p n : ℕ) (done : Bool) → p ≤ n → counted p done ≤ n + 1
counted_few p n true h = omega (arith, h)
counted_few p n false h = omega (arith, h)

-- one more edit was tried
pub one_more : (m : MediaRows) (n x y z p q : ℕ) (done : Bool) (h k l : History)
    (t u v : Timeline) → HasDrilled m n x y p h t k u
    → ((i : ℕ) → Goes m (round_of y k u i) (round_of z l v (counted i done)))
    → IsReady l v → (HoldsEdits k u → HoldsEdits l v) → q ≡ counted p done
    → HasDrilled m (n + 1) x z q h t l v
one_more m n x y z p q done h k l t u v w goes ready holds e = record {
  ready = ready;
  drills = subst (λ i. Drills m i (round_of x h t 0) (round_of z l v q)) (sym (add-one n)) (
    round_of y k u p,
    w.drills,
    subst (λ i. Goes m (round_of y k u p) (round_of z l v i)) (sym e) (goes p),
  );
  few = subst (λ i. i ≤ n + 1) (sym e) (counted_few p n done w.few);
  holds = λ x. holds (w.holds x);
}
