-- Events with their places as lines.
use Rattle.std.proofs.Common.{◌≡◌, refl, sym, ap, ◌∙◌, ℕ, zero, suc, ◌+◌, ◌<◌, ◌≤◌, List, [], ◌∷◌, ◌++◌, map, take, drop, length, get_or, set, Some, arith, below_more}
use Rattle.std.specs.Prelude.{slice_get}
use Rattle.std.proofs.lemmas.List.{get_or-set_same, get_or-set_other, length-map}
use Rattle.std.proofs.Math.Seq.{take-append_seam}
use Rattle.std.proofs.lemmas.Option.{get_or_from_slice_get}
use Rattle.edl_list.specs.declared.list.Event.{Event}
use Rattle.coord.proofs.Members.{got_below}
use Rattle.edl_frames.specs.ChildEvents.{unnumbered}

-- an event that takes the place of one from which it differs in its line alone
pub same_put : (events : List Event) (i : ℕ) (new d : Event)
    → unnumbered new ≡ unnumbered (get_or events i d)
    → map unnumbered (set events i new) ≡ map unnumbered events
same_put [] i new d same = refl
same_put (x ∷ xs) zero new d same = ap (λ z. z ∷ map unnumbered xs) same
same_put (x ∷ xs) (suc i) new d same = ap (λ l. unnumbered x ∷ l) (same_put xs i new d same)

-- one more event has its line
pub line_put : (events : List Event) (i : ℕ) (new : Event) → i < length events
    → new.line ≡ i + 1
    → ((k : ℕ) (d : Event) → k < i → (get_or events k d).line ≡ k + 1)
    → (k : ℕ) (d : Event) → k < i + 1 → (get_or (set events i new) k d).line ≡ k + 1
line_put events i new there line before k d less =
    below_more (λ n. (get_or (set events i new) n d).line ≡ n + 1) i
    (λ n h. ap (λ e. e.line) (get_or-set_other events i n new d (omega (arith, h))) ∙ before n d h)
    (ap (λ e. e.line) (get_or-set_same events i new d there) ∙ line) k less

-- each event has its line once all have come
pub lines_all : (events : List Event) (n : ℕ) → length events ≤ n
    → ((k : ℕ) (d : Event) → k < n → (get_or events k d).line ≡ k + 1)
    → (i : ℕ) (e : Event) → slice_get events i ≡ Some e → e.line ≡ i + 1
lines_all events n all lines i e at =
    let within = got_below events i e at in
    sym (ap (λ x. x.line) (get_or_from_slice_get events i e e at))
    ∙ lines i e (omega (arith, within))

-- a list that was written over as a whole
pub put_back : (n : ℕ) (new old : List Event) → n ≡ length old
    → map unnumbered new ≡ map unnumbered old → take n (new ++ drop (length new) old) ≡ new
put_back n new old all same =
    let long : length new ≡ length old =
    sym (length-map new unnumbered) ∙ ap length same ∙ length-map old unnumbered in
    ap (λ m. take m (new ++ drop (length new) old)) (all ∙ sym long)
    ∙ take-append_seam new (drop (length new) old)
