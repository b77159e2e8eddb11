use Rattle.std.proofs.Common.{◌≡◌, ◌≢◌, ℕ, List, [], ◌∷◌, Option, Some, None, Ok, refl, sym, ap, ◌∙◌}
use Rattle.json_value.specs.declared.Json.{Json}
use Rattle.json_text.specs.declared.faults.JsonFault.TheVariants.{Syntax}
use Rattle.json_text.specs.State.Machine.{MachineState, start, run, at_last}
use Rattle.json_text.specs.State.Stands.{state_of}
use Rattle.json_text.proofs.FinalStates.{text_last, last_text}
use Rattle.json_text.proofs.reader.JsonReader.finish.Goals as goal

one_value : (v w : Json) (o : Option Json) → o ≡ Some v → o ≡ Some w → w ≡ v
one_value v w o e f = let g : Some w ≡ Some v = sym f ∙ e in cc g

no_value : (v : Json) (o : Option Json) → o ≡ None → o ≡ Some v → ⊥
no_value v o e f = let g : None ≡ Some v = sym e ∙ f in cc g

-- where nothing was read, there is no value
none_at_start : (bytes : List ℕ) (s : MachineState) → bytes ≡ [] → run 127 start bytes ≡ Ok s
    → at_last s ≡ None
none_at_start [] s e h = let k : start ≡ s = cc h in sym (ap at_last k)
none_at_start (b ∷ bytes) s e h = cc e

-- with room or without
in_room : {T : Type 0} (room : Option T) (value last : Option Json)
    → (room ≢ None → value ≡ last) → (room ≡ None → value ≡ None) → (room ≡ None → last ≡ None)
    → value ≡ last
in_room None value last f g h = g refl ∙ sym (h refl)
in_room (Some x) value last f g h = f (λ e. cc e)

-- what the machine ends with, of a reader that was fed these bytes
ended : {T : Type 0} (bytes : List ℕ) (s : MachineState) (room : Option T) (value : Option Json)
    → (room ≢ None → value ≡ at_last s) → (room ≡ None → value ≡ None) → (room ≡ None → bytes ≡ [])
    → run 127 start bytes ≡ Ok s → value ≡ at_last s
ended bytes s room value f g ready ran =
    in_room room value (at_last s) f g (λ e. none_at_start bytes s (ready e) ran)

pub returns-in-Some-whole-clause-text : goal.returns-in-Some-whole-clause-text
returns-in-Some-whole-clause-text c = λ bytes read.
    let s = state_of c.args.self.machine in
    let e = ended bytes s c.args.self.room c.whole.result c.whole.ensures.value c.whole.ensures.nothing read.ready read.ran in
    text_last bytes s c.in-Some-whole.value read.ran (sym e ∙ c.in-Some-whole.is)

pub returns-in-Some-whole-clause-only : goal.returns-in-Some-whole-clause-only
returns-in-Some-whole-clause-only c = λ bytes read other h.
    let s = state_of c.args.self.machine in
    let e = ended bytes s c.args.self.room c.whole.result c.whole.ensures.value c.whole.ensures.nothing read.ready read.ran in
    one_value c.in-Some-whole.value other c.whole.result c.in-Some-whole.is (e ∙ last_text bytes s other read.ran h)

pub returns-in-None-clause-fault : goal.returns-in-None-clause-fault
returns-in-None-clause-fault c = λ bytes read.
    let s = state_of c.args.self.machine in
    let e = ended bytes s c.args.self.room c.whole.result c.whole.ensures.value c.whole.ensures.nothing read.ready read.ran in (
      ap Syntax (sym read.taken),
      λ v h. no_value v c.whole.result c.in-None.is (e ∙ last_text bytes s v read.ran h),
    )
