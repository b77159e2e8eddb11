-- What the options of `tool` ask for at most once.
use Rattle.std.proofs.Common.{◌≡◌, ℕ, Bool, true, false, List, Option, Some, None, refl, sym, ◌∙◌, ap, arith, get_or}
use Rattle.std.specs.List.{after_first, before_first}
use Rattle.smpte_tc.proofs.OnePoint.{point_once}
use Rattle.command_words.specs.Given.{Given, IsValue}
use Rattle.command_words.specs.Tools.{AreTools, IsFlattening, IsJoining, IsOnly, IsWindow, are_several, is_comma}
use Rattle.command_words.specs.declared.tools.Flattening.{Flattening}
use Rattle.command_words.specs.declared.tools.Flattening.TheVariants as flattening
use Rattle.command_words.specs.declared.tools.Joining.{Joining}
use Rattle.command_words.specs.declared.tools.ToolAsked.{ToolAsked}
use Rattle.command_words.specs.declared.tools.TrackKind.{TrackKind}
use Rattle.command_words.specs.declared.tools.Window.{Window}

-- an option asks for at most one value
pub value_once : {A : Type 0} (Is : List ℕ → A → Type 0)
    → ((word : List ℕ) (x y : A) → Is word x → Is word y → x ≡ y)
    → (given : Option (List ℕ)) (x y : Option A) → IsValue Is given x
    → IsValue Is given y → x ≡ y
value_once Is once None None None p q = refl
value_once Is once None None (Some y) p q = absurd q
value_once Is once None (Some x) y p q = absurd p
value_once Is once (Some word) None y p q = absurd p
value_once Is once (Some word) (Some x) None p q = absurd q
value_once Is once (Some word) (Some x) (Some y) p q = ap Some (once word x y p q)

-- a word that stands for no value asks for none
pub no_value : {A : Type 0} (Is : List ℕ → A → Type 0) (word : List ℕ)
    → ((x : A) → Is word x → ⊥) → (value : Option A) → IsValue Is (Some word) value → ⊥
no_value Is word none None p = p
no_value Is word none (Some x) p = none x p

joining_once : (concat stack several : Bool) (x y : Option Joining)
    → IsJoining concat stack several x → IsJoining concat stack several y → x ≡ y
joining_once true true several x y p q = absurd p
joining_once true false several x y p q = p ∙ sym q
joining_once false true several x y p q = p ∙ sym q
joining_once false false true x y p q = absurd p
joining_once false false false x y p q = p ∙ sym q

only_once : (video audio : Bool) (x y : Option TrackKind) → IsOnly video audio x
    → IsOnly video audio y → x ≡ y
only_once true true x y p q = absurd p
only_once true false x y p q = p ∙ sym q
only_once false true x y p q = p ∙ sym q
only_once false false x y p q = p ∙ sym q

window_once : (word : List ℕ) (x y : Window) → IsWindow word x → IsWindow word y → x ≡ y
window_once word x y p q =
    let start = point_once (before_first is_comma word) x.start y.start p.start q.start in
    let end = point_once (after_first is_comma word) x.end y.end p.end q.end in
    λ i. record { start = start i; end = end i }

-- the second byte of a word
abbrev second : List ℕ → ℕ
second word = get_or word 1 0

flattening_once : (word : List ℕ) (x y : Flattening) → IsFlattening word x → IsFlattening word y
    → x ≡ y
flattening_once word flattening.Video flattening.Video p q = refl
flattening_once word flattening.Video flattening.Audio p q =
    absurd (omega (arith, ap second p, ap second q))
flattening_once word flattening.Video flattening.All p q =
    absurd (omega (arith, ap second p, ap second q))
flattening_once word flattening.Audio flattening.Video p q =
    absurd (omega (arith, ap second p, ap second q))
flattening_once word flattening.Audio flattening.Audio p q = refl
flattening_once word flattening.Audio flattening.All p q =
    absurd (omega (arith, ap second p, ap second q))
flattening_once word flattening.All flattening.Video p q =
    absurd (omega (arith, ap second p, ap second q))
flattening_once word flattening.All flattening.Audio p q =
    absurd (omega (arith, ap second p, ap second q))
flattening_once word flattening.All flattening.All p q = refl

-- the options of `tool` ask for one thing
pub tools_once : (given : Given) (x y : ToolAsked) → AreTools given x → AreTools given y → x ≡ y
tools_once given x y p q =
    let joining = joining_once given.tool.concat given.tool.stack (are_several given.more)
    x.joining y.joining p.joining q.joining in
    let only = only_once given.tool.video_only given.tool.audio_only x.only y.only p.only q.only in
    let remove = p.remove_transitions ∙ sym q.remove_transitions in
    let trim = value_once IsWindow window_once given.tool.trim x.trim y.trim p.trim q.trim in
    let flatten = value_once IsFlattening flattening_once given.tool.flatten x.flatten y.flatten
    p.flatten q.flatten in
    let keep = p.keep_flattened ∙ sym q.keep_flattened in
    let tracks = p.list_tracks ∙ sym q.list_tracks in
    let clips = p.list_clips ∙ sym q.list_clips in
    let media = p.list_media ∙ sym q.list_media in
    let stats = p.stats ∙ sym q.stats in
    λ i. record {
      joining = joining i;
      only = only i;
      remove_transitions = remove i;
      trim = trim i;
      flatten = flatten i;
      keep_flattened = keep i;
      list_tracks = tracks i;
      list_clips = clips i;
      list_media = media i;
      stats = stats i;
    }
