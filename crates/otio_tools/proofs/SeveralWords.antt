-- Words that ask for one command, and how several files become one.
use Rattle.std.proofs.Common.{◌≡◌, ℕ, suc, Bool, true, false, List, [], ◌∷◌, None, length, refl, sym, ap, ◌∙◌, inl, inr}
use Rattle.std.specs.declared.option.Option.{Option}
use Rattle.tick_time.specs.declared.rates.Rate.{Rate}
use Rattle.command_words.specs.Asked.{Ask, IsByNames, IsRequest, OtherNames}
use Rattle.command_words.specs.Given.{Given}
use Rattle.command_words.specs.Tools.{AreTools, IsJoining, are_several}
use Rattle.command_words.specs.declared.names.Verb.{Verb}
use Rattle.command_words.specs.declared.names.Verb.TheVariants as verbs
use Rattle.command_words.specs.declared.requests.Command.{Command}
use Rattle.command_words.specs.declared.requests.Command.TheVariants.{ListToList, ListToObjects, TimelineToList, ToObjects, ToJson, Frames, ListFrames, Edit, ListEdit}
use Rattle.command_words.specs.declared.requests.Command.TheVariants.{Cat, ListCat, Stat, ListStat, Tool, ListTool, Pull, ListPull, LogToMedia}
use Rattle.command_words.specs.declared.tools.Joining.{Joining}
use Rattle.command_words.specs.declared.tools.ToolAsked.{ToolAsked}
use Rattle.otio_tools.specs.Several.{FitsJoining, HasJoining}

-- a command that is neither of two isn't asked for by names
pub not_named : (timelines : Command) (lists : Rate → Command) (command : Command)
    (names : List (List ℕ)) (rate : Rate) → IsByNames timelines lists command names rate
    → (command ≡ timelines → ⊥) → ((r : Rate) → command ≡ lists r → ⊥) → ⊥
not_named timelines lists command names rate (inl p) a b = a p.1
not_named timelines lists command names rate (inr p) a b = b rate p.1

none_behind : (more : List (List ℕ)) → are_several more ≡ false → length more ≡ 0
none_behind [] e = refl
none_behind (name ∷ names) e = absurd (cc e)

-- nothing says how several become one only where there is one
alone_by : (concat stack several : Bool) (joining : Option Joining)
    → IsJoining concat stack several joining → joining ≡ None → several ≡ false
alone_by true true several joining i e = absurd i
alone_by true false several joining i e = absurd (let k = sym i ∙ e in cc k)
alone_by false true several joining i e = absurd (let k = sym i ∙ e in cc k)
alone_by false false true joining i e = absurd i
alone_by false false false joining i e = refl

fits_by : (given : Given) (tool asked : ToolAsked) (more : List (List ℕ)) → AreTools given tool
    → asked ≡ tool → more ≡ given.more → FitsJoining asked (suc (length more))
fits_by given tool asked more are same e = λ none.
    ap suc (ap length e ∙ none_behind given.more (alone_by given.tool.concat given.tool.stack
    (are_several given.more) tool.joining are.joining
    (ap (λ (a : ToolAsked). a.joining) (sym same) ∙ none)))

same_tool : (tool asked : ToolAsked) (names : List (List ℕ)) (rate : Rate)
    → IsByNames (Tool tool) (λ r. ListTool r tool) (Tool asked) names rate → asked ≡ tool
same_tool tool asked names rate (inl p) = let k = p.1 in cc
same_tool tool asked names rate (inr p) = absurd (let k = p.1 in cc k)

same_list_tool : (tool asked : ToolAsked) (at rate : Rate) (names : List (List ℕ))
    → IsByNames (Tool tool) (λ r. ListTool r tool) (ListTool at asked) names rate → asked ≡ tool
same_list_tool tool asked at rate names (inl p) = absurd (let k = p.1 in cc k)
same_list_tool tool asked at rate names (inr p) = let k = p.1 in cc

joining_by : (command : Command) (verb : Verb) (name : List ℕ) (others : OtherNames)
    (target : Option (List ℕ)) (given : Given) → IsRequest verb command name others target given
    → HasJoining command (suc (length others.more))
joining_by (Tool asked) verbs.Tool name others target given r =
    fits_by given r.asked.tool asked others.more r.asked.are
    (same_tool r.asked.tool asked (name ∷ given.more) r.asked.rate r.asked.means) r.more_are
joining_by (ListTool rate asked) verbs.Tool name others target given r =
    fits_by given r.asked.tool asked others.more r.asked.are
    (same_list_tool r.asked.tool asked rate r.asked.rate (name ∷ given.more) r.asked.means) r.more_are
joining_by (Tool asked) verbs.Convert name others target given r = absurd r.asked.means
joining_by (Tool asked) verbs.Frames name others target given r = absurd r.asked.means
joining_by (Tool asked) verbs.Edit name others target given r = absurd r.asked.means
joining_by (Tool asked) verbs.Drill name others target given r = absurd r.asked
joining_by (Tool asked) verbs.Media name others target given r =
    absurd (let k = r.asked.means in cc k)
joining_by (Tool asked) verbs.Cat name others target given r =
    absurd (not_named Cat ListCat (Tool asked) (name ∷ given.more) r.asked.rate r.asked.means
    (λ k. cc k) (λ q k. cc k))
joining_by (Tool asked) verbs.Stat name others target given r =
    absurd (not_named Stat ListStat (Tool asked) (name ∷ []) r.asked.rate r.asked.means (λ k. cc k)
    (λ q k. cc k))
joining_by (ListTool rate asked) verbs.Convert name others target given r = absurd r.asked.means
joining_by (ListTool rate asked) verbs.Frames name others target given r = absurd r.asked.means
joining_by (ListTool rate asked) verbs.Edit name others target given r = absurd r.asked.means
joining_by (ListTool rate asked) verbs.Drill name others target given r = absurd r.asked
joining_by (ListTool rate asked) verbs.Media name others target given r =
    absurd (let k = r.asked.means in cc k)
joining_by (ListTool rate asked) verbs.Cat name others target given r =
    absurd (not_named Cat ListCat (ListTool rate asked) (name ∷ given.more) r.asked.rate
    r.asked.means (λ k. cc k) (λ q k. cc k))
joining_by (ListTool rate asked) verbs.Stat name others target given r =
    absurd (not_named Stat ListStat (ListTool rate asked) (name ∷ []) r.asked.rate r.asked.means
    (λ k. cc k) (λ q k. cc k))
joining_by (Tool asked) verbs.Pull name others target given r =
    absurd (not_named (Pull r.asked.handles) (λ q. ListPull q r.asked.handles) (Tool asked)
    (name ∷ []) r.asked.rate r.asked.means (λ k. cc k) (λ q k. cc k))
joining_by (ListTool rate asked) verbs.Pull name others target given r =
    absurd (not_named (Pull r.asked.handles) (λ q. ListPull q r.asked.handles)
    (ListTool rate asked) (name ∷ []) r.asked.rate r.asked.means (λ k. cc k) (λ q k. cc k))
joining_by Cat verb name others target given r = tt
joining_by (ListCat rate) verb name others target given r = tt
joining_by Stat verb name others target given r = tt
joining_by (ListStat rate) verb name others target given r = tt
joining_by (Pull handles) verb name others target given r = tt
joining_by (ListPull rate handles) verb name others target given r = tt
joining_by (ListToList rate drop wide notes) verb name others target given r = tt
joining_by (ListToObjects rate older notes) verb name others target given r = tt
joining_by (TimelineToList drop wide notes) verb name others target given r = tt
joining_by (ToObjects older) verb name others target given r = tt
joining_by ToJson verb name others target given r = tt
joining_by LogToMedia verb name others target given r = tt
joining_by (Frames asked) verb name others target given r = tt
joining_by (ListFrames rate asked) verb name others target given r = tt
joining_by Edit verb name others target given r = tt
joining_by (ListEdit rate) verb name others target given r = tt

-- several files become one in a way that the words say
pub joining : (words : List (List ℕ)) (command : Command) (name : List ℕ) (others : OtherNames)
    (target : Option (List ℕ)) → Ask words command name others target
    → HasJoining command (suc (length others.more))
joining words command name others target ask =
    joining_by command ask.verb name others target ask.given ask.is
