-- Words that ask for a pull list ask for few frames on both sides.
use Rattle.std.proofs.Common.{◌≡◌, ◌≤◌, ℕ, List, [], ◌∷◌, Some, None, subst, inl, inr, arith}
use Rattle.std.specs.declared.option.Option.{Option}
use Rattle.tick_time.specs.declared.rates.Rate.{Rate}
use Rattle.command_words.specs.Asked.{Ask, AreHandles, IsByNames, IsRequest, OtherNames}
use Rattle.command_words.specs.Given.{Given}
use Rattle.command_words.specs.declared.names.Verb.{Verb}
use Rattle.command_words.specs.declared.names.Verb.TheVariants as verbs
use Rattle.command_words.specs.declared.requests.Command.{Command}
use Rattle.command_words.specs.declared.requests.Command.TheVariants.{ListToList, ListToObjects, TimelineToList, ToObjects, ToJson, Frames, ListFrames, Edit, ListEdit}
use Rattle.command_words.specs.declared.requests.Command.TheVariants.{Cat, ListCat, Stat, ListStat, Tool, ListTool, Pull, ListPull, LogToMedia}
use Rattle.otio_tools.specs.Pulled.{HasFewHandles}
use Rattle.otio_tools.proofs.SeveralWords.{not_named}

few_of : (given : Option (List ℕ)) (n : ℕ) → AreHandles given n → n ≤ 10000
few_of None n are = omega (arith, are)
few_of (Some word) n are = are.1

same_handles : (handles asked : ℕ) (names : List (List ℕ)) (rate : Rate)
    → IsByNames (Pull handles) (λ r. ListPull r handles) (Pull asked) names rate
    → handles ≡ asked
same_handles handles asked names rate (inl p) = let k = p.1 in cc
same_handles handles asked names rate (inr p) = absurd (let k = p.1 in cc k)

same_list_handles : (handles asked : ℕ) (at rate : Rate) (names : List (List ℕ))
    → IsByNames (Pull handles) (λ r. ListPull r handles) (ListPull at asked) names rate
    → handles ≡ asked
same_list_handles handles asked at rate names (inl p) = absurd (let k = p.1 in cc k)
same_list_handles handles asked at rate names (inr p) = let k = p.1 in cc

few_by : (command : Command) (verb : Verb) (name : List ℕ) (others : OtherNames)
    (target : Option (List ℕ)) (given : Given) → IsRequest verb command name others target given
    → HasFewHandles command
few_by (Pull handles) verbs.Pull name others target given r =
    subst (λ n. n ≤ 10000)
    (same_handles r.asked.handles handles (name ∷ []) r.asked.rate r.asked.means)
    (few_of given.handles r.asked.handles r.asked.are)
few_by (ListPull rate handles) verbs.Pull name others target given r =
    subst (λ n. n ≤ 10000)
    (same_list_handles r.asked.handles handles rate r.asked.rate (name ∷ []) r.asked.means)
    (few_of given.handles r.asked.handles r.asked.are)
few_by (Pull handles) verbs.Convert name others target given r = absurd r.asked.means
few_by (Pull handles) verbs.Frames name others target given r = absurd r.asked.means
few_by (Pull handles) verbs.Edit name others target given r = absurd r.asked.means
few_by (Pull handles) verbs.Drill name others target given r = absurd r.asked
few_by (Pull handles) verbs.Media name others target given r =
    absurd (let k = r.asked.means in cc k)
few_by (Pull handles) verbs.Cat name others target given r =
    absurd (not_named Cat ListCat (Pull handles) (name ∷ given.more) r.asked.rate r.asked.means
    (λ k. cc k) (λ q k. cc k))
few_by (Pull handles) verbs.Stat name others target given r =
    absurd (not_named Stat ListStat (Pull handles) (name ∷ []) r.asked.rate r.asked.means
    (λ k. cc k) (λ q k. cc k))
few_by (Pull handles) verbs.Tool name others target given r =
    absurd (not_named (Tool r.asked.tool) (λ q. ListTool q r.asked.tool) (Pull handles)
    (name ∷ given.more) r.asked.rate r.asked.means (λ k. cc k) (λ q k. cc k))
few_by (ListPull rate handles) verbs.Convert name others target given r = absurd r.asked.means
few_by (ListPull rate handles) verbs.Frames name others target given r = absurd r.asked.means
few_by (ListPull rate handles) verbs.Edit name others target given r = absurd r.asked.means
few_by (ListPull rate handles) verbs.Drill name others target given r = absurd r.asked
few_by (ListPull rate handles) verbs.Media name others target given r =
    absurd (let k = r.asked.means in cc k)
few_by (ListPull rate handles) verbs.Cat name others target given r =
    absurd (not_named Cat ListCat (ListPull rate handles) (name ∷ given.more) r.asked.rate
    r.asked.means (λ k. cc k) (λ q k. cc k))
few_by (ListPull rate handles) verbs.Stat name others target given r =
    absurd (not_named Stat ListStat (ListPull rate handles) (name ∷ []) r.asked.rate r.asked.means
    (λ k. cc k) (λ q k. cc k))
few_by (ListPull rate handles) verbs.Tool name others target given r =
    absurd (not_named (Tool r.asked.tool) (λ q. ListTool q r.asked.tool) (ListPull rate handles)
    (name ∷ given.more) r.asked.rate r.asked.means (λ k. cc k) (λ q k. cc k))
few_by Cat verb name others target given r = tt
few_by (ListCat rate) verb name others target given r = tt
few_by Stat verb name others target given r = tt
few_by (ListStat rate) verb name others target given r = tt
few_by (Tool asked) verb name others target given r = tt
few_by (ListTool rate asked) verb name others target given r = tt
few_by (ListToList rate drop wide notes) verb name others target given r = tt
few_by (ListToObjects rate older notes) verb name others target given r = tt
few_by (TimelineToList drop wide notes) verb name others target given r = tt
few_by (ToObjects older) verb name others target given r = tt
few_by ToJson verb name others target given r = tt
few_by LogToMedia verb name others target given r = tt
few_by (Frames asked) verb name others target given r = tt
few_by (ListFrames rate asked) verb name others target given r = tt
few_by Edit verb name others target given r = tt
few_by (ListEdit rate) verb name others target given r = tt

-- a command that asks for handles asks for few of them
pub few_handles : (words : List (List ℕ)) (command : Command) (name : List ℕ)
    (others : OtherNames) (target : Option (List ℕ)) → Ask words command name others target
    → HasFewHandles command
few_handles words command name others target ask =
    few_by command ask.verb name others target ask.given ask.is
