-- How a reader of a script goes from line to line.
use Rattle.std.proofs.Common.{◌≡◌, ◌+◌, ◌≤◌, ◌<◌, ◌⊎◌, inl, inr, ℕ, List, [], ◌∷◌, ◌++◌, take, drop, length, true, false, Option, Some, None, Result, Ok, Err, OnOk, refl, sym, ap, subst, ◌∙◌, length-append, append_assoc, append-nil, arith}
use Rattle.std.specs.Str.{is_utf8}
use Rattle.std.proofs.lemmas.List.{take_all, take-append-le, length-take}
use Rattle.limits.specs.Limits.{most_bytes}
use Rattle.text_lines.specs.First.{HasNone, IsFirst}
use Rattle.text_lines.specs.Lines.{is_comment, lines_of, without_return}
use Rattle.text_lines.proofs.Splitting.{lines_first, lines_last, shorter_behind}
use Rattle.edit_script.specs.declared.commands.Act.{Act}
use Rattle.edit_script.specs.declared.commands.ScriptCommand.{ScriptCommand}
use Rattle.edit_script.specs.declared.commands.ScriptFault.{ScriptFault}
use Rattle.edit_script.specs.declared.commands.ScriptFault.TheVariants.{Line, Memory}
use Rattle.edit_script.specs.Acts.{said_by}
use Rattle.edit_script.specs.Scripts.{says, on_line, Say, IsScript, AreMany, IsFault, most_commands}
use Rattle.edit_script.specs.Reading.{kept, IsNext, Takes, Kept, HasRead}

-- ---- what a line says

pub not_text : (n : ℕ) (line : List ℕ) → is_utf8 line ≡ false → says n line ≡ None
not_text n line e = rw e refl

pub comment_says : (n : ℕ) (line : List ℕ) → is_utf8 line ≡ true → is_comment line ≡ true
    → says n line ≡ Some []
comment_says n line e f = rw (e, f) refl

pub act_says : (n : ℕ) (line : List ℕ) (act : Act) → is_utf8 line ≡ true
    → is_comment line ≡ false → Some act ≡ said_by line → says n line ≡ Some (on_line n act)
act_says n line act e f g = rw (e, f, ← g) refl

pub none_says : (n : ℕ) (line : List ℕ) → is_utf8 line ≡ true → is_comment line ≡ false
    → None ≡ said_by line → says n line ≡ None
none_says n line e f g = rw (e, f, ← g) refl

-- ---- what is kept

-- fewer than are kept at most are all that were said
all_said : (most : ℕ) (commands said : List ScriptCommand) → length commands ≤ most
    → commands ≡ take (most + 1) said → commands ≡ said
all_said most commands said few e =
    let n : length said ≤ most + 1 =
    omega (arith, few, ap (λ (l : List ScriptCommand). length l) e, length-take (most + 1) said) in
    e ∙ take_all (most + 1) said n

next_put : (most : ℕ) (old new said : List ScriptCommand) (command : ScriptCommand)
    → length old ≤ most
    → new ≡ old ++ command ∷ [] → old ≡ take (most + 1) said
    → new ≡ take (most + 1) (said ++ command ∷ [])
next_put most old new said command few put e =
    let same : old ≡ said = all_said most old said few e in
    let n : length (said ++ command ∷ []) ≤ most + 1 =
    omega (
      arith,
      few,
      ap (λ (l : List ScriptCommand). length l) same,
      length-append said (command ∷ []),
    ) in
    put ∙ ap (λ l. l ++ command ∷ []) same ∙ sym (take_all (most + 1) (said ++ command ∷ []) n)

next_left : (most : ℕ) (old said : List ScriptCommand) (command : ScriptCommand) → most < length old
    → old ≡ take (most + 1) said → old ≡ take (most + 1) (said ++ command ∷ [])
next_left most old said command many e =
    let n : most + 1 ≤ length said =
    omega (arith, many, ap (λ (l : List ScriptCommand). length l) e, length-take (most + 1) said) in
    e ∙ sym (take-append-le (most + 1) said (command ∷ []) n)

pub put_last : (old new : List ScriptCommand) (command : ScriptCommand) → length old ≤ most_commands
    → new ≡ old ++ command ∷ [] → IsNext old (command ∷ []) new
put_last old new command few put = λ said e. next_put most_commands old new said command few put e

pub left_out : (old : List ScriptCommand) (command : ScriptCommand) → most_commands < length old
    → IsNext old (command ∷ []) old
left_out old command many = λ said e. next_left most_commands old said command many e

pub nothing_more : (old : List ScriptCommand) → IsNext old [] old
nothing_more old = λ said e. e ∙ ap kept (sym (append-nil said))

-- a command that is kept was said by its line
pub took : {X E : Type 0} (r : Result X E) (says : Option (List ScriptCommand)) (old new : List
    ScriptCommand)
    (command : ScriptCommand) → says ≡ Some (command ∷ []) → OnOk r (IsNext old (command ∷ []) new)
    → OnOk r (Takes says old new)
took (Ok x) says old new command e h = (command ∷ [], e, h)
took (Err fault) says old new command e h = tt

-- ---- from line to line

-- lines that stand one after the other say their commands so
say_more : (n : ℕ) (lines more : List (List ℕ)) (a b : List ScriptCommand) → Say n lines a
    → Say (n + length lines) more b → Say n (lines ++ more) (a ++ b)
say_more n [] more a b p q =
    let z : n + 0 ≡ n = omega arith in
    subst (Say n more) (ap (λ l. l ++ b) (sym p)) (subst (λ k. Say k more b) z q)
say_more n (line ∷ lines) more a b p q =
    let z : n + length (line ∷ lines) ≡ n + 1 + length lines = omega arith in (
      p.0,
      p.1 ++ b,
      ap (λ l. l ++ b) p.2 ∙ append_assoc p.0 p.1 b,
      p.3,
      say_more (n + 1) lines more p.1 b p.4 (subst (λ k. Say k more b) z q),
    )

say_one : (n k : ℕ) (line : List ℕ) (here : List ScriptCommand) → n ≡ k → says n line ≡ Some here
    → Say k (line ∷ []) here
say_one n k line here same e =
    (here, [], sym (append-nil here), subst (λ i. says i line ≡ Some here) same e, refl)

-- before the first line
pub starts : (bytes : List ℕ) → length bytes ≤ most_bytes → HasRead bytes bytes 1 []
starts bytes small = record {
  before = [];
  lines = refl;
  said = [];
  say = refl;
  are = refl;
  counts = refl;
  room = omega (arith, small);
}

-- behind a line that has an end
pub goes_on : (bytes rest behind line : List ℕ) (number end : ℕ) (old new : List ScriptCommand)
    → HasRead bytes rest number old → IsFirst 10 rest end
    → line ≡ without_return (take end rest) → behind ≡ drop (end + 1) rest
    → Takes (says number line) old new → HasRead bytes behind (number + 1) new
goes_on bytes rest behind line number end old new h first here there took =
    let cut : lines_of rest ≡ line ∷ lines_of behind =
    lines_first rest end first ∙ ap (λ l. l ∷ lines_of (drop (end + 1) rest)) (sym here)
    ∙ ap (λ l. line ∷ lines_of l) (sym there) in
    let shorter : length behind < length rest = subst (λ l. length l < length rest) (sym there)
    (shorter_behind 10 rest end first) in
    let at : number ≡ 1 + length h.before = omega (arith, h.counts) in
    record {
      before = h.before ++ line ∷ [];
      lines = h.lines ∙ ap (λ l. h.before ++ l) cut
          ∙ sym (append_assoc h.before (line ∷ []) (lines_of behind));
      said = h.said ++ took.0;
      say = say_more 1 h.before (line ∷ []) h.said took.0 h.say
          (say_one number (1 + length h.before) line took.0 at took.1);
      are = took.2 h.said h.are;
      counts = omega (arith, h.counts, length-append h.before (line ∷ []));
      room = omega (arith, h.room, shorter);
    }

-- a line that says nothing is the first that is wrong
goes_wrong : (bytes rest line : List ℕ) (behind : List (List ℕ)) (number : ℕ)
    (commands : List ScriptCommand) (fault : ScriptFault) → length bytes ≤ most_bytes
    → HasRead bytes rest number commands → lines_of rest ≡ line ∷ behind
    → (fault ≡ Memory) ⊎ ((fault ≡ Line number) × (says number line ≡ None))
    → (fault ≡ Memory) ⊎ IsFault bytes fault
goes_wrong bytes rest line behind number commands fault small h cut (inl memory) = inl memory
goes_wrong bytes rest line behind number commands fault small h cut (inr wrong) =
    inr (subst (IsFault bytes) (sym wrong.0) (
      small,
      record {
        before = h.before;
        line = line;
        behind = behind;
        split = h.lines ∙ ap (λ l. h.before ++ l) cut;
        commands = h.said;
        say = h.say;
        number = h.counts;
        wrong = wrong.1;
      },
    ))

pub ended_wrong : (bytes rest line : List ℕ) (number end : ℕ) (commands : List ScriptCommand)
    (fault : ScriptFault) → length bytes ≤ most_bytes → HasRead bytes rest number commands
    → IsFirst 10 rest end → line ≡ without_return (take end rest)
    → (fault ≡ Memory) ⊎ ((fault ≡ Line number) × (says number line ≡ None))
    → (fault ≡ Memory) ⊎ IsFault bytes fault
ended_wrong bytes rest line number end commands fault small h first here wrong =
    goes_wrong bytes rest line (lines_of (drop (end + 1) rest)) number commands fault small h
    (lines_first rest end first ∙ ap (λ l. l ∷ lines_of (drop (end + 1) rest)) (sym here)) wrong

pub last_wrong : (bytes rest : List ℕ) (number : ℕ) (commands : List ScriptCommand)
    (fault : ScriptFault) → length bytes ≤ most_bytes → HasRead bytes rest number commands
    → HasNone 10 rest → (fault ≡ Memory) ⊎ ((fault ≡ Line number) × (says number rest ≡ None))
    → (fault ≡ Memory) ⊎ IsFault bytes fault
last_wrong bytes rest number commands fault small h none wrong =
    goes_wrong bytes rest rest [] number commands fault small h (lines_last rest none) wrong

-- behind the last line the commands are those of all lines
pub ends : (bytes rest : List ℕ) (number : ℕ) (old new : List ScriptCommand)
    → HasRead bytes rest number old → HasNone 10 rest → Takes (says number rest) old new
    → Kept bytes new
ends bytes rest number old new h none took =
    let at : number ≡ 1 + length h.before = omega (arith, h.counts) in
    record {
      said = h.said ++ took.0;
      say = subst (λ l. Say 1 l (h.said ++ took.0))
          (sym (h.lines ∙ ap (λ l. h.before ++ l) (lines_last rest none)))
          (say_more 1 h.before (rest ∷ []) h.said took.0 h.say
          (say_one number (1 + length h.before) rest took.0 at took.1));
      are = took.2 h.said h.are;
    }

-- ---- how many there are

pub are_few : (bytes : List ℕ) (commands : List ScriptCommand) → length bytes ≤ most_bytes
    → Kept bytes commands → length commands ≤ most_commands → IsScript bytes commands
are_few bytes commands small h few =
    let same : commands ≡ h.said = all_said most_commands commands h.said few h.are in
    record {
      small = small;
      say = subst (Say 1 (lines_of bytes)) (sym same) h.say;
      few = few;
    }

-- more are kept where more were said
more_said : (most : ℕ) (commands said : List ScriptCommand) → most < length commands
    → commands ≡ take (most + 1) said → most < length said
more_said most commands said many e =
    omega (arith, many, ap (λ (l : List ScriptCommand). length l) e, length-take (most + 1) said)

pub are_many : (bytes : List ℕ) (commands : List ScriptCommand) → length bytes ≤ most_bytes
    → Kept bytes commands → most_commands < length commands
    → (length bytes ≤ most_bytes) × AreMany (lines_of bytes)
are_many bytes commands small h many = (
  small,
  record {
    commands = h.said;
    say = h.say;
    many = more_said most_commands commands h.said many h.are;
  },
)
