-- The texts of lines, as they are handed over.
use Rattle.std.proofs.Common.{◌≡◌, ◌<◌, ◌+◌, ◌-◌, ◌/◌, ◌%◌, ℕ, suc, Bool, List, [], ◌∷◌, ◌++◌, Some, None, codes, length, map, take, get_or, sym, ap, ◌∙◌, refl, append_assoc, append-nil, arith}
use Rattle.std.specs.List.{concat}
use Rattle.tick_time.specs.declared.rates.Rate.{Rate}
use Rattle.edl_list.specs.declared.layout.Layout.{Layout}
use Rattle.edl_list.specs.declared.list.Channel.{Channel}
use Rattle.edl_list.specs.declared.list.Side.{Side}
use Rattle.edl_list.specs.declared.list.Event.{Event}
use Rattle.edl_text.specs.Columns.{spaces, column, digits, channel_width, channel_text, reel_text, label_text, kind_column, duration_column, written_byte, cleaned}
use Rattle.std.proofs.lemmas.List.{take_more, length-take-le}
use Rattle.edl_list.specs.declared.list.EventList.{EventList}
use Rattle.edl_text.specs.Rows.{event_line, main_line, first_line, speed_lines, name_lines, from_head, to_head, event_lines, headed, lines_with, written_tenths, speed_line}
use Rattle.edl_list.specs.Labelled.{outgoing}
use Rattle.edl_text.specs.Spelling.{text_of, head_lines, lines_from, lines_in, mode_line, title_lines}

-- lines, and then more lines
pub text_append : (a b : List (List ℕ)) → text_of (a ++ b) ≡ text_of a ++ text_of b
text_append [] b = refl
text_append (line ∷ a) b = ap (λ l. line ++ 10 ∷ l) (text_append a b) ∙ sym (append_assoc line (10 ∷ text_of a) (text_of b))

-- a text and the spaces behind it are a column
pub column_parts : (width : ℕ) (text bytes pad : List ℕ) → bytes ≡ text → pad ≡ spaces (width - length bytes) → bytes ++ pad ≡ column width text
column_parts width text bytes pad e f = rw (f, e) refl

-- the labels of a line, by the parts that are handed over
pub labels_parts : (a b c d : List ℕ) → a ++ (codes " " ++ (b ++ (codes " " ++ (c ++ (codes " " ++ d))))) ≡ concat (a ∷ codes " " ∷ b ∷ codes " " ∷ c ∷ codes " " ∷ d ∷ [])
labels_parts a b c d = ap (λ l. a ++ (codes " " ++ (b ++ (codes " " ++ (c ++ (codes " " ++ l)))))) (sym (append-nil d))

-- an event line, by the parts that are handed over
pub row_parts : (layout : Layout) (number : ℕ) (reel : List ℕ) (channel : Channel) (kind duration a b c d column_of : List ℕ) → column_of ≡ column channel_width (channel_text channel)
    → digits layout.number_width number ++ (codes "  " ++ (column layout.reel_width reel ++ (codes " " ++ (column_of ++ (codes " " ++ (kind ++ (codes " " ++ (duration ++ (codes " "
    ++ concat (a ∷ codes " " ∷ b ∷ codes " " ∷ c ∷ codes " " ∷ d ∷ [])))))))))) ≡ event_line layout number reel channel kind duration a b c d
row_parts layout number reel channel kind duration a b c d column_of f = rw (f) refl

-- an M2 line, by the parts that are handed over
pub speed_parts : (rate : Rate) (drop : Bool) (layout : Layout) (side : Side) (tenths : ℕ) (whole tenth label : List ℕ) → tenths ≡ written_tenths rate side → whole ≡ digits 3 (tenths / 10) → tenth ≡ (48 + tenths % 10) ∷ []
    → label ≡ label_text rate drop side.src_in
    → codes "M2   " ++ (column layout.reel_width (reel_text side.reel) ++ (codes " " ++ (whole ++ (codes "." ++ (tenth ++ (spaces 16 ++ label)))))) ≡ speed_line rate drop layout side
speed_parts rate drop layout side tenths whole tenth label e f h k =
    rw (f, h, k, e) (ap (λ l. codes "M2   " ++ (column layout.reel_width (reel_text side.reel) ++ (codes " " ++ (digits 3 (written_tenths rate side / 10) ++ (codes "." ++ ((48 + written_tenths rate side % 10) ∷ (spaces 16 ++ l))))))) (sym (append-nil (label_text rate drop side.src_in))))

-- the one line of a cut or the second of a pair, by what is handed over
pub main_parts : (rate : Rate) (drop : Bool) (layout : Layout) (number : ℕ) (event : Event) (kind duration a b c d : List ℕ) → kind ≡ kind_column event.cross → duration ≡ duration_column event.cross
    → a ≡ label_text rate drop event.to.src_in → b ≡ label_text rate drop event.to.src_out → c ≡ label_text rate drop event.rec_in → d ≡ label_text rate drop event.rec_out
    → event_line layout number (reel_text event.to.reel) event.channel kind duration a b c d ≡ main_line rate drop layout number event
main_parts rate drop layout number event kind duration a b c d k l e f h i = rw (k, l, e, f, h, i) refl

-- the first line of a pair, by what is handed over
pub first_parts : (rate : Rate) (drop : Bool) (layout : Layout) (number : ℕ) (event : Event) (from : Side) (a c : List ℕ) → a ≡ label_text rate drop from.src_in → c ≡ label_text rate drop event.rec_in
    → event_line layout number (reel_text from.reel) event.channel (codes "C   ") (codes "   ") a a c c ≡ first_line rate drop layout number event from
first_parts rate drop layout number event from a c e h = rw (e, h) refl

-- a line of a head and a text that isn't empty
pub headed_parts : (head shown text : List ℕ) → 0 < length shown → map written_byte shown ≡ cleaned text → head ++ (map written_byte shown ++ 10 ∷ []) ≡ text_of (headed head (cleaned text))
headed_parts head [] text some e = absurd (omega arith)
headed_parts head (b ∷ shown) text some e = sym (append_assoc head (map written_byte (b ∷ shown)) (10 ∷ [])) ∙ ap (λ l. text_of (headed head l)) e

-- the lines of a cut
pub cut_parts : (rate : Rate) (drop : Bool) (layout : Layout) (number : ℕ) (event : Event) → outgoing event.cross ≡ None
    → main_line rate drop layout number event ++ 10 ∷ (text_of (speed_lines rate drop layout event.to None) ++ text_of (name_lines from_head event.to.name)) ≡ text_of (event_lines rate drop layout number event)
cut_parts rate drop layout number event none =
    ap (λ l. main_line rate drop layout number event ++ 10 ∷ l) (sym (text_append (speed_lines rate drop layout event.to None) (name_lines from_head event.to.name)))
    ∙ ap (λ o. text_of (lines_with rate drop layout number event o)) (sym none)

-- the lines of a pair
pub pair_parts : (rate : Rate) (drop : Bool) (layout : Layout) (number : ℕ) (event : Event) (from : Side) → outgoing event.cross ≡ Some from
    → first_line rate drop layout number event from ++ 10 ∷ (main_line rate drop layout number event ++ 10 ∷ (text_of (speed_lines rate drop layout event.to (Some from))
    ++ (text_of (name_lines from_head from.name) ++ text_of (name_lines to_head event.to.name)))) ≡ text_of (event_lines rate drop layout number event)
pair_parts rate drop layout number event from some =
    let speeds = speed_lines rate drop layout event.to (Some from) in
    let a = name_lines from_head from.name in
    let b = name_lines to_head event.to.name in
    ap (λ l. first_line rate drop layout number event from ++ 10 ∷ (main_line rate drop layout number event ++ 10 ∷ l)) (ap (λ l. text_of speeds ++ l) (sym (text_append a b)) ∙ sym (text_append speeds (a ++ b)))
    ∙ ap (λ o. text_of (lines_with rate drop layout number event o)) (sym some)

lines_push : (rate : Rate) (drop : Bool) (layout : Layout) (number : ℕ) (events : List Event) (event : Event)
    → text_of (lines_from rate drop layout number (events ++ event ∷ [])) ≡ text_of (lines_from rate drop layout number events) ++ text_of (event_lines rate drop layout (number + length events) event)
lines_push rate drop layout number [] event = ap text_of (append-nil (event_lines rate drop layout number event)) ∙ ap (λ n. text_of (event_lines rate drop layout n event)) (omega arith)
lines_push rate drop layout number (e ∷ events) event =
    let k : number + 1 + length events ≡ number + suc (length events) = omega arith in
    text_append (event_lines rate drop layout number e) (lines_from rate drop layout (number + 1) (events ++ event ∷ []))
    ∙ ap (λ l. text_of (event_lines rate drop layout number e) ++ l) (lines_push rate drop layout (number + 1) events event ∙ ap (λ n. text_of (lines_from rate drop layout (number + 1) events) ++ text_of (event_lines rate drop layout n event)) k)
    ∙ sym (append_assoc (text_of (event_lines rate drop layout number e)) (text_of (lines_from rate drop layout (number + 1) events)) (text_of (event_lines rate drop layout (number + suc (length events)) event)))
    ∙ ap (λ l. l ++ text_of (event_lines rate drop layout (number + suc (length events)) event)) (sym (text_append (event_lines rate drop layout number e) (lines_from rate drop layout (number + 1) events)))

-- the lines of one event more
pub lines_more : (rate : Rate) (drop : Bool) (layout : Layout) (events : List Event) (i number : ℕ) (event : Event) → number ≡ i + 1 → i < length events → event ≡ get_or events i event
    → text_of (lines_from rate drop layout 1 (take i events)) ++ text_of (event_lines rate drop layout number event) ≡ text_of (lines_from rate drop layout 1 (take (i + 1) events))
lines_more rate drop layout events i number event next within is =
    let taken : take (i + 1) events ≡ take i events ++ event ∷ [] = take_more events i event within ∙ ap (λ e. take i events ++ e ∷ []) (sym is) in
    let count : length (take i events) ≡ i = length-take-le i events (omega arith) in
    ap (λ n. text_of (lines_from rate drop layout 1 (take i events)) ++ text_of (event_lines rate drop layout n event)) (omega (arith, next, count))
    ∙ sym (lines_push rate drop layout 1 (take i events) event)
    ∙ ap (λ l. text_of (lines_from rate drop layout 1 l)) (sym taken)

-- the head of a list's text, by its parts
pub head_parts : (list : EventList) (drop : Bool) (mode : List ℕ) → mode ≡ mode_line drop ++ codes "\n"
    → text_of (title_lines list.title) ++ mode ≡ text_of (head_lines list drop)
head_parts list drop mode e =
    ap (λ l. text_of (title_lines list.title) ++ l) e ∙ sym (text_append (title_lines list.title) (mode_line drop ∷ []))

-- the text of a list, by its head and its events
pub list_parts : (list : EventList) (drop : Bool) (layout : Layout)
    → text_of (head_lines list drop) ++ text_of (lines_from list.rate drop layout 1 list.events) ≡ text_of (lines_in list drop layout)
list_parts list drop layout =
    sym (text_append (head_lines list drop) (lines_from list.rate drop layout 1 list.events))
    ∙ ap text_of (append_assoc (title_lines list.title) (mode_line drop ∷ []) (lines_from list.rate drop layout 1 list.events))
