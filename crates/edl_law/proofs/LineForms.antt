-- What each written line says.
use Rattle.std.proofs.Common.{◌≡◌, ◌≢◌, ◌≤◌, ◌/◌, ℕ, Bool, true, false, List, [], ◌∷◌, ◌++◌, codes, length, reverse, inl, refl, sym, ap, subst, ◌∙◌, append_assoc, append-nil, arith, IsUtf8}
use Rattle.std.proofs.lemmas.List.{reverse-append, reverse-reverse}
use Rattle.std.proofs.lemmas.List.Elements.{All-cons, All-head}
use Rattle.text_lines.specs.First.{is_blank, begins_with_blank, AreBlanks}
use Rattle.text_lines.specs.Lines.{fields_of, trimmed, trimmed_front}
use Rattle.text_lines.proofs.Places.{blank_is}
use Rattle.text_lines.proofs.Splitting.{fields_end}
use Rattle.text_lines.proofs.Trimming.{front_skips, tight_where, tight_back, trimmed_empty}
use Rattle.edl_text.specs.Statements as said
use Rattle.edl_text.specs.Saying.{Says, SaysTight, IsMode}
use Rattle.edl_text.specs.EventForms.{IsKind, AreChannels}
use Rattle.edl_text.specs.Numbers.{IsReel as IsReelField}
use Rattle.edl_text.specs.Notes.{IsBehind, IsName}
use Rattle.edl_list.specs.declared.layout.Layout.{Layout}
use Rattle.edl_list.specs.declared.list.Reel.{Reel}
use Rattle.edl_list.specs.declared.list.Reel.TheVariants.{Black, Named}
use Rattle.edl_list.specs.declared.list.Channel.{Channel}
use Rattle.edl_list.specs.declared.list.Channel.TheVariants.{V, A, A2}
use Rattle.edl_list.specs.declared.list.Cross.{Cross}
use Rattle.edl_list.specs.declared.list.Cross.TheVariants.{Cut, Dissolve, Wipe}
use Rattle.edl_list.specs.Formed.{IsReel}
use Rattle.edl_text.specs.Columns.{digits, spaces, column, reel_text, channel_text, channel_width, kind_column, duration_column, HasSmallNumbers}
use Rattle.edl_text.specs.Rows.{event_line, from_head, to_head}
use Rattle.edl_text.specs.Spelling.{mode_line}
use Rattle.edl_law.proofs.SolidTexts.{solid, solid_blank, solid_where, solid_append, solid_digits, line_tight}
use Rattle.edl_law.proofs.FieldLemmas.{IsField, append_some, labels_text, field_at, field_end, fields_space, fields_spaces, fields_column, kind_fields, fields_event, number_field}
use Rattle.edl_law.proofs.NumberLemmas.{three_digits, tenths_text, IsNumbered, number_written}
use Rattle.edl_law.proofs.StatementLemmas.{said_reel, said_channels, said_kind, said_event, said_speed}

pub reel_field : (reel : Reel) → IsReel reel → IsField (reel_text reel)
reel_field Black h = record { some = append_some [] 66 (76 ∷ []); above = refl }
reel_field (Named name) h = record { some = λ none. absurd (omega (arith, h.some, ap length none)); above = solid_where (λ b. (33 ≤ b) × (b ≤ 126)) (λ b p. p.0) name h.prints }

reel_said : (reel : Reel) → IsReel reel → IsReelField (reel_text reel) (said_reel reel)
reel_said Black h = refl
reel_said (Named name) h = (record { some = h.some; short = h.short; prints = h.prints; not_black = h.not_black }, refl)

channel_said : (channel : Channel) → AreChannels (channel_text channel) (said_channels channel)
channel_said V = refl
channel_said A = refl
channel_said A2 = refl

kind_said : (cross : Cross) → HasSmallNumbers cross → IsKind (kind_fields cross) (said_kind cross)
kind_said Cut h = refl
kind_said (Dissolve frames from) h = record { duration = digits 3 frames; are = refl; is_duration = three_digits frames h }
kind_said (Wipe code frames from) h = record {
  kind = codes "W" ++ digits 3 code;
  is_kind = record { digits = digits 3 code; is = refl; all = refl; is_code = three_digits code h.0 };
  lasts = record { duration = digits 3 frames; are = refl; is_duration = three_digits frames h.1 };
}

-- the line ends with these bytes
record EndsIn (line back : List ℕ) : Type 0 where
  front : List ℕ
  is : line ≡ front ++ back

ends_here : (back : List ℕ) → EndsIn (back ++ []) back
ends_here back = record { front = []; is = append-nil back }

behind : (front line back : List ℕ) → EndsIn line back → EndsIn (front ++ line) back
behind front line back h = record { front = front ++ h.front; is = ap (λ l. front ++ l) h.is ∙ sym (append_assoc front h.front back) }

labels_end : (a b c d : List ℕ) → EndsIn (labels_text a b c d) d
labels_end a b c d = behind a _ d (behind (32 ∷ []) _ d (behind b _ d (behind (32 ∷ []) _ d (behind c _ d (behind (32 ∷ []) _ d (ends_here d))))))

event_end : (layout : Layout) (number : ℕ) (reel : List ℕ) (channel : Channel) (cross : Cross) (a b c d : List ℕ) → EndsIn (event_line layout number reel channel (kind_column cross) (duration_column cross) a b c d) d
event_end layout number reel channel cross a b c d =
    let tail = behind (32 ∷ []) _ d (labels_end a b c d) in
    let kind = behind (kind_column cross) _ d (behind (32 ∷ []) _ d (behind (duration_column cross) _ d tail)) in
    let name = behind (column channel_width (channel_text channel)) _ d (behind (32 ∷ []) _ d kind) in
    behind (digits layout.number_width number) _ d (behind (32 ∷ 32 ∷ []) _ d (behind (column layout.reel_width reel) _ d (behind (32 ∷ []) _ d name)))

-- a line that begins with a field begins with no blank
begins_solid : (field rest : List ℕ) → field ≢ [] → solid field ≡ true → begins_with_blank (field ++ rest) ≡ false
begins_solid [] rest some above = absurd (some refl)
begins_solid (b ∷ field) rest some above = All-head (λ x. is_blank x ≡ false) b field (solid_blank (b ∷ field) above)

-- an event line
pub event_says : (layout : Layout) (number : ℕ) (reel : Reel) (channel : Channel) (cross : Cross) (a b c d : List ℕ) → IsNumbered layout number → IsReel reel → HasSmallNumbers cross → IsField a → IsField b → IsField c → IsField d
    → Says (event_line layout number (reel_text reel) channel (kind_column cross) (duration_column cross) a b c d) (said.Event (said_event number reel channel cross a b c d))
event_says layout number reel channel cross a b c d few is_reel small p q r s =
    let line = event_line layout number (reel_text reel) channel (kind_column cross) (duration_column cross) a b c d in
    let end = event_end layout number (reel_text reel) channel cross a b c d in
    let field = number_field layout.number_width number few.some in
    let begins : begins_with_blank line ≡ false = begins_solid (digits layout.number_width number) _ field.some field.above in
    let tight : trimmed line ≡ line = line_tight line end.front d begins end.is s.some s.above in
    subst (λ l. SaysTight l (said.Event (said_event number reel channel cross a b c d))) (sym tight)
    (record {
      number = digits layout.number_width number;
      reel = reel_text reel;
      channels = channel_text channel;
      kind = kind_fields cross;
      are = fields_event layout number (reel_text reel) channel cross a b c d few.some (reel_field reel is_reel) p q r s;
      is_number = number_written layout number few;
      is_reel = reel_said reel is_reel;
      are_channels = channel_said channel;
      is_kind = kind_said cross small;
    })

begins_front : (xs ys : List ℕ) → xs ≢ [] → begins_with_blank (xs ++ ys) ≡ begins_with_blank xs
begins_front [] ys some = absurd (some refl)
begins_front (b ∷ xs) ys some = refl

-- a head that begins with no blank and a text without blanks at its ends
pub head_tight : (head text : List ℕ) → begins_with_blank (head ++ text) ≡ false → text ≢ [] → trimmed text ≡ text → trimmed (head ++ text) ≡ head ++ text
head_tight head text begins some tight =
    let ends : begins_with_blank (reverse text ++ reverse head) ≡ false =
    begins_front (reverse text) (reverse head) (λ none. some (sym (reverse-reverse text) ∙ ap reverse none)) ∙ tight_back text tight in
    tight_where (head ++ text) begins (ap begins_with_blank (reverse-append head text) ∙ ends)

space_trims : (text : List ℕ) → trimmed text ≡ text → text ≡ trimmed (32 ∷ text)
space_trims text tight = sym tight ∙ ap (λ l. reverse (trimmed_front (reverse l))) (front_skips (32 ∷ text) (blank_is 32))

-- a title line
pub title_says : (title : List ℕ) → title ≢ [] → trimmed title ≡ title → Says (codes "TITLE: " ++ title) (said.Title title)
title_says title some tight =
    subst (λ l. SaysTight l (said.Title title)) (sym (head_tight (codes "TITLE: ") title (blank_is 84) some tight))
    (record { text = 32 ∷ title; is = refl; trims = space_trims title tight })

pub one_blank : AreBlanks (32 ∷ [])
one_blank = All-cons (λ b. is_blank b ≡ true) 32 [] (blank_is 32) (λ k d h. absurd (omega arith))

behind_space : (word rest : List ℕ) → begins_with_blank rest ≡ false → IsBehind word (word ++ 32 ∷ rest) rest
behind_space word rest begins = record {
  blanks = 32 ∷ [];
  some = append_some [] 32 [];
  are_blanks = one_blank;
  ends = begins;
  is = refl;
}

-- a note of the name of a side
name_noted : (side name : List ℕ)
    → begins_with_blank (side ++ (32 ∷ (codes "CLIP NAME: " ++ name))) ≡ false → trimmed name ≡ name → IsUtf8 name
    → IsName side (codes "* " ++ (side ++ (32 ∷ (codes "CLIP NAME: " ++ name)))) name
name_noted side name begins tight utf8 = record {
  text = 32 ∷ name;
  note = record {
    first = side ++ (32 ∷ (codes "CLIP NAME: " ++ name));
    second = codes "CLIP NAME: " ++ name;
    third = codes "NAME: " ++ name;
    star = behind_space (codes "*") _ begins;
    is_side = behind_space side _ (blank_is 67);
    clip = behind_space (codes "CLIP") _ (blank_is 78);
    name = refl;
  };
  trims = space_trims name tight;
  utf8 = utf8;
}

-- the notes of names
pub from_says : (name : List ℕ) → name ≢ [] → trimmed name ≡ name → IsUtf8 name → Says (from_head ++ name) (said.FromName name)
from_says name some tight utf8 =
    subst (λ l. SaysTight l (said.FromName name)) (sym (head_tight from_head name (blank_is 42) some tight))
    (name_noted (codes "FROM") name (blank_is 70) tight utf8)

pub to_says : (name : List ℕ) → name ≢ [] → trimmed name ≡ name → IsUtf8 name → Says (to_head ++ name) (said.ToName name)
to_says name some tight utf8 =
    subst (λ l. SaysTight l (said.ToName name)) (sym (head_tight to_head name (blank_is 42) some tight))
    (name_noted (codes "TO") name (blank_is 84) tight utf8)

word_field : (b : ℕ) (word : List ℕ) → solid (b ∷ word) ≡ true → IsField (b ∷ word)
word_field b word p = record { some = append_some [] b word; above = p }

frame_field : IsField (codes "FRAME")
frame_field = word_field 70 (codes "RAME") refl

-- the line of the frame code mode
pub mode_says : (drop : Bool) → Says (mode_line drop) (said.Mode drop)
mode_says true =
    let line = codes "FCM: DROP FRAME" in
    let tight : trimmed line ≡ line = line_tight line (codes "FCM: DROP ") (codes "FRAME") (blank_is 70) refl frame_field.some refl in
    let last : fields_of (codes "FRAME") ≡ codes "FRAME" ∷ [] = fields_end (codes "FRAME") frame_field.some (solid_blank (codes "FRAME") refl) in
    subst (λ l. IsMode (fields_of l) true) (sym tight)
    (field_at (codes "FCM:") (codes "DROP FRAME") (word_field 70 (codes "CM:") refl) ∙ ap (λ l. codes "FCM:" ∷ l)
    (field_at (codes "DROP") (codes "FRAME") (word_field 68 (codes "ROP") refl) ∙ ap (λ l. codes "DROP" ∷ l) last))
mode_says false =
    let line = codes "FCM: NON-DROP FRAME" in
    let tight : trimmed line ≡ line = line_tight line (codes "FCM: NON-DROP ") (codes "FRAME") (blank_is 70) refl frame_field.some refl in
    let last : fields_of (codes "FRAME") ≡ codes "FRAME" ∷ [] = fields_end (codes "FRAME") frame_field.some (solid_blank (codes "FRAME") refl) in
    subst (λ l. IsMode (fields_of l) false) (sym tight)
    (inl (field_at (codes "FCM:") (codes "NON-DROP FRAME") (word_field 70 (codes "CM:") refl) ∙ ap (λ l. codes "FCM:" ∷ l)
    (field_at (codes "NON-DROP") (codes "FRAME") (word_field 78 (codes "ON-DROP") refl) ∙ ap (λ l. codes "NON-DROP" ∷ l) last)))

-- an empty line
pub nothing_says : Says [] said.Nothing
nothing_says = inl trimmed_empty

-- the text of an M2 line
abbrev pub speed_text : Layout → Reel → ℕ → List ℕ → List ℕ
speed_text layout reel tenths label =
    codes "M2   " ++ (column layout.reel_width (reel_text reel) ++ (codes " " ++ (digits 3 (tenths / 10) ++ (codes "." ++ (digits 1 tenths ++ (spaces 16 ++ (label ++ [])))))))

speed_end : (layout : Layout) (reel : Reel) (tenths : ℕ) (label : List ℕ) → EndsIn (speed_text layout reel tenths label) label
speed_end layout reel tenths label =
    let text = behind (digits 3 (tenths / 10)) _ label (behind (46 ∷ []) _ label (behind (digits 1 tenths) _ label (behind (spaces 16) _ label (ends_here label)))) in
    behind (codes "M2   ") _ label (behind (column layout.reel_width (reel_text reel)) _ label (behind (32 ∷ []) _ label text))

abbrev tenths_column : ℕ → List ℕ
tenths_column tenths = digits 3 (tenths / 10) ++ (codes "." ++ digits 1 tenths)

tenths_field : (tenths : ℕ) → IsField (tenths_column tenths)
tenths_field tenths = record {
  some = append_some [] _ _;
  above = solid_append (digits 3 (tenths / 10)) (codes "." ++ digits 1 tenths) (solid_digits 3 (tenths / 10)) (solid_append (codes ".") (digits 1 tenths) refl (solid_digits 1 tenths));
}

fields_speed : (layout : Layout) (reel : Reel) (tenths : ℕ) (label : List ℕ) → IsReel reel → IsField label → fields_of (speed_text layout reel tenths label) ≡ codes "M2" ∷ reel_text reel ∷ tenths_column tenths ∷ label ∷ []
fields_speed layout reel tenths label is_reel h =
    let name = reel_field reel is_reel in
    field_at (codes "M2") _ (word_field 77 (50 ∷ []) refl) ∙ ap (λ l. codes "M2" ∷ l) (fields_space _ ∙ fields_space _
    ∙ fields_column layout.reel_width (reel_text reel) _ name.some name.above ∙ ap (λ l. reel_text reel ∷ l)
    (field_at (tenths_column tenths) (spaces 15 ++ (label ++ [])) (tenths_field tenths) ∙ ap (λ l. tenths_column tenths ∷ l) (fields_spaces 15 (label ++ []) ∙ field_end label h)))

-- an M2 line
pub speed_says : (layout : Layout) (reel : Reel) (tenths : ℕ) (label : List ℕ) → IsReel reel → tenths ≤ 9999 → IsField label → Says (speed_text layout reel tenths label) (said.Speed (said_speed reel tenths label))
speed_says layout reel tenths label is_reel small h =
    let line = speed_text layout reel tenths label in
    let end = speed_end layout reel tenths label in
    let tight : trimmed line ≡ line = line_tight line end.front label (blank_is 77) end.is h.some h.above in
    subst (λ l. SaysTight l (said.Speed (said_speed reel tenths label))) (sym tight)
    (record {
      reel = reel_text reel;
      text = tenths_column tenths;
      are = fields_speed layout reel tenths label is_reel h;
      is_reel = reel_said reel is_reel;
      is_speed = record { text = tenths_column tenths; is = refl; are_tenths = tenths_text tenths small };
    })
