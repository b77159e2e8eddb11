-- The layout of a value is a text of that value.
use Rattle.std.proofs.Common.{◌≡◌, ℕ, ◌+◌, List, [], ◌∷◌, ◌++◌, refl, sym, subst, append_assoc}
use Rattle.json_value.specs.declared.Json.{Json}
use Rattle.json_text.specs.Grammar.{Value, Items, items_none, items_some, MoreItems, more_items_done, more_items_next, Pairs, pairs_none, pairs_some, MorePairs, more_pairs_done, more_pairs_next}
use Rattle.json_text.specs.Layout.{text_at, newline, item_lines, member_lines, member_text}
use Rattle.json_law.specs.Written.{IsJson, null, truth, number, string, list, object, AreJson, no_values, more_values, AreMembers, no_members, more_members, LayoutIsText}
use Rattle.json_law.proofs.Blanks.{AreBlank-newline, before_value, before_more_items, before_more_pairs, before_pair}
use Rattle.json_law.proofs.Parts.{null_text, bool_at, number_at, string_at, list_rest, list_at, object_rest, object_at, member_at}

-- a line behind a byte, and what follows the lines
next_line : (lead : ℕ) (line part others tail : List ℕ) → (lead ∷ (line ++ (part ++ others))) ++ tail ≡ lead ∷ (line ++ (part ++ (others ++ tail)))
next_line lead line part others tail = simp append_assoc

-- the next line of a list, and of an object
item_bytes : (n : ℕ) (first : Json) (others : List Json) (tail : List ℕ) → item_lines 44 n (first ∷ others) ++ tail ≡ 44 ∷ (newline n ++ (text_at first n ++ (item_lines 44 n others ++ tail)))
item_bytes n first others tail = next_line 44 (newline n) (text_at first n) (item_lines 44 n others) tail

line_bytes : (n : ℕ) (first : List ℕ × Json) (others : List (List ℕ × Json)) (tail : List ℕ)
    → member_lines 44 n (first ∷ others) ++ tail ≡ 44 ∷ (newline n ++ (member_text first.0 (text_at first.1 n) ++ (member_lines 44 n others ++ tail)))
line_bytes n first others tail = next_line 44 (newline n) (member_text first.0 (text_at first.1 n)) (member_lines 44 n others) tail

mutual
  value_written : (room : ℕ) (value : Json) → IsJson room value → (n : ℕ) (rest : List ℕ) → Value room (text_at value n ++ rest) value rest
  value_written room value (null _ _ e) n rest = subst (λ v. Value room (text_at v n ++ rest) v rest) (sym e) (null_text room n rest)
  value_written room value (truth _ _ b e) n rest = subst (λ v. Value room (text_at v n ++ rest) v rest) (sym e) (bool_at room n b rest)
  value_written room value (number _ _ numeral e h) n rest = subst (λ v. Value room (text_at v n ++ rest) v rest) (sym e) (number_at room n numeral rest h)
  value_written room value (string _ _ text e h) n rest = subst (λ v. Value room (text_at v n ++ rest) v rest) (sym e) (string_at room n text rest h)
  value_written room value (list _ _ inner items r e h) n rest =
      subst (λ v. Value room (text_at v n ++ rest) v rest) (sym e)
      (list_at room inner n items rest r (items_written inner items h n rest))
  value_written room value (object _ _ inner members r e d h) n rest =
      subst (λ v. Value room (text_at v n ++ rest) v rest) (sym e)
      (object_at room inner n members rest r d (members_written inner members h n rest))

  items_written : (room : ℕ) (items : List Json) → AreJson room items → (n : ℕ) (rest : List ℕ) → Items room (list_rest n items rest) items rest
  items_written room items (no_values _ _ e) n rest = subst (λ l. Items room (list_rest n l rest) l rest) (sym e) (items_none _ _ _ _ refl refl)
  items_written room items (more_values _ _ first others e h hs) n rest =
      let tail = newline n ++ 93 ∷ rest in
      let more = more_items_written room others hs (n + 1) rest tail (before_more_items room (newline n) _ _ rest (AreBlank-newline n) (more_items_done _ _ _ _ refl refl)) in
      subst (λ l. Items room (list_rest n l rest) l rest) (sym e)
      (items_some _ _ _ _ (item_lines 44 (n + 1) others ++ tail) first others refl
      (before_value room (newline (n + 1)) _ first _ (AreBlank-newline (n + 1)) (value_written room first h (n + 1) (item_lines 44 (n + 1) others ++ tail))) more)

  more_items_written : (room : ℕ) (items : List Json) → AreJson room items → (n : ℕ) (rest tail : List ℕ) → MoreItems room tail [] rest → MoreItems room (item_lines 44 n items ++ tail) items rest
  more_items_written room items (no_values _ _ e) n rest tail done = subst (λ l. MoreItems room (item_lines 44 n l ++ tail) l rest) (sym e) done
  more_items_written room items (more_values _ _ first others e h hs) n rest tail done =
      subst (λ l. MoreItems room (item_lines 44 n l ++ tail) l rest) (sym e)
      (more_items_next _ _ _ _ (newline n ++ (text_at first n ++ (item_lines 44 n others ++ tail))) (item_lines 44 n others ++ tail) first others (item_bytes n first others tail) refl
      (before_value room (newline n) _ first _ (AreBlank-newline n) (value_written room first h n (item_lines 44 n others ++ tail))) (more_items_written room others hs n rest tail done))

  members_written : (room : ℕ) (members : List (List ℕ × Json)) → AreMembers room members → (n : ℕ) (rest : List ℕ) → Pairs room (object_rest n members rest) members rest
  members_written room members (no_members _ _ e) n rest = subst (λ l. Pairs room (object_rest n l rest) l rest) (sym e) (pairs_none _ _ _ _ refl refl)
  members_written room members (more_members _ _ name value others e u h hs) n rest =
      let tail = newline n ++ 125 ∷ rest in
      let more = more_members_written room others hs (n + 1) rest tail (before_more_pairs room (newline n) _ _ rest (AreBlank-newline n) (more_pairs_done _ _ _ _ refl refl)) in
      subst (λ l. Pairs room (object_rest n l rest) l rest) (sym e)
      (pairs_some _ _ _ _ (member_lines 44 (n + 1) others ++ tail) name value others refl
      (before_pair room (newline (n + 1)) _ name value _ (AreBlank-newline (n + 1)) (member_at room (n + 1) name value _ u (value_written room value h (n + 1) (member_lines 44 (n + 1) others ++ tail)))) more)

  more_members_written : (room : ℕ) (members : List (List ℕ × Json)) → AreMembers room members → (n : ℕ) (rest tail : List ℕ) → MorePairs room tail [] rest → MorePairs room (member_lines 44 n members ++ tail) members rest
  more_members_written room members (no_members _ _ e) n rest tail done = subst (λ l. MorePairs room (member_lines 44 n l ++ tail) l rest) (sym e) done
  more_members_written room members (more_members _ _ name value others e u h hs) n rest tail done =
      subst (λ l. MorePairs room (member_lines 44 n l ++ tail) l rest) (sym e)
      (more_pairs_next _ _ _ _ (newline n ++ (member_text name (text_at value n) ++ (member_lines 44 n others ++ tail))) (member_lines 44 n others ++ tail) name value others
      (line_bytes n (name, value) others tail) refl
      (before_pair room (newline n) _ name value _ (AreBlank-newline n) (member_at room n name value _ u (value_written room value h n (member_lines 44 n others ++ tail))))
      (more_members_written room others hs n rest tail done))

pub layout_is_text : LayoutIsText
layout_is_text value h = (10 ∷ [], value_written 127 value h 0 (10 ∷ []), (refl, tt))
