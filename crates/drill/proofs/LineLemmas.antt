-- The line of each reel.
use Rattle.std.proofs.Common.{◌≡◌, ◌<◌, ◌≤◌, refl, subst, ℕ, pos, false, true, List, [], ◌∷◌, IsUtf8, length, arith, inl, inr}
use Rattle.std.specs.Prelude.{codes}
use Rattle.std.specs.Prelude.{nat_lt, slice_index, zero, suc}
use Rattle.std.specs.List.{list_all}
use Rattle.std.proofs.lemmas.Bool.Decides.{nat_tests}
use Rattle.std.proofs.lemmas.Int.{ints}
use Rattle.tick_time.proofs.BoolLemmas.{both}
use Rattle.tick_time.proofs.Rereadings.{digits_from, digits_test}
use Rattle.text_lines.specs.ReelNames.{is_reel_name}
use Rattle.text_lines.proofs.ReelLemmas.{reel_name_is}
use Rattle.std.proofs.lemmas.Str.{IsUtf8-from_ascii}
use Rattle.tick_time.specs.Numerals.{IsTooLong, Numeral, Spells, absent, fraction}
use Rattle.tick_time.specs.Rates.{GivesRate, spelled}
use Rattle.smpte_tc.specs.RateWords.{IsRateWord}
use Rattle.object_law.proofs.Spellings.{fraction_once, long_same, parts_once}
use Rattle.media_rows.specs.declared.row.MediaRow.{MediaRow}
use Rattle.media_list.specs.Lines.{Fields, IsRow, field_list, is_comment, tab_fields}
use Rattle.media_list.specs.Words.{IsNumber}
use Rattle.tick_time.specs.FixedRates.{rate_24}

-- ---- the rate

abbrev rate_word : List ℕ
rate_word = codes "24"

abbrev number_24 : Numeral
number_24 = record {
  neg = false;
  whole = rate_word;
  decimals = [];
  mark = [];
  down = false;
  power = [];
}

spells_24 : Spells rate_word number_24
spells_24 = record {
  spelled = refl;
  int = record {
    some = omega arith;
    all = digits_from rate_word refl;
    lead = λ e. absurd (omega (arith, e));
  };
  decimals = digits_from [] refl;
  exp = absent refl refl refl;
}

few : IsTooLong number_24 → ⊥
few (inl h) = omega (arith, h)
few (inr h) = omega (arith, h)

gives_24 : GivesRate (fraction number_24) (pos 24) (pos 1)
gives_24 = record {
  top = 24;
  size = refl;
  rate = spelled refl (record { equal = refl; lowest = rate_24.lowest; profile = refl });
}

is_rate_24 : IsRateWord rate_word rate_24
is_rate_24 = record {
  numeral = (number_24, spells_24);
  short = λ n s h. few (long_same n number_24 (parts_once rate_word n number_24 s spells_24) h);
  gives = λ n s. subst (λ f. GivesRate f (pos 24) (pos 1)) (fraction_once number_24 n
      (parts_once rate_word number_24 n spells_24 s)) gives_24;
}

-- ---- the fields

abbrev pub fields_with : List ℕ → List ℕ → Fields
fields_with reel url = record {
  reel = reel;
  rate = rate_word;
  start = codes "0";
  count = codes "100000";
  url = url;
}

abbrev pub row_with : List ℕ → List ℕ → MediaRow
row_with reel url = record {
  reel = reel;
  url = url;
  rate = rate_24;
  start = pos 0;
  count = pos 100000;
}

low_from : (bs : List ℕ) → list_all (λ b. nat_lt b 128) bs ≡ true → (i : ℕ)
    → slice_index bs i < 128
low_from [] e i = omega arith
low_from (b ∷ bs) e zero =
    grind (arith, nat_tests, (both (nat_lt b 128) (list_all (λ x. nat_lt x 128) bs) e).0)
low_from (b ∷ bs) e (suc i) =
    low_from bs (both (nat_lt b 128) (list_all (λ x. nat_lt x 128) bs) e).1 i

is_text : (bs : List ℕ) → list_all (λ b. nat_lt b 128) bs ≡ true → IsUtf8 bs
is_text bs e = IsUtf8-from_ascii bs (low_from bs e)

number : (bs : List ℕ) → 0 < length bs → digits_test bs ≡ true → length bs ≤ 18 → IsNumber bs
number bs some e few = record { digits = (some, digits_from bs e); few = few }

-- a line whose fields are these says the row
pub says_row : (line reel url : List ℕ) → list_all (λ b. nat_lt b 128) line ≡ true
    → is_comment line ≡ false → tab_fields line ≡ field_list (fields_with reel url)
    → is_reel_name reel ≡ true → IsRow line (row_with reel url)
says_row line reel url a o e n = record {
  fields = fields_with reel url;
  form = record {
    text = is_text line a;
    other = o;
    fields = e;
    reel = reel_name_is reel n;
    rate = (number_24, spells_24);
    start = inl (number (codes "0") (omega arith) refl (omega arith));
    count = number (codes "100000") (omega arith) refl (omega arith);
  };
  reel = refl;
  url = refl;
  rate = is_rate_24;
  span = record {
    starts = refl;
    counts = refl;
    range = record {
      some = omega (arith, ints);
      fits = record { low = omega (arith, ints); high = omega (arith, ints) };
    };
  };
}
