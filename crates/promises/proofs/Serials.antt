-- A serial's characters by their places; what is told is told by the tests of the definition.
-- Assumes nothing.
use Prim.Native.Nat.{ℕ, ◌≤◌, ◌<◌}
use mathlib.Core.Path.{◌≡◌, sym, ap, ◌∙◌}
use mathlib.Core.Logic.{◌↔◌}
use mathlib.Core.Bool.{true}
use mathlib.Core.List.{List}
use lib.Dec.{ltb}
use borrow.Author.Tests.{ltb-true, ltb-false}
use Rattle.meaning.specs.Cases.{by_test}
use Rattle.meaning.specs.Tests.{holds_by}
use Rattle.serial.specs.Serial.{hex_digit, serial_of, an_origin, is_origin, origin_of, a_serial_of, is_serial_of}
use Rattle.serial.proofs.Digits.{low_digit, high_digit, digit_at_lem, origin_at}
use Rattle.serial.proofs.Laws.{
  twelve_characters,
  node_read_back,
  origin_read_back,
  right_by_its_origin,
  is_spelled,
  read_node,
  spelled_again,
  one_node,
  same_node,
  right_by_digits,
}
use Rattle.promises.specs.Serials.{digit_at, Spells, OriginRules, SerialRules, Serials}
use Rattle.promises.specs.Wire.{byte_at}

-- ---- a digit and its character
spells : (digit character : ℕ) → character ≡ hex_digit digit → Spells digit character
spells digit character e = record { to_9 = λ low. e ∙ low_digit digit low; from_10 = λ high. e ∙ high_digit digit high }

is_spelt : (digit character : ℕ) → Spells digit character → character ≡ hex_digit digit
is_spelt digit character s =
    by_test (ltb digit 10)
    (λ e. let low = ltb-true digit 10 e in s.to_9 low ∙ sym (low_digit digit low))
    (λ e. let high = ltb-false digit 10 e in s.from_10 high ∙ sym (high_digit digit high))

node_spelled : (id : ℕ) (origin : List ℕ) (place : ℕ) → place < 6 → Spells (digit_at id place) (byte_at (serial_of id origin) place)
node_spelled id origin place h = spells (digit_at id place) (byte_at (serial_of id origin) place) (digit_at_lem id origin place h)

-- ---- origins
module _ (origin : List ℕ) where
  origin_told : (an_origin origin).fact → OriginRules origin
  origin_told (a, (b, (c, (d, (e, (f, (g, h))))))) =
      record {
        maker_first = record { from = a.0; to = a.1 };
        maker_second = record { from = b.0; to = b.1 };
        year_tens = record { from = c.0; to = c.1 };
        year_ones = record { from = d.0; to = d.1 };
        week_tens = record { from = e.0; to = e.1 };
        week_ones = record { from = f.0; to = f.1 };
        week_from_1 = g;
        week_to_53 = h;
      }

  of_origin : OriginRules origin → (an_origin origin).fact
  of_origin o = (
    (o.maker_first.from, o.maker_first.to),
    (
      (o.maker_second.from, o.maker_second.to),
      (
        (o.year_tens.from, o.year_tens.to),
        (
          (o.year_ones.from, o.year_ones.to),
          (
            (o.week_tens.from, o.week_tens.to),
            (
              (o.week_ones.from, o.week_ones.to),
              (o.week_from_1, o.week_to_53),
            ),
          ),
        ),
      ),
    ),
  )

  origins : (is_origin origin ≡ true) ↔ OriginRules origin
  origins = (λ e. origin_told ((an_origin origin).is_fact e), λ o. holds_by (an_origin origin) (of_origin o))

-- ---- right serials
module _ (id : ℕ) (serial : List ℕ) where
  right_told : is_serial_of id serial ≡ true → SerialRules id serial
  right_told right =
      let fact = (a_serial_of id serial).is_fact right in
      record {
        twelve_characters = fact.0;
        the_node_id_first =
            λ place h.
            spells (digit_at id place) (byte_at serial place)
            (ap (λ l. byte_at l place) (sym (is_spelled id serial right)) ∙ digit_at_lem id (origin_of serial) place h);
        then_its_origin = origin_told (origin_of serial) fact.1.1;
      }

  is_right : SerialRules id serial → is_serial_of id serial ≡ true
  is_right rules =
      right_by_digits id serial rules.twelve_characters
      (λ place h. is_spelt (digit_at id place) (byte_at serial place) (rules.the_node_id_first place h))
      ((origins (origin_of serial)).1 rules.then_its_origin)

one_serial : (id other : ℕ) (serial : List ℕ) → id ≤ 0xFFFFFF → other ≤ 0xFFFFFF → SerialRules id serial → SerialRules other serial → id ≡ other
one_serial id other serial h k rules rules' = one_node id other serial (is_right id serial rules) (is_right other serial rules') h k

pub serials : Serials
serials =
    record {
      a_serial_has_twelve_characters = twelve_characters;
      the_node_id_is_spelled = node_spelled;
      the_origin_stands_behind_it = origin_at;
      origins_are_told = origins;
      right_serials_are_told = λ id serial. (right_told id serial, is_right id serial);
      the_node_id_is_read_back = node_read_back;
      the_origin_is_read_back = origin_read_back;
      a_serial_is_right_where_its_origin_is = right_by_its_origin;
      a_right_serial_names_its_node_id = λ id serial h rules. read_node id serial (is_right id serial rules) h;
      a_right_serial_is_spelled_again = λ id serial h rules. spelled_again id serial (is_right id serial rules) h;
      two_node_ids_are_spelled_apart = λ id other origin origin' h k same. same_node id other origin origin' same h k;
      one_serial_one_node_id = one_serial;
    }
