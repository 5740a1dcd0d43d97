-- A serial spelled and read back, and read and spelled again.
-- Assumes nothing.
use Prim.Native.Nat.{ℕ, ◌-◌, ◌/◌, ◌%◌, ◌^◌, ◌≤◌, ◌<◌}
use native.Mathlib.Omega.{arith}
use mathlib.Core.Path.{◌≡◌, refl, sym, ap, ◌∙◌}
use mathlib.Core.Bool.{true, false≢true}
use mathlib.Core.List.{List, [], ◌∷◌, ◌++◌}
use lib.Dec.{eqb}
use lib.ListN.{length, get_or, drop, length-drop}
use lib.Seq.{ext_get_or, get_or-drop}
use borrow.Author.Tests.{eq-eqb, eqb-true}
use Rattle.meaning.specs.Bytes.{Bytes}
use Rattle.meaning.specs.Cases.{both}
use Rattle.serial.specs.Serial.{hex_digit, node_digits, serial_of, is_origin, node_of, origin_of, begins, a_serial_of, is_serial_of}
use Rattle.serial.proofs.Digits.{read_back, sum_of_digits, digit_at_lem, origin_at, of_every_place, digit_is_a_byte}

-- ---- the beginning of a list
pub begins_so : (l m : List ℕ) → begins l (l ++ m) ≡ true
begins_so [] m = refl
begins_so (x ∷ l) m = rw (eq-eqb x x refl, begins_so l m)

pub begun : (l m : List ℕ) → begins l m ≡ true → l ++ drop (length l) m ≡ m
begun [] m e = refl
begun (x ∷ l) [] e = absurd (false≢true e)
begun (x ∷ l) (y ∷ m) e =
    let so = both (eqb y x) (begins l m) e in
    rw (eqb-true y x so.0, begun l m so.1)

-- ---- spelled and read back
module _ (id : ℕ) (origin : List ℕ) where
  pub twelve_characters : length origin ≡ 6 → length (serial_of id origin) ≡ 12
  twelve_characters six = omega arith

  pub node_read_back : id ≤ 0xFFFFFF → node_of (serial_of id origin) ≡ id
  node_read_back h =
      rw (
        read_back (id / 0x100000 % 16),
        read_back (id / 0x10000 % 16),
        read_back (id / 0x1000 % 16),
        read_back (id / 0x100 % 16),
        read_back (id / 0x10 % 16),
        read_back (id % 16),
      )
      (sum_of_digits id h)

  pub origin_read_back : origin_of (serial_of id origin) ≡ origin
  origin_read_back = refl

  -- It is a right serial exactly where its origin is one.
  pub right_by_its_origin : length origin ≡ 6 → is_serial_of id (serial_of id origin) ≡ is_origin origin
  right_by_its_origin six = rw (eq-eqb (length (serial_of id origin)) 12 (twelve_characters six), begins_so (node_digits id) origin)

-- ---- read and spelled again
module _ (id : ℕ) (l : List ℕ) (right : is_serial_of id l ≡ true) where
  pub is_spelled : serial_of id (origin_of l) ≡ l
  is_spelled = begun (node_digits id) l ((a_serial_of id l).is_fact right).1.0

  pub read_node : id ≤ 0xFFFFFF → node_of l ≡ id
  read_node h = ap node_of (sym is_spelled) ∙ node_read_back id (origin_of l) h

  pub spelled_again : id ≤ 0xFFFFFF → serial_of (node_of l) (origin_of l) ≡ l
  spelled_again h = ap (λ node. serial_of node (origin_of l)) (read_node h) ∙ is_spelled

-- ---- one serial, one NodeID
pub one_node : (id other : ℕ) (l : List ℕ) → is_serial_of id l ≡ true → is_serial_of other l ≡ true → id ≤ 0xFFFFFF → other ≤ 0xFFFFFF → id ≡ other
one_node id other l right right' h h' = sym (read_node id l right h) ∙ read_node other l right' h'

module _ (id other : ℕ) (origin origin' : List ℕ) (same : serial_of id origin ≡ serial_of other origin') where
  pub same_node : id ≤ 0xFFFFFF → other ≤ 0xFFFFFF → id ≡ other
  same_node h h' = sym (node_read_back id origin h) ∙ ap node_of same ∙ node_read_back other origin' h'

  pub same_origin : origin ≡ origin'
  same_origin = ap origin_of same

-- ---- by its characters
-- Twelve characters whose first six are the digits of a NodeID are the serial that it spells with the rest.
pub spelled_by_digits : (id : ℕ) (l : List ℕ) → length l ≡ 12
    → ((place : ℕ) → place < 6 → get_or l place 0 ≡ hex_digit (id / 16 ^ (5 - place) % 16)) → serial_of id (origin_of l) ≡ l
spelled_by_digits id l twelve digits =
    ext_get_or 0 (serial_of id (origin_of l)) l (omega (arith, length-drop 6 l))
    (λ place h. of_every_place (λ n. get_or (serial_of id (origin_of l)) n 0 ≡ get_or l n 0)
    (λ n k. digit_at_lem id (origin_of l) n k ∙ sym (digits n k))
    (λ n. origin_at id (origin_of l) n ∙ get_or-drop 6 l n 0)
    place)

pub right_by_digits : (id : ℕ) (l : List ℕ) → length l ≡ 12
    → ((place : ℕ) → place < 6 → get_or l place 0 ≡ hex_digit (id / 16 ^ (5 - place) % 16)) → is_origin (origin_of l) ≡ true
    → is_serial_of id l ≡ true
right_by_digits id l twelve digits origin =
    ap (is_serial_of id) (sym (spelled_by_digits id l twelve digits))
    ∙ right_by_its_origin id (origin_of l) (omega (arith, length-drop 6 l))
    ∙ origin

-- Characters are bytes.
pub bytes : (id : ℕ) (origin : List ℕ) → Bytes origin → Bytes (serial_of id origin)
bytes id origin b =
    of_every_place (λ place. place < length (serial_of id origin) → get_or (serial_of id origin) place 0 < 256)
    (λ place k h. digit_is_a_byte id origin place k)
    (λ place h. rw (origin_at id origin place) (b place (omega arith)))
