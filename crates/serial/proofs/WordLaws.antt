-- A serial number's words and its characters: one goes for the other, and they have one order.
-- Assumes nothing.
use Rattle.std.specs.Prelude.{if◌then◌else◌}
use Prim.Native.Nat.{ℕ, zero, suc, ◌+◌, ◌*◌, ◌/◌, ◌%◌, ◌<◌}
use native.Mathlib.Omega.{arith}
use mathlib.Core.Path.{◌≡◌, refl, sym, ap, ◌∙◌}
use mathlib.Core.Logic.{◌↔◌}
use mathlib.Core.Bool.{Bool, true, false, ◌&&◌}
use mathlib.Core.List.{List, [], ◌∷◌, ◌++◌}
use lib.Dec.{ltb, eqb}
use lib.ListN.{length, get_or}
use borrow.Author.Tests.{ltb-true, ltb-false, eqb-true, eqb-false, lt-ltb, le-ltb, eq-eqb, ne_eqb}
use Rattle.meaning.specs.Bytes.{Bytes}
use Rattle.meaning.specs.Cases.{by_test, both}
use Rattle.meaning.specs.Tests.{Test, ◌is◌, succeeds, ◌and◌, holds_by}
use Rattle.runs.specs.Keys.{numbers, row_before, row_same, row_same_is, row_itself}
use Rattle.serial.specs.Serial.{hex_digit, node_digits, begins, a_serial_of, is_serial_of}
use Rattle.serial.specs.Words.{four_of, word_of, two_digits, characters_of, serial_in, no_serial, is_none, serial_before, serial_same}
use Rattle.serial.specs.declared.words.Serial.{Serial}
use Rattle.serial.proofs.Elements.{rest_is_its_elements}

-- Tests of which each follows from the other are the same.
same_tests : (t u : Bool) → (t ≡ true → u ≡ true) → (u ≡ true → t ≡ true) → t ≡ u
same_tests true u f g = sym (f refl)
same_tests false true f g = g refl
same_tests false false f g = refl

-- So are tests whose facts do.
same_holds : (t u : Test) → (t.fact → u.fact) → (u.fact → t.fact) → t.holds ≡ u.holds
same_holds t u f g = same_tests t.holds u.holds (λ e. holds_by u (f (t.is_fact e))) (λ e. holds_by t (g (u.is_fact e)))

-- ---- a word and its characters
word_read_back : (word : ℕ) → word_of (word / 0x1000000) (word / 0x10000 % 256) (word / 0x100 % 256) (word % 256) ≡ word
word_read_back word = omega arith

four_read_back : (a b c d : ℕ) {l m : List ℕ} → b < 256 → c < 256 → d < 256 → l ≡ m → four_of (word_of a b c d) ++ l ≡ a ∷ b ∷ c ∷ d ∷ m
four_read_back a b c d f g h e =
    let first : word_of a b c d / 0x1000000 ≡ a = omega arith in
    let second : word_of a b c d / 0x10000 % 256 ≡ b = omega arith in
    let third : word_of a b c d / 0x100 % 256 ≡ c = omega arith in
    let fourth : word_of a b c d % 256 ≡ d = omega arith in
    rw (first, second, third, fourth, e)

-- ---- a serial and its characters
pub twelve : (s : Serial) → length (characters_of s) ≡ 12
unfolding characters_of
twelve s = refl

pub words_read_back : (s : Serial) → serial_in (characters_of s) ≡ s
unfolding characters_of serial_in
words_read_back s = rw (word_read_back s.first, word_read_back s.second, word_read_back s.third)

pub one_to_one : (a b : Serial) → characters_of a ≡ characters_of b → a ≡ b
one_to_one a b e = sym (words_read_back a) ∙ ap serial_in e ∙ words_read_back b

pub characters_read_back : (l : List ℕ) → length l ≡ 12 → Bytes l → characters_of (serial_in l) ≡ l
unfolding characters_of serial_in
characters_read_back l h bytes =
    let byte : (i : ℕ) → i < 12 → get_or l i 0 < 256 = λ i k. bytes i (omega arith) in
    four_read_back _ _ _ _ (byte 1 (omega arith)) (byte 2 (omega arith)) (byte 3 (omega arith))
    (four_read_back _ _ _ _ (byte 5 (omega arith)) (byte 6 (omega arith)) (byte 7 (omega arith))
    (four_read_back _ _ _ _ (byte 9 (omega arith)) (byte 10 (omega arith)) (byte 11 (omega arith)) refl))
    ∙ sym (rest_is_its_elements l 0 12 h)

-- ---- bytes
four_more : (word : ℕ) (l : List ℕ) → word < 0x100000000 → Bytes l → Bytes (four_of word ++ l)
four_more word l h b zero k = omega arith
four_more word l h b (suc zero) k = omega arith
four_more word l h b (suc (suc zero)) k = omega arith
four_more word l h b (suc (suc (suc zero))) k = omega arith
four_more word l h b (suc (suc (suc (suc i)))) k = b i (omega arith)

pub characters_are_bytes : (s : Serial) → s.first < 0x100000000 → s.second < 0x100000000 → s.third < 0x100000000 → Bytes (characters_of s)
unfolding characters_of
characters_are_bytes s f g h =
    four_more s.first (four_of s.second ++ four_of s.third) f
    (four_more s.second (four_of s.third) g (four_more s.third [] h (λ i k. absurd (omega arith))))

-- ---- the same serial
same_words : (a b : Serial) → serial_same a b ≡ true → a ≡ b
unfolding serial_same
same_words a b e =
    let outer = both (eqb a.first b.first && eqb a.second b.second) (eqb a.third b.third) e in
    let inner = both (eqb a.first b.first) (eqb a.second b.second) outer.0 in
    rw (eqb-true a.first b.first inner.0, eqb-true a.second b.second inner.1, eqb-true a.third b.third outer.1)

itself : (a : Serial) → serial_same a a ≡ true
unfolding serial_same
itself a = rw (eq-eqb a.first a.first refl, eq-eqb a.second a.second refl, eq-eqb a.third a.third refl)

pub same_by_characters : (a b : Serial) → serial_same a b ≡ row_same numbers (characters_of a) (characters_of b)
same_by_characters a b =
    same_tests (serial_same a b) (row_same numbers (characters_of a) (characters_of b))
    (λ e. rw (same_words a b e) (row_itself numbers (characters_of b)))
    (λ e. rw (one_to_one a b (row_same_is numbers (characters_of a) (characters_of b) e)) (itself b))

-- ---- none
pub none_is_zeros : characters_of no_serial ≡ 0 ∷ 0 ∷ 0 ∷ 0 ∷ 0 ∷ 0 ∷ 0 ∷ 0 ∷ 0 ∷ 0 ∷ 0 ∷ 0 ∷ []
unfolding characters_of
none_is_zeros = refl

pub none_exactly_when : (s : Serial) → (is_none s ≡ true) ↔ (s ≡ no_serial)
unfolding is_none serial_same
none_exactly_when s = (same_words s no_serial, λ e. rw e)

-- Its maker's letters are not zeros.
pub right_is_not_none : (id : ℕ) (s : Serial) → is_serial_of id (characters_of s) ≡ true → is_none s ≡ false
unfolding characters_of
right_is_not_none id s right = by_test (is_none s) (λ e. absurd (zeros ((none_exactly_when s).0 e))) (λ e. e)
  where
    zeros : s ≡ no_serial → ⊥
    zeros e =
        let maker = ((a_serial_of id (characters_of s)).is_fact right).1.1.0.0 in
        omega (arith, ap (λ t. t.second) e)

-- ---- a NodeID's digits
digit_fits : (digit : ℕ) → digit < 16 → hex_digit digit < 256
digit_fits digit h = grind arith

-- Six characters are a word and half of the next.
begins_by_words : (w v n m a b c d e f : ℕ) (l : List ℕ) → b < 256 → c < 256 → d < 256 → f < 256 → n ≡ word_of a b c d → m ≡ 0x100 * e + f
    → begins (a ∷ b ∷ c ∷ d ∷ e ∷ f ∷ []) (four_of w ++ four_of v ++ l) ≡ (eqb w n && eqb (v / 0x10000) m)
begins_by_words w v n m a b c d e f l hb hc hd hf hn hm =
    same_holds
    ((w / 0x1000000) is a
    and (w / 0x10000 % 256) is b
    and (w / 0x100 % 256) is c
    and (w % 256) is d
    and (v / 0x1000000) is e
    and (v / 0x10000 % 256) is f
    and succeeds true)
    (w is n and (v / 0x10000) is m)
    (λ g. (omega arith, omega arith))
    (λ g. (omega arith, (omega arith, (omega arith, (omega arith, (omega arith, (omega arith, refl)))))))

pub digits_by_words : (id : ℕ) (s : Serial)
    → begins (node_digits id) (characters_of s)
    ≡ (eqb s.first (0x10000 * two_digits (id / 0x10000) + two_digits (id / 0x100)) && eqb (s.second / 0x10000) (two_digits id))
unfolding characters_of
digits_by_words id s =
    let high : id / 0x10000 / 16 ≡ id / 0x100000 = omega arith in
    let low : id / 0x100 / 16 ≡ id / 0x1000 = omega arith in
    begins_by_words s.first s.second _ _ _ _ _ _ _ _ (four_of s.third)
    (digit_fits (id / 0x10000 % 16) (omega arith))
    (digit_fits (id / 0x1000 % 16) (omega arith))
    (digit_fits (id / 0x100 % 16) (omega arith))
    (digit_fits (id % 16) (omega arith))
    (rw (high, low) (omega arith))
    refl

-- ---- the order
-- The first that differs decides.
abbrev decided : (a b : ℕ) → Bool → Bool
decided a b rest = if ltb a b then true else if eqb a b then rest else false

module _ (a b : ℕ) (rest : Bool) where
  earlier : a < b → decided a b rest ≡ true
  earlier h = rw (lt-ltb a b h)

  alike : a ≡ b → decided a b rest ≡ rest
  alike e = rw (le-ltb a b (omega arith), eq-eqb a b e)

  later : b < a → decided a b rest ≡ false
  later h = rw (le-ltb a b (omega arith), ne_eqb a b (λ e. omega arith))

by_order : {P : Type 0} (a b : ℕ) → (a < b → P) → (a ≡ b → P) → (b < a → P) → P
by_order a b f g h =
    by_test (ltb a b) (λ t. f (ltb-true a b t)) λ t.
    by_test (eqb a b) (λ u. g (eqb-true a b u)) λ u. h (omega (arith, ltb-false a b t, eqb-false a b u))

-- A number as all but its last character, and that.
last_behind : (a b p q : ℕ) (rest : Bool) → p ≡ a / 256 → q ≡ b / 256 → decided p q (decided (a % 256) (b % 256) rest) ≡ decided a b rest
last_behind a b p q rest hp hq =
    by_order p q
    (λ h. earlier p q _ h ∙ sym (earlier a b rest (omega arith)))
    (λ e.
    alike p q _ e
    ∙ by_order (a % 256) (b % 256)
    (λ h. earlier (a % 256) (b % 256) rest h ∙ sym (earlier a b rest (omega arith)))
    (λ f. alike (a % 256) (b % 256) rest f ∙ sym (alike a b rest (omega arith)))
    (λ h. later (a % 256) (b % 256) rest h ∙ sym (later a b rest (omega arith))))
    (λ h. later p q _ h ∙ sym (later a b rest (omega arith)))

four_decide : (a b : ℕ) (l m : List ℕ)
    → row_before numbers (four_of a ++ l) (four_of b ++ m) ≡ decided a b (row_before numbers l m)
unfolding row_before
four_decide a b l m =
    last_behind (a / 0x10000) (b / 0x10000) (a / 0x1000000) (b / 0x1000000) _ (omega arith) (omega arith)
    ∙ last_behind (a / 0x100) (b / 0x100) (a / 0x10000) (b / 0x10000) _ (omega arith) (omega arith)
    ∙ last_behind a b (a / 0x100) (b / 0x100) _ refl refl

-- Where two words differ they decide, else what stands behind them.
word_decides : (a b : ℕ) {rest : Bool} (l m : List ℕ) → rest ≡ row_before numbers l m
    → (if eqb a b then rest else ltb a b) ≡ row_before numbers (four_of a ++ l) (four_of b ++ m)
word_decides a b {rest} l m behind =
    by_order a b
    (λ h. rw (ne_eqb a b (λ e. omega arith), lt-ltb a b h))
    (λ e. rw (eq-eqb a b e, le-ltb a b (omega arith)))
    (λ h. rw (ne_eqb a b (λ e. omega arith), le-ltb a b (omega arith)))
    ∙ ap (decided a b) behind
    ∙ sym (four_decide a b l m)

nothing_behind : (a b : ℕ) → ltb a b ≡ (if eqb a b then false else ltb a b)
nothing_behind a b =
    by_test (eqb a b)
    (λ e. rw e (le-ltb a b (omega (arith, eqb-true a b e))))
    (λ e. rw e)

pub order_of_characters : (a b : Serial) → serial_before a b ≡ row_before numbers (characters_of a) (characters_of b)
unfolding serial_before characters_of row_before
order_of_characters a b =
    word_decides a.first b.first (four_of a.second ++ four_of a.third) (four_of b.second ++ four_of b.third)
    (word_decides a.second b.second (four_of a.third) (four_of b.third)
    (nothing_behind a.third b.third ∙ word_decides a.third b.third [] [] refl))
