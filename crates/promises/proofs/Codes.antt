-- The codes of each message: its table says the same as the message table's own tests.
-- Assumes nothing.
use Prim.Native.Nat.{ℕ, ◌≤◌, ◌<◌}
use native.Mathlib.Omega.{arith}
use mathlib.Core.Path.{◌≡◌, refl, ◌∙◌, sym, ap}
use mathlib.Core.Logic.{◌≢◌, ◌↔◌, ◌⊎◌, inl, inr, ⊎_elim}
use mathlib.Core.Bool.{Bool, true, false, false≢true}
use mathlib.Core.List.{List, [], ◌∷◌}
use borrow.Author.Tests.{le-leb, lt-leb, leb-true, leb-false, le-ltb, ltb-false, eqb-true}
use lib.Dec.{eqb, leb, ltb}
use Rattle.meaning.specs.Cases.{by_test, both}
use Rattle.meaning.specs.Tables as tables
use Rattle.meaning.specs.Membership.{is_in, IsOneOf, as_first, as_later, one_of, is_in_lem}
use Rattle.frame.specs.Layout.{message, source, data_of}
use Rattle.frame.specs.Words.{word_at}
use Rattle.travel.specs.Units.{ip}
use Rattle.board.specs.Favourites.{is_number, is_set, ip_at, Ip}
use Rattle.board.specs.Label.{is_label}
use Rattle.board.specs.Lock.{admits}
use Rattle.board.specs.Node.{with_label}
use Rattle.board.specs.Groups.{Groups}
use Rattle.board.specs.declared.favourites.Favourites.{Favourites}
use Rattle.board.specs.declared.whole.Node.{Node}
use Rattle.messages.specs.Fields.{byte_at}
use Rattle.messages.specs.Outcome.{acts, posts, refusals, refusing}
use Rattle.messages.specs.Table.{message_rows}
use Rattle.messages.specs.Motor.{stop_codes, stopped, stop_row, aim_of, aim_in, target_of, move_codes, moved, move_row}
use Rattle.messages.specs.Ips.{
  order_of,
  order_in,
  finds_its_ip,
  ordered,
  set_ip_codes,
  keeping_ips,
  set_ip_row,
  ip_codes,
  ip_data,
  ip_row,
}
use Rattle.messages.specs.Locking.{lock_functions, set_lock_codes, locked_by, set_lock_row}
use Rattle.messages.specs.Addresses.{group_codes, group_data, group_row, set_group_row}
use Rattle.messages.specs.Identity.{label_in, set_label_codes, set_label_row}
use Rattle.messages.specs.declared.code.Code.{Code}
use Rattle.messages.specs.declared.outcome.Outcome.{Outcome}
use Rattle.messages.proofs.Messages.{at_row, at_no_row}
use Rattle.messages.proofs.Orders.{sharing, deleting, here, percent_beyond, percent_at}
use Rattle.node.specs.Frames.{turn_of}
use Rattle.promises.specs.BoardParts.{ip_of}
use Rattle.promises.specs.Rows.{Row, ◌when◌, applies, passes}
use Rattle.promises.specs.Demand2.Codes.{
  messages,
  IsAMove,
  SetsAnIp,
  stop_rows,
  move_rows,
  set_ip_rows,
  ip_rows,
  lock_rows,
  group_rows,
  label_rows,
  Accepted,
  FirstCode,
  Codes,
}
use Rattle.promises.specs.Demand2.Turns.{RefusedBy}
use Rattle.promises.specs.Demand2.Effects.{Arrives}
use Rattle.promises.proofs.Labels.{a_label_exactly_when}
use Rattle.promises.proofs.First.{numbered, Alike, at_the_end, in_other_words, as_it_is, fails_exactly_when}
use Rattle.promises.proofs.Turns.{code_number, came_to, refused_by_lem, first_code, accepted_is_done}
use Rattle.std.specs.Prelude.{Some, None, is_some}
use Rattle.board.specs.Groups.{put}

-- A check that does not fail succeeds.
pub not_false_is_true : (t : Bool) → (t ≡ false → ⊥) → t ≡ true
not_false_is_true true n = refl
not_false_is_true false n = absurd (n refl)

-- What the first row of an accepted table does not say, and the rest of it.
pub behind : {number : ℕ} {fact : Type 0} {rows : List Row} → number ≢ 0 → Accepted (number when fact ∷ rows) → (¬ fact) × Accepted rows
behind some (applies f) = absurd (some refl)
behind some (passes fails later) = (fails, later)

-- A number that is none of a list differs from each.
abbrev Differs : ℕ → List ℕ → Type 0
Differs m [] = Unit {0}
Differs m (k ∷ l) = (m ≢ k) × Differs m l

each_differs : (m : ℕ) (l : List ℕ) → ¬ IsOneOf m l → Differs m l
each_differs m [] other = tt
each_differs m (k ∷ l) other = (λ e. other (as_first e), each_differs m l (λ later. other (as_later later)))

-- ---- an IP by its number
pub ip_at_is : (f : Favourites) (i : ℕ) → 1 ≤ i → i ≤ 16 → ip_at f (ip i) ≡ ip_of f i
ip_at_is f i l u = rw (le-leb 1 i l, le-leb i 16 u)

pub is_number_lem : (i : ℕ) → ((1 ≤ i) × (i ≤ 16)) ↔ (is_number (ip i) ≡ true)
is_number_lem i =
    (λ (l, u). rw (le-leb 1 i l, le-leb i 16 u), λ e. let (l, u) = both (leb 1 i) (leb i 16) e in (leb-true 1 i l, leb-true i 16 u))

no_number : (i : ℕ) → (is_number (ip i) ≡ false) ↔ ((i < 1) ⊎ (16 < i))
no_number i = (to, from)
  where
    to : is_number (ip i) ≡ false → (i < 1) ⊎ (16 < i)
    to e =
        by_test (leb 1 i)
        (λ t. inr (leb-false i 16 (rw t at e)))
        (λ t. inl (leb-false 1 i t))

    from : (i < 1) ⊎ (16 < i) → is_number (ip i) ≡ false
    from out =
        (fails_exactly_when (is_number (ip i)) (is_number_lem i)).1
        (λ (l, u). ⊎_elim (λ (h : i < 1). omega arith) (λ (h : 16 < i). omega arith) out)

not_set : (x : Ip) → (is_set x ≡ false) ↔ (x ≡ None)
not_set None = (λ e. refl, λ e. refl)
not_set (Some p) = (λ e. absurd (false≢true (sym e)), λ e. ap is_set e)

-- ---- 03h
-- A function and a position that are a move aim somewhere.
pub a_move_exactly_when : (function position : ℕ) → IsAMove function position ↔ (is_some (aim_of function position) ≡ true)
a_move_exactly_when function position = (to, from)
  where
    to : IsAMove function position → is_some (aim_of function position) ≡ true
    to (inl f) = rw f
    to (inr (inl f)) = rw f
    to (inr (inr (inl (f, (l, u))))) = rw (f, le-leb 1 position l, le-leb position 16 u)
    to (inr (inr (inr (f, h)))) = rw (f, le-leb position 100 h)

    to_an_ip : eqb function 2 ≡ true → is_some (aim_of function position) ≡ true → IsAMove function position
    to_an_ip t e =
        let f = eqb-true function 2 t in
        by_test (is_number (ip position)) (λ i. inr (inr (inl (f, (is_number_lem position).1 i)))) (λ i. absurd (false≢true (rw (f, i) at e)))

    to_a_percent : eqb function 4 ≡ true → is_some (aim_of function position) ≡ true → IsAMove function position
    to_a_percent t e =
        let f = eqb-true function 4 t in
        by_test (leb position 100) (λ u. inr (inr (inr (f, leb-true position 100 u)))) (λ u. absurd (false≢true (rw (f, u) at e)))

    from : is_some (aim_of function position) ≡ true → IsAMove function position
    from e =
        by_test (eqb function 0) (λ t. inl (eqb-true function 0 t)) λ r.
        by_test (eqb function 1) (λ t. inr (inl (eqb-true function 1 t))) λ s.
        by_test (eqb function 2) (λ t. to_an_ip t e) λ u.
        by_test (eqb function 4) (λ t. to_a_percent t e) λ v. absurd (false≢true (rw (r, s, u, v) at e))

-- Of a move, only the one to an IP can lack its target.
no_target : (n : Node) (function position : ℕ) → IsAMove function position
    → (is_set (target_of n (aim_of function position)) ≡ false) ↔ ((function ≡ 2) × (ip_of n.favourites position ≡ None))
no_target n function position (inl f) = (λ e. absurd (false≢true (sym (rw f at e))), λ (two, u). absurd (omega (arith, f, two)))
no_target n function position (inr (inl f)) = (λ e. absurd (false≢true (sym (rw f at e))), λ (two, u). absurd (omega (arith, f, two)))
no_target n function position (inr (inr (inl (f, (l, u))))) =
    let at : target_of n (aim_of function position) ≡ ip_of n.favourites position =
    rw (f, le-leb 1 position l, le-leb position 16 u) (ip_at_is n.favourites position l u) in
    (λ e. (f, (not_set (ip_of n.favourites position)).0 (sym (ap is_set at) ∙ e)), λ (two, unset). ap is_set at ∙ ap is_set unset)
no_target n function position (inr (inr (inr (f, h)))) =
    (λ e. absurd (false≢true (sym (rw (f, le-leb position 100 h) at e))), λ (two, u). absurd (omega (arith, f, two)))

-- ---- 15h
pub an_order_exactly_when : (function index value : ℕ)
    → SetsAnIp function index value ↔ (is_some (order_of function (ip index) value) ≡ true)
an_order_exactly_when function index value = (to, from)
  where
    to : SetsAnIp function index value → is_some (order_of function (ip index) value) ≡ true
    to (inl (f, (l, u))) = ap is_some (sharing function (ip index) value f) ∙ rw (le-ltb value 1 l, le-ltb 16 value u)
    to (inr (i, inl f)) = ap is_some (deleting function (ip index) value ((is_number_lem index).0 i) f)
    to (inr (i, inr (inl f))) = ap is_some (here function (ip index) value ((is_number_lem index).0 i) f)
    to (inr (i, inr (inr (f, h)))) = ap is_some (percent_at function (ip index) value ((is_number_lem index).0 i) f h)

    shares : function ≡ 4 → is_some (order_of function (ip index) value) ≡ true → SetsAnIp function index value
    shares f e =
        let k = sym (ap is_some (sharing function (ip index) value f)) ∙ e in
        by_test (ltb value 1) (λ t. absurd (false≢true (rw t at k))) λ t.
        by_test (ltb 16 value) (λ u. absurd (false≢true (rw (t, u) at k))) λ u.
        inl (f, (ltb-false value 1 t, ltb-false 16 value u))

    at_a_percent : is_number (ip index) ≡ true → function ≡ 3 → is_some (order_of function (ip index) value) ≡ true
        → SetsAnIp function index value
    at_a_percent i f e =
        by_test (leb value 100)
        (λ t. inr ((is_number_lem index).1 i, inr (inr (f, leb-true value 100 t))))
        (λ t. absurd (false≢true (sym (ap is_some (percent_beyond function (ip index) value i f (leb-false value 100 t))) ∙ e)))

    from : is_some (order_of function (ip index) value) ≡ true → SetsAnIp function index value
    from e =
        by_test (eqb function 4) (λ t. shares (eqb-true function 4 t) e) λ four.
        by_test (is_number (ip index)) (λ i.
        by_test (eqb function 0) (λ t. inr ((is_number_lem index).1 i, inl (eqb-true function 0 t))) λ zero.
        by_test (eqb function 1) (λ t. inr ((is_number_lem index).1 i, inr (inl (eqb-true function 1 t)))) λ one.
        by_test (eqb function 3) (λ t. at_a_percent i (eqb-true function 3 t) e) λ three.
        absurd (false≢true (rw (four, i, zero, one, three) at e)))
        (λ i. absurd (false≢true (rw (four, i) at e)))

-- Of an order, only a deletion can lack its IP.
no_ip : (f : Favourites) (function index value : ℕ) → SetsAnIp function index value
    → (finds_its_ip f (order_of function (ip index) value) ≡ false) ↔ ((function ≡ 0) × (ip_of f index ≡ None))
no_ip f function index value (inl (four, (l, u))) =
    let at = sharing function (ip index) value four in
    let set : finds_its_ip f (order_of function (ip index) value) ≡ true = ap (finds_its_ip f) at ∙ rw (le-ltb value 1 l, le-ltb 16 value u) in
    (λ e. absurd (false≢true (sym e ∙ set)), λ (z, u'). absurd (omega (arith, four, z)))
no_ip f function index value (inr ((l, u), inl zero)) =
    let at : finds_its_ip f (order_of function (ip index) value) ≡ is_set (ip_of f index) =
    ap (finds_its_ip f) (deleting function (ip index) value ((is_number_lem index).0 (l, u)) zero) ∙ ap is_set (ip_at_is f index l u) in
    (λ e. (zero, (not_set (ip_of f index)).0 (sym at ∙ e)), λ (z, unset). at ∙ ap is_set unset)
no_ip f function index value (inr (i, inr (inl one))) =
    let at = ap (finds_its_ip f) (here function (ip index) value ((is_number_lem index).0 i) one) in
    (λ e. absurd (false≢true (sym e ∙ at)), λ (z, unset). absurd (omega (arith, one, z)))
no_ip f function index value (inr (i, inr (inr (three, h)))) =
    let at = ap (finds_its_ip f) (percent_at function (ip index) value ((is_number_lem index).0 i) three h) in
    (λ e. absurd (false≢true (sym e ∙ at)), λ (z, unset). absurd (omega (arith, three, z)))

-- ---- 16h
not_admitted : (n : Node) (priority : ℕ)
    → (admits n.lock priority ≡ false) ↔ ((n.lock.locked ≡ true) × (priority < n.lock.priority))
not_admitted n priority = (to, from)
  where
    to : admits n.lock priority ≡ false → (n.lock.locked ≡ true) × (priority < n.lock.priority)
    to e =
        by_test n.lock.locked
        (λ t. (t, leb-false n.lock.priority priority (rw t at e)))
        (λ t. absurd (false≢true (sym (rw t at e))))

    from : (n.lock.locked ≡ true) × (priority < n.lock.priority) → admits n.lock priority ≡ false
    from (t, h) = rw (t, lt-leb n.lock.priority priority h)

-- ---- the tables
module _ (n : Node) (d : List ℕ) where
  stop_alike : Alike (numbered code_number (refusals n (stop_codes n d))) (stop_rows n d)
  stop_alike = as_it_is λ short. as_it_is λ locked. at_the_end

  move_alike : Alike (numbered code_number (refusals n (move_codes n d (aim_in d)))) (move_rows n d)
  move_alike =
      let decided = a_move_exactly_when (byte_at d 0) (word_at d 1) in
      as_it_is λ short.
      in_other_words (fails_exactly_when (is_some (aim_in d)) decided) λ aimed.
      as_it_is λ locked. as_it_is λ blocked.
      in_other_words (no_target n (byte_at d 0) (word_at d 1) (decided.1 (not_false_is_true (is_some (aim_in d)) aimed))) λ set. at_the_end

  set_ip_alike : Alike (numbered code_number (refusals n (set_ip_codes n d (order_in d)))) (set_ip_rows n d)
  set_ip_alike =
      let decided = an_order_exactly_when (byte_at d 0) (byte_at d 1) (word_at d 2) in
      as_it_is λ short.
      in_other_words (fails_exactly_when (is_some (order_in d)) decided) λ ordered.
      in_other_words
      (no_ip n.favourites (byte_at d 0) (byte_at d 1) (word_at d 2) (decided.1 (not_false_is_true (is_some (order_in d)) ordered)))
      λ set. at_the_end

  ip_alike : Alike (numbered code_number (refusals n (ip_codes d (ip (byte_at d 0))))) (ip_rows d)
  ip_alike = as_it_is λ short. in_other_words (no_number (byte_at d 0)) λ numbered. at_the_end

  lock_alike : Alike (numbered code_number (refusals n (set_lock_codes n d (byte_at d 0) (byte_at d 1)))) (lock_rows n d)
  lock_alike =
      let refusing = not_admitted n (byte_at d 1) in
      as_it_is λ short.
      let function = byte_at d 0 in
      in_other_words (fails_exactly_when (is_in function lock_functions) (is_in_lem function lock_functions, one_of function lock_functions)) λ known.
      in_other_words (λ (h, r). (h, refusing.0 r), λ (h, r). (h, refusing.1 r)) λ admitted. at_the_end

  group_alike : (least : ℕ) → Alike (numbered code_number (refusals n (group_codes least d (byte_at d 0)))) (group_rows least d)
  group_alike least = as_it_is λ short. as_it_is λ beyond. at_the_end

  label_alike : Alike (numbered code_number (refusals n (set_label_codes d))) (label_rows d)
  label_alike =
      as_it_is λ short.
      in_other_words (fails_exactly_when (is_label (label_in d)) (a_label_exactly_when d)) λ right. at_the_end

-- An accepted 25h names one of the sixteen IPs.
pub accepted_index : (d : List ℕ) → Accepted (ip_rows d) → (1 ≤ byte_at d 0) × (byte_at d 0 ≤ 16)
accepted_index d none =
    let numbered = (behind (λ e. omega arith) (behind (λ e. omega arith) none).1).0 in
    (is_number_lem (byte_at d 0)).1 (not_false_is_true _ (λ e. numbered ((no_number (byte_at d 0)).0 e)))

-- ---- each message: the first code that applies refuses it, and where none does it is carried out
module _ (n : Node) (g : Groups) (b : List ℕ) (a : Arrives n g b) where
  abbrev content : List ℕ
  content = data_of b

  -- A message by its row of the message table.
  pub record ByItsCodes (rows : List Row) (done : Outcome) : Type 1 where
    pub refused : FirstCode n b (turn_of n g b) rows
    pub accepted : Accepted rows → came_to n g b a ≡ done

  by_its_codes : (codes : List (tables.Row Code)) (done : Outcome) → came_to n g b a ≡ refusing n codes done → code_number done ≡ 0
      → (rows : List Row) → Alike (numbered code_number (refusals n codes)) rows → ByItsCodes rows done
  by_its_codes codes done e plain rows same =
      record { refused = first_code n g b a codes done e plain same; accepted = accepted_is_done n g b a codes done e plain same }

  pub stop_by : message b ≡ 0x02 → ByItsCodes (stop_rows n content) (stopped n)
  unfolding stop_row
  stop_by m =
      by_its_codes (stop_codes n content) (stopped n) (at_row n g (source b) (message b) content 0x02 m) refl (stop_rows n content) (stop_alike n content)

  pub move_by : message b ≡ 0x03 → ByItsCodes (move_rows n content) (moved n (target_of n (aim_in content)))
  unfolding move_row
  move_by m =
      by_its_codes (move_codes n content (aim_in content)) (moved n (target_of n (aim_in content)))
      (at_row n g (source b) (message b) content 0x03 m) refl (move_rows n content) (move_alike n content)

  pub set_ip_by : message b ≡ 0x15 → ByItsCodes (set_ip_rows n content) (keeping_ips n (ordered n (order_in content)))
  unfolding set_ip_row
  set_ip_by m =
      by_its_codes (set_ip_codes n content (order_in content)) (keeping_ips n (ordered n (order_in content)))
      (at_row n g (source b) (message b) content 0x15 m) refl (set_ip_rows n content) (set_ip_alike n content)

  pub ip_by : message b ≡ 0x25 → ByItsCodes (ip_rows content) (posts n 0x35 (ip_data n (ip (byte_at content 0))))
  unfolding ip_row
  ip_by m =
      by_its_codes (ip_codes content (ip (byte_at content 0))) (posts n 0x35 (ip_data n (ip (byte_at content 0))))
      (at_row n g (source b) (message b) content 0x25 m) refl (ip_rows content) (ip_alike n content)

  pub lock_by_lem : message b ≡ 0x16
      → ByItsCodes (lock_rows n content) (acts (locked_by n (source b) (byte_at content 0) (byte_at content 1)) None)
  unfolding set_lock_row
  lock_by_lem m =
      by_its_codes (set_lock_codes n content (byte_at content 0) (byte_at content 1))
      (acts (locked_by n (source b) (byte_at content 0) (byte_at content 1)) None)
      (at_row n g (source b) (message b) content 0x16 m) refl (lock_rows n content) (lock_alike n content)

  pub group_by : message b ≡ 0x41 → ByItsCodes (group_rows 1 content) (posts n 0x61 (group_data g (byte_at content 0)))
  unfolding group_row
  group_by m =
      by_its_codes (group_codes 1 content (byte_at content 0)) (posts n 0x61 (group_data g (byte_at content 0)))
      (at_row n g (source b) (message b) content 0x41 m) refl (group_rows 1 content) (group_alike n content 1)

  pub set_group_by : message b ≡ 0x51
      → ByItsCodes (group_rows 4 content) (acts n (Some (put (byte_at content 0) (byte_at content 1) (byte_at content 2) (byte_at content 3))))
  unfolding set_group_row
  set_group_by m =
      by_its_codes (group_codes 4 content (byte_at content 0))
      (acts n (Some (put (byte_at content 0) (byte_at content 1) (byte_at content 2) (byte_at content 3))))
      (at_row n g (source b) (message b) content 0x51 m) refl (group_rows 4 content) (group_alike n content 4)

  pub label_by : message b ≡ 0x55 → ByItsCodes (label_rows content) (acts (with_label n (label_in content)) None)
  unfolding set_label_row
  label_by m =
      by_its_codes (set_label_codes content) (acts (with_label n (label_in content)) None)
      (at_row n g (source b) (message b) content 0x55 m) refl (label_rows content) (label_alike n content)

  -- A message that is none of the table's passes every row.
  no_row : (m : ℕ) → ¬ IsOneOf m messages → tables.Passed (message_rows n g (source b) m content)
  no_row m other = each_differs m messages other

  unknown : ¬ IsOneOf (message b) messages → RefusedBy n b (turn_of n g b) 0x10
  unknown other = refused_by_lem n g b a Code.UnknownMessage (at_no_row n g (source b) (message b) content (no_row (message b) other))

  pub codes : Codes n b (turn_of n g b)
  codes =
      record {
        any_other_message_is_unknown = unknown;
        a_stop_is_refused = λ m. (stop_by m).refused;
        a_moveto_is_refused = λ m. (move_by m).refused;
        a_set_motor_ip_is_refused = λ m. (set_ip_by m).refused;
        a_get_motor_ip_is_refused = λ m. (ip_by m).refused;
        a_set_network_lock_is_refused = λ m. (lock_by_lem m).refused;
        a_get_group_addr_is_refused = λ m. (group_by m).refused;
        a_set_group_addr_is_refused = λ m. (set_group_by m).refused;
        a_set_node_label_is_refused = λ m. (label_by m).refused;
      }
