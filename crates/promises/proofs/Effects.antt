-- What an accepted message does to the board, row by row of the message table.
-- Assumes nothing.
use Prim.Native.Nat.{ℕ, ◌-◌, ◌≤◌, ◌<◌}
use native.Mathlib.Omega.{arith}
use mathlib.Core.Path.{◌≡◌, refl, ◌∙◌, sym, ap, subst}
use mathlib.Core.Logic.{◌≢◌, inl, inr}
use mathlib.Core.Bool.{true, false, false≢true}
use mathlib.Core.List.{List}
use borrow.Author.Tests.{le-leb, leb-true, leb-false, le-ltb, lt-ltb, eq-eqb, ne_eqb}
use lib.Dec.{leb}
use lib.ListN.{length, length-set, take}
use lib.Seq.{get_or-set_same, get_or-set_other}
use Rattle.meaning.specs.Cases.{by_test}
use Rattle.frame.specs.Layout.{message, source, data_of}
use Rattle.frame.specs.Words.{word_at}
use Rattle.travel.specs.Units.{percent, ip}
use Rattle.travel.specs.Position.{pulse_of_percent}
use Rattle.travel.specs.declared.Pulse.{Pulse}
use Rattle.board.specs.Drive.{halted, halted_from, moved_to, Motion}
use Rattle.board.specs.Favourites.{is_number, with_ip, shared_out, pulse_of, Ip}
use Rattle.board.specs.Groups.{Groups}
use Rattle.board.specs.Lock.{locked}
use Rattle.board.specs.Node.{with_drive, with_favourites, with_lock, with_label}
use Rattle.board.specs.declared.drive.Drive.{Drive}
use Rattle.board.specs.declared.favourites.Favourites.{Favourites}
use Rattle.board.specs.declared.whole.Node.{Node}
use Rattle.messages.specs.Fields.{byte_at}
use Rattle.messages.specs.Outcome.{acts}
use Rattle.messages.specs.Motor.{aim_of, target_of}
use Rattle.messages.specs.Ips.{order_in, ordered}
use Rattle.messages.specs.Locking.{locked_by}
use Rattle.messages.specs.declared.favourites.Order.{Order}
use Rattle.messages.specs.declared.favourites.Order.TheVariants.{Share}
use Rattle.messages.proofs.FirstBytes.{front}
use Rattle.messages.proofs.Orders.{sharing, deleting, here, percent_at}
use Rattle.node.specs.Frames.{turn_of}
use Rattle.promises.specs.BoardParts.{drive}
use Rattle.promises.specs.Demand2.Codes.{Accepted, IsAMove, SetsAnIp, stop_rows, move_rows, set_ip_rows, lock_rows, label_rows}
use Rattle.promises.specs.Demand2.Turns.{CarriedOut}
use Rattle.promises.specs.Demand2.Effects.{Arrives, AimedAt, down, up, to_ip_lem, to_percent_lem, OneIp, SharedOut, Effects}
use Rattle.promises.proofs.Favourites.{sixteen_ips}
use Rattle.promises.proofs.Turns.{carried_out}
use Rattle.promises.proofs.Codes.{
  ip_at_is,
  is_number_lem,
  a_move_exactly_when,
  an_order_exactly_when,
  not_false_is_true,
  behind,
  stop_by,
  move_by,
  set_ip_by,
  lock_by_lem,
  set_group_by,
  label_by,
}
use Rattle.std.specs.Prelude.{Option, Some, None}

-- ---- 03h
position_from_1_to_16 : (function position : ℕ) → IsAMove function position → function ≡ 2 → (1 ≤ position) × (position ≤ 16)
position_from_1_to_16 function position (inl f) two = absurd (omega (arith, f, two))
position_from_1_to_16 function position (inr (inl f)) two = absurd (omega (arith, f, two))
position_from_1_to_16 function position (inr (inr (inl (f, h)))) two = h
position_from_1_to_16 function position (inr (inr (inr (f, h)))) two = absurd (omega (arith, f, two))

position_to_100 : (function position : ℕ) → IsAMove function position → function ≡ 4 → position ≤ 100
position_to_100 function position (inl f) four = absurd (omega (arith, f, four))
position_to_100 function position (inr (inl f)) four = absurd (omega (arith, f, four))
position_to_100 function position (inr (inr (inl (f, h)))) four = absurd (omega (arith, f, four))
position_to_100 function position (inr (inr (inr (f, h)))) four = h

aims_at : (n : Node) (d : List ℕ) → IsAMove (byte_at d 0) (word_at d 1) → (target : Pulse) → AimedAt n d target
    → target_of n (aim_of (byte_at d 0) (word_at d 1)) ≡ Some target
aims_at n d move target (down f) = rw f
aims_at n d move target (up f) = rw f
aims_at n d move target (to_ip_lem f i) =
    let (least, most) = position_from_1_to_16 (byte_at d 0) (word_at d 1) move f in
    rw (f, le-leb 1 (word_at d 1) least, le-leb (word_at d 1) 16 most) (ip_at_is n.favourites (word_at d 1) least most ∙ i)
aims_at n d move target (to_percent_lem f) = rw (f, le-leb (word_at d 1) 100 (position_to_100 (byte_at d 0) (word_at d 1) move f))

-- An accepted MOVETO is a move, of a motor that is not blocked.
accepted_move : (n : Node) (d : List ℕ) → Accepted (move_rows n d) → IsAMove (byte_at d 0) (word_at d 1) × (n.drive.blocked ≡ false)
accepted_move n d none =
    let aimed = behind (λ e. omega arith) (behind (λ e. omega arith) none).1 in
    let clear = (behind (λ e. omega arith) (behind (λ e. omega arith) aimed.1).1).0 in
    let decided = a_move_exactly_when (byte_at d 0) (word_at d 1) in (
      decided.1 (not_false_is_true _ (λ e. aimed.0 (λ move. false≢true (sym e ∙ decided.0 move)))),
      by_test n.drive.blocked (λ t. absurd (clear t)) (λ t. t),
    )

-- ---- 15h
pub accepted_order : (n : Node) (d : List ℕ) → Accepted (set_ip_rows n d) → SetsAnIp (byte_at d 0) (byte_at d 1) (word_at d 2)
accepted_order n d none =
    let ordered = (behind (λ e. omega arith) (behind (λ e. omega arith) none).1).0 in
    let decided = an_order_exactly_when (byte_at d 0) (byte_at d 1) (word_at d 2) in
    decided.1 (not_false_is_true _ (λ e. ordered (λ sets. false≢true (sym e ∙ decided.0 sets))))

-- Functions 0, 1 and 3 name one of the sixteen, and 3 a percent; 4 has a count.
pub names_an_ip : (function index value : ℕ) → SetsAnIp function index value → function ≢ 4 → (1 ≤ index) × (index ≤ 16)
names_an_ip function index value (inl (four, k)) other = absurd (other four)
names_an_ip function index value (inr (i, f)) other = i

names_a_percent : (function index value : ℕ) → SetsAnIp function index value → function ≡ 3 → value ≤ 100
names_a_percent function index value (inl (four, k)) three = absurd (omega (arith, four, three))
names_a_percent function index value (inr (i, inl none)) three = absurd (omega (arith, none, three))
names_a_percent function index value (inr (i, inr (inl one))) three = absurd (omega (arith, one, three))
names_a_percent function index value (inr (i, inr (inr (f, h)))) three = h

pub names_a_count : (function index value : ℕ) → SetsAnIp function index value → function ≡ 4 → (1 ≤ value) × (value ≤ 16)
names_a_count function index value (inl (four, k)) f = k
names_a_count function index value (inr (i, inl none)) f = absurd (omega (arith, none, f))
names_a_count function index value (inr (i, inr (inl one))) f = absurd (omega (arith, one, f))
names_a_count function index value (inr (i, inr (inr (three, h)))) f = absurd (omega (arith, three, f))

-- One IP set or unset: it is as set, and all others as before.
one_ip : (n : Node) → length n.favourites.slots ≡ 16 → (i : ℕ) (x : Ip) → 1 ≤ i → i ≤ 16
    → OneIp n (with_favourites n (with_ip n.favourites (ip i) x)) i x
one_ip n sixteen i x l u =
    rw (le-leb 1 i l, le-leb i 16 u)
    (record {
      ips_alone = record {
        same_settings = refl;
        same_motor = refl;
        same_lock = refl;
        same_label = refl;
        sixteen_again = length-set slots (i - 1) x ∙ sixteen;
      };
      the_ip_named = (get_or-set_same slots (i - 1) x None (omega (arith, sixteen, l, u)));
      every_other_ip = λ other first last differs.
          (get_or-set_other slots (i - 1) (other - 1) x None (λ e. differs (omega (arith, e, l, first))));
    })
  where
    slots : List Ip
    slots = n.favourites.slots

-- IPs that share the travel.
shared_out_lem : (n : Node) (count : ℕ) → count ≤ 16 → SharedOut n (with_favourites n (shared_out count n.settings.travel)) count
shared_out_lem n count few =
    let travel = n.settings.travel in
    let sixteen = sixteen_ips.sharing_out_leaves_sixteen count travel in
    record {
      ips_alone = record { same_settings = refl; same_motor = refl; same_lock = refl; same_label = refl; sixteen_again = sixteen };
      to_the_count = λ i l u. sixteen_ips.ips_to_n_share_the_travel count travel i l u (omega (arith, u, few));
      the_rest = sixteen_ips.the_rest_are_unset count travel;
    }

-- ---- each message
module _ (n : Node) (g : Groups) (b : List ℕ) (a : Arrives n g b) where
  abbrev content : List ℕ
  content = data_of b

  abbrev Carried : Node → Type 0
  Carried after = CarriedOut n b (turn_of n g b) after None

  -- 02h
  stopped_so : message b ≡ 0x02 → Accepted (stop_rows n content) → Carried (with_drive n (halted n.drive))
  stopped_so m none = carried_out n g b a (with_drive n (halted n.drive)) None ((stop_by n g b a m).accepted none)

  stopped_from : (motion : Motion) → n.drive.motion ≡ motion → message b ≡ 0x02 → Accepted (stop_rows n content)
      → Carried (with_drive n (halted_from motion n.drive))
  stopped_from motion e m none = subst (λ (x : Motion). Carried (with_drive n (halted_from x n.drive))) e (stopped_so m none)

  -- 03h
  moved_so : message b ≡ 0x03 → Accepted (move_rows n content) → (target : Pulse) → AimedAt n content target
      → Carried (with_drive n (moved_to n.drive target))
  moved_so m none target aim =
      carried_out n g b a (with_drive n (moved_to n.drive target)) None
      ((move_by n g b a m).accepted none
      ∙ ap (λ (x : Ip). acts (with_drive n (moved_to n.drive (pulse_of x))) None) (aims_at n content (accepted_move n content none).0 target aim))

  moved_as : message b ≡ 0x03 → Accepted (move_rows n content) → (target : Pulse) → AimedAt n content target
      → {d : Drive} → moved_to n.drive target ≡ d → Carried (with_drive n d)
  moved_as m none target aim e = subst (λ (x : Drive). Carried (with_drive n x)) e (moved_so m none target aim)

  -- 15h
  ordered_so : message b ≡ 0x15 → Accepted (set_ip_rows n content) → (order : Option Order) → order_in content ≡ order
      → Carried (with_favourites n (ordered n order))
  ordered_so m none order e =
      carried_out n g b a (with_favourites n (ordered n order)) None
      ((set_ip_by n g b a m).accepted none ∙ ap (λ (x : Option Order). acts (with_favourites n (ordered n x)) None) e)

  -- The IP that functions 0, 1 and 3 name.
  abbrev index : ℕ
  index = byte_at content 1

  one_so : message b ≡ 0x15 → Accepted (set_ip_rows n content) → byte_at content 0 ≢ 4 → (x : Ip)
      → ((i : is_number (ip index) ≡ true) → ordered n (order_in content) ≡ with_ip n.favourites (ip index) x)
      → (after : Node) × (Carried after × OneIp n after index x)
  one_so m none other x made =
      let i = names_an_ip (byte_at content 0) index (word_at content 2) (accepted_order n content none) other in
      let after = with_favourites n (with_ip n.favourites (ip index) x) in (
        after,
        (
          subst (λ (f : Favourites). Carried (with_favourites n f)) (made ((is_number_lem index).0 i)) (ordered_so m none (order_in content) refl),
          one_ip n a.has_sixteen_ips index x i.0 i.1,
        ),
      )

  shared_so : message b ≡ 0x15 → Accepted (set_ip_rows n content) → byte_at content 0 ≡ 4
      → (after : Node) × (Carried after × SharedOut n after (word_at content 2))
  shared_so m none four =
      let (least, most) = names_a_count (byte_at content 0) index (word_at content 2) (accepted_order n content none) four in
      let order : order_in content ≡ Some (Share (word_at content 2)) =
      sharing (byte_at content 0) (ip index) (word_at content 2) four ∙ rw (le-ltb (word_at content 2) 1 least, le-ltb 16 (word_at content 2) most) in (
        with_favourites n (shared_out (word_at content 2) n.settings.travel),
        (ordered_so m none (Some (Share (word_at content 2))) order, shared_out_lem n (word_at content 2) most),
      )

  -- 16h
  locked_so : (function : ℕ) → message b ≡ 0x16 → Accepted (lock_rows n content) → byte_at content 0 ≡ function
      → Carried (locked_by n (source b) function (byte_at content 1))
  locked_so function m none f =
      carried_out n g b a (locked_by n (source b) function (byte_at content 1)) None
      ((lock_by_lem n g b a m).accepted none ∙ ap (λ (k : ℕ). acts (locked_by n (source b) k (byte_at content 1)) None) f)

  locked_from : (motion : Motion) → n.drive.motion ≡ motion → message b ≡ 0x16 → Accepted (lock_rows n content) → byte_at content 0 ≡ 1
      → Carried (with_lock (with_drive n (halted_from motion n.drive)) (locked n.lock (source b) (byte_at content 1)))
  locked_from motion e m none f =
      subst (λ (x : Motion). Carried (with_lock (with_drive n (halted_from x n.drive)) (locked n.lock (source b) (byte_at content 1)))) e
      (locked_so 1 m none f)

  -- Where a move goes, from which side, and that a motor that is not blocked stays so.
  abbrev at : ℕ
  at = n.drive.position.0

  clear : Accepted (move_rows n content) → n.drive.blocked ≡ false
  clear none = (accepted_move n content none).1

  down_so : Accepted (move_rows n content) → (target : Pulse) → at < target.0
      → moved_to n.drive target ≡ drive n.drive.position (Some target) 0 1 1 false
  down_so none target h = rw (ne_eqb at target.0 (λ e. omega arith), lt-ltb at target.0 h, clear none)

  up_so : Accepted (move_rows n content) → (target : Pulse) → target.0 < at
      → moved_to n.drive target ≡ drive n.drive.position (Some target) 1 1 1 false
  up_so none target h = rw (ne_eqb at target.0 (λ e. omega arith), le-ltb at target.0 (omega arith), clear none)

  there_so : Accepted (move_rows n content) → (target : Pulse) → at ≡ target.0
      → moved_to n.drive target ≡ drive n.drive.position None n.drive.direction 0 0 false
  there_so none target h = rw (eq-eqb at target.0 h, clear none)

  -- The order that each function of 15h gives.
  module _ (i : is_number (ip index) ≡ true) where
    deletes : byte_at content 0 ≡ 0 → ordered n (order_in content) ≡ with_ip n.favourites (ip index) None
    deletes f = ap (ordered n) (deleting (byte_at content 0) (ip index) (word_at content 2) i f)

    sets_here : byte_at content 0 ≡ 1 → ordered n (order_in content) ≡ with_ip n.favourites (ip index) (Some n.drive.position)
    sets_here f = ap (ordered n) (here (byte_at content 0) (ip index) (word_at content 2) i f)

    abbrev at_percent : Ip
    at_percent = Some (pulse_of_percent (percent (word_at content 2)) n.settings.travel)

    sets_at_a_percent : Accepted (set_ip_rows n content) → byte_at content 0 ≡ 3
        → ordered n (order_in content) ≡ with_ip n.favourites (ip index) at_percent
    sets_at_a_percent none f =
        let few = names_a_percent (byte_at content 0) index (word_at content 2) (accepted_order n content none) f in
        ap (ordered n) (percent_at (byte_at content 0) (ip index) (word_at content 2) i f few)

  -- 55h
  labelled_so : message b ≡ 0x55 → Accepted (label_rows content) → Carried (with_label n (take 16 content))
  labelled_so m none =
      let short = (behind (λ e. omega arith) none).0 in
      let enough = by_test (leb 16 (length content)) (leb-true 16 (length content)) (λ e. absurd (short (leb-false 16 (length content) e))) in
      carried_out n g b a (with_label n (take 16 content)) None
      ((label_by n g b a m).accepted none
      ∙ ap (λ (l : List ℕ). acts (with_label n l) None) (front 16 content enough))

  pub effects : Effects n b (turn_of n g b)
  effects =
      record {
        a_running_motor_is_stopped = λ m none target runs. stopped_from (Some target) runs m none;
        a_stop_of_a_motor_at_rest_changes_nothing = λ m none rests. stopped_from None rests m none;
        a_motor_sent_down_runs_down = λ m none target aim h. moved_as m none target aim (down_so none target h);
        a_motor_sent_up_runs_up = λ m none target aim h. moved_as m none target aim (up_so none target h);
        a_motor_that_is_there_stands = λ m none target aim h. moved_as m none target aim (there_so none target h);
        an_ip_is_deleted = λ m none f. one_so m none (λ e. omega arith) _ (λ i. deletes i f);
        an_ip_is_set_here = λ m none f. one_so m none (λ e. omega arith) _ (λ i. sets_here i f);
        an_ip_is_set_at_a_percent = λ m none f. one_so m none (λ e. omega arith) _ (λ i. sets_at_a_percent i none f);
        ips_are_shared_out = shared_so;
        a_lock_stops_a_running_motor_and_is_held_by_its_sender = λ m none f target runs. locked_from (Some target) runs m none f;
        a_lock_of_a_motor_at_rest_is_held_by_its_sender = λ m none f rests. locked_from None rests m none f;
        an_unlocked_board_has_no_holder = locked_so 0;
        a_lock_is_saved = locked_so 3;
        a_lock_is_saved_no_more = locked_so 4;
        a_group_is_stored = λ m none. carried_out n g b a n _ ((set_group_by n g b a m).accepted none);
        a_label_is_stored = labelled_so;
      }
