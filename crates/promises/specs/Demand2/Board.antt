-- Demand 2, the board: it changes and replies exactly as the message table says and does nothing for a frame not meant
-- for it.
-- Assumes nothing.
use Rattle.std.specs.Prelude.{ℕ, ◌≤◌, ◌≡◌, ◌↔◌, true, List, [], ◌∷◌, Some}
use Rattle.travel.specs.declared.Pulse.{Pulse}
use Rattle.board.specs.{
  Settings.{in_range},
  Node.{sound, status_of},
  Events.{set_up, after_pulse, after_blocked, after_cleared, after_power_up},
  Groups.{no_groups, applied},
  declared.{settings.Settings.{Settings}, whole.Node.{Node}},
}
use Rattle.node.specs.Frames.{turn_of}
use Rattle.meaning.specs.Membership.{IsOneOf}
use Rattle.promises.specs.Wire.{FrameRules, message}
use Rattle.promises.specs.BoardInRange.{SettingsInRange, BoardInRange}
use Rattle.promises.specs.BoardParts.{put}
use Rattle.promises.specs.Groups.{Groups}
use Rattle.promises.specs.Typed.{SettingsTyped, Typed, TypedTable}
use Rattle.promises.specs.Meant.{replies, Meant}
use Rattle.promises.specs.Reply.{sent, ignored, reply_in, Replied, Proper, Untouched}
use Rattle.promises.specs.Rows.{◌when◌, FirstOf}
use Rattle.promises.specs.Demand2.Events.{GroupTable, Events}
use Rattle.promises.specs.Demand2.Codes.{Codes}
use Rattle.promises.specs.Demand2.Effects.{Arrives, Effects}
use Rattle.promises.specs.Demand2.Called.{Called}
use Rattle.promises.specs.Demand2.Example.{Example}
use Rattle.promises.specs.Demand2.Favourites.{SixteenIps}
use Rattle.promises.specs.Demand2.Fitting.{Fitting}
use Rattle.promises.specs.Demand2.Answers.{Answers}

-- What a board that was set up has become, with its group table, after bundles and events, one after another.
pub data Became (s : Settings) : Node → Groups → Type 0 where
  set_up_lem : Became s (set_up s).node no_groups
  having_heard : {n : Node} {g : Groups} → Became s n g → (b : List ℕ)
      → Became s (turn_of n g b).node (applied g (turn_of n g b).change)
  at_a_pulse : {n : Node} {g : Groups} → Became s n g → (p : Pulse) → Became s (after_pulse n p).node g
  blocked : {n : Node} {g : Groups} → Became s n g → (cause : ℕ) → Became s (after_blocked n cause).node g
  cleared : {n : Node} {g : Groups} → Became s n g → Became s (after_cleared n).node g
  powered_up_lem : {n : Node} {g : Groups} → Became s n g → Became s (after_power_up n).node g

-- A board that was set up, after any history: in range, of numbers that fit their types, and all that it sends is a
-- reply, by a frame to the asker.
pub record SinceSetUp (n : Node) (g : Groups) : Type 0 where
  pub it_is_sound : BoardInRange n
  pub its_numbers_fit : Typed n
  pub its_table_fits : TypedTable g
  pub all_that_it_sends_is_a_reply :
      (b : List ℕ) → Replied (turn_of n g b) → IsOneOf (message (sent (reply_in (turn_of n g b)))) replies
  pub every_reply_of_it_is_a_frame_to_the_asker : (b : List ℕ) → Proper n b (turn_of n g b)

-- Of a board in range; one that is not is refused by row 33.
pub record Board : Type 1 where
  pub in_range_exactly_when_row_32_does_not_apply : (s : Settings) → SettingsInRange s ↔ (in_range s ≡ true)
  pub sound_exactly_when_in_range : (n : Node) → BoardInRange n ↔ (sound n ≡ true)
  pub status :
      (n : Node)
      → FirstOf
      (3 when (n.lock.locked ≡ true)
      ∷ 2 when (n.drive.blocked ≡ true)
      ∷ 1 when ((target : Pulse) × (n.drive.motion ≡ Some target))
      ∷ [])
      (status_of n)
  pub not_meant_does_nothing :
      (n : Node) (g : Groups) (b : List ℕ) → BoardInRange n → FrameRules b → ¬ Meant n g b
      → turn_of n g b ≡ ignored n
  pub board_once_sound_always_sound : (n : Node) (g : Groups) (b : List ℕ) → BoardInRange n
      → BoardInRange (turn_of n g b).node
  -- so that the table's own function is never asked for an entry that it does not have
  pub only_the_sixteen_entries_are_put :
      (n : Node) (g : Groups) (b : List ℕ) (index low middle high : ℕ)
      → (turn_of n g b).change ≡ Some (put index low middle high) → index ≤ 15
  pub a_reply_gets_no_reply : (n : Node) (g : Groups) (b : List ℕ) → IsOneOf (message b) replies
      → Untouched n (turn_of n g b)
  -- so that two boards never chatter; of numbers that fit their types, as all numbers of the code do
  pub all_that_is_sent_is_a_reply :
      (n : Node) (g : Groups) (b : List ℕ) → BoardInRange n → Typed n → TypedTable g → Replied (turn_of n g b)
      → IsOneOf (message (sent (reply_in (turn_of n g b)))) replies
  -- from this node to the asker, with zeros behind it; in silence and when refused there is none
  pub every_reply_is_a_frame_to_the_asker :
      (n : Node) (g : Groups) (b : List ℕ) → BoardInRange n → Typed n → TypedTable g → Proper n b (turn_of n g b)
  -- the same of every board that was set up, whatever bundles and events have reached it since
  pub since_set_up : (s : Settings) → SettingsInRange s → SettingsTyped s → (n : Node) (g : Groups)
      → Became s n g → SinceSetUp n g
  pub group_table : GroupTable
  pub events : Events
  pub which_code_refuses_a_message : (n : Node) (g : Groups) (b : List ℕ) → Arrives n g b → Codes n b (turn_of n g b)
  pub what_a_message_does : (n : Node) (g : Groups) (b : List ℕ) → Arrives n g b → Effects n b (turn_of n g b)
  -- one of them worked out
  pub an_example : Example
  -- of numbers that fit their types
  pub what_a_get_is_answered :
      (n : Node) (g : Groups) (b : List ℕ) → Arrives n g b → Typed n → TypedTable g → Answers n g b (turn_of n g b)
  pub sixteen_ips : SixteenIps
  -- favourite 1 goes to favourite 1
  pub an_ip_is_called_by_its_number : Called
  pub fitting : Fitting
