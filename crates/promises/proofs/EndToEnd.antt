-- What a board tells of itself is found of it: its 0Dh is a frame that the register files, and each byte of DATA is a field.
-- Assumes nothing.
use Prim.Native.Nat.{ℕ, suc, ◌+◌, ◌*◌, ◌/◌, ◌%◌, ◌≤◌, ◌<◌}
use native.Mathlib.Omega.{arith}
use mathlib.Core.Path.{◌≡◌, refl, ◌∙◌, sym, ap}
use mathlib.Core.Logic.{◌⊎◌, inl, inr}
use mathlib.Core.List.{List, [], ◌∷◌}
use lib.ListN.{length, get_or, length-take}
use Rattle.meaning.specs.Choice.{either}
use Rattle.travel.specs.Position.{percent_of_pulse, percent_at_most_100}
use Rattle.travel.specs.declared.Pulse.{Pulse}
use Rattle.board.specs.Favourites.{is_at, first_at, reported_ip}
use Rattle.board.specs.Groups.{Groups}
use Rattle.board.specs.declared.whole.Node.{Node}
use Rattle.node.specs.Frames.{turn_of}
use Rattle.motors.specs.Filing.{filed_of}
use Rattle.motors.specs.declared.motor.Motor.{Motor}
use Rattle.board.specs.Favourites.{Ip}
use Rattle.promises.specs.Wire.{raw, message, data_count}
use Rattle.promises.specs.Typed.{Typed, TypedTable}
use Rattle.promises.specs.Reply.{sent, IsReply, reply_in}
use Rattle.promises.specs.RegisterInRange.{RegisterInRange}
use Rattle.promises.specs.Fileable.{Fileable}
use Rattle.promises.specs.Demand2.Effects.{Arrives}
use Rattle.promises.specs.Demand2.EndToEnd.{FoundAsTold, EndToEnd}
use Rattle.promises.proofs.Frames.{rules_exactly_when}
use Rattle.promises.proofs.Answers.{answers}
use Rattle.promises.proofs.ReportBytes.{report_byte}
use Rattle.promises.proofs.Fileable.{filed_exactly_when}
use Rattle.promises.proofs.Readings.{read_from_the_bytes}

-- The IP reported is one of the sixteen, or FFh.
abbrev AnIpOrFFh : ℕ → Type 0
AnIpOrFFh r = ((1 ≤ r) × (r ≤ 16)) ⊎ (r ≡ 0xFF)

first_at_in_range : (number : ℕ) (slots : List Ip) (p : Pulse) → 1 ≤ number → number + length slots ≤ 17
    → AnIpOrFFh (first_at number slots p)
unfolding first_at
first_at_in_range number [] p first few = inr refl
first_at_in_range number (s ∷ slots) p first few =
    either AnIpOrFFh (is_at s p) (λ e. inl (first, omega arith))
    (λ e. first_at_in_range (suc number) slots p (omega arith) (omega arith))

module _ (n : Node) (g : Groups) (b : List ℕ) (a : Arrives n g b) (t : Typed n) (u : TypedTable g) (asks : message b ≡ 0x0C) where
  abbrev told : List ℕ
  told = sent (reply_in (turn_of n g b))

  abbrev content : List ℕ
  content =
      n.drive.position.0 % 256 ∷ n.drive.position.0 / 256 ∷ (percent_of_pulse n.drive.position n.settings.travel).0 ∷ 0xFF
      ∷ reported_ip n.favourites n.drive.position ∷ []

  is_reply_lem : IsReply n b 0x0D content (reply_in (turn_of n g b))
  is_reply_lem = ((answers n g b a t u).position_is_told asks).says

  -- Sixteen bytes go out, five of them DATA.
  long : 5 ≤ data_count told
  long = omega (arith, length-take (reply_in (turn_of n g b)).count (reply_in (turn_of n g b)).bytes, is_reply_lem.length_told, is_reply_lem.thirty_one_bytes)

  byte : (i : ℕ) → i < 5 → raw told (9 + i) ≡ get_or content i 0
  byte i h = sym (report_byte told long i h) ∙ ap (λ (d : List ℕ). get_or d i 0) is_reply_lem.its_data

  module _ (run : List Motor) (count line : ℕ) (r : RegisterInRange run count) (place : count < 256) (few : line ≤ 3) where
    fileable : Fileable run count line told
    fileable =
        let settings = a.in_range_lem.settings_in_range in
        record {
          sound_register = r;
          is_frame = (rules_exactly_when told).1 is_reply_lem.is_a_frame;
          from_line_0_to_3 = few;
          sender_from_000001h = rw is_reply_lem.from_the_node settings.node_id_from_000001h;
          sender_to_fffeffh = rw is_reply_lem.from_the_node settings.node_id_to_fffeffh;
          not_to_a_group = λ e. a.is_meant.from_a_sender.0 (sym is_reply_lem.to_the_asker ∙ e);
          names_or_reports = inr (record {
            is_0dh = is_reply_lem.says_its_message;
            from_5_bytes_of_data = long;
            percent_to_100 = rw (byte 2 (omega arith)) (percent_at_most_100 n.drive.position n.settings.travel);
            ip_1_to_16_or_ffh =
                rw (byte 4 (omega arith))
                (first_at_in_range 1 n.favourites.slots n.drive.position (omega arith) (omega (arith, t.sixteen_slots)));
          });
          has_a_place = inr place;
        }

    found_as_told : FoundAsTold n line (filed_of run count line told)
    found_as_told =
        let (held, e) = (filed_exactly_when run count line told).0 fileable in
        let (m, (f, h)) = read_from_the_bytes run count line told held e is_reply_lem.says_its_message in
        let whole : n.drive.position.0 % 256 + 256 * (n.drive.position.0 / 256) ≡ n.drive.position.0 = omega arith in
        record {
          count = held;
          is_filed = e;
          motor = m;
          is_found = rw is_reply_lem.from_the_node at f;
          as_told = rw (is_reply_lem.from_the_node, byte 0 (omega arith), byte 1 (omega arith), byte 2 (omega arith), byte 4 (omega arith), whole) at h;
        }

pub end_to_end : EndToEnd
end_to_end = record { what_a_board_tells_is_what_is_found = found_as_told }
