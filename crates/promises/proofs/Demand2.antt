-- Demand 2 is kept.
-- Assumes nothing.
use Prim.Native.Nat.{ℕ}
use mathlib.Core.Path.{ap}
use Rattle.travel.specs.Nearest as travel
use Rattle.travel.specs.Position.{percent_nearest, percent_down_limit, pulse_nearest, pulse_down_limit, there_and_back}
use Rattle.travel.specs.Share.{share_to_n, share_above_n}
use Rattle.travel.specs.declared.Percent.{Percent}
use Rattle.travel.specs.declared.Pulse.{Pulse}
use Rattle.node.proofs.Laws.{
  a_reply_message_is_never_answered,
  an_entry_put_is_one_of_the_sixteen,
}
use Rattle.node.specs.Frames.{turn_of}
use Rattle.promises.specs.Reply.{reply_in}
use Rattle.promises.specs.Demand2.Board.{Board}
use Rattle.promises.specs.Demand2.Positions.{IsNearest, Positions}
use Rattle.promises.specs.Demand2.{Demand2}
use Rattle.promises.proofs.LineReader.{line_reader}
use Rattle.promises.proofs.Frames.{rules_exactly_when, frames}
use Rattle.promises.proofs.Labels.{characters_are, characters_so}
use Rattle.promises.proofs.BoardInRange.{settings_exactly_when, sound_exactly_when}
use Rattle.promises.proofs.Status.{status}
use Rattle.promises.proofs.Meant.{passed_over}
use Rattle.promises.proofs.Reply.{untouched}
use Rattle.promises.proofs.Serials.{serials}
use Rattle.promises.proofs.SinceSetUp.{turned_in_range, sends_a_reply, replies_properly, since_set_up}
use Rattle.promises.proofs.Favourites.{sixteen_ips}
use Rattle.promises.proofs.Fitting.{fitting}
use Rattle.promises.proofs.GroupTable.{group_table}
use Rattle.promises.proofs.Events.{events}
use Rattle.promises.proofs.Codes.{codes}
use Rattle.promises.proofs.Effects.{effects}
use Rattle.promises.proofs.Called.{called}
use Rattle.promises.proofs.Answers.{answers}
use Rattle.promises.proofs.Example.{example}
use Rattle.promises.proofs.Register.{register}
use Rattle.promises.proofs.StoredForm.{stored_form}
use Rattle.promises.proofs.EndToEnd.{end_to_end}
use Rattle.promises.proofs.Transmitter.{transmitter}

board : Board
board =
    record {
      in_range_exactly_when_row_32_does_not_apply = settings_exactly_when;
      sound_exactly_when_in_range = sound_exactly_when;
      status = status;
      not_meant_does_nothing = λ n g b s f. passed_over n g b s ((rules_exactly_when b).0 f);
      board_once_sound_always_sound = turned_in_range;
      only_the_sixteen_entries_are_put = an_entry_put_is_one_of_the_sixteen;
      a_reply_gets_no_reply = λ n g b i. untouched n (turn_of n g b) (a_reply_message_is_never_answered n g b i);
      all_that_is_sent_is_a_reply = λ n g b i t u. sends_a_reply n g b i t u (reply_in (turn_of n g b));
      every_reply_is_a_frame_to_the_asker = replies_properly;
      since_set_up = since_set_up;
      group_table = group_table;
      events = events;
      which_code_refuses_a_message = codes;
      sixteen_ips = sixteen_ips;
      an_ip_is_called_by_its_number = called;
      fitting = fitting;
      what_a_message_does = effects;
      an_example = example;
      what_a_get_is_answered = answers;
    }

nearest : {a b k : ℕ} → travel.IsNearest a b k → IsNearest a b k
nearest is = record { from = is.from; below = is.below }

positions : Positions
positions =
    record {
      percent_is_the_nearest_whole = λ p travel positive within. nearest (percent_nearest p travel positive within);
      from_the_travel_on_100_percent = λ p travel h. ap (λ (k : Percent). k.0) (percent_down_limit p travel h);
      pulse_is_the_nearest_whole = λ k travel h. nearest (pulse_nearest k travel h);
      from_100_percent_on_the_travel = λ k travel h. ap (λ (p : Pulse). p.0) (pulse_down_limit k travel h);
      percent_to_pulse_and_back = there_and_back;
      a_share_is_rounded_down = λ i n h. ap (λ (k : Percent). k.0) (share_to_n i n h);
      beyond_n_a_share_is_100_percent = λ i n h. ap (λ (k : Percent). k.0) (share_above_n i n h);
    }

pub kept : Demand2
kept =
    record {
      frames = frames;
      line_reader = line_reader;
      serials = serials;
      labels = record { labels_are_told = λ label. (characters_are label, characters_so label) };
      board = board;
      positions = positions;
      register = register;
      stored_form = stored_form;
      end_to_end = end_to_end;
      transmitter = transmitter;
    }
