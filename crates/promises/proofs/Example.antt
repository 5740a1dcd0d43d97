-- A MOVETO worked out: it arrives, no code applies, and so the effects say what it does.
-- Assumes nothing.
use Prim.Native.Nat.{ℕ, ◌<◌}
use native.Mathlib.Omega.{arith}
use mathlib.Core.Path.{◌≡◌, refl}
use mathlib.Core.Logic.{inl, inr}
use mathlib.Core.Bool.{true, false, false≢true}
use Rattle.meaning.specs.Membership.{is_in_lem}
use Rattle.frame.specs.Reading.{reading_of}
use Rattle.board.specs.Favourites.{ips_within}
use Rattle.meaning.specs.Every.{every}
use Rattle.board.specs.Node.{sound}
use Rattle.promises.specs.Numbers.{read_number}
use Rattle.promises.specs.Wire.{data_of}
use Rattle.promises.specs.BoardParts.{ip_of, no_ips, empty_table}
use Rattle.promises.specs.Meant.{replies, Meant}
use Rattle.promises.specs.Rows.{passes, none_applies}
use Rattle.promises.specs.Demand2.Codes.{IsAMove, Accepted, move_rows}
use Rattle.promises.specs.Demand2.Effects.{Arrives, down}
use Rattle.promises.specs.Demand2.Example.{new_board, move_down, Example}
use Rattle.promises.proofs.BoardInRange.{in_range_lem}
use Rattle.promises.proofs.Frames.{rules_exactly_when}
use Rattle.promises.proofs.Effects.{effects}
use Rattle.std.specs.Prelude.{None}

board_is_sound : sound new_board ≡ true
unfolding ips_within every
board_is_sound = refl

read_as_a_frame : read_number (reading_of move_down) ≡ 0
unfolding reading_of
read_as_a_frame = refl

meant : Meant new_board empty_table move_down
meant =
    record {
      to_this_node_or_all_or_its_group = inl refl;
      from_a_sender = (λ e. omega arith, λ e. omega arith);
      to_any_type_or_its_own = inr refl;
      no_reply_lem = λ i. false≢true (is_in_lem 0x03 replies i);
    }

arrives : Arrives new_board empty_table move_down
arrives =
    record {
      in_range_lem = in_range_lem new_board board_is_sound;
      is_frame = (rules_exactly_when move_down).1 read_as_a_frame;
      is_meant = meant;
      has_sixteen_ips = refl;
    }

accepted : Accepted (move_rows new_board (data_of move_down))
accepted =
    passes (λ (short : 4 < 4). omega arith)
    (passes (λ (no_move : ¬ IsAMove 0 0). no_move (inl refl))
    (passes (λ (locked : false ≡ true). false≢true locked)
    (passes (λ (blocked : false ≡ true). false≢true blocked)
    (passes (λ (to_an_ip : (◌≡◌ {A = ℕ} 0 2) × (ip_of no_ips 0 ≡ None)). omega (arith, to_an_ip.0))
    (none_applies refl)))))

pub example : Example
example =
    record {
      it_arrives = arrives;
      no_code_refuses_it = accepted;
      it_is_aimed_at_the_down_limit = down refl;
      so_the_motor_runs_down = (effects new_board empty_table move_down arrives).a_motor_sent_down_runs_down refl accepted _ (down refl) (omega arith);
    }
