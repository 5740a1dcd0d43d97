-- The message table at each message; and what holds of every row holds of whatever a message comes to.
-- Assumes nothing.
use Prim.Native.Nat.{ℕ}
use mathlib.Core.Path.{◌≡◌, ap}
use mathlib.Core.List.{List, [], ◌∷◌}
use Rattle.meaning.specs.Tables.{Row, ◌when◌, decide, Answers, Passed, of_decided, no_row_applies}
use Rattle.frame.specs.declared.address.Address.{Address}
use Rattle.board.specs.Groups.{Groups}
use Rattle.board.specs.declared.whole.Node.{Node}
use Rattle.messages.specs.declared.code.Code.{Code}
use Rattle.messages.specs.declared.outcome.Outcome.{Outcome}
use Rattle.messages.specs.Outcome.{refuses, refusals, refusing}
use Rattle.messages.specs.Motor.{stop_row, move_row, position_row, status_row}
use Rattle.messages.specs.Ips.{set_ip_row, ip_row}
use Rattle.messages.specs.Locking.{set_lock_row, lock_row}
use Rattle.messages.specs.Addresses.{address_row, group_row, set_group_row}
use Rattle.messages.specs.Identity.{label_row, set_label_row, version_row, serial_row}
use Rattle.messages.specs.Table.{message_rows, outcome_of}

module _ (n : Node) (groups : Groups) (source : Address) (m : ℕ) (d : List ℕ) where
  -- A message leads to its row.
  pub at_row : (k : ℕ) → m ≡ k → outcome_of n groups source m d ≡ decide (message_rows n groups source k d) (refuses n Code.UnknownMessage)
  unfolding outcome_of
  at_row k e = ap (λ (j : ℕ). decide (message_rows n groups source j d) (refuses n Code.UnknownMessage)) e

  pub at_no_row : Passed (message_rows n groups source m d) → outcome_of n groups source m d ≡ refuses n Code.UnknownMessage
  unfolding outcome_of
  at_no_row = no_row_applies (message_rows n groups source m d) (refuses n Code.UnknownMessage)

-- A fact of a row, and those of the rows behind it.
abbrev pub ◌then◌ : {A B : Type 0} → A → B → A × B
◌then◌ a b = (a, b)

infixr 5 ◌then◌
-- What holds of each row of the table.
pub record EachRow (P : Outcome → Type 0) (n : Node) (groups : Groups) (source : Address) (d : List ℕ) : Type 0 where
  pub stop : P (stop_row n d)
  pub move : P (move_row n d)
  pub position : P (position_row n)
  pub status : P (status_row n)
  pub set_ip : P (set_ip_row n d)
  pub ip : P (ip_row n d)
  pub set_lock : P (set_lock_row n source d)
  pub lock : P (lock_row n)
  pub address : P (address_row n)
  pub group : P (group_row n groups d)
  pub set_group : P (set_group_row n d)
  pub label : P (label_row n)
  pub set_label : P (set_label_row n d)
  pub version : P (version_row n)
  pub serial : P (serial_row n)
  pub unknown : P (refuses n Code.UnknownMessage)

pub every_message : (P : Outcome → Type 0) (n : Node) (groups : Groups) (source : Address) (m : ℕ) (d : List ℕ)
    → EachRow P n groups source d → P (outcome_of n groups source m d)
unfolding outcome_of
every_message P n groups source m d r =
    of_decided P (message_rows n groups source m d) (refuses n Code.UnknownMessage)
    (r.stop then r.move then r.position then r.status then r.set_ip then r.ip then r.set_lock then r.lock then r.address then r.group
    then r.set_group then r.label then r.set_label then r.version then r.serial then tt)
    (λ none. r.unknown)

-- What holds of every refusal, and of what is done where no code applies, holds of a row.
module _ (P : Outcome → Type 0) (n : Node) (refused : (code : Code) → P (refuses n code)) where
  every_refusal : (codes : List (Row Code)) → Answers P (refusals n codes)
  every_refusal [] = tt
  every_refusal (code when test ∷ codes) = (refused code, every_refusal codes)

  pub or_refused : (codes : List (Row Code)) (done : Outcome) → (Passed (refusals n codes) → P done) → P (refusing n codes done)
  or_refused codes done last = of_decided P (refusals n codes) done (every_refusal codes) last
