-- Demand 2, the board: what a frame meant for it can come to, whole: the board afterwards, the change of the group
-- table, and what is said.
-- Assumes nothing.
use Rattle.std.specs.Prelude.{ℕ, ◌≡◌, List, [], ◌∷◌, None, Ok}
use Rattle.board.specs.declared.whole.Node.{Node}
use Rattle.node.specs.declared.turn.Turn.{Turn}
use Rattle.promises.specs.Wire.{AsksForAnAnswer}
use Rattle.promises.specs.Reply.{IsReply, Replied, no_reply, reply_in}
use Rattle.board.specs.Groups.{Change}

-- All but a GET is answered only with the ACK bit; without it the board is silent.
pub record SaidIfAsked (n : Node) (b : List ℕ) (message : ℕ) (content : List ℕ) (t : Turn) : Type 0 where
  pub asked : AsksForAnAnswer b → Replied t × IsReply n b message content (reply_in t)
  pub not_asked : ¬ AsksForAnAnswer b → (t.answer ≡ Ok None) × (reply_in t ≡ no_reply)

-- A SET or CTRL that is carried out: the board and the change of the table, and 7Fh.
pub record CarriedOut (n : Node) (b : List ℕ) (t : Turn) (after : Node) (change : Change) : Type 0 where
  pub the_board : t.node ≡ after
  pub the_table : t.change ≡ change
  pub says : SaidIfAsked n b 0x7F [] t

-- A message that a code refuses: nothing is changed, and 6Fh with the code.
pub record RefusedBy (n : Node) (b : List ℕ) (t : Turn) (code : ℕ) : Type 0 where
  pub the_board : t.node ≡ n
  pub the_table : t.change ≡ None
  pub says : SaidIfAsked n b 0x6F (code ∷ []) t

-- A GET: nothing is changed, and its POST is the answer, ACK bit or no.
pub record Posted (n : Node) (b : List ℕ) (t : Turn) (message : ℕ) (content : List ℕ) : Type 0 where
  pub the_board : t.node ≡ n
  pub the_table : t.change ≡ None
  pub is_answered : Replied t
  pub says : IsReply n b message content (reply_in t)
