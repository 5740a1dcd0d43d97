-- What a bundle leads to: the node, a change of the group table, and a reply of at most 31 bytes, then zeros.
-- Assumes nothing.
use Rattle.std.specs.Prelude.{ℕ, List, replicate, Option, Some, None, Result, Ok, Err}
use Rattle.refusal.specs.declared.Refusal.{Refusal}
use Rattle.board.specs.declared.whole.Node.{Node}
use Rattle.node.specs.declared.turn.Reply.{Reply}
use Rattle.node.specs.declared.turn.Turn.{Turn}
use Rattle.board.specs.Groups.{Change}

-- How a bundle is answered: by a reply, by silence, or refused.
abbrev pub Answer : Type 0
Answer = Result (Option Reply) Refusal

abbrev pub reply : ℕ → List ℕ → Reply
reply count bytes = record { count = count; bytes = bytes }

abbrev pub no_reply : Reply
no_reply = reply 0 (replicate 31 0)

-- The reply that an answer holds.
abbrev pub reply_of : Answer → Reply
reply_of (Ok None) = no_reply
reply_of (Ok (Some r)) = r
reply_of (Err q) = no_reply

abbrev pub reply_in : Turn → Reply
reply_in t = reply_of t.answer

abbrev pub turn : Node → Change → Answer → Turn
turn n change answer = record { node = n; change = change; answer = answer }

abbrev pub silent : Node → Change → Turn
silent n change = turn n change (Ok None)

abbrev pub replied : Node → Change → Reply → Turn
replied n change r = turn n change (Ok (Some r))

-- A refusal by a number changes nothing and is not answered.
abbrev pub refused_by : Node → Refusal → Turn
refused_by n r = turn n None (Err r)
