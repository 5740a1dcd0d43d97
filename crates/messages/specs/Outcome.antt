-- What a message comes to (document 01, under the message table): the node and the change of the group table, and what
-- is to be said.
-- Assumes nothing.
use Rattle.std.specs.Prelude.{ℕ, List, [], ◌∷◌, length, take, replicate, None}
use Rattle.meaning.specs.Tables.{Row, ◌when◌, decide}
use Rattle.frame.specs.Writing.{over}
use Rattle.board.specs.declared.whole.Node.{Node}
use Rattle.messages.specs.Code.{code_of}
use Rattle.messages.specs.declared.code.Code.{Code}
use Rattle.messages.specs.declared.outcome.Say.{Say}
use Rattle.messages.specs.declared.outcome.Say.TheVariants.{Done, Post, Refuse}
use Rattle.messages.specs.declared.outcome.Outcome.{Outcome}
use Rattle.board.specs.Groups.{Change}

abbrev pub outcome : Node → Change → Say → (count : ℕ) → (content : List ℕ) → Outcome
outcome n change say count content = record { node = n; change = change; say = say; count = count; content = content }

-- DATA, and zeros behind it.
abbrev pub in_twenty : List ℕ → List ℕ
in_twenty content = over content (replicate 20 0)

-- DATA of what is said.
abbrev pub content_of : Outcome → List ℕ
content_of o = take o.count o.content

-- A SET or CTRL carried out: the node afterwards, and the change of the group table.
abbrev pub acts : Node → Change → Outcome
acts after change = outcome after change Done 0 (in_twenty [])

-- A GET changes nothing: MSG and DATA of its POST.
abbrev pub posts : Node → (message : ℕ) → (content : List ℕ) → Outcome
posts n message content = outcome n None (Post message) (length content) (in_twenty content)

-- A refusal changes nothing: its code.
abbrev pub refuses : Node → Code → Outcome
refuses n code = outcome n None (Refuse code) 1 (in_twenty (code_of code ∷ []))

-- A table of codes: the first row that applies refuses the message; where none does, it comes to `done`.
abbrev pub refusals : Node → List (Row Code) → List (Row Outcome)
refusals n [] = []
refusals n (code when test ∷ rows) = refuses n code when test ∷ refusals n rows

abbrev pub refusing : Node → List (Row Code) → (done : Outcome) → Outcome
refusing n codes done = decide (refusals n codes) done
