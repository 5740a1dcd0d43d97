-- Is the frame for this node? (document 01): the four conditions, by the bundle's bytes.
-- Assumes nothing.
use Rattle.std.specs.Prelude.{ℕ, ◌≡◌, ◌≢◌, ◌⊎◌, List, [], ◌∷◌}
use Rattle.meaning.specs.Membership.{IsOneOf}
use Rattle.board.specs.declared.whole.Node.{Node}
use Rattle.promises.specs.Wire.{message, source, destination, receiver}
use Rattle.promises.specs.Groups.{Groups, IsMember}

-- The replies.
abbrev pub replies : List ℕ
replies =
    0x0D ∷ 0x0F ∷ 0x33 ∷ 0x35 ∷ 0x36 ∷ 0x37 ∷ 0x60 ∷ 0x61 ∷ 0x65 ∷ 0x6C ∷ 0x6F ∷ 0x71 ∷ 0x75 ∷ 0x7F ∷ []

pub record Meant (n : Node) (g : Groups) (b : List ℕ) : Type 0 where
  pub to_this_node_or_all_or_its_group :
      (destination b ≡ n.settings.id.0)
      ⊎ ((destination b ≡ 0xFFFFFF) ⊎ ((destination b ≡ 0x000000) × IsMember (source b) g))
  pub from_a_sender : (source b ≢ 0x000000) × (source b ≢ 0xFFFFFF)
  pub to_any_type_or_its_own : (receiver b ≡ 0) ⊎ (receiver b ≡ n.settings.kind)
  pub no_reply_lem : ¬ IsOneOf (message b) replies
