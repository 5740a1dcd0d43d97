-- Is the frame for this node? (document 01)
-- Assumes nothing.
use Rattle.std.specs.Prelude.{ℕ, ◌≡◌, ◌≢◌, ◌⊎◌, Bool, not, ◌&&◌, ◌||◌, List, [], ◌∷◌, eqb}
use Rattle.meaning.specs.Membership.{is_in, IsOneOf}
use Rattle.frame.specs.Address.{group, broadcast}
use Rattle.frame.specs.declared.address.Address.{Address}
use Rattle.frame.specs.declared.header.Header.{Header}
use Rattle.board.specs.declared.settings.Settings.{Settings}
use Rattle.board.specs.Groups.{Groups, in_table, Member}

-- DEST is the NodeID; or DEST is FFFFFFh (broadcast); or DEST is 000000h and SOURCE is in the group table.
abbrev pub reaches : (id : Address) → Groups → (source destination : Address) → Bool
reaches id groups source destination =
    eqb destination.0 id.0
    || (eqb destination.0 broadcast.0
    || (eqb destination.0 group.0 && in_table source groups))

-- SOURCE is neither 000000h nor FFFFFFh.
abbrev pub is_sender : Address → Bool
is_sender source = not (eqb source.0 0x000000) && not (eqb source.0 0xFFFFFF)

-- The receiver's type is 0 or the node's type.
abbrev pub suits : (kind receiver : ℕ) → Bool
suits kind receiver = eqb receiver 0 || eqb receiver kind

-- MSG is not a reply.
abbrev pub replies : List ℕ
replies =
    0x0D ∷ 0x0F ∷ 0x33 ∷ 0x35 ∷ 0x36 ∷ 0x37 ∷ 0x60 ∷ 0x61 ∷ 0x65 ∷ 0x6C ∷ 0x6F ∷ 0x71 ∷ 0x75 ∷ 0x7F ∷ []

abbrev pub is_reply : ℕ → Bool
is_reply m = is_in m replies

-- The frame passes when all hold.
unfoldable pub meant : Settings → Groups → Header → Bool
meant s g h =
    reaches s.id g h.source h.destination
    && (is_sender h.source
    && (suits s.kind h.receiver
    && not (is_reply h.message)))

-- The four conditions in the paper's words.
pub record Meant (s : Settings) (g : Groups) (h : Header) : Type 0 where
  pub for_this_node :
      (h.destination.0 ≡ s.id.0) ⊎ ((h.destination.0 ≡ broadcast.0) ⊎ ((h.destination.0 ≡ group.0) × Member h.source g))
  pub from_a_sender : (h.source.0 ≢ 0x000000) × (h.source.0 ≢ 0xFFFFFF)
  pub of_its_type : (h.receiver ≡ 0) ⊎ (h.receiver ≡ s.kind)
  pub no_reply_lem : ¬ IsOneOf h.message replies
