-- Whether a frame is meant for a node, by the bundle's bytes and by the header that is read from them; and what then becomes of it.
-- Assumes nothing.
use Prim.Native.Nat.{ℕ}
use mathlib.Core.Path.{◌≡◌}
use mathlib.Core.Logic.{◌⊎◌, inl, inr}
use mathlib.Core.List.{List}
use Rattle.frame.specs.Layout.{message, source, header_of, data_of}
use Rattle.frame.specs.Reading.{reading_of}
use Rattle.frame.specs.declared.address.Address.{Address}
use Rattle.frame.proofs.Frames.{frame_exactly_when}
use Rattle.board.specs.Groups.{Member}
use Rattle.board.specs.declared.whole.Node.{Node}
use Rattle.messages.specs.Table.{outcome_of}
use Rattle.node.specs.Frames.{turn_of}
use Rattle.node.specs.Meant as node
use Rattle.node.specs.Replies.{answered}
use Rattle.node.proofs.Laws.{meant_is_carried_out, not_meant_is_silent}
use Rattle.promises.specs.Numbers.{read_number}
use Rattle.promises.specs.BoardInRange.{BoardInRange}
use Rattle.promises.specs.Groups.{Groups, IsMember}
use Rattle.promises.specs.Meant.{Meant}
use Rattle.promises.specs.Reply.{ignored}
use Rattle.promises.proofs.BoardInRange.{is_sound_lem}

module _ (source : Address) (g : Groups) where
  pub as_entry : IsMember source.0 g → Member source g
  as_entry m = record { index = m.index; in_table_lem = m.in_the_table; not_empty = m.not_empty; is_source = m.is_source }

  pub is_member : Member source g → IsMember source.0 g
  is_member m = record { index = m.index; in_the_table = m.in_table_lem; not_empty = m.not_empty; is_source = m.is_source }

-- The third of three ways, told in other words.
by_group : {id all group member entry : Type 0} → (member → entry) → id ⊎ (all ⊎ (group × member)) → id ⊎ (all ⊎ (group × entry))
by_group f (inl id) = inl id
by_group f (inr (inl all)) = inr (inl all)
by_group f (inr (inr (group, m))) = inr (inr (group, f m))

module _ (n : Node) (g : Groups) (b : List ℕ) where
  pub by_its_header : Meant n g b → node.Meant n.settings g (header_of b)
  by_its_header m =
      record {
        for_this_node = by_group (as_entry (source b) g) m.to_this_node_or_all_or_its_group;
        from_a_sender = m.from_a_sender;
        of_its_type = m.to_any_type_or_its_own;
        no_reply_lem = m.no_reply_lem;
      }

  pub by_its_bytes : node.Meant n.settings g (header_of b) → Meant n g b
  by_its_bytes m =
      record {
        to_this_node_or_all_or_its_group = by_group (is_member (source b) g) m.for_this_node;
        from_a_sender = m.from_a_sender;
        to_any_type_or_its_own = m.of_its_type;
        no_reply_lem = m.no_reply_lem;
      }

module _ (n : Node) (g : Groups) (b : List ℕ) (s : BoardInRange n) (f : read_number (reading_of b) ≡ 0) where
  pub carried_out : Meant n g b → turn_of n g b ≡ answered n.settings (header_of b) (outcome_of n g (source b) (message b) (data_of b))
  carried_out m = meant_is_carried_out n g b (is_sound_lem n s) ((frame_exactly_when b).1 f) (by_its_header n g b m)

  pub passed_over : ¬ Meant n g b → turn_of n g b ≡ ignored n
  passed_over m = not_meant_is_silent n g b (is_sound_lem n s) ((frame_exactly_when b).1 f) (λ k. m (by_its_bytes n g b k))
