-- Every public contract of the crate is determined, what stands in the lent buffer included.
-- Assumes nothing.
use mathlib.Core.Path.{◌∙◌, sym}
use Rattle.meaning.specs.Determined.{Once, OnceLent}
use Rattle.frame.proofs.address.Address.from_bytes.Kinds as from_bytes_kinds
use Rattle.frame.proofs.address.Address.from_bytes.Reads as from_bytes
use Rattle.frame.proofs.address.Address.to_bytes.Kinds as to_bytes_kinds
use Rattle.frame.proofs.address.Address.to_bytes.Reads as to_bytes
use Rattle.frame.proofs.address.Address.is_group.Kinds as is_group_kinds
use Rattle.frame.proofs.address.Address.is_group.Reads as is_group
use Rattle.frame.proofs.address.Address.is_broadcast.Kinds as is_broadcast_kinds
use Rattle.frame.proofs.address.Address.is_broadcast.Reads as is_broadcast
use Rattle.frame.proofs.address.Address.is_node_id.Kinds as is_node_id_kinds
use Rattle.frame.proofs.address.Address.is_node_id.Reads as is_node_id
use Rattle.frame.proofs.words.word.Kinds as word_kinds
use Rattle.frame.proofs.words.word.Reads as word
use Rattle.frame.proofs.reading.read.Kinds as read_kinds
use Rattle.frame.proofs.reading.read.Reads as read
use Rattle.frame.proofs.reading.data_count.Kinds as data_count_kinds
use Rattle.frame.proofs.reading.data_count.Reads as data_count_lem
use Rattle.frame.proofs.reading.data_byte.Kinds as data_byte_kinds
use Rattle.frame.proofs.reading.data_byte.Reads as data_byte
use Rattle.frame.proofs.writing.write.Kinds as write_kinds
use Rattle.frame.proofs.writing.write.Reads as write

pub record Determined : Type 0 where
  pub from_bytes_once : Once from_bytes_kinds.ps from_bytes_kinds.r from_bytes.Post
  pub to_bytes_once : Once to_bytes_kinds.ps to_bytes_kinds.r to_bytes.Post
  pub is_group_once : Once is_group_kinds.ps is_group_kinds.r is_group.Post
  pub is_broadcast_once : Once is_broadcast_kinds.ps is_broadcast_kinds.r is_broadcast.Post
  pub is_node_id_once : Once is_node_id_kinds.ps is_node_id_kinds.r is_node_id.Post
  pub word_once : Once word_kinds.ps word_kinds.r word.Post
  pub read_once : Once read_kinds.ps read_kinds.r read.Post
  pub data_count_once : Once data_count_kinds.ps data_count_kinds.r data_count_lem.Post
  pub data_byte_once : Once data_byte_kinds.ps data_byte_kinds.r data_byte.Post
  pub write_once : OnceLent write_kinds.ps write_kinds.r write.Post (λ κs s. s.0.now)

pub determined : Determined
determined =
    record {
      from_bytes_once = λ κs a x y s t p q. p ∙ sym q;
      to_bytes_once = λ κs a x y s t p q. p ∙ sym q;
      is_group_once = λ κs a x y s t p q. p ∙ sym q;
      is_broadcast_once = λ κs a x y s t p q. p ∙ sym q;
      is_node_id_once = λ κs a x y s t p q. p ∙ sym q;
      word_once = λ κs a x y s t p q. p ∙ sym q;
      read_once = λ κs a x y s t p q. p ∙ sym q;
      data_count_once = λ κs a x y s t p q. p ∙ sym q;
      data_byte_once = λ κs a x y s t p q. p ∙ sym q;
      write_once = λ κs a x y s t p q. (p.0 ∙ sym q.0, p.1 ∙ sym q.1);
    }
