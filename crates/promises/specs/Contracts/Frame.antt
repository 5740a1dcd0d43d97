-- The contracts of `frame`: addresses, numbers of two bytes, a bundle read and a frame written.
-- Assumes nothing.
use Rattle.std.specs.Prelude.{◌+◌, ◌-◌, ◌*◌, ◌/◌, ◌%◌, ◌&&◌, [], ◌∷◌, map, leb, eqb, length, get_or, take, drop}
use Rattle.frame.specs.{Reading.{reading_of}, Writing.{writing_of, buffer_after}}
use Rattle.frame.proofs as frame
use Rattle.frame.proofs.address.Address as Address
use Rattle.promises.specs.Contracts.Says.{Says, SaysLent}

pub record FrameContracts : Type 0 where
  -- An address is three bytes as one number, the low byte first.
  pub address_from_bytes_is :
      Says Address.from_bytes.Kinds.ps Address.from_bytes.Kinds.r
      Address.from_bytes.Reads.Pre Address.from_bytes.Reads.Post
      (λ κs (low, (middle, (high, _))). record { 0 = low + 256 * middle + 65536 * high })
  pub address_to_bytes_is :
      Says Address.to_bytes.Kinds.ps Address.to_bytes.Kinds.r Address.to_bytes.Reads.Pre Address.to_bytes.Reads.Post
      (λ κs (address, _). address.0 % 256 ∷ address.0 / 256 % 256 ∷ address.0 / 65536 % 256 ∷ [])
  pub is_node_id_is :
      Says Address.is_node_id.Kinds.ps Address.is_node_id.Kinds.r
      Address.is_node_id.Reads.Pre Address.is_node_id.Reads.Post
      (λ κs (address, _). leb 0x000001 address.0 && leb address.0 0xFFFEFF)
  pub is_group_is :
      Says Address.is_group.Kinds.ps Address.is_group.Kinds.r Address.is_group.Reads.Pre Address.is_group.Reads.Post
      (λ κs (address, _). eqb address.0 0x000000)
  pub is_broadcast_is :
      Says Address.is_broadcast.Kinds.ps Address.is_broadcast.Kinds.r
      Address.is_broadcast.Reads.Pre Address.is_broadcast.Reads.Post
      (λ κs (address, _). eqb address.0 0xFFFFFF)
  -- The low byte first.
  pub word_is :
      Says frame.word.Kinds.ps frame.word.Kinds.r frame.word.Reads.Pre frame.word.Reads.Post
      (λ κs (low, (high, _)). low + 256 * high)
  -- A bundle read; its DATA lies between the first nine bytes and the last two, and is sent inverted.
  pub frame_read_is :
      Says frame.read.Kinds.ps frame.read.Kinds.r frame.read.Reads.Pre frame.read.Reads.Post
      (λ κs (bundle, _). reading_of bundle.now)
  pub data_count_is :
      Says frame.data_count.Kinds.ps frame.data_count.Kinds.r frame.data_count.Reads.Pre frame.data_count.Reads.Post
      (λ κs (bundle, _). length bundle.now - 11)
  pub data_byte_is :
      Says frame.data_byte.Kinds.ps frame.data_byte.Kinds.r frame.data_byte.Reads.Pre frame.data_byte.Reads.Post
      (λ κs (bundle, (index, _)).
      get_or (map (λ byte. 255 - byte) (take (length bundle.now - 11) (drop 9 bundle.now))) index 0)
  -- A frame written into a lent buffer.
  pub frame_write_is :
      SaysLent frame.write.Kinds.ps frame.write.Kinds.r frame.write.Reads.Pre frame.write.Reads.Post
      (λ κs (buffer, (place, (header, (content, _)))). writing_of (length buffer.now) place header content.now)
      (λ κs (buffer, _). buffer.now)
      (λ κs (buffer, (place, (header, (content, _)))). buffer_after buffer.now place header content.now)
