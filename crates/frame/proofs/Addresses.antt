-- An address and its three bytes undo each other.
-- Assumes nothing.
use Prim.Native.Nat.{ℕ, ◌/◌, ◌%◌, ◌≤◌, ◌<◌}
use native.Mathlib.Omega.{arith}
use mathlib.Core.Path.{◌≡◌, ap}
use mathlib.Core.List.{[], ◌∷◌}
use lib.ListN.{get_or}
use Rattle.frame.specs.Address.{address, address_of, bytes_of}
use Rattle.frame.specs.declared.address.Address.{Address}

pub address_of_its_bytes : (a : Address) → a.0 ≤ 0xFFFFFF → address_of (get_or (bytes_of a) 0 0) (get_or (bytes_of a) 1 0) (get_or (bytes_of a) 2 0) ≡ a
address_of_its_bytes a h = ap address (omega arith)

module _ (low middle high : ℕ) (l : low < 256) (m : middle < 256) (h : high < 256) where
  pub bytes_spell_an_address : (address_of low middle high).0 ≤ 0xFFFFFF
  bytes_spell_an_address = omega arith

  pub low_byte : (address_of low middle high).0 % 256 ≡ low
  low_byte = omega arith

  pub middle_byte : (address_of low middle high).0 / 256 % 256 ≡ middle
  middle_byte = omega arith

  pub high_byte : (address_of low middle high).0 / 65536 % 256 ≡ high
  high_byte = omega arith

  pub bytes_of_their_address : bytes_of (address_of low middle high) ≡ low ∷ middle ∷ high ∷ []
  bytes_of_their_address = rw (low_byte, middle_byte, high_byte)
