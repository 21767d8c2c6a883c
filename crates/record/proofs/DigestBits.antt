-- The bytes of the digest of a record of n bits are those of eight words, and their bits are the words'.
use mathlib.Core.List.{List}
use mathlib.Core.Path.{◌≡◌}
use Prim.Native.Nat.{ℕ, ◌<◌}
use lib.ListN.{length}
use Rattle.block.proofs.StateBytes.{bit_of_state, length_state, state_bytes}
use Rattle.block.specs.BlockWires.{state_wires}
use Rattle.encoding.specs.Bits.{bit_of_bytes}
use Rattle.encoding.specs.Bytes.{Bytes}
use Rattle.sm3.specs.Message.{digest_bytes, digest_of}

module _ (n : ℕ) (r : List ℕ) where
  pub length-digest : length (digest_bytes n r) ≡ 32
  unfolding digest_bytes
  length-digest = length_state _

  pub digest_bytes_lem : Bytes (digest_bytes n r)
  unfolding digest_bytes
  digest_bytes_lem = state_bytes _

  pub bit_of-digest : (k : ℕ) → k < 256 → bit_of_bytes (digest_bytes n r) k ≡ state_wires (digest_of n (bit_of_bytes r)) k
  unfolding digest_bytes
  bit_of-digest = bit_of_state _
