-- What a caller's limit changes in the answers of `pack` and `unpack`, and what it does not (document 02, request 8).
use Rattle.std.specs.Prelude.{List, ℕ, length, Err}
use Rattle.limits.specs.Limited.{Limited}
use Rattle.packing.specs.Pack.{pack_answer, pack_left}
use Rattle.packing.specs.Unpack.{unpack_answer, unpack_left}

pub record PackingLimited : Type 0 where
  pub pack : (n : ℕ) (a out : List ℕ)
      → Limited Err n (Unit {0}) (λ l. pack_answer l n a (length out)) (λ l. pack_left (pack_answer l n a (length out)) n a out)
  pub unpack : (n : ℕ) (p out : List ℕ)
      → Limited Err n (Unit {0}) (λ l. unpack_answer l n p (length out)) (λ l. unpack_left (unpack_answer l n p (length out)) n p out)
