-- Numbers as bytes, in both orders, and back.
use Rattle.std.specs.Prelude.{List, ℕ, zero, suc, ◌+◌, ◌-◌, ◌*◌, ◌/◌, ◌%◌, ◌^◌, ◌<◌, ℤ, negsuc, pos, get_or}
use Rattle.encoding.specs.Sequence.{tab}

-- bytes are below 256
abbrev pub Bytes : List ℕ → Type 0
Bytes xs = (k : ℕ) → get_or xs k 0 < 256

-- "least byte first": the n lowest bytes of x
unfoldable pub least_first : ℕ → ℕ → List ℕ
least_first n x = tab n (λ i. x / 256 ^ i % 256)

-- "two's complement": n bytes of a signed number, the least first; `negsuc x` is -(x + 1)
unfoldable pub twos_complement : ℕ → ℤ → List ℕ
twos_complement n (pos x) = least_first n x
twos_complement n (negsuc x) = least_first n (256 ^ n - suc x)

-- the number that n bytes from place k on write, the least first
unfoldable pub from_least_first : ℕ → List ℕ → ℕ → ℕ
from_least_first zero bytes k = 0
from_least_first (suc n) bytes k = get_or bytes k 0 + 256 * from_least_first n bytes (k + 1)

-- "the highest byte .. first": the n lowest bytes of x
unfoldable pub highest_first : ℕ → ℕ → List ℕ
highest_first n x = tab n (λ i. x / 256 ^ (n - 1 - i) % 256)
