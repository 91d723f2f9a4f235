-- A number of k bytes at a place of a list of bytes, low byte first: read, and written. Need not be believed: `proofs/Numbers` shows that what is written
-- is read back, and which bytes stay.
use Rattle.std.specs.Prelude.{ℕ, zero, suc, ◌+◌, ◌*◌, ◌/◌, ◌%◌, ◌^◌, List, get_or, set}

-- the number that stands in the k bytes from at on
unfoldable pub get_w : ℕ → List ℕ → ℕ → ℕ
get_w zero b at = 0
get_w (suc k) b at = get_or b (at + k) 0 * 256 ^ k + get_w k b at

-- b with the k low bytes of v from at on; all else stays
unfoldable pub put_w : ℕ → List ℕ → ℕ → ℕ → List ℕ
put_w zero b at v = b
put_w (suc k) b at v = set (put_w k b at v) (at + k) (v / 256 ^ k % 256)
