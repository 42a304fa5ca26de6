-- Where the one-bits of two masks stand that share the positions between them: two runs of p positions each,
-- and above the runs every other position.
use Rattle.std.specs.Prelude.{ℕ, zero, suc, ◌+◌, ◌-◌, ◌*◌, ◌%◌, ◌^◌, cond, bit_or, nat_lt}

-- the k-th column position, lowest first: 0 to p - 1, and then 2p, 2p + 2 and so on
abbrev pub column_position : ℕ → ℕ → ℕ
column_position p k = cond (nat_lt k p) k (2 * p + 2 * (k - p))

-- the k-th row position, lowest first: p to 2p - 1, and then 2p + 1, 2p + 3 and so on
abbrev pub row_position : ℕ → ℕ → ℕ
row_position p k = cond (nat_lt k p) (p + k) (2 * p + 1 + 2 * (k - p))

-- the mask whose w one-bits stand at the first w positions
unfoldable pub mask_at : (ℕ → ℕ) → ℕ → ℕ
mask_at position zero = 0
mask_at position (suc w) = mask_at position w + 2 ^ position w

-- the columns' positions, all that 32 bits have, as shifts make them
abbrev pub column_full : ℕ → ℕ
column_full p = bit_or ((1 * 2 ^ p) % 2 ^ 32 - 1) ((0x5555_5555 * 2 ^ (2 * p)) % 2 ^ 32)

-- the rows' positions, all that 32 bits have, as shifts make them
abbrev pub row_full : ℕ → ℕ
row_full p = bit_or ((((1 * 2 ^ p) % 2 ^ 32 - 1) * 2 ^ p) % 2 ^ 32) ((0xaaaa_aaaa * 2 ^ (2 * p)) % 2 ^ 32)
