-- A hash of the bytes of a name (FNV-1a, 64 bits). Nothing is asked of it but that it is one number
-- for each name: names whose hashes differ are apart.
use Rattle.std.specs.Prelude.{ℕ, ◌*◌, ◌%◌, ◌^◌, List, fold, bit_xor}

-- the hash of one byte more
abbrev pub hash_step : ℕ → ℕ → ℕ
hash_step hash b = (bit_xor hash b * 0x100000001B3) % 2 ^ 64

-- the hash of the bytes
abbrev pub hash_of : List ℕ → ℕ
hash_of bytes = fold hash_step 0xCBF29CE484222325 bytes
