-- The parts of the format: whole pages, lists filled up with zeros, and the private area. This project's own.
use Rattle.std.specs.Prelude.{ℕ, ◌+◌, ◌-◌, ◌*◌, ◌/◌, List, ◌++◌, length, replicate}

-- a number raised to a multiple of 4,096
abbrev pub up : ℕ → ℕ
up n = (n + 4095) / 4096 * 4096

-- a list with zeros behind it up to a length
abbrev pub filled : ℕ → List ℕ → List ℕ
filled n xs = xs ++ replicate (n - length xs) 0

-- the length of the private area with its counters
abbrev pub private_len : ℕ → ℕ
private_len counters = 64 + 8 * counters
