-- What stands in a caller's buffer.
use Rattle.std.specs.Prelude.{◌≡◌, ℕ, ◌+◌, ◌-◌, ◌^◌, ◌≤◌, min, List, ◌++◌, length, take, drop}

-- a length as it can be told: the greatest number stands for all above it too
abbrev pub told_length : ℕ → ℕ
told_length n = min n (2 ^ 64 - 1)

-- The bytes stand behind the first `n` ones of a buffer, and behind them what stood there before.
pub record Stand (a : List ℕ) (n : ℕ) (bytes : List ℕ) (b : List ℕ) (m : ℕ) : Type 0 where
  pub count : m ≡ n + length bytes
  pub front : take m b ≡ take n a ++ bytes
  pub rest : drop m b ≡ drop m a

-- Bytes went to a buffer behind the first `n` ones. All are counted, and stand there if they fit.
pub record WentTo (a : List ℕ) (n : ℕ) (bytes : List ℕ) (b : List ℕ) (m : ℕ) : Type 0 where
  pub same_size : length b ≡ length a
  pub counted : m ≡ told_length (n + length bytes)
  pub fits : n + length bytes ≤ length a → Stand a n bytes b m
