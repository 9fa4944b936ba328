-- Texts and messages in a caller's buffer.
use Rattle.std.specs.Prelude.{◌≡◌, ℕ, List, ◌++◌, IsUtf8, length, take, drop}
use Rattle.std.specs.Str.Lossy.{utf8_valid_len}

-- The bytes stand at the front of a buffer, all of them, and are so many; behind them nothing has changed.
pub record Holds (old new : List ℕ) (needed : ℕ) (bytes : List ℕ) : Type 0 where
  pub count : needed ≡ length bytes
  pub stand : new ≡ bytes ++ drop (length bytes) old

-- the longest text at the front of some bytes
abbrev pub text_front : List ℕ → List ℕ
text_front bytes = take (utf8_valid_len bytes) bytes

-- of a message what fits, cut on a character
abbrev pub fitting : ℕ → List ℕ → List ℕ
fitting room message = text_front (take room message)

-- A message stands at the front of a buffer, cut to what fits, and is so long as a whole; behind it nothing has changed.
pub record HasMessage (old new : List ℕ) (needed : ℕ) : Type 0 where
  pub message : List ℕ
  pub is_text : IsUtf8 message
  pub count : needed ≡ length message
  pub stand : new ≡ fitting (length old) message ++ drop (length (fitting (length old) message)) old
