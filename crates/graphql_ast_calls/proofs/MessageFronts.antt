-- What of a message stands in a buffer.
use Rattle.std.proofs.Common.{◌≡◌, ℕ, ◌≤◌, min, IsUtf8, List, ◌++◌, length, take, drop, refl, ap, ◌∙◌, arith}
use Rattle.std.proofs.lemmas.Grind.{common_steps}
use Rattle.std.proofs.lemmas.Str.{utf8_valid_len_le, utf8_valid_len-IsUtf8}
use Rattle.std.proofs.Math.Seq.{take-length}
use Rattle.graphql_ast_calls.specs.Messages.{HasMessage, fitting, text_front}

pub whole_text : (bytes : List ℕ) → IsUtf8 bytes → text_front bytes ≡ bytes
whole_text bytes h = ap (λ n. take n bytes) (utf8_valid_len-IsUtf8 bytes h) ∙ take-length bytes

pub front_len : (bytes : List ℕ) → length (text_front bytes) ≤ length bytes
front_len bytes = grind (arith, common_steps, utf8_valid_len_le bytes)

pub take_least : (n : ℕ) (xs : List ℕ) → take (min (length xs) n) xs ≡ take n xs
take_least n xs = grind (arith, common_steps)

pub has_message : (old message front : List ℕ) (room : ℕ) → IsUtf8 message → room ≡ min (length message) (length old) →
    front ≡ text_front (take room message) → HasMessage old (front ++ drop (length front) old) (length message)
has_message old message front room utf8 e f =
    let same : front ≡ fitting (length old) message = f ∙ ap (λ n. text_front (take n message)) e ∙ ap text_front (take_least (length old) message) in
    record { message = message; is_text = utf8; count = refl; stand = ap (λ l. l ++ drop (length l) old) same }
