-- The bytes that wait in a buffer.
use Rattle.std.specs.Prelude.{ℕ, List, ◌++◌, string_bytes, take}
use Rattle.graphql_text.specs.declared.buffer.Buffer.{Buffer}
use Rattle.graphql_text.specs.declared.target.ToText.{ToText}

abbrev pub waiting_bytes : Buffer → List ℕ
waiting_bytes buffer = take buffer.used buffer.bytes

-- all that was written to a text: what it holds, and what waits
abbrev pub written_bytes : ToText → List ℕ
written_bytes out = string_bytes out.text ++ waiting_bytes out.buffer
