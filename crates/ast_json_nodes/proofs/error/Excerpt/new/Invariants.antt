use Rattle.std.proofs.Common.{◌≡◌, ℕ, ◌≤◌, ◌++◌, length, string_bytes}
use Rattle.std.specs.Str.{chars, IsUtf8}
use Rattle.std.specs.Str.Iter.{chars_rest}
use Rattle.ast_json_nodes.proofs.error.Excerpt.new.Given as goal

abbrev pub invariant-loop-character : goal.invariant-loop-character
invariant-loop-character l =
    IsUtf8 (chars_rest l.character-iterator) × (chars l.found ≡ chars (string_bytes l.text) ++ chars (chars_rest l.character-iterator))
    × (length (chars (string_bytes l.text)) ≡ l.count) × (l.count ≤ 60)
