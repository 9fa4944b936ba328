use Rattle.std.proofs.Common.{◌≡◌, ◌++◌, length}
use Rattle.serde_json.specs.Read.{max_depth}
use Rattle.parsed_json.specs.OpenJson.{AreWithin, read_tokens}
use Rattle.parsed_json.proofs.parse.read_text.Given as goal

abbrev pub invariant-loop-token : goal.invariant-loop-token
invariant-loop-token l = (l.initial.reader ≡ read_tokens l.opened.items ++ l.reader) × AreWithin max_depth l.opened.items

abbrev pub decreases-loop-token : goal.decreases-loop-token
decreases-loop-token l = length l.reader
