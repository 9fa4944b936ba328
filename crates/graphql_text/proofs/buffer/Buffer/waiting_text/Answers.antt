use Rattle.std.proofs.lemmas.Str.{IsUtf8-had}
use Rattle.graphql_text.proofs.buffer.Buffer.waiting_text.Goals as goal

pub from_utf8_unchecked-requires : goal.from_utf8_unchecked-requires
from_utf8_unchecked-requires c = rw c.waiting.ensures (IsUtf8-had _ c.args.self.now.utf8)
