use Rattle.std.proofs.Common.{refl}
use Rattle.std.specs.Str.{chars}
use Rattle.graphql_text.proofs.engine.Serialize.new.Goals as goal

pub returns : goal.returns
unfolding chars
returns g c = record { tree = refl; mode = refl; level = refl }
