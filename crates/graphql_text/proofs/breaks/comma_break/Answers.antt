use Rattle.std.proofs.Common.{[], ◌∷◌, arith}
use Rattle.std.proofs.lemmas.Str.{encode_ascii}
use Rattle.graphql_text.proofs.breaks.comma_break.Goals as goal

pub returns : goal.returns
returns g c = rw (encode_ascii 10 (omega arith)) (g.met.O.Target.more _ _ _ (44 ∷ 10 ∷ []) _ c.text.ensures c.indent.ensures)
