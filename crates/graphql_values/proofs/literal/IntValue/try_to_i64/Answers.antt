use Rattle.std.proofs.Common.{subst}
use Rattle.std.specs.Str.Parse.{ParsesSigned}
use Rattle.std.specs.Int.{w64}
use Rattle.graphql_values.proofs.code.DecimalNumerals.{int_numeral}
use Rattle.graphql_values.proofs.general.ResultFacts.{without_premise}
use Rattle.graphql_values.proofs.literal.IntValue.try_to_i64.Goals as goal

pub returns : goal.returns
returns c =
    without_premise _ _ c.parse.result _ (int_numeral c.args.self.now.numeral c.args.self.now.valid)
    (subst (λ t. ParsesSigned w64 10 t c.parse.result) c.as_str.ensures.text c.parse.ensures.value.0)
