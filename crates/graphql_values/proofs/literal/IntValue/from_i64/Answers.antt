use Rattle.std.proofs.Common.{IsTrue, arith, sym, subst, ap, ◌∙◌, ◌≡◌}
use Rattle.std.specs.Fmt.{signed_decimal}
use Rattle.std.specs.Int.{w64}
use Rattle.std.specs.Str.Parse.{signed_digits_value}
use Rattle.std.proofs.lemmas.Int.{to_z-of_z}
use Rattle.graphql_text.specs.lexical.Literals.{is_int}
use Rattle.graphql_values.proofs.code.DecimalNumerals.{decimal_int, decimal_number}
use Rattle.graphql_values.proofs.literal.IntValue.from_i64.Goals as goal

pub invariant_of-result : goal.invariant_of-result
invariant_of-result c =
    let written = c.in_ok-new.ensures.text ∙ c.format.ensures.text ∙ ap signed_decimal (to_z-of_z w64 c.args.number c.ranges.number) in
    record { valid = subst (λ text. IsTrue (is_int text)) (sym written) (decimal_int c.args.number (omega (arith, c.ranges.number.sfits))) }

pub returns-clause-number : goal.returns-clause-number
returns-clause-number c =
    let written = c.in_ok-new.ensures.text ∙ c.format.ensures.text ∙ ap signed_decimal (to_z-of_z w64 c.args.number c.ranges.number) in
    subst (λ text. signed_digits_value 10 text ≡ c.args.number) (sym written) (decimal_number c.args.number (omega (arith, c.ranges.number.sfits)))
