use Rattle.std.proofs.Common.{Some, sym, ap, ◌∙◌}
use Rattle.std.specs.Option.{option_copied, option_map}
use Rattle.graphql_values.specs.code.Queries.{argument_value}
use Rattle.graphql_executable.proofs.field.Field.specified_argument_by_name.Goals as goal

pub returns-in_err-argument : goal.returns-in_err-argument
returns-in_err-argument c =
    let found = sym c.specified_argument.ensures ∙ ap option_copied c.in_err-argument.was in
    ap option_copied c.from_residual.ensures ∙ sym (ap (option_map argument_value) found)

pub returns : goal.returns
returns c =
    let found = sym c.specified_argument.ensures ∙ ap option_copied c.in_ok-argument.was in
    ap (λ argument. Some argument.value) c.deref.ensures ∙ sym (ap (option_map argument_value) found)
