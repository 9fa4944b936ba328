use Rattle.std.proofs.Common.{◌≡◌, ℕ, ap, subst, sym, ◌∙◌}
use Rattle.graphql_ast.specs.Values.{value_kind}
use Rattle.graphql_ast_json.specs.kinds.ValueJson.{IsValue}
use Rattle.graphql_ast_calls.specs.Answers.{PrintAnswer, mode_of, reading}
use Rattle.graphql_ast_calls.specs.Statuses.{status_code, status_of}
use Rattle.graphql_ast_calls.specs.declared.status.Status.{Status}
use Rattle.graphql_ast_c.proofs.graphql_ast_print_value_json.Goals as goal

pub returns-clause-answer : goal.returns-clause-answer
returns-clause-answer c =
    subst (λ (status : Status). PrintAnswer value_kind (IsValue (reading c.args.pass_over)) c.args.json.now
    (mode_of c.args.broken c.args.prefix.now) c.args.level
    c.args.out.now c.print_value_json.new.out c.print_value_json.new.needed status) (sym c.code.ensures.back) c.print_value_json.ensures.answer

pub returns-clause-done : goal.returns-clause-done
returns-clause-done c e =
    subst (λ (code : ℕ). PrintAnswer value_kind (IsValue (reading c.args.pass_over)) c.args.json.now
    (mode_of c.args.broken c.args.prefix.now) c.args.level
    c.args.out.now c.print_value_json.new.out c.print_value_json.new.needed (status_of code)) e (returns-clause-answer c)

pub returns-clause-prefix : goal.returns-clause-prefix
returns-clause-prefix c = (
  λ e. c.print_value_json.ensures.prefix.0 (sym c.code.ensures.back ∙ ap status_of e),
  λ wrong. c.code.ensures.number ∙ ap status_code (c.print_value_json.ensures.prefix.1 wrong),
)
