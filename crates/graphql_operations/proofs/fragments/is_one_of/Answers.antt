use Rattle.std.proofs.Common.{ap, sym, ◌∙◌}
use Rattle.std.specs.Prelude.{nat_eq}
use Rattle.std.specs.Cmp.Lexicographic.{pointwise}
use Rattle.std.specs.List.{list_any}
use Rattle.graphql_base.specs.Name.{name_text}
use Rattle.graphql_values.specs.code.Queries.{is_named}
use Rattle.graphql_operations.proofs.Reached.{any_name}
use Rattle.graphql_operations.proofs.fragments.is_one_of.Goals as goal

pub returns : goal.returns
returns c =
    c.has_text.ensures ∙ ap (λ text. list_any (is_named text) c.args.names.now) c.as_str.ensures.text
    ∙ sym (any_name (λ other. pointwise nat_eq other.text (name_text c.args.name.now)) c.args.names.now)
