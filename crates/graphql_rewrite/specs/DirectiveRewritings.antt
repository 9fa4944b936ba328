-- What is made of lists of directives where those of one name are left out.
use Rattle.std.specs.Prelude.{ℕ, List, not, filter}
use Rattle.graphql_values.specs.kinds.Directives.{DirectiveTree}
use Rattle.graphql_rewrite.specs.FieldRewritings.{is_text}
use Rattle.graphql_rewrite.specs.Rewritings.{Rewriting, unchanged}

-- the directives of other names, in order
abbrev pub without_directive : List ℕ → List DirectiveTree → List DirectiveTree
without_directive text = filter (λ directive. not (is_text text directive.name))

abbrev pub removing_directive : List ℕ → Rewriting
removing_directive text = record unchanged { directives = without_directive text }
