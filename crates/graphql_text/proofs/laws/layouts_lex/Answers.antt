use Rattle.graphql_text.specs.layout.Spelling.{tokens_of_items}
use Rattle.graphql_text.proofs.layout.LayoutLexes.{layout_lexes}
use Rattle.graphql_text.proofs.layout.LayoutScalars.{layout_scalars}
use Rattle.graphql_text.proofs.layout.SpellingByParts.{apart_gives}
use Rattle.graphql_text.proofs.laws.layouts_lex.Goals as goal

pub returns-clause-tokens : goal.returns-clause-tokens
returns-clause-tokens c =
    λ mode level items blank apart. layout_lexes mode level items (tokens_of_items items) blank (apart_gives items apart)

pub returns-clause-source : goal.returns-clause-source
returns-clause-source c =
    λ mode level items blank apart. layout_scalars mode level items (tokens_of_items items) blank (apart_gives items apart)
