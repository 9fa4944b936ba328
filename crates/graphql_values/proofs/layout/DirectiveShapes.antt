-- What is written of arguments and directives raises the level as often as it lowers it.
use Rattle.std.proofs.Common.{◌≡◌, List, false, map, refl}
use Rattle.graphql_text.specs.layout.Layout.{comma_group, lowers, raises}
use Rattle.graphql_text.specs.lexical.Tokens.{lparen, rparen}
use Rattle.graphql_text.proofs.parts.Parts.{part_balanced}
use Rattle.graphql_text.proofs.parts.ToldShapes.{row_of, told_balanced, told_comma_group}
use Rattle.graphql_values.specs.kinds.Arguments.{ArgumentTree, argument_items}
use Rattle.graphql_values.specs.kinds.Directives.{DirectiveTree, directives_shape}
use Rattle.graphql_values.specs.kinds.Values.{NonConst}
use Rattle.graphql_values.specs.lemmas.Directives.{argument_items_part, directives_part}

-- the group of the arguments, before it is set on one line
pub group_balanced : (arguments : List ArgumentTree) →
    raises (comma_group lparen rparen false (map argument_items arguments))
    ≡ lowers (comma_group lparen rparen false (map argument_items arguments))
group_balanced arguments =
    let p = argument_items_part NonConst in
    told_balanced (told_comma_group lparen rparen false refl refl refl (row_of (p.told false) arguments))

pub directives_balanced : (directives : List DirectiveTree) → raises (directives_shape directives) ≡ lowers (directives_shape directives)
directives_balanced = part_balanced (directives_part NonConst) false
