use Rattle.std.proofs.Common.{rules, ◌≡◌, ◌++◌, ◌∷◌, [], false}
use Rattle.std.proofs.Math.Seq.{take-length}
use Rattle.graphql_base.specs.Node.{node_value}
use Rattle.graphql_text.specs.trees.Leaves.{name_tree}
use Rattle.graphql_executable.specs.declared.selection.Selection.TheVariants as variant
use Rattle.graphql_executable.specs.trees.ExecutableTrees.{selection_trees}
use Rattle.graphql_rewrite.specs.FieldRewritings.{has_response}
use Rattle.graphql_rewrite.proofs.FieldsMade.{is_added}
use Rattle.graphql_rewrite.proofs.fields.AddFieldRewriter.selections.Goals as goal

pub returns : goal.returns
returns c =
    let name = c.args.self.now.name.now in
    let value : node_value c.in_ok-field.field ≡ c.new.result = search rules in
    let named : c.new.result.name ≡ name = search rules in
    let none : has_response (name_tree name).text (selection_trees c.args.old.now) ≡ false = search rules in
    let begun : c.in_ok-made.made.items ≡ c.args.old.now = search (take-length, rules) in
    let made : c.push.new.self.items ≡ c.args.old.now ++ variant.Field c.in_ok-field.field ∷ [] = search rules in
    is_added name c.args.old.now c.push.new.self.items c.new.result c.in_ok-field.field value c.new.ensures.alias named c.new.ensures.arguments
    c.new.ensures.directives c.new.ensures.selection_set none made
