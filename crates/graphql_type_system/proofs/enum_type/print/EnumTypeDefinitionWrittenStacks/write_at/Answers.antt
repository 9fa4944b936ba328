use Rattle.std.proofs.Common.{[], ◌∷◌, codes, refl}
use Rattle.graphql_text.specs.layout.Layout.{Space, Word}
use Rattle.graphql_text.specs.lexical.Tokens.{Name}
use Rattle.graphql_text.specs.trees.Leaves.{node_trees}
use Rattle.graphql_type_system.specs.trees.TypeSystemTrees.{enum_value_definition_tree}
use Rattle.graphql_type_system.proofs.CanWriteWithoutTypes.{can_write_no_lists}
use Rattle.graphql_text.proofs.code.WritingSteps.{writes_then}
use Rattle.graphql_type_system.specs.kinds.BracedTypes.{braced_type_shape}
use Rattle.graphql_type_system.proofs.enum_type.print.EnumTypeDefinitionWrittenStacks.write_at.Goals as goal

pub write_directives_and_members-requires : goal.write_directives_and_members-requires
write_directives_and_members-requires g c =
    λ k. ((refl, tt), rw c.deref.ensures.value (can_write_no_lists (node_trees enum_value_definition_tree c.args.self.now.values.items) c.requires))

pub returns-clause-written : goal.returns-clause-written
unfolding braced_type_shape
returns-clause-written g c =
    let more = g.met.O.Target.more in
    let description = rw c.as_ref.ensures.value at c.write_leading_description.ensures in
    let keyword = c.write_words.ensures.items _ _ (Word (Name (codes "enum")) ∷ Space ∷ []) refl in
    let members = rw c.deref.ensures.value at c.write_directives_and_members.ensures.written in
    writes_then more description (writes_then more keyword (writes_then more (c.write_name.ensures _ _) members))
