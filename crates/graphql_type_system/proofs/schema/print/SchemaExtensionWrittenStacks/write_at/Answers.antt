use Rattle.std.proofs.Common.{[], ◌∷◌, codes, refl}
use Rattle.graphql_text.specs.layout.Layout.{Space, Word}
use Rattle.graphql_text.specs.lexical.Tokens.{Name}
use Rattle.graphql_text.specs.trees.Leaves.{node_trees}
use Rattle.graphql_type_system.specs.trees.TypeSystemTrees.{root_operation_tree}
use Rattle.graphql_type_system.proofs.CanWriteWithoutTypes.{can_write_no_lists}
use Rattle.graphql_text.proofs.code.WritingSteps.{writes_then}
use Rattle.graphql_type_system.proofs.schema.print.SchemaExtensionWrittenStacks.write_at.Goals as goal

pub write_directives_and_members-requires : goal.write_directives_and_members-requires
write_directives_and_members-requires g c =
    λ k. ((refl, tt), rw c.deref.ensures.value (can_write_no_lists (node_trees root_operation_tree c.args.self.now.root_operations.items) c.requires))

pub returns-clause-written : goal.returns-clause-written
returns-clause-written g c =
    let more = g.met.O.Target.more in
    let keyword = c.write_words.ensures.items _ _ (Word (Name (codes "extend")) ∷ Space ∷ Word (Name (codes "schema")) ∷ []) refl in
    let members = rw c.deref.ensures.value at c.write_directives_and_members.ensures.written in
    writes_then more keyword members
