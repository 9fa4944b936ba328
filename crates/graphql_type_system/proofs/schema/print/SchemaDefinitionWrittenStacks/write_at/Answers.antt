use Rattle.std.proofs.Common.{[], ◌∷◌, arith, codes, refl}
use Rattle.graphql_text.specs.layout.Layout.{Word}
use Rattle.graphql_text.specs.lexical.Tokens.{Name}
use Rattle.graphql_text.specs.trees.Leaves.{node_trees}
use Rattle.graphql_values.specs.code.Stacks.{CanWriteDefinition}
use Rattle.graphql_type_system.specs.trees.TypeSystemTrees.{root_operation_tree}
use Rattle.graphql_type_system.proofs.CanWriteWithoutTypes.{can_write_no_lists}
use Rattle.graphql_text.proofs.code.WritingSteps.{writes_then}
use Rattle.graphql_type_system.proofs.schema.print.SchemaDefinitionWrittenStacks.write_at.Goals as goal

pub write_required_members-requires : goal.write_required_members-requires
write_required_members-requires g c =
    let kept = c.write_at.ensures.kept in
    let ready : CanWriteDefinition c.args.place.now _ _ 0 = record {
      fits = omega (arith, c.requires.fits);
      values = record { entries = kept.entries; room = omega (arith, c.requires.values.room, kept.room) };
      types = c.requires.types;
    } in
    λ k. ((refl, tt), rw c.deref.ensures.value (can_write_no_lists (node_trees root_operation_tree c.args.self.now.root_operations.items) ready))

pub returns-clause-written : goal.returns-clause-written
returns-clause-written g c =
    let more = g.met.O.Target.more in
    let description = rw c.as_ref.ensures.value at c.write_leading_description.ensures in
    let keyword = c.write_words.ensures.items _ _ (Word (Name (codes "schema")) ∷ []) refl in
    let members = rw c.deref.ensures.value at c.write_required_members.ensures.written in
    writes_then more description (writes_then more keyword (writes_then more c.write_at.ensures.written members))
