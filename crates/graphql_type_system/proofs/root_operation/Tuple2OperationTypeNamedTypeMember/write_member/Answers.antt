use Rattle.std.proofs.Common.{[], ◌∷◌, ◌∙◌, Some, ap, refl, sym}
use Rattle.graphql_text.specs.layout.Layout.{Space, Word}
use Rattle.graphql_text.specs.lexical.Tokens.{colon, Name, Punctuation}
use Rattle.graphql_text.proofs.code.WritingSteps.{writes_then}
use Rattle.graphql_values.specs.trees.LocationTrees.{operation_type_tree}
use Rattle.graphql_values.specs.kinds.OperationTypes.{operation_type_name}
use Rattle.graphql_values.specs.lemmas.OperationTypes.{operation_type_fixed}
use Rattle.graphql_type_system.proofs.root_operation.Tuple2OperationTypeNamedTypeMember.write_member.Goals as goal

pub returns-clause-written : goal.returns-clause-written
returns-clause-written g c =
    let more = g.met.O.Target.more in
    let type = operation_type_tree c.args.self.now.0 in
    let operation_type =
    c.write_words.ensures.items _ _ (Word (Name (operation_type_name type)) ∷ [])
    (operation_type_fixed type ∙ ap Some (sym c.name.ensures)) in
    let colon_and_space = c.write_words-2.ensures.items _ _ (Word (Punctuation colon) ∷ Space ∷ []) refl in
    writes_then more operation_type (writes_then more colon_and_space (c.write_name.ensures _ _))
