use Rattle.graphql_ast.proofs.definition.print.DefinitionSyntax.write.Goals as goal

pub returns-in-ObjectTypeDefinition-clause-ok : goal.returns-in-ObjectTypeDefinition-clause-ok
returns-in-ObjectTypeDefinition-clause-ok g c =
    rw c.in-ObjectTypeDefinition.is (rw c.deref-in-ObjectTypeDefinition.ensures at c.write-in-ObjectTypeDefinition.ensures.ok)

pub returns-in-InterfaceTypeDefinition-clause-ok : goal.returns-in-InterfaceTypeDefinition-clause-ok
returns-in-InterfaceTypeDefinition-clause-ok g c =
    rw c.in-InterfaceTypeDefinition.is (rw c.deref-in-InterfaceTypeDefinition.ensures at c.write-in-InterfaceTypeDefinition.ensures.ok)

pub returns-in-UnionTypeDefinition-clause-ok : goal.returns-in-UnionTypeDefinition-clause-ok
returns-in-UnionTypeDefinition-clause-ok g c =
    rw c.in-UnionTypeDefinition.is (rw c.deref-in-UnionTypeDefinition.ensures at c.write-in-UnionTypeDefinition.ensures.ok)
