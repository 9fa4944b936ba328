use Rattle.graphql_ast.proofs.document.print.DocumentSyntax.write.Goals as goal

pub returns-in_err-stacks-clause-free : goal.returns-in_err-stacks-clause-free
returns-in_err-stacks-clause-free g c =
    let free = rw c.deref.ensures.value at c.in_err-stacks.ensures.free in
    λ none no_lists. cc (free none no_lists)
