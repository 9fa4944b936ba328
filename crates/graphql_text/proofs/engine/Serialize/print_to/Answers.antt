use Rattle.graphql_text.proofs.engine.Serialize.print_to.Goals as goal

pub returns-else-out-clause-read : goal.returns-else-out-clause-read
returns-else-out-clause-read g c = λ obeyed blank. g.T.SyntaxTree.laws.reads_alone _ _ _ obeyed blank
