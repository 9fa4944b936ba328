use Rattle.graphql_text.proofs.laws.displayed_trees_are_read.Goals as goal

pub returns : goal.returns
returns g c = λ obeyed blank. g.T.SyntaxTree.laws.reads_alone _ _ _ obeyed blank
