use Rattle.std.proofs.Common.{Result, Ok, Err, OnOk}
use Rattle.ast_vectors.specs.Runs.{mode_of}
use Rattle.ast_vectors.specs.VectorTrees.{vector_tree}
use Rattle.ast_vectors.proofs.vectors.print_vector.Goals as goal

-- what follows where a call succeeds
where_ok : {A E : Type 0} {P Q : Type 0} (result : Result A E) → OnOk result P → (P → Q) → OnOk result Q
where_ok (Ok value) holds follows = follows holds
where_ok (Err error) holds follows = tt

pub returns-in-Ok-Some-clause-printed : goal.returns-in-Ok-Some-clause-printed
returns-in-Ok-Some-clause-printed g c = where_ok c.print.result c.print.ensures.printed (λ appended. record {
  mode = mode_of c.layout_of.result.prefix;
  level = c.layout_of.result.level;
  tree = vector_tree c.in-Ok-Some.tree;
  appended = appended;
})
