use Rattle.graphql_values.proofs.comparisons.ValueClones.{list_clone, object_clone}
use Rattle.graphql_values.proofs.value.ValueClone.clone.Goals as goal

pub returns-in_ok-clone-in-List : goal.returns-in_ok-clone-in-List
returns-in_ok-clone-in-List c = record { cases = rw c.in-List.is (list_clone _ _ c.in_ok-clone-in-List.ensures.cases.0) }

pub returns-in_ok-clone-in-Object : goal.returns-in_ok-clone-in-Object
returns-in_ok-clone-in-Object c = record { cases = rw c.in-Object.is (object_clone _ _ c.in_ok-clone-in-Object.ensures.cases.0) }
