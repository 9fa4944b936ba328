use Rattle.std.proofs.Common.{rules, ◌≡◌, ◌∷◌, ◌++◌, [], ap, sym, ◌∙◌, subst}
use Rattle.graphql_text.specs.trees.Leaves.{name_trees}
use Rattle.graphql_operations.specs.Fragments.{is_one_of}
use Rattle.graphql_operations.specs.Names.{Begins}
use Rattle.graphql_operations.proofs.Reached.{begins_on, new_pushed}
use Rattle.graphql_operations.proofs.fragments.with_new.Goals as goal

pub loop-name-preserved-in-Continue-1 : goal.loop-name-preserved-in-Continue-1
loop-name-preserved-in-Continue-1 c =
    let pushed : c.push.new.self.items ≡ c.loop-name.all.items ++ c.in-Some.name ∷ [] = search rules in
    record {
      same = λ name. ap (λ l. is_one_of (name_trees l) name) pushed
          ∙ new_pushed c.args.names.items c.loop-name.yielded c.loop-name.all.items c.in-Some.name c.loop-name.invariant.same name;
      begins = subst (Begins c.args.names.items) (sym pushed) (begins_on c.args.names.items c.loop-name.all.items _ c.loop-name.invariant.begins);
    }
