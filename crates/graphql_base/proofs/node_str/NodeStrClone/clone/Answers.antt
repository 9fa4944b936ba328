use Rattle.graphql_base.proofs.node_str.NodeStrClone.clone.Goals as goal

pub invariant_of-result : goal.invariant_of-result
invariant_of-result c = record { valid = rw c.in_ok-clone.ensures.cases c.args.self.now.valid }
