-- What a node is once a loan of its value has ended.
use Rattle.std.specs.Prelude.{◌≡◌, ◌⊎◌, Option, Result}
use Rattle.std.specs.Borrow.{LendsIf, LendsSoOk, MutBor, Fml}
use denote.RattleType.{RattleType}
use Rattle.graphql_base.specs.declared.node.Node.{Node}
use Rattle.graphql_base.specs.contracts.node.Node.{the_row}
use Rattle.graphql_base.specs.Node.{node_value, node_location, with_node_value}

-- the node ends with the last value written through the loan, at its location; without a loan it is as it was
abbrev pub LendsValue : (R : RattleType) → MutBor (Node R.Denot) → Option (MutBor R.Denot) → Fml
LendsValue R node loan = LendsIf (the_row R) R node loan (with_node_value node.now) node.now

-- the same; without a loan the node has its location, and its value or a clone of it
abbrev pub LendsValueOrClone : (R : RattleType) → (R.Denot → R.Denot → Type 0) → MutBor (Node R.Denot) → {E : Type 0}
    → Result (MutBor R.Denot) E → Fml
LendsValueOrClone R is_clone node loan =
    LendsSoOk (the_row R) R node loan (λ end value. end ≡ with_node_value node.now value)
    (λ end. (node_location end ≡ node_location node.now)
    × ((node_value end ≡ node_value node.now) ⊎ is_clone (node_value node.now) (node_value end)))
