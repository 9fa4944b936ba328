-- The nodes of a tree in the order in which a walk comes by them, that of the source text.
use Rattle.std.specs.Prelude.{List, [], ◌∷◌, ◌++◌, Option, Some, None}
use Rattle.graphql_visit.specs.NodeTrees.{NodeTree}

-- Nodes one behind another: a node, those within it, and those behind it.
pub data Visits : Type 0 where
  no_visits : Visits
  visit : NodeTree → Visits → Visits → Visits

-- the first, and behind them the others
infixr 40 ◌⨟◌
abbrev pub ◌⨟◌ : Visits → Visits → Visits
no_visits ⨟ more = more
visit node within behind ⨟ more = visit node within (behind ⨟ more)

-- the nodes alone, in order: each before those within it
abbrev pub nodes_of : Visits → List NodeTree
nodes_of no_visits = []
nodes_of (visit node within behind) = node ∷ (nodes_of within ++ nodes_of behind)

-- How trees are visited: as which nodes, and what is within them.
pub record Visited (Tree : Type 0) : Type 0 where
  pub node : Tree → NodeTree
  pub within : Tree → Visits

abbrev pub one : {Tree : Type 0} → Visited Tree → Tree → Visits
one visited tree = visit (visited.node tree) (visited.within tree) no_visits

abbrev pub optional : {Tree : Type 0} → Visited Tree → Option Tree → Visits
optional visited None = no_visits
optional visited (Some tree) = one visited tree

abbrev pub each : {Tree : Type 0} → Visited Tree → List Tree → Visits
each visited [] = no_visits
each visited (tree ∷ trees) = one visited tree ⨟ each visited trees
