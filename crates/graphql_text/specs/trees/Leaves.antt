-- The trees that names, descriptions and nodes of the code stand for.
use Rattle.std.specs.Prelude.{List, Option, chars, map}
use Rattle.std.specs.Option.{option_map}
use Rattle.std.proofs.lemmas.Str.{IsUtf8-had, scalars-chars}
use Rattle.graphql_base.specs.declared.name.Name.{Name}
use Rattle.graphql_base.specs.declared.node.Node.{Node}
use Rattle.graphql_base.specs.declared.node_str.NodeStr.{NodeStr}
use Rattle.graphql_base.specs.Name.{name_text}
use Rattle.graphql_base.specs.Node.{node_str_text, node_value}
use Rattle.graphql_text.specs.parts.Descriptions.{Described}
use Rattle.graphql_text.specs.lexical.Literals.{NameText, StringText}

abbrev pub name_tree : Name → NameText
name_tree name = record { text = name_text name; valid = name.valid }

abbrev pub name_trees : List Name → List NameText
name_trees = map name_tree

-- the characters of a description
abbrev pub description_tree : NodeStr → StringText
description_tree description =
    let bytes = node_str_text description in
    record { text = chars bytes; valid = scalars-chars bytes (IsUtf8-had bytes description.valid) }

-- a body and the description before it
abbrev pub described_tree : {Body : Type 0} → Option NodeStr → Body → Described Body
described_tree description body = record { description = option_map description_tree description; body = body }

-- the trees of parts, each of which is a node
abbrev pub node_trees : {T Tree : Type 0} → (T → Tree) → List (Node T) → List Tree
node_trees tree = map (λ node. tree (node_value node))
