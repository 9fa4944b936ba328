-- JSON is of a field and an inline fragment of the code where it is of its parts. And what a node is given as its set.
use Rattle.std.proofs.Common.{◌≡◌, Option, Some, None, MatchOption, IsSomeAnd, option_and_then, codes, refl, sym, subst}
use Rattle.graphql_executable.proofs.layout.SelectionShapes.{field_head, field_is, inline_fragment_head, inline_fragment_is}
use Rattle.graphql_executable.specs.trees.ExecutableTrees.{field_tree, inline_fragment_tree, selection_trees}
use Rattle.graphql_executable.specs.kinds.Selections.{SelectionTrees}
use Rattle.graphql_executable.specs.declared.field.Field.{Field}
use Rattle.graphql_executable.specs.declared.inline_fragment.InlineFragment.{InlineFragment}
use Rattle.serde_json.specs.Data.{Data, Members, no_items, put}
use Rattle.graphql_ast_json.specs.code.Drafts.{IsGiven, put_optional}
use Rattle.graphql_ast_json.specs.kinds.ExecutableJson.{AreSelections, IsField, IsInlineFragment, IsSelectionSet}
use Rattle.ast_json_nodes.specs.nodes.Nodes.{present}
use Rattle.graphql_ast_json.specs.lemmas.ExecutableNodes.{selection_set_laws}
use Rattle.graphql_ast_json.specs.lemmas.Leaves.{never_null_of, there}
use Rattle.ast_json_nodes.specs.declared.read.Unknown.{Unknown}
use Rattle.ast_json_nodes.specs.declared.read.Unknown.TheVariants.{Refuse}

pub field_of_parts : (unknown : Unknown) (field : Field) (json : Data) →
    IsField unknown (record { head = field_head field; selections = selection_trees field.selection_set.items }) json →
    IsField unknown (field_tree field) json
field_of_parts unknown field json = subst (λ tree. IsField unknown tree json) (sym (field_is field))

pub inline_fragment_of_parts : (unknown : Unknown) (fragment : InlineFragment) (json : Data) →
    IsInlineFragment unknown (record { head = inline_fragment_head fragment; selections = selection_trees fragment.selection_set.items }) json →
    IsInlineFragment unknown (inline_fragment_tree fragment) json
inline_fragment_of_parts unknown fragment json = subst (λ tree. IsInlineFragment unknown tree json) (sym (inline_fragment_is fragment))

-- a set that is left out where it is empty
abbrev pub IsOptionalSet : SelectionTrees → Option Data → Type 0
IsOptionalSet set found = (unknown : Unknown) → MatchOption found (AreSelections unknown set no_items) (IsSelectionSet unknown set)

set_there : (set : SelectionTrees) (found : Option Data) → IsOptionalSet set found → option_and_then present found ≡ found
set_there set None is = refl
set_there set (Some json) is = there (IsSelectionSet Refuse) (never_null_of selection_set_laws Refuse) set json (is Refuse)

pub given_optional_set : {before after : Members} (set : SelectionTrees) (found : Option Data) →
    after ≡ put_optional (codes "selectionSet") found before → IsOptionalSet set found →
    IsGiven (codes "selectionSet") (IsOptionalSet set) before after
given_optional_set set found made is = record { json = found; made = made; there = set_there set found is; is = is }

pub given_set : {before after : Members} (set : SelectionTrees) (json : Data) → after ≡ put (codes "selectionSet") json before →
    ((unknown : Unknown) → IsSelectionSet unknown set json) →
    IsGiven (codes "selectionSet") (λ found. (unknown : Unknown) → IsSomeAnd found (IsSelectionSet unknown set)) before after
given_set set json made is = record { json = Some json; made = made; there = set_there set (Some json) is; is = is }
