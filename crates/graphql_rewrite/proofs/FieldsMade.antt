-- Of FieldRewritings: what a set of the code has, and the set that gets a field.
use Rattle.std.proofs.Common.{◌≡◌, ℕ, ◌+◌, ◌<◌, ◌≤◌, true, false, List, [], ◌∷◌, ◌++◌, length, get_or, drop, Option, Some, None, refl, ap, sym}
use Rattle.std.proofs.Common.{◌∙◌}
use Rattle.std.proofs.Math.ListN.{drop_of_length-le}
use Rattle.std.specs.Prelude.{◌||◌, if◌then◌else◌, nat_eq, unwrap_or}
use Rattle.std.specs.Option.{option_map}
use Rattle.std.specs.Cmp.Lexicographic.{pointwise}
use Rattle.graphql_base.specs.declared.name.Name.{Name}
use Rattle.graphql_base.specs.declared.node.Node.{Node}
use Rattle.graphql_base.specs.Name.{name_text}
use Rattle.graphql_base.specs.Node.{node_value}
use Rattle.graphql_text.specs.lexical.Literals.{NameText}
use Rattle.graphql_text.specs.trees.Leaves.{name_tree}
use Rattle.graphql_executable.specs.code.SelectionQueries.{response_name}
use Rattle.graphql_executable.specs.declared.field.Field.{Field}
use Rattle.graphql_executable.specs.declared.fragment_spread.FragmentSpread.{FragmentSpread}
use Rattle.graphql_executable.specs.declared.inline_fragment.InlineFragment.{InlineFragment}
use Rattle.graphql_executable.specs.declared.selection.Selection.{Selection}
use Rattle.graphql_executable.specs.declared.selection.Selection.TheVariants as variant
use Rattle.graphql_executable.specs.kinds.Fields.{selection_of_field}
use Rattle.graphql_executable.specs.kinds.Selections.{field_selection, no_selections, more_selections}
use Rattle.graphql_values.specs.trees.DirectiveTrees.{argument_trees, directive_node_trees}
use Rattle.graphql_executable.specs.trees.ExecutableTrees.{field_tree, selection_tree, selection_trees}
use Rattle.graphql_executable.proofs.layout.SelectionShapes.{field_is, selection_is_field, selection_is_inline, selection_is_spread}
use Rattle.graphql_visit.proofs.Steps.{drop_at}
use Rattle.graphql_rewrite.specs.FieldRewritings.{has_response, is_text, plain_head, responds_as, with_field, with_field_once}

-- A FIELD OF WHICH THE RESPONSE SPEAKS BY THAT NAME

same_response : (alias : Option Name) (name : Name) → unwrap_or (option_map name_tree alias) (name_tree name) ≡ name_tree (unwrap_or alias name)
same_response None name = refl
same_response (Some alias) name = refl

pub named_field : (text : List ℕ) (selection : Selection) (n : Node Field) → selection ≡ variant.Field n →
    responds_as text (selection_tree selection) ≡ pointwise nat_eq (name_text (response_name (node_value n))) text
named_field text selection n is =
    ap (responds_as text) (ap selection_tree is ∙ selection_is_field n ∙ ap selection_of_field (field_is (node_value n)))
    ∙ ap (is_text text) (same_response (node_value n).alias (node_value n).name)

pub named_spread : (text : List ℕ) (selection : Selection) (n : Node FragmentSpread) → selection ≡ variant.FragmentSpread n →
    responds_as text (selection_tree selection) ≡ false
named_spread text selection n is = ap (responds_as text) (ap selection_tree is ∙ selection_is_spread n)

pub named_inline : (text : List ℕ) (selection : Selection) (n : Node InlineFragment) → selection ≡ variant.InlineFragment n →
    responds_as text (selection_tree selection) ≡ false
named_inline text selection n is = ap (responds_as text) (ap selection_tree is ∙ selection_is_inline n)

pub ruleset plain_steps = (named_field, named_spread, named_inline)

-- SETS THAT HAVE ONE

module _ (text : List ℕ) (selections : List Selection) where
  -- what is left decides
  abbrev pub IsLeft : ℕ → Type 0
  IsLeft i = has_response text (selection_trees (drop i selections)) ≡ has_response text (selection_trees selections)

  at : (i : ℕ) (x : Selection) → i < length selections → x ≡ get_or selections i x →
      has_response text (selection_trees (drop i selections))
      ≡ (responds_as text (selection_tree x) || has_response text (selection_trees (drop (i + 1) selections)))
  at i x below is =
      ap (λ l. has_response text (selection_trees l)) (drop_at selections i x below is)

  pub goes_on : (i : ℕ) (x : Selection) → i < length selections → x ≡ get_or selections i x → responds_as text (selection_tree x) ≡ false →
      IsLeft i → IsLeft (i + 1)
  goes_on i x below is not_named left =
      ap (λ b. b || has_response text (selection_trees (drop (i + 1) selections))) (sym not_named) ∙ sym (at i x below is) ∙ left

  pub is_found : (i : ℕ) (x : Selection) → i < length selections → x ≡ get_or selections i x → responds_as text (selection_tree x) ≡ true →
      IsLeft i → true ≡ has_response text (selection_trees selections)
  is_found i x below is named left =
      ap (λ b. b || has_response text (selection_trees (drop (i + 1) selections))) (sym named) ∙ sym (at i x below is) ∙ left

  pub is_not_there : (i : ℕ) → length selections ≤ i → IsLeft i → false ≡ has_response text (selection_trees selections)
  is_not_there i past left = ap (λ l. has_response text (selection_trees l)) (sym (drop_of_length-le selections past)) ∙ left

pub ruleset has_steps = (goes_on, is_found, is_not_there)

-- ONE MORE

plain_selection : (field : Field) (n : Node Field) (name : Name) → node_value n ≡ field → field.alias ≡ None → field.name ≡ name →
    field.arguments.items ≡ [] → field.directives.0.items ≡ [] → field.selection_set.items ≡ [] →
    selection_tree (variant.Field n) ≡ field_selection (plain_head (name_tree name)) no_selections
plain_selection field n name same alias named arguments directives set =
    selection_is_field n ∙ ap (λ f. selection_of_field (field_tree f)) same ∙ ap selection_of_field (field_is field)
    ∙ (λ i. field_selection (record {
      alias = option_map name_tree (alias i);
      name = name_tree (named i);
      arguments = argument_trees (arguments i);
      directives = directive_node_trees (directives i);
    }) (selection_trees (set i)))

at_the_end : (name : NameText) (selections : List Selection) (last : Selection) →
    selection_tree last ≡ field_selection (plain_head name) no_selections →
    selection_trees (selections ++ last ∷ []) ≡ with_field name (selection_trees selections)
at_the_end name [] last is = ap (λ t. more_selections t no_selections) is
at_the_end name (selection ∷ selections) last is = ap (more_selections (selection_tree selection)) (at_the_end name selections last is)

pub is_added : (name : Name) (selections made : List Selection) (field : Field) (n : Node Field) → node_value n ≡ field → field.alias ≡ None →
    field.name ≡ name → field.arguments.items ≡ [] → field.directives.0.items ≡ [] → field.selection_set.items ≡ [] →
    has_response (name_tree name).text (selection_trees selections) ≡ false → made ≡ selections ++ variant.Field n ∷ [] →
    selection_trees made ≡ with_field_once (name_tree name) (selection_trees selections)
is_added name selections made field n same alias named arguments directives set none is =
    ap selection_trees is
    ∙ at_the_end (name_tree name) selections (variant.Field n) (plain_selection field n name same alias named arguments directives set)
    ∙ ap (λ b. if b then selection_trees selections else with_field (name_tree name) (selection_trees selections)) (sym none)

pub stays : (name : NameText) (selections : List Selection) → has_response name.text (selection_trees selections) ≡ true →
    selection_trees selections ≡ with_field_once name (selection_trees selections)
stays name selections has = ap (λ b. if b then selection_trees selections else with_field name (selection_trees selections)) (sym has)

pub ruleset added_steps = (is_added, stays)
