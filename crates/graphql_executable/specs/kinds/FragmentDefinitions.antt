-- Fragment definitions: FragmentDefinition, section 2.8; they may have a description.
use Rattle.std.specs.Prelude.{max, List, ◌∷◌, ◌++◌, codes, ◌&&◌, Some}
use Rattle.graphql_text.specs.lexical.Literals.{NameText}
use Rattle.graphql_text.specs.lexical.Tokens.{Name}
use Rattle.graphql_text.specs.parts.Descriptions.{described}
use Rattle.graphql_text.specs.grammar.Forms.{◌⨟◌, keyword, name_except}
use Rattle.graphql_text.specs.kinds.Kinds.{Kind}
use Rattle.graphql_text.specs.layout.Layout.{Word, Space}
use Rattle.graphql_values.specs.kinds.Directives.{DirectiveTree, directives_form, directives_shape, directives_nesting, directives_obey}
use Rattle.graphql_values.specs.kinds.Values.{NonConst}
use Rattle.graphql_executable.specs.kinds.FragmentNames.{not_fragment_names, is_fragment_name, type_condition_form, type_condition_shape}
use Rattle.graphql_executable.specs.kinds.Selections.{SelectionTrees, selection_set_form, selection_set_shape, selection_set_nesting, selection_set_obeys}
use Rattle.graphql_text.specs.declared.ill_formed.SideCondition.TheVariants.{IsNotOn}
use Rattle.graphql_text.specs.kinds.Flaws.{flaw_unless}
use Rattle.graphql_values.specs.kinds.Directives.{directives_flaws}
use Rattle.graphql_executable.specs.kinds.Selections.{selection_set_flaws}

-- A fragment definition without its description and without locations.
pub record FragmentDefinitionTree : Type 0 where
  pub name : NameText
  pub type_condition : NameText
  pub directives : List DirectiveTree
  pub selections : SelectionTrees

abbrev pub fragment_definition_body : Kind
fragment_definition_body = record {
  Tree = FragmentDefinitionTree;
  -- the grammar of FragmentDefinition, section 2.8, behind its description
  form = λ fragment.
      keyword (codes "fragment") ⨟ name_except not_fragment_names fragment.name ⨟ type_condition_form fragment.type_condition
      ⨟ directives_form NonConst fragment.directives ⨟ selection_set_form fragment.selections;
  -- the side conditions: it isn't named `on`, it has a selection, and its directives and selections obey theirs
  obeys = λ fragment. is_fragment_name fragment.name.text && (directives_obey NonConst fragment.directives && selection_set_obeys fragment.selections);
  flaws = λ fragment.
      flaw_unless (is_fragment_name fragment.name.text) IsNotOn (Some fragment.name)
      ++ (directives_flaws NonConst fragment.directives ++ selection_set_flaws (Some fragment.name) fragment.selections);
  -- the layout of a fragment definition, behind its description
  shape = λ broken front fragment.
      Word (Name (codes "fragment")) ∷ Space ∷ Word (Name fragment.name.text)
      ∷ (type_condition_shape fragment.type_condition ++ (directives_shape fragment.directives ++ (Space ∷ selection_set_shape fragment.selections)));
  -- it nests as its directives or its selection set do, whichever nest more
  nesting = λ fragment. max (directives_nesting fragment.directives) (selection_set_nesting fragment.selections);
}

-- A fragment definition, after its description.
abbrev pub fragment_definition_kind : Kind
fragment_definition_kind = described fragment_definition_body
