-- Of SideConditions: what is made of each kind, in the order of the grammar.
use Rattle.std.proofs.Common.{◌≡◌, Bool, true, false, not, ◌&&◌, ◌||◌, IsTrue, List, [], ◌∷◌, map, Option, Some, None, refl, ap, ◌∙◌}
use Rattle.std.specs.Prelude.{◌==◌}
use Rattle.std.proofs.lemmas.List.{length-map}
use Rattle.std.specs.List.{list_all}
use Rattle.std.specs.Option.{option_map}
use Rattle.graphql_text.specs.kinds.Kinds.{Kind}
use Rattle.graphql_text.specs.parts.Members.{has_some, members_obey}
use Rattle.graphql_text.specs.parts.Optional.{optional_obeys}
use Rattle.graphql_text.proofs.general.BooleanTests.{first_holds, second_holds, both_hold}
use Rattle.graphql_values.specs.kinds.Arguments.{ArgumentTree, argument_obeys, arguments_obey}
use Rattle.graphql_values.specs.kinds.DirectiveDefinitions.{directive_definition_kind}
use Rattle.graphql_values.specs.kinds.Directives.{DirectiveTree, directive_obeys, directives_obey}
use Rattle.graphql_values.specs.kinds.InputValueDefinitions.{input_value_definition_kind}
use Rattle.graphql_values.specs.kinds.Values.{Constness, Const, NonConst, ValueTree, null_value, enum_value, variable, string_value, float_value, int_value}
use Rattle.graphql_values.specs.kinds.Values.{boolean_value, list_value, object_value, ValueTrees, no_values, more_values, ObjectFieldTrees, no_fields}
use Rattle.graphql_values.specs.kinds.Values.{more_fields, value_obeys, values_obey, object_fields_obey}
use Rattle.graphql_executable.specs.kinds.FragmentDefinitions.{fragment_definition_kind}
use Rattle.graphql_executable.specs.kinds.OperationDefinitions.{operation_definition_kind}
use Rattle.graphql_executable.specs.kinds.SelectionHeads.{FieldHeadTree, field_head_obeys}
use Rattle.graphql_executable.specs.kinds.Selections.{SelectionTree, field_selection, spread_selection, inline_selection, SelectionTrees, no_selections}
use Rattle.graphql_executable.specs.kinds.Selections.{more_selections, selection_obeys, selections_obey, selection_set_obeys}
use Rattle.graphql_executable.specs.kinds.VariableDefinitions.{variable_definition_kind}
use Rattle.graphql_type_system.specs.kinds.BracedTypes.{BracedTypeTree, braced_type, braced_type_adds}
use Rattle.graphql_type_system.specs.kinds.EnumValueDefinitions.{enum_value_definition_kind}
use Rattle.graphql_type_system.specs.kinds.FieldDefinitions.{field_definition_kind}
use Rattle.graphql_type_system.specs.kinds.ImplementingTypes.{ImplementingTypeTree, implementing_type, implementing_type_adds}
use Rattle.graphql_ast.specs.Definitions.{DefinitionName, DefinitionTree, kind_named, definition_kind}
use Rattle.graphql_ast.specs.Definitions as name
use Rattle.graphql_ast.specs.Documents.{document_kind}
use Rattle.graphql_rewrite.specs.Rewritings.{Rewriting}
use Rattle.graphql_rewrite.specs.SideConditions.{Keeps, LeavesSome, has_extension, is_extension}
use Rattle.graphql_rewrite.specs.kinds.Documents.{rewritten_definition, rewritten_document, rewritten_named}
use Rattle.graphql_rewrite.specs.kinds.Executable.{rewritten_field_head, rewritten_fragment_definition, rewritten_operation_definition, rewritten_selection}
use Rattle.graphql_rewrite.specs.kinds.Executable.{rewritten_selections, rewritten_set, rewritten_variable_definition}
use Rattle.graphql_rewrite.specs.kinds.TypeSystem.{rewritten_braced_type, rewritten_directive_definition, rewritten_enum_value_definition}
use Rattle.graphql_rewrite.specs.kinds.TypeSystem.{rewritten_field_definition, rewritten_implementing_type}
use Rattle.graphql_rewrite.specs.kinds.Values.{rewritten_argument, rewritten_arguments, rewritten_directive, rewritten_directives}
use Rattle.graphql_rewrite.specs.kinds.Values.{rewritten_input_value_definition, rewritten_object_fields, rewritten_value, rewritten_values, rewritten_within}

-- TESTS OF PARTS

both : {a b c d : Bool} → (IsTrue a → IsTrue c) → (IsTrue b → IsTrue d) → IsTrue (a && b) → IsTrue (c && d)
both {a} {b} {c} {d} first second h = both_hold c d (first (first_holds a b h)) (second (second_holds a b h))

first_is : (a b : Bool) → IsTrue a → IsTrue (a || b)
first_is true b h = refl
first_is false b h = absurd (cc h)

second_is : (a b : Bool) → IsTrue b → IsTrue (a || b)
second_is true b h = refl
second_is false b h = h

one_of : (a b c d : Bool) → (IsTrue a → IsTrue c) → (IsTrue b → IsTrue d) → IsTrue (a || b) → IsTrue (c || d)
one_of true b c d first second h = first_is c d (first refl)
one_of false b c d first second h = second_is c d (second h)

either : {a b c d : Bool} → (IsTrue a → IsTrue c) → (IsTrue b → IsTrue d) → IsTrue (a || b) → IsTrue (c || d)
either {a} {b} {c} {d} = one_of a b c d

module _ {A : Type 0} (test : A → Bool) (made : A → A) (keeps : (x : A) → IsTrue (test x) → IsTrue (test (made x))) where
  each : (xs : List A) → IsTrue (list_all test xs) → IsTrue (list_all test (map made xs))
  each [] h = h
  each (x ∷ xs) h = both (keeps x) (each xs) h

  optional : (part : Option A) → IsTrue (optional_obeys test part) → IsTrue (optional_obeys test (option_map made part))
  optional None h = h
  optional (Some x) h = keeps x h

some : {A B : Type 0} (made : A → B) (xs : List A) → IsTrue (has_some xs) → IsTrue (has_some (map made xs))
some made xs h = ap (λ n. not (n == 0)) (length-map xs made) ∙ h

module _ (f : Rewriting) (keeps : Keeps f) where
  -- VALUES, ARGUMENTS AND DIRECTIVES

  mutual
    within : (c : Constness) (value : ValueTree) → IsTrue (value_obeys c value) → IsTrue (value_obeys c (rewritten_within f value))
    within c null_value h = h
    within c (enum_value name) h = h
    within c (variable name) h = h
    within c (string_value string) h = h
    within c (float_value float) h = h
    within c (int_value int) h = h
    within c (boolean_value boolean) h = h
    within c (list_value items) h = values c items h
    within c (object_value fields) h = object_fields c fields h

    values : (c : Constness) (items : ValueTrees) → IsTrue (values_obey c items) → IsTrue (values_obey c (rewritten_values f items))
    values c no_values h = h
    values c (more_values value more) h = both (λ k. keeps.value c (rewritten_within f value) (within c value k)) (values c more) h

    object_fields : (c : Constness) (fields : ObjectFieldTrees) → IsTrue (object_fields_obey c fields) →
        IsTrue (object_fields_obey c (rewritten_object_fields f fields))
    object_fields c no_fields h = h
    object_fields c (more_fields name value more) h = both (λ k. keeps.value c (rewritten_within f value) (within c value k)) (object_fields c more) h

  value : (c : Constness) (value : ValueTree) → IsTrue (value_obeys c value) → IsTrue (value_obeys c (rewritten_value f value))
  value c tree h = keeps.value c (rewritten_within f tree) (within c tree h)

  arguments : (c : Constness) (arguments : List ArgumentTree) → IsTrue (arguments_obey c arguments) →
      IsTrue (arguments_obey c (rewritten_arguments f arguments))
  arguments c trees h =
      keeps.arguments c (map (rewritten_argument f) trees) (each (argument_obeys c) (rewritten_argument f) (λ argument. value c argument.value) trees h)

  directives : (c : Constness) (directives : List DirectiveTree) → IsTrue (directives_obey c directives) →
      IsTrue (directives_obey c (rewritten_directives f directives))
  directives c trees h =
      keeps.directives c (map (rewritten_directive f) trees)
      (each (directive_obeys c) (rewritten_directive f) (λ directive. arguments c directive.arguments) trees h)

  -- SELECTIONS

  head : (head : FieldHeadTree) → IsTrue (field_head_obeys head) → IsTrue (field_head_obeys (rewritten_field_head f head))
  head tree h = both (arguments NonConst tree.arguments) (directives NonConst tree.directives) h

  mutual
    selection : (selection : SelectionTree) → IsTrue (selection_obeys selection) → IsTrue (selection_obeys (rewritten_selection f selection))
    selection (field_selection tree set) h =
        keeps.field (record { head = rewritten_field_head f tree; selections = rewritten_set f set }) (both (head tree) (optional_set set) h)
    selection (spread_selection spread) h = both (λ k. k) (directives NonConst spread.directives) h
    selection (inline_selection tree set) h = both (directives NonConst tree.directives) (selection_set set) h

    selections : (set : SelectionTrees) → IsTrue (selections_obey set) → IsTrue (selections_obey (rewritten_selections f set))
    selections no_selections h = h
    selections (more_selections one more) h = both (selection one) (selections more) h

    -- that of a field may be left out
    optional_set : (set : SelectionTrees) → IsTrue (selections_obey set) → IsTrue (selections_obey (rewritten_set f set))
    optional_set no_selections h = h
    optional_set (more_selections one more) h =
        second_holds _ _
        (keeps.selections (more_selections (rewritten_selection f one) (rewritten_selections f more)) (both (selection one) (selections more) h))

    selection_set : (set : SelectionTrees) → IsTrue (selection_set_obeys set) → IsTrue (selection_set_obeys (rewritten_set f set))
    selection_set no_selections h = h
    selection_set (more_selections one more) h =
        keeps.selections (more_selections (rewritten_selection f one) (rewritten_selections f more)) (both (selection one) (selections more) h)

  -- PARTS OF DEFINITIONS

  input_value_definition : (input : input_value_definition_kind.Tree) → IsTrue (input_value_definition_kind.obeys input) →
      IsTrue (input_value_definition_kind.obeys (rewritten_input_value_definition f input))
  input_value_definition input h =
      both (optional (value_obeys Const) (rewritten_value f) (value Const) input.body.default_value) (directives Const input.body.directives) h

  variable_definition : (tree : variable_definition_kind.Tree) → IsTrue (variable_definition_kind.obeys tree) →
      IsTrue (variable_definition_kind.obeys (rewritten_variable_definition f tree))
  variable_definition tree h =
      both (optional (value_obeys Const) (rewritten_value f) (value Const) tree.body.default_value) (directives Const tree.body.directives) h

  field_definition : (field : field_definition_kind.Tree) → IsTrue (field_definition_kind.obeys field) →
      IsTrue (field_definition_kind.obeys (rewritten_field_definition f field))
  field_definition field h =
      both (each input_value_definition_kind.obeys (rewritten_input_value_definition f) input_value_definition field.body.arguments)
      (directives Const field.body.directives) h

  enum_value_definition : (definition : enum_value_definition_kind.Tree) → IsTrue (enum_value_definition_kind.obeys definition) →
      IsTrue (enum_value_definition_kind.obeys (rewritten_enum_value_definition f definition))
  enum_value_definition definition h = both (λ k. k) (directives Const definition.body.directives) h

  -- DEFINITIONS

  operation : (operation : operation_definition_kind.Tree) → IsTrue (operation_definition_kind.obeys operation) →
      IsTrue (operation_definition_kind.obeys (rewritten_operation_definition f operation))
  operation tree h =
      both (each variable_definition_kind.obeys (rewritten_variable_definition f) variable_definition tree.body.variables)
      (both (directives NonConst tree.body.directives) (selection_set tree.body.selections)) h

  fragment : (fragment : fragment_definition_kind.Tree) → IsTrue (fragment_definition_kind.obeys fragment) →
      IsTrue (fragment_definition_kind.obeys (rewritten_fragment_definition f fragment))
  fragment tree h = both (λ k. k) (both (directives NonConst tree.body.directives) (selection_set tree.body.selections)) h

  directive_definition : (definition : directive_definition_kind.Tree) → IsTrue (directive_definition_kind.obeys definition) →
      IsTrue (directive_definition_kind.obeys (rewritten_directive_definition f definition))
  directive_definition definition h =
      both (each input_value_definition_kind.obeys (rewritten_input_value_definition f) input_value_definition definition.body.arguments) (λ k. k) h

  implementing : (type : ImplementingTypeTree) → IsTrue (implementing_type.obeys type) → IsTrue (implementing_type.obeys (rewritten_implementing_type f type))
  implementing type h =
      both (directives Const type.directives) (each field_definition_kind.obeys (rewritten_field_definition f) field_definition type.fields) h

  module _ (member : Kind) (made : member.Tree → member.Tree)
      (one : (tree : member.Tree) → IsTrue (member.obeys tree) → IsTrue (member.obeys (made tree))) where
    braced : (type : BracedTypeTree member.Tree) → IsTrue ((braced_type member).obeys type) →
        IsTrue ((braced_type member).obeys (rewritten_braced_type f made type))
    braced type h = both (directives Const type.directives) (each member.obeys made one type.members) h

  module _ (leaves : LeavesSome f) where
    some_directives : (directives : List DirectiveTree) → IsTrue (has_some directives) → IsTrue (has_some (rewritten_directives f directives))
    some_directives trees h = leaves (map (rewritten_directive f) trees) (some (rewritten_directive f) trees h)

    implementing_adds : (type : ImplementingTypeTree) → IsTrue (implementing_type_adds type) →
        IsTrue (implementing_type_adds (rewritten_implementing_type f type))
    implementing_adds type h = either (either (λ k. k) (some_directives type.directives)) (some (rewritten_field_definition f) type.fields) h

    braced_adds : (member : Kind) (made : member.Tree → member.Tree) (type : BracedTypeTree member.Tree) → IsTrue (braced_type_adds member type) →
        IsTrue (braced_type_adds member (rewritten_braced_type f made type))
    braced_adds member made type h = either (some_directives type.directives) (some made type.members) h

  named : (definition : DefinitionName) → (IsTrue (is_extension definition) → LeavesSome f) → (tree : (kind_named definition).Tree) →
      IsTrue ((kind_named definition).obeys tree) → IsTrue ((kind_named definition).obeys (rewritten_named f definition tree))
  named name.OperationDefinition leaves tree h = operation tree h
  named name.FragmentDefinition leaves tree h = fragment tree h
  named name.DirectiveDefinition leaves tree h = directive_definition tree h
  named name.SchemaDefinition leaves tree h = both (directives Const tree.body.directives) (λ k. k) h
  named name.ScalarTypeDefinition leaves tree h = directives Const tree.body.directives h
  named name.ObjectTypeDefinition leaves tree h = implementing tree.body h
  named name.InterfaceTypeDefinition leaves tree h = implementing tree.body h
  named name.UnionTypeDefinition leaves tree h = directives Const tree.body.directives h
  named name.EnumTypeDefinition leaves tree h =
      braced enum_value_definition_kind (rewritten_enum_value_definition f) enum_value_definition tree.body h
  named name.InputObjectTypeDefinition leaves tree h =
      braced input_value_definition_kind (rewritten_input_value_definition f) input_value_definition tree.body h
  named name.SchemaExtension leaves tree h =
      both (either (some_directives (leaves refl) tree.directives) (λ k. k)) (directives Const tree.directives) h
  named name.ScalarTypeExtension leaves tree h = both (some_directives (leaves refl) tree.directives) (directives Const tree.directives) h
  named name.ObjectTypeExtension leaves tree h = both (implementing_adds (leaves refl) tree) (implementing tree) h
  named name.InterfaceTypeExtension leaves tree h = both (implementing_adds (leaves refl) tree) (implementing tree) h
  named name.UnionTypeExtension leaves tree h =
      both (either (some_directives (leaves refl) tree.directives) (λ k. k)) (directives Const tree.directives) h
  named name.EnumTypeExtension leaves tree h =
      both (braced_adds (leaves refl) enum_value_definition_kind (rewritten_enum_value_definition f) tree)
      (braced enum_value_definition_kind (rewritten_enum_value_definition f) enum_value_definition tree) h
  named name.InputObjectTypeExtension leaves tree h =
      both (braced_adds (leaves refl) input_value_definition_kind (rewritten_input_value_definition f) tree)
      (braced input_value_definition_kind (rewritten_input_value_definition f) input_value_definition tree) h

  -- DOCUMENTS

  pub definition_kept : (definition : DefinitionTree) → (IsTrue (is_extension definition.name) → LeavesSome f) →
      IsTrue (definition_kind.obeys definition) → IsTrue (definition_kind.obeys (rewritten_definition f definition))
  definition_kept definition leaves h = named definition.name leaves definition.tree h

  all_kept : (document : List DefinitionTree) → (IsTrue (has_extension document) → LeavesSome f) →
      IsTrue (list_all definition_kind.obeys document) → IsTrue (list_all definition_kind.obeys (rewritten_document f document))
  all_kept [] leaves h = h
  all_kept (definition ∷ more) leaves h =
      both (definition_kept definition (λ k. leaves (first_is (is_extension definition.name) (has_extension more) k)))
      (all_kept more (λ k. leaves (second_is (is_extension definition.name) (has_extension more) k))) h

  pub document_kept : (document : List DefinitionTree) → (IsTrue (has_extension document) → LeavesSome f) →
      IsTrue (document_kind.obeys document) → IsTrue (document_kind.obeys (rewritten_document f document))
  document_kept document leaves h = both (some (rewritten_definition f) document) (all_kept document leaves) h
