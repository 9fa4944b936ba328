-- Of SideConditions: what the ready rewritings keep.
use Rattle.std.proofs.Common.{◌≡◌, ℕ, Bool, true, false, ◌&&◌, IsTrue, List, [], ◌∷◌, Some, refl}
use Rattle.std.specs.Prelude.{if◌then◌else◌, cond, filter, unwrap_or}
use Rattle.std.specs.List.{list_all}
use Rattle.graphql_text.specs.lexical.Literals.{NameText}
use Rattle.graphql_text.proofs.general.BooleanTests.{first_holds, second_holds, both_hold}
use Rattle.graphql_values.specs.kinds.Directives.{DirectiveTree, directive_obeys}
use Rattle.graphql_values.specs.kinds.Values.{Constness, Const, NonConst, ValueTree, null_value, enum_value, variable, string_value, float_value, int_value}
use Rattle.graphql_values.specs.kinds.Values.{boolean_value, list_value, object_value, value_obeys}
use Rattle.graphql_executable.specs.kinds.Fields.{FieldTree, field_kind}
use Rattle.graphql_executable.specs.kinds.Selections.{SelectionTrees, no_selections, more_selections, selection_obeys, selections_obey, selection_set_obeys}
use Rattle.graphql_rewrite.specs.DirectiveRewritings.{removing_directive}
use Rattle.graphql_rewrite.specs.FieldRewritings.{adding_field, has_response, is_text, renamed_field, renaming_fields, with_field, with_field_once}
use Rattle.graphql_rewrite.specs.SideConditions.{Keeps, LeavesSome}
use Rattle.graphql_rewrite.specs.VariableRewritings.{replaced_variable, replacing_variables, value_named}

chosen : {A : Type 0} (test : A → Bool) (b : Bool) (x y : A) → IsTrue (test x) → IsTrue (test y) → IsTrue (test (if b then x else y))
chosen test true x y h k = h
chosen test false x y h k = k

-- FIELDS

renamed : (from : List ℕ) (to : NameText) (field : FieldTree) → IsTrue (field_kind.obeys field) → IsTrue (field_kind.obeys (renamed_field from to field))
renamed from to field h =
    chosen field_kind.obeys (is_text from field.head.name) (record field { head = record field.head { name = to } }) field h h

pub renaming_keeps : (from : List ℕ) (to : NameText) → Keeps (renaming_fields from to) × LeavesSome (renaming_fields from to)
renaming_keeps from to = (
  record {
    value = λ c value h. h;
    arguments = λ c arguments h. h;
    directives = λ c directives h. h;
    field = renamed from to;
    selections = λ set h. h;
  },
  λ directives h. h,
)

added : (name : NameText) (set : SelectionTrees) → IsTrue (selections_obey set) → IsTrue (selection_set_obeys (with_field name set))
added name no_selections h = refl
added name (more_selections selection more) h =
    both_hold (selection_obeys selection) (selections_obey (with_field name more)) (first_holds (selection_obeys selection) (selections_obey more) h)
    (second_holds _ _ (added name more (second_holds (selection_obeys selection) (selections_obey more) h)))

pub adding_keeps : (name : NameText) → Keeps (adding_field name) × LeavesSome (adding_field name)
adding_keeps name = (
  record {
    value = λ c value h. h;
    arguments = λ c arguments h. h;
    directives = λ c directives h. h;
    field = λ field h. h;
    selections = λ set h. chosen selection_set_obeys (has_response name.text set) set (with_field name set) h (added name set (second_holds _ _ h));
  },
  λ directives h. h,
)

-- VARIABLES

module _ (values : List (NameText × ValueTree)) (obey : IsTrue (list_all (λ named. value_obeys NonConst named.1) values)) where
  of_name : (name : NameText) (more : List (NameText × ValueTree)) → IsTrue (list_all (λ named. value_obeys NonConst named.1) more) →
      IsTrue (value_obeys NonConst (unwrap_or (value_named name more) (variable name)))
  of_name name [] h = refl
  of_name name (named ∷ more) h =
      chosen (λ found. value_obeys NonConst (unwrap_or found (variable name))) (is_text name.text named.0) (Some named.1) (value_named name more)
      (first_holds _ _ h) (of_name name more (second_holds _ _ h))

  replaced : (c : Constness) (value : ValueTree) → IsTrue (value_obeys c value) → IsTrue (value_obeys c (replaced_variable values value))
  replaced Const (variable name) h = absurd (cc h)
  replaced NonConst (variable name) h = of_name name values obey
  replaced c null_value h = h
  replaced c (enum_value name) h = h
  replaced c (string_value string) h = h
  replaced c (float_value float) h = h
  replaced c (int_value int) h = h
  replaced c (boolean_value boolean) h = h
  replaced c (list_value items) h = h
  replaced c (object_value entries) h = h

  pub replacing_keeps : Keeps (replacing_variables values) × LeavesSome (replacing_variables values)
  replacing_keeps = (
    record {
      value = replaced;
      arguments = λ c arguments h. h;
      directives = λ c directives h. h;
      field = λ field h. h;
      selections = λ set h. h;
    },
    λ directives h. h,
  )

-- DIRECTIVES

kept : {A : Type 0} (test stays : A → Bool) (xs : List A) → IsTrue (list_all test xs) → IsTrue (list_all test (filter stays xs))
kept test stays [] h = h
kept test stays (x ∷ xs) h =
    chosen (list_all test) (stays x) (x ∷ filter stays xs) (filter stays xs)
    (both_hold (test x) (list_all test (filter stays xs)) (first_holds _ _ h) (kept test stays xs (second_holds _ _ h)))
    (kept test stays xs (second_holds _ _ h))

pub removing_keeps : (text : List ℕ) → Keeps (removing_directive text)
removing_keeps text = record {
  value = λ c value h. h;
  arguments = λ c arguments h. h;
  directives = λ c directives h. kept (directive_obeys c) _ directives h;
  field = λ field h. h;
  selections = λ set h. h;
}
