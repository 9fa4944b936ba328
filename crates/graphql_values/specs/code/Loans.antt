-- What a directive, a list of directives and a directive definition are once a loan of what they hold has ended.
use Rattle.std.specs.Prelude.{ℕ, ◌≡◌, Bool, List, [], ◌∷◌, Option, Result, IsSome, IfNone, if◌then◌else◌, slice_set}
use Rattle.std.specs.Borrow.{RattleType, MutBor, Fml, Array, Lends, LendsSo, LendsSoOk, follows}
use Rattle.std.specs.List.{HoldsAt}
use Rattle.std.specs.Slice.Iter.{iter_mut_name}
use Rattle.std.specs.Vec.{with_items}
use Rattle.std.specs.contracts.alloc.Global as global
use Rattle.std.specs.contracts.impls.GlobalAllocator.TheImpl.{ghosts}
use Rattle.std.specs.contracts.vec.Vec as vec
use Rattle.std.specs.declared.alloc.Global.{Global}
use Rattle.std.specs.declared.slice.IterMut.{IterMut}
use Rattle.std.specs.declared.vec.Vec.{Vec}
use Rattle.graphql_base.specs.contracts.node.Node.{the_row as node_row}
use Rattle.graphql_base.specs.declared.node.Node.{Node}
use Rattle.graphql_base.specs.Node.{node_value, with_node_value}
use Rattle.graphql_values.specs.code.Queries.{is_argument_named, is_input_value_definition_named}
use Rattle.graphql_values.specs.contracts.argument.Argument.{the_row as argument_row}
use Rattle.graphql_values.specs.contracts.directive.Directive.{the_row as directive_row}
use Rattle.graphql_values.specs.contracts.directive_definition.DirectiveDefinition.{the_row as definition_row}
use Rattle.graphql_values.specs.contracts.directive_list.DirectiveList.{the_row as list_row}
use Rattle.graphql_values.specs.contracts.input_value_definition.InputValueDefinition.{the_row as input_value_row}
use Rattle.graphql_values.specs.contracts.value.Value.{the_row as value_row}
use Rattle.graphql_values.specs.declared.argument.Argument.{Argument}
use Rattle.graphql_values.specs.declared.directive.Directive.{Directive}
use Rattle.graphql_values.specs.declared.directive_definition.DirectiveDefinition.{DirectiveDefinition}
use Rattle.graphql_values.specs.declared.directive_list.DirectiveList.{DirectiveList}
use Rattle.graphql_values.specs.declared.input_value_definition.InputValueDefinition.{InputValueDefinition}
use Rattle.graphql_values.specs.declared.value.Value.{Value}

-- the items, of which the first that passes a test is changed
abbrev pub first_changed : {X : Type 0} → (X → Bool) → (X → X) → List X → List X
first_changed test change [] = []
first_changed test change (x ∷ xs) = if test x then change x ∷ xs else x ∷ first_changed test change xs

-- THE VALUE OF AN ARGUMENT

abbrev pub node_of_value : RattleType
node_of_value = node_row value_row

-- the argument with another value; its name and location stay
abbrev pub with_value : Node Argument → Node Value → Node Argument
with_value argument value = with_node_value argument (record { name = (node_value argument).name; value = value })

-- the arguments with another value in the first one of that name
abbrev pub with_value_of : List ℕ → Node Value → List (Node Argument) → List (Node Argument)
with_value_of text value = first_changed (is_argument_named text) (λ argument. with_value argument value)

-- the argument ends with the last value written through the loan; without a loan it is as it was
abbrev pub LendsArgumentValue : {E : Type 0} → MutBor (Node Argument) → Result (MutBor (Node Value)) E → Fml
LendsArgumentValue argument loan =
    LendsSoOk (node_row argument_row) node_of_value argument loan (λ end value. end ≡ with_value argument.now value) (λ end. end ≡ argument.now)

-- the argument at this place ends with the last value written through the loan, and all else is as it was
abbrev pub LendsValueAt : {E : Type 0} → MutBor Directive → ℕ → Result (MutBor (Node Value)) E → Fml
LendsValueAt directive place loan =
    LendsSoOk directive_row node_of_value directive loan
    (λ end value.
    (end.name ≡ directive.now.name)
    × HoldsAt (λ argument. end.arguments.items ≡ slice_set directive.now.arguments.items place (with_value argument value))
    directive.now.arguments.items place)
    (λ end. (end.name ≡ directive.now.name) × (end.arguments.items ≡ directive.now.arguments.items))

-- the first argument of that name ends with the last value written through the loan, and all else is as it was
abbrev pub LendsSpecifiedValue : {E : Type 0} → MutBor Directive → List ℕ → Result (MutBor (Node Value)) E → Fml
LendsSpecifiedValue directive text loan =
    LendsSoOk directive_row node_of_value directive loan
    (λ end value. (end.name ≡ directive.now.name) × (end.arguments.items ≡ with_value_of text value directive.now.arguments.items))
    (λ end. (end.name ≡ directive.now.name) × (end.arguments.items ≡ directive.now.arguments.items))

-- A LIST OF DIRECTIVES

abbrev pub node_of_directive : RattleType
node_of_directive = node_row directive_row

abbrev pub directives_row : RattleType
directives_row = vec.the_row node_of_directive global.the_row ghosts

-- the list ends with the last vector written through the loan
abbrev pub LendsVec : MutBor DirectiveList → MutBor (Vec (Node Directive) Global) → Fml
LendsVec list nodes = Lends list_row directives_row list nodes (λ end. record { 0 = end })

-- the list ends with the last nodes written through the iterator, in their places
abbrev pub LendsItems : MutBor DirectiveList → IterMut (Node Directive) → Fml
LendsItems list nodes = follows list_row (Array node_of_directive 0) list.ghost_name (iter_mut_name nodes) (λ end. record { 0 = with_items list.now.0 end })

-- AN ARGUMENT OF A DIRECTIVE DEFINITION

-- the definition is the old one with these arguments
abbrev pub IsWithArguments : DirectiveDefinition → List (Node InputValueDefinition) → DirectiveDefinition → Type 0
IsWithArguments old items end =
    (end.arguments.items ≡ items) × (end.description ≡ old.description) × (end.name ≡ old.name) × (end.repeatable ≡ old.repeatable)
    × (end.locations ≡ old.locations)

-- the first argument of that name ends as the last node written through the loan, and all else is as it was
abbrev pub LendsArgument : MutBor DirectiveDefinition → List ℕ → Option (MutBor (Node InputValueDefinition)) → Fml
LendsArgument definition text loan =
    LendsSo definition_row (node_row input_value_row) definition loan
    (λ end node.
    IsSome loan →
    IsWithArguments definition.now
    (first_changed (is_input_value_definition_named text) (λ _. node) definition.now.arguments.items) end)
    (λ end. IfNone loan (end ≡ definition.now))
