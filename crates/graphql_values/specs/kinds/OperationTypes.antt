-- Operation types: OperationType, section 2.3.
use Rattle.std.specs.Prelude.{ℕ, List, [], ◌∷◌, codes}
use Rattle.graphql_text.specs.lexical.Tokens.{Name}
use Rattle.graphql_text.specs.grammar.Forms.{Form, keyword}
use Rattle.graphql_text.specs.layout.Layout.{Item, Word}

pub data OperationTypeTree : Type 0 where
  Query Mutation Subscription : OperationTypeTree

-- The name of an operation type, which is its word in the grammar.
abbrev pub operation_type_name : OperationTypeTree → List ℕ
operation_type_name Query = codes "query"
operation_type_name Mutation = codes "mutation"
operation_type_name Subscription = codes "subscription"

-- The grammar of OperationType, section 2.3.
abbrev pub operation_type_form : OperationTypeTree → Form
operation_type_form operation_type = keyword (operation_type_name operation_type)

-- The layout of an operation type.
abbrev pub operation_type_shape : OperationTypeTree → List Item
operation_type_shape operation_type = Word (Name (operation_type_name operation_type)) ∷ []
