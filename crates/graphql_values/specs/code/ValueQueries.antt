-- What a value of the code holds, by its variant; and the fields that a value is made of.
use Rattle.std.specs.Prelude.{ℕ, Bool, true, false, List, Option, Some, None, string_bytes}
use Rattle.graphql_base.specs.declared.name.Name.{Name}
use Rattle.graphql_base.specs.declared.node.Node.{Node}
use Rattle.graphql_base.specs.Node.{node_at}
use Rattle.graphql_values.specs.declared.literal.IntValue.{IntValue}
use Rattle.graphql_values.specs.declared.literal.FloatValue.{FloatValue}
use Rattle.graphql_values.specs.declared.value.Value.{Value, Value-F, out-Value}

abbrev pub null_at : Value-F Value → Bool
null_at Value-F.Null = true
null_at _ = false

abbrev pub enum_at : Value-F Value → Option Name
enum_at (Value-F.Enum name) = Some name
enum_at _ = None

abbrev pub variable_at : Value-F Value → Option Name
variable_at (Value-F.Variable name) = Some name
variable_at _ = None

abbrev pub string_at : Value-F Value → Option (List ℕ)
string_at (Value-F.String string) = Some (string_bytes string)
string_at _ = None

abbrev pub int_at : Value-F Value → Option IntValue
int_at (Value-F.Int int) = Some int
int_at _ = None

abbrev pub float_at : Value-F Value → Option FloatValue
float_at (Value-F.Float float) = Some float
float_at _ = None

abbrev pub boolean_at : Value-F Value → Option Bool
boolean_at (Value-F.Boolean boolean) = Some boolean
boolean_at _ = None

abbrev pub list_at : Value-F Value → Option (List (Node Value))
list_at (Value-F.List items) = Some items.items
list_at _ = None

abbrev pub object_at : Value-F Value → Option (List (Name × Node Value))
object_at (Value-F.Object fields) = Some fields.items
object_at _ = None

-- whether it is the null, and its name, text, number, boolean, items or fields, if it is of that variant
abbrev pub is_null : Value → Bool
is_null value = null_at (out-Value value)

abbrev pub enum_of : Value → Option Name
enum_of value = enum_at (out-Value value)

abbrev pub variable_of : Value → Option Name
variable_of value = variable_at (out-Value value)

abbrev pub string_of : Value → Option (List ℕ)
string_of value = string_at (out-Value value)

abbrev pub int_of : Value → Option IntValue
int_of value = int_at (out-Value value)

abbrev pub float_of : Value → Option FloatValue
float_of value = float_at (out-Value value)

abbrev pub boolean_of : Value → Option Bool
boolean_of value = boolean_at (out-Value value)

abbrev pub list_items_of : Value → Option (List (Node Value))
list_items_of value = list_at (out-Value value)

abbrev pub object_fields_of : Value → Option (List (Name × Node Value))
object_fields_of value = object_at (out-Value value)

-- the field of an object with this name and value, whose node has no location
abbrev pub unlocated_field : Name × Value → Name × Node Value
unlocated_field field = (field.0, node_at None field.1)
