-- What tells the type of JSON.
use Rattle.std.proofs.Common.{◌≡◌, if◌then◌else◌, is_some, refl}
use Rattle.serde_json.specs.Data.{Data, null, boolean, number, string, array, object}
use Rattle.serde_json.specs.Find.{as_array, as_bool, as_null, as_object, as_str}
use Rattle.ast_json_nodes.specs.code.JsonNodes.{type_of}
use Rattle.ast_json_nodes.specs.declared.error.JsonType.TheVariants.{Null, Boolean, Number, Text, Array, Object}

pub type_by : (json : Data) → type_of json ≡
    (if is_some (as_null json) then Null else if is_some (as_bool json) then Boolean else if is_some (as_str json) then Text
    else if is_some (as_array json) then Array else if is_some (as_object json) then Object else Number)
type_by null = refl
type_by (boolean b) = refl
type_by (number n) = refl
type_by (string s) = refl
type_by (array js) = refl
type_by (object ms) = refl
