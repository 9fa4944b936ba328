-- A flag that is told is a boolean.
use Rattle.std.proofs.Common.{◌≡◌, Bool, true, false, Option, Some, None, MatchOption, if◌then◌else◌, subst, sym}
use Rattle.std.specs.Prelude.{⊤}
use Rattle.serde_json.specs.Data.{Data, boolean}
use Rattle.ast_json_nodes.specs.nodes.Nodes.{IsBoolean}

pub flag_is_boolean : (is_so : Bool) (told : Option Data) → told ≡ (if is_so then Some (boolean true) else None) → MatchOption told ⊤ IsBoolean
flag_is_boolean true told is = subst (λ o. MatchOption o ⊤ IsBoolean) (sym is) tt
flag_is_boolean false told is = subst (λ o. MatchOption o ⊤ IsBoolean) (sym is) tt
