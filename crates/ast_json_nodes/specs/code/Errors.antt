-- Why no tree was made of JSON: memory was refused, or the JSON is of no such tree.
use Rattle.std.specs.Prelude.{◌≡◌, ℕ, List, None, ⊤}
use Rattle.serde_json.specs.Read.{read}
use Rattle.parsed_json.specs.Depth.{IsTooDeep}
use Rattle.ast_json_nodes.specs.declared.error.AstJsonError.{AstJsonError}
use Rattle.ast_json_nodes.specs.declared.error.AstJsonError.TheVariants.{Memory, TooDeep}

abbrev pub IsMemory : AstJsonError → Type 0
IsMemory Memory = ⊤
IsMemory _ = ⊥

-- Of a text that is no JSON that is read, and memory aside: the error is that it is too deep exactly where it is.
abbrev pub DepthIsTold : List ℕ → AstJsonError → Type 0
DepthIsTold text Memory = ⊤
DepthIsTold text TooDeep = read text ≡ None → IsTooDeep text
DepthIsTold text _ = read text ≡ None → ¬ (IsTooDeep text)
