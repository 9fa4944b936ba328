use Rattle.std.proofs.Common.{◌≡◌, ◌==◌, List, [], ◌∷◌, Option, Some, length, option_and_then, refl, ap, ◌∙◌}
use Rattle.std.proofs.Math.Dec.{eqb-suc-zero}
use Rattle.serde_json.specs.Data.{Data}
use Rattle.serde_json.specs.Find.{as_array}
use Rattle.serde_json.specs.View.{items_of}
use Rattle.parsed_json.specs.AnyJson.{item_datas}
use Rattle.ast_json_nodes.specs.code.JsonNodes.{has_none}
use Rattle.graphql_ast_json.proofs.well_formed.search.lacks.Goals as goal

no_items_left : (items : List Data) → (length items == 0) ≡ has_none (Some (items_of items))
no_items_left [] = refl
no_items_left (item ∷ more) = eqb-suc-zero (length more)

pub returns-in-Some-as_items : goal.returns-in-Some-as_items
returns-in-Some-as_items c =
    c.is_empty.ensures ∙ no_items_left (item_datas c.in-Some-as_items.items) ∙ ap has_none c.in-Some-as_items.ensures
    ∙ ap (λ (m : Option Data). has_none (option_and_then as_array m)) c.in-Some.ensures.value
