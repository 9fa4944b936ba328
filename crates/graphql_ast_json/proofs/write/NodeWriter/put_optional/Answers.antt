use Rattle.std.proofs.Common.{Option, Some, None, IsSomeAnd, option_map, sym, subst}
use Rattle.serde_json.specs.Data.{Data}
use Rattle.ast_json_nodes.specs.nodes.Nodes.{IsOptional}
use Rattle.graphql_ast_json.proofs.general.OkValues.{one_then}
use Rattle.graphql_ast_json.proofs.write.NodeWriter.put_optional.Goals as goal

some_optional : {A : Type 0} (Is : A → Data → Type 0) (x : A) (json : Option Data) → IsSomeAnd json (Is x) → IsOptional Is (Some x) json
some_optional Is x None is = absurd is
some_optional Is x (Some json) is = is

pub returns-in-Some : goal.returns-in-Some
returns-in-Some g c =
    let Is = g.F.Form.is_json_of in
    let tree = g.F.Form.tree in
    one_then c.put.result c.put.ensures (λ _ one. record {
      json = one.json;
      made = one.made;
      there = one.there;
      is = λ unknown. subst (λ value. IsOptional (Is unknown) (option_map tree value) one.json) (sym c.in-Some.is)
          (some_optional (Is unknown) (tree c.in-Some.value) one.json (one.is unknown));
    })
