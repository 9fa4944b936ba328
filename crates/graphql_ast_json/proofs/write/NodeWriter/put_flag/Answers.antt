use Rattle.std.proofs.Common.{Bool, true, None, Some, ap, if◌then◌else◌, refl, sym, ◌∙◌}
use Rattle.serde_json.specs.Data.{boolean}
use Rattle.graphql_ast_json.proofs.general.OkValues.{one_then}
use Rattle.graphql_ast_json.proofs.write.NodeWriter.put_flag.Goals as goal

pub returns-then-is_so : goal.returns-then-is_so
returns-then-is_so c =
    one_then c.put_boolean.result c.put_boolean.ensures (λ _ one. record {
      json = one.json;
      made = one.made;
      there = one.there;
      is = one.is ∙ ap (λ (b : Bool). if b then Some (boolean true) else None) (sym c.if-is_so.true);
    })

pub returns-else-is_so : goal.returns-else-is_so
returns-else-is_so c = record {
  json = None;
  made = refl;
  there = refl;
  is = ap (λ (b : Bool). if b then Some (boolean true) else None) (sym c.if-is_so.false);
}
