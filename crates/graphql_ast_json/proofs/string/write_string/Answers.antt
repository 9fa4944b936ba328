use Rattle.std.proofs.Common.{[], ◌∷◌, Bool, true, false, ap, codes, refl, Option, None, Some, sym, ◌∙◌, subst, MatchOption}
use Rattle.std.proofs.Common.{if◌then◌else◌}
use Rattle.std.specs.Prelude.{⊤}
use Rattle.serde_json.specs.Data.{Data, boolean, string}
use Rattle.ast_json_nodes.specs.nodes.Nodes.{IsBoolean}
use Rattle.graphql_ast_json.proofs.nodes.DraftsAreNodes.{begun, ended, gained, given_member, is_node, stands}
use Rattle.graphql_ast_json.proofs.string.write_string.Goals as goal

flag_is : (b : Bool) → MatchOption (if b then Some (boolean true) else None) ⊤ IsBoolean
flag_is true = tt
flag_is false = tt

pub returns : goal.returns
returns c =
    let w = ended c.into_json.ensures (gained (gained (begun c.in_ok-begin.ensures) c.in_ok-put_text.ensures) c.in_ok-put_flag.ensures) in
    let flag = given_member w c.in_ok-put_flag.ensures refl refl in record {
      ok = λ unknown text same. (
        is_node unknown (codes "value" ∷ codes "block" ∷ []) w refl refl refl refl,
        given_member w c.in_ok-put_text.ensures refl refl ∙ ap (λ bytes. Some (string bytes)) (sym same),
        subst (λ (found : Option Data). MatchOption found ⊤ IsBoolean) (sym flag) (flag_is c.args.is_block),
      );
      block = flag;
      stands = stands w refl refl;
    }
