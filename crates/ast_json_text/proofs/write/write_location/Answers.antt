use Rattle.std.proofs.Common.{◌<◌, ◌^◌, ◌++◌, codes, append-nil, subst, sym}
use Rattle.json.specs.Print.{escape_byte}
use Rattle.serde_json.specs.Written.{compact_text}
use Rattle.graphql_ast_json.specs.code.Drafts.{location_json}
use Rattle.ast_json_text.proofs.write.write_location.Goals as goal

pub returns-in-Some : goal.returns-in-Some
unfolding escape_byte
returns-in-Some g c =
    let more = g.met.O.Target.more in
    let wrote = g.O.Target.wrote in
    let json = compact_text (location_json c.in-Some.span) in
    let last = rw c.end.ensures at c.write_number.ensures in
    let first = rw c.start.ensures at c.write_number-in-Some.ensures in
    let text : wrote c.args.out.now (codes ",\"loc\":" ++ json) c.text-in-Some-2.new.self =
    more _ _ _ _ _ c.text.ensures (more _ _ _ _ _ last (more _ _ _ _ _ c.text-in-Some.ensures (more _ _ _ _ _ first c.text-in-Some-2.ensures))) in
    rw c.in-Some.is (record {
      text = subst (λ t. wrote c.args.out.now (codes ",\"loc\":" ++ t) c.text-in-Some-2.new.self) (sym (append-nil json)) text;
      reach = subst (λ n. n < 2 ^ 32) c.end.ensures c.end.type_inv;
    })
