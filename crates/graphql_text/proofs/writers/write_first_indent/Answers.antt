use Rattle.std.proofs.Common.{ap, subst, sym, encode_utf8_all}
use Rattle.std.proofs.lemmas.Str.{encodes-append}
use Rattle.graphql_text.specs.layout.Layout.{first_indent}
use Rattle.graphql_text.specs.code.Place.{mode_of}
use Rattle.graphql_text.proofs.writers.write_first_indent.Goals as goal

pub returns-in-Some : goal.returns-in-Some
returns-in-Some g c =
    let here = ap (λ prefix. encode_utf8_all (first_indent (mode_of prefix) c.args.place.now.level)) c.in-Some.is in
    let indented = subst (λ bytes. g.O.Target.wrote c.args.out.now bytes c.indent.new.out) (sym here) c.indent.ensures in
    λ last items written. record {
      text = subst (λ bytes. g.O.Target.wrote c.args.out.now bytes last) (sym (encodes-append _ _)) (g.met.O.Target.more _ _ _ _ _ indented written.text);
    }
