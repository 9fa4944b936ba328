use Rattle.std.proofs.Common.{◌-◌, ◌<◌, arith, refl, subst, sym}
use Rattle.serde_json.specs.Read.{max_depth}
use Rattle.parsed_json.specs.Depth.{IsWithin}
use Rattle.parsed_json.proofs.OpenJson.{grown, name_alone, no_name_place, none_there}
use Rattle.parsed_json.proofs.parse.add_name.Goals as goal

pub returns-in_default : goal.returns-in_default
returns-in_default c = name_alone c.args.opened.now.items c.args.name.now (omega (arith, c.args.opened.now.ok.0, none_there _ c.in_default.ensures.variant.1))

pub returns-then-add_name : goal.returns-then-add_name
returns-then-add_name c =
    let os = c.args.opened.now in
    let some : 0 < os.len = c.in-Some.ensures.variant.0 refl in
    grown os.items (os.len - 1) c.in-Some.innermost.now c.add_name.new.self _ (omega (arith, os.ok.0))
    c.in-Some.ensures.value c.requires.open_within c.if-add_name.ensures.added
    (λ is. subst (λ j. IsWithin (max_depth - (os.len - 1)) j) (sym c.add_name.ensures.same) is)

pub returns-else-add_name : goal.returns-else-add_name
returns-else-add_name c =
    let os = c.args.opened.now in
    let some : 0 < os.len = c.in-Some.ensures.variant.0 refl in
    no_name_place os.items (os.len - 1) c.in-Some.innermost.now c.args.name.now (omega (arith, os.ok.0))
    c.in-Some.ensures.value c.requires.open_within c.if-add_name.ensures.added
