use Rattle.std.proofs.Common.{◌≡◌, ◌-◌, ◌<◌, arith, refl, subst}
use Rattle.json.specs.Value.{value_view}
use Rattle.serde_json.specs.Read.{max_depth}
use Rattle.parsed_json.specs.Depth.{IsWithin}
use Rattle.parsed_json.proofs.OpenJson.{grown, no_value_place}
use Rattle.parsed_json.proofs.parse.add.Goals as goal

pub returns-then-branch : goal.returns-then-branch
returns-then-branch c =
    let os = c.args.opened.now in
    let some : 0 < os.len = c.in-Some.ensures.variant.0 refl in
    let added = rw c.if-branch.true at c.in_ok-add.ensures.added in
    let deep : max_depth - os.len ≡ max_depth - (os.len - 1) - 1 = omega arith in
    grown os.items (os.len - 1) c.in-Some.innermost.now c.add.new.self _ (omega (arith, os.ok.0))
    c.in-Some.ensures.value c.requires.open_within added
    (λ is. c.in_ok-add.ensures.within (max_depth - (os.len - 1)) is
    (subst (λ d. IsWithin d (value_view c.args.value)) deep c.requires.value_within) c.if-branch.true)

pub returns-else-branch : goal.returns-else-branch
returns-else-branch c =
    let os = c.args.opened.now in
    let some : 0 < os.len = c.in-Some.ensures.variant.0 refl in
    no_value_place os.items (os.len - 1) c.in-Some.innermost.now c.args.value (omega (arith, os.ok.0))
    c.in-Some.ensures.value c.requires.open_within (rw c.if-branch.false at c.in_ok-add.ensures.added)
