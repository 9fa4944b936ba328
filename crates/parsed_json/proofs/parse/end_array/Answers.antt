use Rattle.std.proofs.Common.{◌≡◌, ◌-◌, IfOk, List, length, arith, subst}
use Rattle.json.specs.Token.{Token}
use Rattle.serde_json.specs.Read.{max_depth}
use Rattle.parsed_json.specs.Depth.{IsWithin}
use Rattle.parsed_json.specs.OpenJson.{IsProgress, so_far}
use Rattle.parsed_json.proofs.OpenJson.{array_end_alone, array_ends, array_within, no_array_ends, popped}
use Rattle.parsed_json.proofs.parse.end_array.Goals as goal

pub returns-in_default : goal.returns-in_default
returns-in_default c = array_end_alone c.args.opened.now.items (omega (arith, c.args.opened.now.ok.0, c.in_default.ensures.cases.0))

pub add-requires-clause-open_within : goal.add-requires-clause-open_within
add-requires-clause-open_within c = (popped _ _ _ c.in-Some.ensures.items c.requires.open_within).0

pub add-requires-clause-value_within : goal.add-requires-clause-value_within
add-requires-clause-value_within c =
    let rest = c.pop.new.self in
    let same : length rest.items ≡ rest.len = omega (arith, rest.ok.0) in
    array_within c.in-Some.innermost c.in-Some-ended_array.array (max_depth - rest.len) c.in-Some-ended_array.ensures
    (subst (λ n. IsWithin (max_depth - n) (so_far c.in-Some.innermost)) same (popped _ _ _ c.in-Some.ensures.items c.requires.open_within).1)

pub returns-in-Some-ended_array : goal.returns-in-Some-ended_array
returns-in-Some-ended_array c =
    subst (λ (read : List Token). IfOk c.add.result (λ progress. IsProgress read progress c.add.new.opened.items))
    (array_ends _ _ c.in-Some.innermost c.in-Some-ended_array.array c.in-Some.ensures.items c.in-Some-ended_array.ensures) c.add.ensures

pub returns-in-None : goal.returns-in-None
returns-in-None c =
    no_array_ends c.args.opened.now.items c.pop.new.self.items c.in-Some.innermost c.in-Some.ensures.items c.requires.open_within c.in-None.ensures
