use Rattle.std.proofs.Common.{sym, subst}
use Rattle.json.specs.Json.{array}
use Rattle.json.specs.Value.{items_view}
use Rattle.parsed_json.specs.Depth.{IsWithin}
use Rattle.parsed_json.specs.OpenJson.{so_far}
use Rattle.parsed_json.proofs.OpenJson.{added_within, item_within}
use Rattle.parsed_json.proofs.parse.Open.add.Goals as goal

pub returns-in_ok-push-in-Array-clause-within : goal.returns-in_ok-push-in-Array-clause-within
returns-in_ok-push-in-Array-clause-within c d are is _ =
    subst (λ vs. IsWithin d (array (items_view vs))) (sym c.in_ok-push-in-Array.ensures.items)
    (item_within d c.in-Array.items.items c.args.value (subst (λ o. IsWithin d (so_far o)) c.in-Array.is are) is)

pub returns-in-Object-clause-within : goal.returns-in-Object-clause-within
returns-in-Object-clause-within c d are is =
    added_within c.add.result c.in-Object.members c.add.new.self c.args.value c.add.ensures d (subst (λ o. IsWithin d (so_far o)) c.in-Object.is are) is
