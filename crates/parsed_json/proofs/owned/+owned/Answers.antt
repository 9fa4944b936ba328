use Rattle.std.proofs.Common.{List, map, sym, ap, ◌∙◌, arith}
use Rattle.std.proofs.lemmas.List.{take_all}
use Rattle.std.specs.Borrow.{Bor}
use Rattle.std.specs.Prelude.{ℕ}
use Rattle.std.specs.declared.alloc.Global.{Global}
use Rattle.json.proofs.Trees.{view-Object as parsed-Object}
use Rattle.json.specs.Value.{members_view as parsed_members}
use Rattle.json.specs.declared.value.Value.{Value}
use Rattle.serde_json.proofs.Views.{view-Object}
use Rattle.serde_json.specs.Data.{object, no_members}
use Rattle.serde_json.specs.View.{items_of}
use Rattle.parsed_json.specs.ParsedJson.{data_of, parsed_data, with_members}
use Rattle.parsed_json.proofs.ParsedMembers.{items_one_by_one}
use Rattle.parsed_json.proofs.owned.+owned.Goals as goal

pub owned_json-returns-in_ok-owned_members-in-Object : goal.owned_json-returns-in_ok-owned_members-in-Object
owned_json-returns-in_ok-owned_members-in-Object t c =
    view-Object c.in_ok-owned_members-in-Object.field-0 ∙ ap object c.in_ok-owned_members-in-Object.ensures
    ∙ ap (λ (ms : List (Bor (List ℕ) × Value Global)). object (with_members (parsed_members ms) no_members)) c.as_slice-in-Object.ensures.value
    ∙ ap data_of (sym (parsed-Object c.in-Object.members)) ∙ ap (λ (v : Value Global). parsed_data v) (sym c.in-Object.is)

pub owned_items-returns : goal.owned_items-returns
owned_items-returns t c =
    let items = c.args.items.now in
    ap items_of (c.loop-item.invariant ∙ ap (λ (vs : List (Value Global)). map parsed_data vs) (take_all c.loop-item.item-index items (omega arith)))
    ∙ sym (items_one_by_one items)
