-- Of Texts: what is plain, and that its text is read as it.
use Rattle.std.proofs.Common.{◌≡◌, ℕ, suc, max, ◌<◌, ◌≤◌, ◌^◌, Bool, true, false, ◌||◌, [], Option, Some, append-nil, refl, sym, ap, ap₂, subst, ◌∙◌}
use Rattle.std.proofs.Common.{option_map, option_and_then}
use Rattle.json.specs.Json as json
use Rattle.json.specs.Tree as tree
use Rattle.json.proofs.Printed.Decimals.{IsNumber-decimal}
use Rattle.json.proofs.Printed.Tokens.{tokens-print}
use Rattle.json.proofs.Printed.Trees.{ArePrintable-json_tokens, value-json_tokens}
use Rattle.json.specs.Lex.{tokens}
use Rattle.serde_json.proofs.Numbers.{number_of-decimal}
use Rattle.serde_json.proofs.Texts.{print-outline}
use Rattle.serde_json.specs.Data.{Data, null, boolean, number, string, array, object, unsigned, negative, float, Items, no_items, item, Members, no_members}
use Rattle.serde_json.specs.Data.{member}
use Rattle.serde_json.specs.Data.{depth, items_depth, members_depth}
use Rattle.serde_json.specs.Read.{max_depth, of_items, of_json, read}
use Rattle.serde_json.specs.Written.{compact_text, has_float, items_have_float, items_outline, members_outline, outline}
use Rattle.json_text.specs.Texts.{ArePlain, IsPlain}

pub plain_string : {s : _} → IsPlain (string s)
plain_string = record { no_float = refl; same = refl; numbers = tt }

pub plain_boolean : {b : Bool} → IsPlain (boolean b)
plain_boolean = record { no_float = refl; same = refl; numbers = tt }

pub plain_number : (n : ℕ) → n < 2 ^ 64 → IsPlain (number (unsigned n))
plain_number n fits = record { no_float = refl; same = ap (option_map number) (number_of-decimal n fits); numbers = IsNumber-decimal n fits }

no_floats : (items : Items) → ArePlain items → items_have_float items ≡ false
no_floats no_items are = refl
no_floats (item one more) are = ap₂ (λ a b. a || b) are.0.no_float (no_floats more are.1)

same_items : (items : Items) → ArePlain items → of_items (items_outline items) ≡ Some items
same_items no_items are = refl
same_items (item one more) are =
    ap (option_and_then (λ d. option_map (item d) (of_items (items_outline more)))) are.0.same ∙ ap (option_map (item one)) (same_items more are.1)

item_numbers : (items : Items) → ArePlain items → tree.ItemsHaveNumbers (items_outline items)
item_numbers no_items are = tt
item_numbers (item one more) are = (are.0.numbers, item_numbers more are.1)

pub plain_array : (items : Items) → ArePlain items → IsPlain (array items)
plain_array items are = record {
  no_float = no_floats items are;
  same = ap (option_map array) (same_items items are);
  numbers = item_numbers items are;
}

mutual
  depth_same : (d : Data) → tree.depth (outline d) ≡ depth d
  depth_same null = refl
  depth_same (boolean b) = refl
  depth_same (number n) = refl
  depth_same (string s) = refl
  depth_same (array ds) = ap suc (items_depth_same ds)
  depth_same (object ms) = ap suc (members_depth_same ms)

  items_depth_same : (ds : Items) → tree.items_depth (items_outline ds) ≡ items_depth ds
  items_depth_same no_items = refl
  items_depth_same (item d ds) = ap₂ max (depth_same d) (items_depth_same ds)

  members_depth_same : (ms : Members) → tree.members_depth (members_outline ms) ≡ members_depth ms
  members_depth_same no_members = refl
  members_depth_same (member k d ms) = ap₂ max (depth_same d) (members_depth_same ms)

-- The text of what is plain is read as it, where it doesn't nest too deep.
pub read_back : (d : Data) → IsPlain d → depth d ≤ max_depth → read (compact_text d) ≡ Some d
read_back d is shallow =
    let lexed = ap tokens (sym (print-outline d)) ∙ tokens-print (tree.json_tokens (outline d)) (ArePrintable-json_tokens (outline d) is.numbers) in
    ap (λ o. option_and_then of_json (option_and_then (λ p. json.if_last p.0 p.1) o)) (ap (json.value max_depth) (lexed ∙ sym (append-nil (tree.json_tokens
    (outline d))))
    ∙ value-json_tokens (outline d) max_depth [] (subst (λ n. n ≤ max_depth) (sym (depth_same d)) shallow)) ∙ is.same
