-- Of Texts: an array is written item after item.
use Rattle.std.proofs.Common.{◌≡◌, ℕ, Bool, true, false, List, [], ◌∷◌, ◌++◌, refl, ap, subst, sym, ◌∙◌, append_assoc, append-nil}
use Rattle.serde_json.specs.Data.{Data, array, Items, no_items, item}
use Rattle.serde_json.specs.Written.{comma_if, compact_text, items_text}
use Rattle.json_text.specs.Texts.{ArePlain, IsPlain, between, has_items, later_text}

closed : (items : Items) → items_text true items ≡ later_text items ++ 93 ∷ []
closed no_items = refl
closed (item json more) =
    ap (λ t. 44 ∷ (compact_text json ++ t)) (closed more) ∙ ap (λ t. 44 ∷ t) (sym (append_assoc (compact_text json) (later_text more) (93 ∷ [])))

array_text : (items : Items) → compact_text (array items) ≡ 91 ∷ (between items ++ 93 ∷ [])
array_text no_items = refl
array_text (item json more) =
    ap (λ t. 91 ∷ (compact_text json ++ t)) (closed more) ∙ ap (λ t. 91 ∷ t) (sym (append_assoc (compact_text json) (later_text more) (93 ∷ [])))

-- the items with this one behind them
abbrev pub added : Items → Data → Items
added no_items json = item json no_items
added (item first more) json = item first (added more json)

added_later : (items : Items) (json : Data) → later_text (added items json) ≡ later_text items ++ (44 ∷ compact_text json)
added_later no_items json = ap (λ t. 44 ∷ t) (append-nil (compact_text json))
added_later (item first more) json =
    ap (λ t. 44 ∷ (compact_text first ++ t)) (added_later more json)
    ∙ ap (λ t. 44 ∷ t) (sym (append_assoc (compact_text first) (later_text more) (44 ∷ compact_text json)))

added_text : (items : Items) (json : Data) → between (added items json) ≡ between items ++ (comma_if (has_items items) ++ compact_text json)
added_text no_items json = append-nil (compact_text json)
added_text (item first more) json =
    ap (λ t. compact_text first ++ t) (added_later more json) ∙ sym (append_assoc (compact_text first) (later_text more) (44 ∷ compact_text json))

added_there : (items : Items) (json : Data) → true ≡ has_items (added items json)
added_there no_items json = refl
added_there (item first more) json = refl

plain_added : (items : Items) (one : Data) → ArePlain items → IsPlain one → ArePlain (added items one)
plain_added no_items one are is = (is, tt)
plain_added (item first more) one are is = (are.0, plain_added more one are.1 is)

-- From a to b an array was begun with some items, which are such.
pub record HasItems {O : Type 0} (wrote : O → List ℕ → O → Type 0) (a b : O) (is_behind : Bool) (Are : Items → Type 0) : Type 0 where
  pub items : Items
  pub text : wrote a (91 ∷ between items) b
  pub behind : is_behind ≡ has_items items
  pub plain : ArePlain items
  pub are : Are items

module _ {O : Type 0} {wrote : O → List ℕ → O → Type 0} (more : (a b c : O) (x y : List ℕ) → wrote a x b → wrote b y c → wrote a (x ++ y) c) where
  pub no_items_yet : {a b : O} {Are : Items → Type 0} → wrote a (91 ∷ []) b → Are no_items → HasItems wrote a b false Are
  no_items_yet w are = record { items = no_items; text = w; behind = refl; plain = tt; are = are }

  -- one item more, behind a comma if there are others
  pub next_item : {a b c d : O} {is_behind : Bool} {Before Are : Items → Type 0} (json : Data) (so_far : HasItems wrote a b is_behind Before) →
      wrote b (comma_if is_behind) c → wrote c (compact_text json) d → IsPlain json → (Before so_far.items → Are (added so_far.items json)) →
      HasItems wrote a d true Are
  next_item {a = a} {b = b} {c = c} {d = d} json so_far comma value plain then = record {
    items = added so_far.items json;
    text =
        subst (λ t. wrote a (91 ∷ t) d) (sym (added_text so_far.items json))
        (more a b d _ _ so_far.text (more b c d _ _ (subst (λ later. wrote b (comma_if later) c) so_far.behind comma) value));
    behind = added_there so_far.items json;
    plain = plain_added so_far.items json so_far.plain plain;
    are = then so_far.are;
  }

  -- the array is whole
  pub array_ended : {a b c : O} {is_behind : Bool} {Are : Items → Type 0} (so_far : HasItems wrote a b is_behind Are) → wrote b (93 ∷ []) c →
      wrote a (compact_text (array so_far.items)) c
  array_ended {a = a} {b = b} {c = c} so_far w =
      subst (λ t. wrote a t c) (sym (array_text so_far.items)) (more a b c _ _ so_far.text w)
