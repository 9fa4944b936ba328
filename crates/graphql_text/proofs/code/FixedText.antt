-- Items whose text is the same at every place.
use Rattle.std.proofs.Common.{◌≡◌, ℕ, ◌+◌, ◌-◌, Bool, true, false, List, [], ◌∷◌, ◌++◌, Option, Some, None, refl, sym, ap, ◌∙◌, arith}
use Rattle.std.proofs.Common.{subst, cond, encode_utf8_all}
use Rattle.std.proofs.lemmas.Str.{encodes-append}
use Rattle.std.proofs.Math.Utf8.{encode}
use Rattle.graphql_text.specs.layout.Layout.{Item, Word, StringItem, Space, Comma, Soft, Tight, Blank, Finish, Raise, Lower, item_text}
use Rattle.graphql_text.specs.layout.Layout.{raises, raises_at, lowers, lowers_at, text_of_items}
use Rattle.graphql_base.specs.Names.{is_name}
use Rattle.graphql_text.specs.lexical.Tokens.{Punctuation, Name, IntValue, FloatValue, StringValue}
use Rattle.graphql_text.specs.code.Writing.{WritesItems, fixed_item_text, after_text, fixed_text}
use Rattle.graphql_text.proofs.lexical.AsciiWords.{name_bytes, mark_bytes}

-- what an item of fixed text gives at a place, and that it marks no level
record IsFixed (item : Item) (text : List ℕ) : Type 0 where
  same : (mode : Option (List ℕ)) (level : ℕ) → encode_utf8_all (item_text mode level item) ≡ text
  level : (items : List Item) → (raises (item ∷ items) ≡ raises items) × (lowers (item ∷ items) ≡ lowers items)

from_some : {a b : List ℕ} → Some a ≡ Some b → a ≡ b
from_some e = cc

fixed_name : (name text : List ℕ) (b : Bool) → is_name name ≡ b → cond b (Some name) None ≡ Some text → IsFixed (Word (Name name)) text
unfolding raises lowers
fixed_name name text true valid e = record {
  same = λ mode level. name_bytes (record { text = name; valid = valid }) ∙ from_some e;
  level = λ items. (omega arith, omega arith);
}
fixed_name name text false valid e = absurd cc

fixed_item : (item : Item) (text : List ℕ) → fixed_item_text item ≡ Some text → IsFixed item text
unfolding raises lowers encode
fixed_item (Word (Punctuation mark)) text e = record { same = λ mode level. mark_bytes mark ∙ from_some e; level = λ items. (omega arith, omega arith) }
fixed_item (Word (Name name)) text e = fixed_name name text (is_name name) refl e
fixed_item (Word (IntValue t)) text e = absurd cc
fixed_item (Word (FloatValue t)) text e = absurd cc
fixed_item (Word (StringValue t)) text e = absurd cc
fixed_item (StringItem value role) text e = absurd cc
fixed_item Space text e = record { same = λ mode level. from_some e; level = λ items. (omega arith, omega arith) }
fixed_item Comma text e = record { same = λ mode level. from_some e; level = λ items. (omega arith, omega arith) }
fixed_item Soft text e = absurd cc
fixed_item Tight text e = absurd cc
fixed_item Blank text e = absurd cc
fixed_item Finish text e = absurd cc
fixed_item Raise text e = absurd cc
fixed_item Lower text e = absurd cc

module _ (mode : Option (List ℕ)) (start : ℕ) where
  record AreFixed (raised lowered : ℕ) (items : List Item) (text : List ℕ) : Type 0 where
    same : encode_utf8_all (text_of_items mode start raised lowered items) ≡ text
    balanced : raises items ≡ lowers items

  fixed_items : (raised lowered : ℕ) (items : List Item) (text : List ℕ) → fixed_text items ≡ Some text → AreFixed raised lowered items text
  unfolding text_of_items raises lowers
  fixed_items raised lowered [] text e = record { same = from_some e; balanced = refl }
  fixed_items raised lowered (item ∷ items) text e =
      go (fixed_item_text item) (fixed_text items) refl refl e
      (λ more k. fixed_items (raised + raises_at item) (lowered + lowers_at item) items more k)
    where
      go : (first rest : Option (List ℕ)) → fixed_item_text item ≡ first → fixed_text items ≡ rest → after_text first rest ≡ Some text →
          ((more : List ℕ) → fixed_text items ≡ Some more → AreFixed (raised + raises_at item) (lowered + lowers_at item) items more) →
          AreFixed raised lowered (item ∷ items) text
      go None rest f r e later = absurd cc
      go (Some x) None f r e later = absurd cc
      go (Some x) (Some y) f r e later =
          let one = fixed_item item x f in
          let all = later y r in
          let levels = one.level items in record {
            same =
                encodes-append (item_text mode (start + raised - lowered) item)
                (text_of_items mode start (raised + raises_at item) (lowered + lowers_at item) items)
                ∙ ap (λ t. t ++ encode_utf8_all (text_of_items mode start (raised + raises_at item) (lowered + lowers_at item) items))
                (one.same mode (start + raised - lowered))
                ∙ ap (λ t. x ++ t) all.same ∙ from_some e;
            balanced = levels.0 ∙ all.balanced ∙ sym levels.1;
          }

pub writes_fixed :
    {O : Type 0} {wrote : O → List ℕ → O → Type 0} {a b : O} (mode : Option (List ℕ)) (level : ℕ) (items : List Item) {text : List ℕ} →
    fixed_text items ≡ Some text → wrote a text b → WritesItems wrote a b mode level items
writes_fixed {O} {wrote} {a} {b} mode level items {text} is done =
    let fixed = fixed_items mode level 0 0 items text is in
    record { text = subst (λ t. wrote a t b) (sym fixed.same) done; balanced = fixed.balanced }

-- the same of a name before them
pub writes_name_then :
    {O : Type 0} {wrote : O → List ℕ → O → Type 0} {a b : O} (mode : Option (List ℕ)) (level : ℕ) (items : List Item) {name words : List ℕ} →
    is_name name ≡ true → fixed_text items ≡ Some words → wrote a (name ++ words) b → WritesItems wrote a b mode level (Word (Name name) ∷ items)
writes_name_then mode level items {name} {words} valid is done =
    let whole : fixed_text (Word (Name name) ∷ items) ≡ Some (name ++ words) = rw (valid, is) refl in
    writes_fixed mode level (Word (Name name) ∷ items) whole done
