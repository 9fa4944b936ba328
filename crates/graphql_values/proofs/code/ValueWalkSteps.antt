-- What a value's writing goes on by, and how much room an entry of its stack needs.
use Rattle.std.proofs.Common.{ℕ, ◌≤◌, ◌<◌, Bool, true, false, List, [], ◌∷◌, ◌++◌, length, arith}
use Rattle.graphql_text.specs.code.Groups.{comma_lead}
use Rattle.graphql_text.specs.layout.Layout.{Lower, Space, Tight, Word, last_comma}
use Rattle.graphql_text.specs.lexical.Tokens.{Punctuator, colon, Punctuation, Name}
use Rattle.graphql_text.proofs.code.PendingStackSteps.{need_less}
use Rattle.graphql_values.specs.declared.value.print.ValueEntry.{ValueEntry}
use Rattle.graphql_values.specs.code.ValueWalk.{CanGoOn, entry_nesting}

-- what leads to an item, and what ends a group, is never nothing
pub lead_some : (is_first : Bool) → 0 < length (comma_lead is_first)
lead_some true = omega arith
lead_some false = omega arith

pub named_some : (is_first : Bool) (name : List ℕ) → 0 < length (comma_lead is_first ++ (Word (Name name) ∷ Word (Punctuation colon) ∷ Space ∷ []))
named_some true name = omega arith
named_some false name = omega arith

pub end_some : (broken : Bool) (closing : Punctuator) → 0 < length (last_comma broken ++ (Lower ∷ Tight ∷ Word (Punctuation closing) ∷ []))
end_some true closing = omega arith
end_some false closing = omega arith

-- an entry that nests no deeper may be gone on with as well
pub can_go_on_less : {level capacity : ℕ} (entries : List ValueEntry) (entry rest : ValueEntry) → entry_nesting rest ≤ entry_nesting entry →
    CanGoOn level capacity entries entry → CanGoOn level capacity entries rest
can_go_on_less entries entry rest less can = record {
  room = omega (arith, need_less entry_nesting entries entry rest less, can.room);
  fits = omega (arith, less, can.fits);
  inside = can.inside;
}
