-- The entries that wait on a stack, and how their writing goes on.
use Rattle.std.proofs.Common.{◌≡◌, ℕ, ◌+◌, ◌≤◌, ◌<◌, max, List, [], ◌∷◌, ◌++◌, Option, length, refl, ap, sym, append_assoc, append-nil}
use Rattle.std.proofs.Common.{length-append, arith, ◌∙◌}
use Rattle.graphql_text.specs.layout.Layout.{Item}
use Rattle.graphql_text.specs.code.PendingStack.{EntryGoesOn, OpensAbove, need_above, pending_items, pending_need}
use Rattle.graphql_text.specs.code.Writing.{WritesBeginning, WritesItems, WritesToLevel}
use Rattle.graphql_text.proofs.code.WritingSteps.{beginning_none, beginning_next, beginning_then, beginning_within, writes_levels}

-- an entry that is put on the stack is written first
pub pending_items_push : {Entry : Type 0} (items : Entry → List Item) (entries : List Entry) (entry : Entry) →
    pending_items items (entries ++ entry ∷ []) ≡ items entry ++ pending_items items entries
pending_items_push items [] entry = sym (append-nil (items entry))
pending_items_push items (other ∷ entries) entry =
    rw (pending_items_push items entries entry) (append_assoc (items entry) (pending_items items entries) (items other))

pub pending_need_push : {Entry : Type 0} (nesting : Entry → ℕ) (entries : List Entry) (entry : Entry) →
    pending_need nesting (entries ++ entry ∷ []) ≡ max (pending_need nesting entries) (length entries + max 1 (nesting entry))
pending_need_push nesting [] entry = omega arith
pending_need_push nesting (other ∷ entries) entry = omega (arith, pending_need_push nesting entries entry)

-- an entry that nests no deeper needs no more room
pub need_less : {Entry : Type 0} (nesting : Entry → ℕ) (entries : List Entry) (entry rest : Entry) → nesting rest ≤ nesting entry →
    pending_need nesting (entries ++ rest ∷ []) ≤ pending_need nesting (entries ++ entry ∷ [])
need_less nesting entries entry rest less = omega (arith, less, pending_need_push nesting entries entry, pending_need_push nesting entries rest)

-- while the next item of an entry is written above the rest of it, no more is needed than before
pub need_by_item : {Entry : Type 0} (nesting : Entry → ℕ) (n : ℕ) (entries pushed : List Entry) (entry rest : Entry) →
    nesting entry ≡ max (n + 1) (nesting rest) → pushed ≡ entries ++ rest ∷ [] →
    need_above nesting n pushed ≤ pending_need nesting (entries ++ entry ∷ [])
need_by_item nesting n entries pushed entry rest nests p =
    omega (
      arith,
      nests,
      ap (pending_need nesting) p ∙ pending_need_push nesting entries rest,
      ap length p ∙ length-append entries (rest ∷ []),
      pending_need_push nesting entries entry,
    )

module _ {Entry O : Type 0} {items : Entry → List Item} {nesting : Entry → ℕ} {wrote : O → List ℕ → O → Type 0}
    (nothing : (a : O) → wrote a [] a) (more : (a b c : O) (x y : List ℕ) → wrote a x b → wrote b y c → wrote a (x ++ y) c) where
  -- HOW SOMETHING IS BEGUN

  -- after what stands before it
  pub opens_after : {a b c : O} {mode : Option (List ℕ)} {v v' : ℕ} {first shape : List Item} {opened n n' : ℕ} {entries left : List Entry} → n' ≤ n →
      WritesItems wrote a b mode v first → OpensAbove items nesting wrote b c mode v v' shape opened n' entries left →
      OpensAbove items nesting wrote a c mode v v' (first ++ shape) opened n entries left
  opens_after {first = first} {shape = shape} {entries = entries} less written opens = record {
    written =
        beginning_then more (beginning_next more (beginning_none nothing) (append_assoc first shape (pending_items items entries))
        (writes_levels written)) refl opens.written;
    levels = opens.levels;
    count = opens.count;
    need = omega (arith, less, opens.need);
  }

  -- what has nothing in it is written at once
  pub opens_leaf : {a b : O} {mode : Option (List ℕ)} {v : ℕ} {shape : List Item} (n : ℕ) (entries : List Entry) →
      WritesItems wrote a b mode v shape → OpensAbove items nesting wrote a b mode v v shape 0 n entries entries
  opens_leaf n entries written = record {
    written = beginning_next more (beginning_none nothing) refl (writes_levels written);
    levels = omega arith;
    count = omega arith;
    need = omega arith;
  }

  -- HOW THE WRITING OF AN ENTRY GOES ON

  -- after its first items were written
  pub goes_on_after : {a b c : O} {mode : Option (List ℕ)} {level after : ℕ} (entry rest : Entry) (entries left : List Entry) → nesting rest ≤ nesting entry →
      WritesBeginning wrote a b mode level (items entry) level (items rest) →
      EntryGoesOn items nesting wrote b c mode level after rest entries left →
      EntryGoesOn items nesting wrote a c mode level after entry entries left
  goes_on_after entry rest entries left less begun goes = record {
    written = beginning_then more (beginning_within (pending_items items entries) begun) refl goes.written;
    levels = goes.levels;
    need = omega (arith, need_less nesting entries entry rest less, goes.need);
    less = omega (arith, goes.less, ap length begun.parted ∙ length-append begun.done (items rest));
  }

  -- by its next item: what leads to it, and then its beginning, while the rest waits
  pub goes_on_by_item : {a b c : O} {mode : Option (List ℕ)} {level after : ℕ} {opened n : ℕ} {shape : List Item} (entry rest : Entry)
      (entries pushed left : List Entry) (lead : List Item) →
      items entry ≡ lead ++ (shape ++ items rest) → 0 < length lead → nesting entry ≡ max (n + 1) (nesting rest) → pushed ≡ entries ++ rest ∷ [] →
      WritesItems wrote a b mode level lead → OpensAbove items nesting wrote b c mode level after shape opened n pushed left →
      EntryGoesOn items nesting wrote a c mode level after entry entries left
  goes_on_by_item {shape = shape} entry rest entries pushed left lead e some nests p led opens =
      let later = pending_items items entries in
      let waiting = ap (pending_items items) p ∙ pending_items_push items entries rest in
      let count = ap length p ∙ length-append entries (rest ∷ []) in
      let whole =
      ap (λ t. t ++ later) e ∙ append_assoc lead (shape ++ items rest) later
      ∙ ap (λ t. lead ++ t) (append_assoc shape (items rest) later ∙ ap (λ t. shape ++ t) (sym waiting)) in
      let parted = opens.written.parted in
      record {
        written = beginning_then more (beginning_next more (beginning_none nothing) whole (writes_levels led)) refl opens.written;
        levels = omega (arith, opens.levels, opens.count, count);
        need = omega (arith, opens.need, need_by_item nesting _ entries pushed entry rest nests p);
        less = omega (
          arith,
          some,
          ap length e ∙ length-append lead (shape ++ items rest),
          length-append shape (items rest),
          ap length parted ∙ length-append opens.written.done (pending_items items left),
          length-append shape (pending_items items pushed),
          ap length waiting ∙ length-append (items rest) later,
        );
      }

  -- by its end
  pub goes_on_by_end : {a b : O} {mode : Option (List ℕ)} {level after : ℕ} (entry : Entry) (entries : List Entry) (piece : List Item) →
      items entry ≡ piece → 0 < length piece → WritesToLevel wrote a b mode level piece after → after + 1 ≡ level →
      EntryGoesOn items nesting wrote a b mode level after entry entries entries
  goes_on_by_end entry entries piece e some ended level =
      let later = pending_items items entries in
      record {
        written = beginning_next more (beginning_none nothing) (ap (λ t. t ++ later) e) ended;
        levels = omega (arith, level);
        need = omega (arith, pending_need_push nesting entries entry);
        less = omega (arith, some, ap length e);
      }
