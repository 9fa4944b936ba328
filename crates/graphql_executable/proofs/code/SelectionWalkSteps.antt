-- How selection sets are begun, gone on with and finished.
use Rattle.std.proofs.Common.{◌≡◌, ◌≢◌, ℕ, ◌+◌, ◌≤◌, List, [], ◌∷◌, ◌++◌, Option, length, refl, ap, sym, append-nil, length-append, arith, ◌∙◌}
use Rattle.graphql_text.specs.code.Groups.{curly_rest}
use Rattle.graphql_text.specs.layout.Layout.{Item, Lower, Raise, Soft, Space, Word, lowers, raises}
use Rattle.graphql_text.specs.lexical.Tokens.{lbrace, rbrace, Punctuation}
use Rattle.graphql_text.specs.code.Writing.{WritesBeginning, WritesItems}
use Rattle.graphql_text.proofs.code.GroupsOpened.{curly_group_opened}
use Rattle.graphql_text.proofs.code.PendingStackSteps.{pending_items_push, pending_need_push}
use Rattle.graphql_text.proofs.parts.ToldShapes.{told_balanced, told_curly_group}
use Rattle.graphql_text.proofs.code.WritingSteps.{beginning_all, beginning_none, beginning_next, levels_raise, levels_then, writes_levels}
use Rattle.graphql_executable.specs.trees.ExecutableTrees.{selection_tree, selection_trees}
use Rattle.graphql_executable.specs.code.SelectionWalk.{Finishes, Opens, entry_items, entry_nesting, set_level, stack_items, stack_need}
use Rattle.graphql_executable.specs.kinds.Selections.{SelectionTree, SelectionTrees, no_selections, optional_braced_shape}
use Rattle.graphql_executable.specs.kinds.Selections.{selection_set_nesting, selection_set_shape, selection_shape, selections_shapes}
use Rattle.graphql_executable.specs.declared.selection.Selection.{Selection}
use Rattle.graphql_executable.specs.declared.stacks.SelectionEntry.{SelectionEntry}
use Rattle.graphql_executable.specs.lemmas.Selections.{selection_told, selections_told}

-- SETS WITH SELECTIONS, AND WITHOUT

pub empty_set : (ss : List Selection) → length ss ≡ 0 → selection_trees ss ≡ no_selections
empty_set [] none = refl
empty_set (s ∷ ss) none = absurd (omega (arith, none))

pub set_opened : (ss : List Selection) → length ss ≢ 0 →
    selection_set_shape (selection_trees ss) ≡ Word (Punctuation lbrace) ∷ Raise ∷ curly_rest (selections_shapes (selection_trees ss))
unfolding selection_shape
set_opened [] some = absurd (some refl)
set_opened (s ∷ ss) some = curly_group_opened (selection_shape (selection_tree s)) (selections_shapes (selection_trees ss))

pub set_raises : (ss : List Selection) → length ss ≢ 0 → set_level (selection_trees ss) ≡ 1
set_raises [] some = absurd (some refl)
set_raises (s ∷ ss) some = refl

pub set_nests : (ss : List Selection) → length ss ≢ 0 → 1 ≤ selection_set_nesting (selection_trees ss)
set_nests [] some = absurd (some refl)
set_nests (s ∷ ss) some = omega arith

pub set_is_there : (ss : List Selection) → length ss ≢ 0 →
    optional_braced_shape (selections_shapes (selection_trees ss)) ≡ Space ∷ selection_set_shape (selection_trees ss)
unfolding selection_shape
set_is_there [] some = absurd (some refl)
set_is_there (s ∷ ss) some = refl

-- the next selection of an open set, and its end
pub entry_next : (ss : List Selection) (s : Selection) (more : List Selection) → ss ≡ s ∷ more →
    curly_rest (selections_shapes (selection_trees ss)) ≡ Soft ∷ (selection_shape (selection_tree s) ++ curly_rest (selections_shapes (selection_trees more)))
unfolding selection_shape
entry_next ss s more e = ap (λ xs. curly_rest (selections_shapes (selection_trees xs))) e

pub entry_end : (ss : List Selection) → ss ≡ [] → curly_rest (selections_shapes (selection_trees ss)) ≡ Lower ∷ Soft ∷ Word (Punctuation rbrace) ∷ []
unfolding selection_shape
entry_end ss e = ap (λ xs. curly_rest (selections_shapes (selection_trees xs))) e

-- what is written of a selection, and of a set, raises the level as often as it lowers it
pub selection_balanced : (selection : SelectionTree) → raises (selection_shape selection) ≡ lowers (selection_shape selection)
selection_balanced selection = told_balanced (selection_told selection)

pub set_balanced : (set : SelectionTrees) → raises (selection_set_shape set) ≡ lowers (selection_set_shape set)
set_balanced set = told_balanced (told_curly_group (selections_told set))

module _ {O : Type 0} {wrote : O → List ℕ → O → Type 0} (nothing : (a : O) → wrote a [] a)
    (more : (a b c : O) (x y : List ℕ) → wrote a x b → wrote b y c → wrote a (x ++ y) c) where
  -- a set with selections, which wait then
  pub opens_set : {a b : O} {mode : Option (List ℕ)} {v v' : ℕ} (entry : SelectionEntry) (entries pushed : List SelectionEntry) →
      length entry.rest.now ≢ 0 → pushed ≡ entries ++ entry ∷ [] → v' ≡ v + 1 →
      WritesItems wrote a b mode v (Word (Punctuation lbrace) ∷ []) →
      Opens wrote a b mode v v' (selection_set_shape (selection_trees entry.rest.now)) (set_level (selection_trees entry.rest.now))
      (selection_set_nesting (selection_trees entry.rest.now)) entries pushed
  opens_set entry entries pushed some p level bracket =
      let ss = entry.rest.now in
      let later = stack_items entries in
      let waiting = ap stack_items p ∙ pending_items_push entry_items entries entry in
      let parted = ap (λ t. t ++ later) (set_opened ss some) ∙ ap (λ t. Word (Punctuation lbrace) ∷ Raise ∷ t) (sym waiting) in
      let raised = set_raises ss some in
      record {
        written = beginning_next more (beginning_none nothing) parted (levels_then more (writes_levels bracket) (levels_raise nothing level));
        levels = omega (arith, level, raised);
        count = omega (arith, raised, ap length p ∙ length-append entries (entry ∷ []));
        need = omega (arith, set_nests ss some, ap stack_need p ∙ pending_need_push entry_nesting entries entry);
      }

-- what was begun on an empty stack, and then finished, is written whole
pub opened_and_finished : {O : Type 0} {wrote : O → List ℕ → O → Type 0} {a b c : O} {mode : Option (List ℕ)} {v v' : ℕ} {shape : List Item}
    {opened n : ℕ} {entries left : List SelectionEntry} →
    entries ≡ [] → Opens wrote a b mode v v' shape opened n entries left → Finishes wrote b c mode v' (stack_items left) →
    raises shape ≡ lowers shape → WritesItems wrote a c mode v shape
opened_and_finished {shape = shape} empty opens finishes balanced =
    let begun = rw (empty, append-nil shape) at opens.written in
    finishes _ _ shape begun balanced

-- what was begun, of which nothing is left, is written whole
pub finished : {O : Type 0} {wrote : O → List ℕ → O → Type 0} {a b : O} {mode : Option (List ℕ)} {v v' : ℕ} {all rest : List Item} →
    WritesBeginning wrote a b mode v all v' rest → rest ≡ [] → raises all ≡ lowers all → WritesItems wrote a b mode v all
finished {all = all} begun none balanced =
    let whole : all ≡ begun.done = begun.parted ∙ ap (λ t. begun.done ++ t) none ∙ append-nil begun.done in
    beginning_all begun none (omega (arith, begun.written.levels, ap raises whole, ap lowers whole, balanced))
