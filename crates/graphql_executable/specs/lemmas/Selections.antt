-- Lemmas, no definitions of the product: selections and their sets as parts, and the laws of selections, fields and inline fragments.
use Rattle.std.proofs.Common.{ℕ, zero, suc, ◌≤◌, refl, Bool, true, false, List, [], ◌∷◌, IsTrue, arith, le_refl}
use Rattle.graphql_text.specs.lexical.Tokens.{spread, colon, lbrace, rbrace, Token, Punctuation}
use Rattle.graphql_text.specs.grammar.Forms.{TokenClass, a_punctuator, a_name, token, no_tokens, ◌⨟◌, only_if}
use Rattle.graphql_text.specs.kinds.Reading.{Laws}
use Rattle.graphql_text.proofs.parts.KindParts.{part_laws}
use Rattle.graphql_text.proofs.grammar.FormParsers.{Parser, Reads, ◌>>=◌, pure, fail, alt, seq, seq_in, last, alt_0, alt_1, alt_empty}
use Rattle.graphql_text.proofs.grammar.FormParsers.{wider, lower, before, via, regroup, accept, mark_reads, checked, checked_reads}
use Rattle.graphql_text.proofs.grammar.FormParsers.{only_if_reads, many, many_none, many_more, at_zero, bounded, bounded_reads}
use Rattle.graphql_text.proofs.parts.Parts.{Part, KindPart, begins_none, excluding, space_then, part_then, retold}
use Rattle.graphql_text.proofs.parts.PartTokens.{Tail}
use Rattle.graphql_text.proofs.parts.ToldShapes.{Told, Row, no_row, row_more, told_nothing, told_then, told_space, told_weaker, told_curly_group}
use Rattle.graphql_text.proofs.general.BooleanTests.{first_holds, second_holds, both_hold}
use Rattle.graphql_values.specs.lemmas.Directives.{excluded_after_directives}
use Rattle.graphql_executable.specs.kinds.Fields.{field_kind}
use Rattle.graphql_executable.specs.kinds.FragmentNames.{not_fragment_names}
use Rattle.graphql_executable.specs.kinds.InlineFragments.{inline_fragment_kind}
use Rattle.graphql_executable.specs.kinds.SelectionHeads.{inline_fragment_head_form, field_head_obeys, inline_fragment_head_obeys}
use Rattle.graphql_executable.specs.kinds.Selections.{SelectionTree, SelectionTrees, field_selection, spread_selection, inline_selection}
use Rattle.graphql_executable.specs.kinds.Selections.{no_selections, more_selections, has_selections, optional_braced_form}
use Rattle.graphql_executable.specs.kinds.Selections.{optional_braced_shape, selection_form, selections_form, selection_shape}
use Rattle.graphql_executable.specs.kinds.Selections.{selections_shapes, selection_nesting, selections_nestings, selection_obeys}
use Rattle.graphql_executable.specs.kinds.Selections.{selections_obey, selection_kind, selection_set_form, selection_set_shape}
use Rattle.graphql_executable.specs.kinds.Selections.{selection_set_nesting, selection_set_obeys}
use Rattle.graphql_executable.specs.lemmas.Heads.{spread_rest_part, fragment_spread_part, inline_fragment_rest_part, inline_fragment_head_part, field_head_part}
use Rattle.graphql_executable.specs.lemmas.FlawsTold.{field_tells, inline_fragment_tells, selection_tells}

-- THE TOKENS OF SELECTIONS AS THEY ARE PRINTED, IN FRONT OF THOSE THAT FOLLOW

abbrev pub braced_tokens : Tail → Tail
braced_tokens tail rest = Punctuation lbrace ∷ tail (Punctuation rbrace ∷ rest)

abbrev pub optional_braced_tokens : Bool → Tail → Tail
optional_braced_tokens false tail rest = rest
optional_braced_tokens true tail rest = braced_tokens tail rest

unfoldable mutual
  pub selection_tokens : SelectionTree → Tail
  selection_tokens (field_selection head set) rest = field_head_part.tokens head (optional_braced_tokens (has_selections set) (selections_tokens set) rest)
  selection_tokens (spread_selection fragment) rest = fragment_spread_part.tokens fragment rest
  selection_tokens (inline_selection head set) rest = inline_fragment_head_part.tokens head (braced_tokens (selections_tokens set) rest)

  pub selections_tokens : SelectionTrees → Tail
  selections_tokens no_selections rest = rest
  selections_tokens (more_selections selection more) rest = selection_tokens selection (selections_tokens more rest)

-- THEIR LAYOUT HAS THESE TOKENS

pub optional_told : (set : SelectionTrees) → Row (selections_shapes set) (selections_tokens set) (selections_nestings set) →
    Told 0 (optional_braced_shape (selections_shapes set)) (optional_braced_tokens (has_selections set) (selections_tokens set)) true
    (selection_set_nesting set)
unfolding selection_shape
optional_told no_selections row = told_nothing
optional_told (more_selections selection more) row = told_space (told_curly_group row)

mutual
  unfolding selection_shape selection_tokens

  pub selection_told : (selection : SelectionTree) → Told 0 (selection_shape selection) (selection_tokens selection) false (selection_nesting selection)
  selection_told (field_selection head set) = told_then (field_head_part.told true head) (optional_told set (selections_told set))
  selection_told (spread_selection fragment) = told_weaker (fragment_spread_part.told true fragment)
  selection_told (inline_selection head set) =
      told_weaker (told_then (inline_fragment_head_part.told true head) (told_space (told_curly_group (selections_told set))))

  pub selections_told : (set : SelectionTrees) → Row (selections_shapes set) (selections_tokens set) (selections_nestings set)
  selections_told no_selections = no_row
  selections_told (more_selections selection more) = row_more (selection_told selection) (selections_told more)

-- THEIR TOKENS DERIVE THEM

-- what is known of the selections of a set, for a lemma on the set
pub AreWritten : SelectionTrees → Type 0
AreWritten set = (rest : List Token) → selections_form set (selections_tokens set rest) rest

pub set_written : (set : SelectionTrees) → IsTrue (has_selections set) → AreWritten set → (rest : List Token) →
    selection_set_form set (braced_tokens (selections_tokens set) rest) rest
unfolding AreWritten token only_if ◌⨟◌
set_written set some written rest = (_, refl, (_, (some, written _), refl))

pub optional_written : (set : SelectionTrees) → AreWritten set → (rest : List Token) →
    optional_braced_form (has_selections set) (selections_form set) (optional_braced_tokens (has_selections set) (selections_tokens set) rest) rest
unfolding no_tokens
optional_written no_selections written rest = refl
optional_written (more_selections selection more) written rest = set_written (more_selections selection more) refl written rest

mutual
  unfolding selection_form selection_tokens no_tokens ◌⨟◌ AreWritten

  pub selection_written : (selection : SelectionTree) → IsTrue (selection_obeys selection) → (rest : List Token) →
      selection_form selection (selection_tokens selection rest) rest
  selection_written (field_selection head set) holds rest = (
    _,
    field_head_part.written head (first_holds (field_head_obeys head) (selections_obey set) holds) _ (begins_none _),
    optional_written set (selections_written set (second_holds (field_head_obeys head) (selections_obey set) holds)) rest,
  )
  selection_written (spread_selection fragment) holds rest = fragment_spread_part.written fragment holds rest (begins_none rest)
  selection_written (inline_selection head set) holds rest =
      let set_holds = second_holds (inline_fragment_head_obeys head) (selection_set_obeys set) holds in (
        _,
        inline_fragment_head_part.written head (first_holds (inline_fragment_head_obeys head) (selection_set_obeys set) holds) _
            (begins_none (braced_tokens (selections_tokens set) rest)),
        set_written set (first_holds (has_selections set) (selections_obey set) set_holds)
            (selections_written set (second_holds (has_selections set) (selections_obey set) set_holds)) rest,
      )

  pub selections_written : (set : SelectionTrees) → IsTrue (selections_obey set) → (rest : List Token) → selections_form set (selections_tokens set rest) rest
  selections_written no_selections holds rest = refl
  selections_written (more_selections selection more) holds rest = (
    _,
    selection_written selection (first_holds (selection_obeys selection) (selections_obey more) holds) _,
    selections_written more (second_holds (selection_obeys selection) (selections_obey more) holds) rest,
  )

-- WHAT IS DERIVED OBEYS THE SIDE CONDITIONS

pub AreObeyed : SelectionTrees → Type 0
AreObeyed set = (ts rest : List Token) → selections_form set ts rest → IsTrue (selections_obey set)

pub set_obeyed : (set : SelectionTrees) → AreObeyed set → (ts rest : List Token) → selection_set_form set ts rest → IsTrue (selection_set_obeys set)
unfolding AreObeyed only_if ◌⨟◌
set_obeyed set obeyed ts rest d = both_hold (has_selections set) (selections_obey set) d.2.1.0 (obeyed _ _ d.2.1.1)

pub optional_obeyed : (set : SelectionTrees) → AreObeyed set → (ts rest : List Token) →
    optional_braced_form (has_selections set) (selections_form set) ts rest → IsTrue (selections_obey set)
optional_obeyed no_selections obeyed ts rest d = refl
optional_obeyed (more_selections selection more) obeyed ts rest d = set_obeyed (more_selections selection more) obeyed ts rest d

mutual
  unfolding selection_form ◌⨟◌ AreObeyed

  pub selection_obeyed : (selection : SelectionTree) (ts rest : List Token) → selection_form selection ts rest → IsTrue (selection_obeys selection)
  selection_obeyed (field_selection head set) ts rest d =
      both_hold (field_head_obeys head) (selections_obey set) (field_head_part.obeyed head _ _ d.1) (optional_obeyed set (selections_obeyed set) _ _ d.2)
  selection_obeyed (spread_selection fragment) ts rest d = fragment_spread_part.obeyed fragment _ _ d
  selection_obeyed (inline_selection head set) ts rest d =
      both_hold (inline_fragment_head_obeys head) (selection_set_obeys set) (inline_fragment_head_part.obeyed head _ _ d.1)
      (set_obeyed set (selections_obeyed set) _ _ d.2)

  pub selections_obeyed : (set : SelectionTrees) (ts rest : List Token) → selections_form set ts rest → IsTrue (selections_obey set)
  selections_obeyed no_selections ts rest d = refl
  selections_obeyed (more_selections selection more) ts rest d =
      both_hold (selection_obeys selection) (selections_obey more) (selection_obeyed selection _ _ d.1) (selections_obeyed more _ _ d.2)

-- A READER OF SELECTIONS FINDS THEM

abbrev pub selection_first_tokens : List TokenClass
selection_first_tokens = a_punctuator spread ∷ a_name [] ∷ []

abbrev pub excluded_after_field : List TokenClass
excluded_after_field = a_punctuator colon ∷ a_punctuator lbrace ∷ excluded_after_directives

abbrev pub excluded_after_selections : List TokenClass
excluded_after_selections = a_punctuator spread ∷ a_name [] ∷ excluded_after_field

-- a set, with a reader of what stands between its braces
unfoldable pub set_reader : Parser SelectionTrees → Parser SelectionTrees
set_reader p = accept (a_punctuator lbrace) >>= λ t. checked has_selections p >>= λ set. accept (a_punctuator rbrace) >>= λ u. pure set

unfoldable pub optional_set_reader : Parser SelectionTrees → Parser SelectionTrees
optional_set_reader p = alt (a_punctuator lbrace ∷ []) (set_reader p) (pure no_selections)

-- a selection, with such a reader; behind `...` stands an inline fragment, unless a name other than `on` does
unfoldable pub selection_step : Parser SelectionTrees → Parser SelectionTree
selection_step p =
    alt (a_punctuator spread ∷ [])
    (accept (a_punctuator spread) >>= λ t. alt (a_name not_fragment_names ∷ []) (spread_rest_part.parser >>= λ fragment. pure (spread_selection fragment))
    (inline_fragment_rest_part.parser >>= λ head. set_reader p >>= λ set. pure (inline_selection head set)))
    (field_head_part.parser >>= λ head. optional_set_reader p >>= λ set. pure (field_selection head set))

unfoldable pub selections_reader : ℕ → Parser SelectionTree → Parser SelectionTrees
selections_reader k p = many no_selections more_selections selection_first_tokens k p

-- the reader of what stands between the braces of a set of at most that many tokens
abbrev pub selections_in : ℕ → Parser SelectionTrees
selections_in zero = fail
selections_in (suc k) = selections_reader k (selection_step (selections_in k))

pub AreRead : SelectionTrees → Type 0
AreRead set = (k : ℕ) → Reads k (selections_in (suc k)) set (selections_form set) excluded_after_selections selection_first_tokens true

pub set_reads : (k : ℕ) (set : SelectionTrees) → AreRead set →
    Reads k (set_reader (selections_in k)) set (selection_set_form set) [] (a_punctuator lbrace ∷ []) false
unfolding set_reader AreRead
set_reads zero set inner =
    at_zero (mark_reads lbrace) (seq (λ ss. accept (a_punctuator rbrace) >>= λ u. pure ss)
    (only_if_reads (λ some. checked_reads has_selections some (inner 0))) (last _ (mark_reads rbrace)) refl)
set_reads (suc k) set inner =
    seq_in _ (mark_reads lbrace) (seq _ (only_if_reads (λ some. checked_reads has_selections some (inner k))) (last _ (mark_reads rbrace)) refl) refl

pub optional_set_reads : (k : ℕ) (set : SelectionTrees) → AreRead set →
    Reads k (optional_set_reader (selections_in k)) set (optional_braced_form (has_selections set) (selections_form set))
    (a_punctuator lbrace ∷ []) (a_punctuator lbrace ∷ []) true
unfolding optional_set_reader
optional_set_reads k no_selections inner = alt_empty _ _ _ _ refl
optional_set_reads k (more_selections selection more) inner = wider (alt_0 _ _ (set_reads k (more_selections selection more) inner) refl) refl refl (λ z. refl)

mutual
  unfolding selection_form inline_fragment_head_form selection_step selections_reader AreRead

  pub selection_reads : (k : ℕ) (selection : SelectionTree) →
      Reads k (selection_step (selections_in k)) selection (selection_form selection) excluded_after_field selection_first_tokens false
  selection_reads k (field_selection head set) =
      wider
      (alt_1 _ _ (seq _ (field_head_part.read k head)
      (last _ (before excluded_after_field (optional_set_reads k set (λ j. selections_read j j (le_refl j) set)) refl)) refl)
      refl) refl refl
      (λ z. z)
  selection_reads k (spread_selection fragment) =
      wider (alt_0 _ _ (seq _ (mark_reads spread) (alt_0 _ _ (last _ (spread_rest_part.read k fragment)) refl) refl) refl) refl refl
      (λ z. z)
  selection_reads k (inline_selection head set) =
      wider
      (via (regroup _ _ _) (alt_0 _ _ (seq _ (mark_reads spread) (alt_1 _ _ (seq _ (inline_fragment_rest_part.read k head)
      (last _ (set_reads k set (λ j. selections_read j j (le_refl j) set))) refl) refl) refl) refl)) refl refl
      (λ z. z)

  pub selections_read : (k j : ℕ) → j ≤ k → (set : SelectionTrees) →
      Reads j (selections_reader j (selection_step (selections_in k))) set (selections_form set) excluded_after_selections selection_first_tokens true
  selections_read k j le no_selections = wider (many_none _ _ selection_first_tokens j _) refl refl (λ z. z)
  selections_read k zero le (more_selections selection more) =
      wider (at_zero (lower le (selection_reads k selection)) (selections_read k zero le more)) refl refl (λ z. refl)
  selections_read k (suc j) le (more_selections selection more) =
      wider
      (many_more _ _ selection_first_tokens _ (lower le (selection_reads k selection))
      (selections_read k j (omega (arith, le)) more) refl refl) refl refl
      (λ z. refl)

-- THE PARTS

-- Selection, section 2.4
unfoldable pub selection_part : KindPart selection_kind excluded_after_field selection_first_tokens false [] false
selection_part = record {
  tokens = selection_tokens;
  parser = bounded (λ k. selection_step (selections_in k));
  told = λ broken. selection_told;
  read = λ k selection. bounded_reads _ (λ j le. selection_reads j selection);
  written = λ selection holds rest stops. selection_written selection holds rest;
  obeyed = selection_obeyed;
}

-- SelectionSet, section 2.4
unfoldable pub selection_set_part : Part selection_set_form (λ broken. selection_set_shape) selection_set_nesting selection_set_obeys []
    (a_punctuator lbrace ∷ []) false [] true
unfolding AreRead AreWritten AreObeyed
selection_set_part = record {
  tokens = λ set. braced_tokens (selections_tokens set);
  parser = bounded (λ k. set_reader (selections_in k));
  told = λ broken set. told_curly_group (selections_told set);
  read = λ k set. bounded_reads _ (λ j le. set_reads j set (λ i. selections_read i i (le_refl i) set));
  written = λ set holds rest stops. set_written set (first_holds (has_selections set) (selections_obey set) holds)
      (selections_written set (second_holds (has_selections set) (selections_obey set) holds)) rest;
  obeyed = λ set. set_obeyed set (selections_obeyed set);
}

-- SelectionSet, section 2.4, after a space, or nothing
unfoldable pub optional_selection_set_part : Part (λ set. optional_braced_form (has_selections set) (selections_form set))
    (λ broken set. optional_braced_shape (selections_shapes set))
    selection_set_nesting selections_obey (a_punctuator lbrace ∷ []) (a_punctuator lbrace ∷ []) true [] true
unfolding AreRead AreWritten AreObeyed
optional_selection_set_part = record {
  tokens = λ set. optional_braced_tokens (has_selections set) (selections_tokens set);
  parser = bounded (λ k. optional_set_reader (selections_in k));
  told = λ broken set. optional_told set (selections_told set);
  read = λ k set. bounded_reads _ (λ j le. optional_set_reads j set (λ i. selections_read i i (le_refl i) set));
  written = λ set holds rest stops. optional_written set (selections_written set holds) rest;
  obeyed = λ set. optional_obeyed set (selections_obeyed set);
}

-- Field, section 2.5
unfoldable pub field_part : KindPart field_kind excluded_after_field (a_name [] ∷ []) false [] false
unfolding selection_form selection_shape
field_part = retold (λ x. record { head = x.0; selections = x.1 }) (λ field. (field.head, field.selections)) (λ field. refl)
    (excluding excluded_after_field (part_then field_head_part optional_selection_set_part refl) refl)

-- InlineFragment, section 2.8
unfoldable pub inline_fragment_part : KindPart inline_fragment_kind [] (a_punctuator spread ∷ []) false [] false
unfolding selection_form selection_shape
inline_fragment_part = retold (λ x. record { head = x.0; selections = x.1 }) (λ fragment. (fragment.head, fragment.selections)) (λ fragment. refl)
    (part_then inline_fragment_head_part (space_then selection_set_part) refl)

-- THE LAWS

pub selection_laws : Laws selection_kind
selection_laws = part_laws selection_part (λ broken front selection. refl) selection_tells

pub field_laws : Laws field_kind
field_laws = part_laws field_part (λ broken front field. refl) field_tells

pub inline_fragment_laws : Laws inline_fragment_kind
inline_fragment_laws = part_laws inline_fragment_part (λ broken front fragment. refl) inline_fragment_tells
