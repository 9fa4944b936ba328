-- Lemmas, no definitions of the product: fragment spreads, and what stands before a selection set, as parts.
use Rattle.std.proofs.Common.{ℕ, refl, ◌≡◌, Bool, true, false, List, [], ◌∷◌, ◌++◌, codes, Option, Some, None}
use Rattle.graphql_text.specs.lexical.Literals.{NameText}
use Rattle.graphql_text.specs.lexical.Tokens.{spread, colon, at, Token, Punctuation, Name}
use Rattle.graphql_text.specs.grammar.Forms.{Form, TokenClass, a_punctuator, a_keyword, a_name, optional, token, no_tokens, ◌⨟◌, name_except}
use Rattle.graphql_text.specs.layout.Layout.{Item, Word}
use Rattle.graphql_text.specs.parts.Optional.{optional_shape}
use Rattle.graphql_text.specs.kinds.Reading.{Laws}
use Rattle.graphql_text.proofs.parts.KindParts.{part_laws}
use Rattle.graphql_text.proofs.grammar.FormParsers.{Parser, Reads, ◌>>=◌, pure, alt, seq, last, fits, alt_0, alt_1, via, drop_empty}
use Rattle.graphql_text.proofs.grammar.FormParsers.{regroup, accept, mark_reads, parse_name, name_reads}
use Rattle.graphql_text.proofs.parts.Parts.{Part, KindPart, fits_all, excluding, name_part, name_then, mark_then, word_then, space_then}
use Rattle.graphql_text.proofs.parts.Parts.{plain_then, part_then, plain_optional_part, retold}
use Rattle.graphql_text.proofs.parts.PartTokens.{Tail, optional_tokens}
use Rattle.graphql_text.proofs.parts.ToldShapes.{Told, told_mark, told_name, told_space}
use Rattle.graphql_values.specs.kinds.Directives.{directives_form, directives_shape}
use Rattle.graphql_values.specs.kinds.Values.{NonConst}
use Rattle.graphql_values.specs.lemmas.Directives.{arguments_part, directives_part, excluded_after_directives}
use Rattle.graphql_executable.specs.kinds.FragmentNames.{not_fragment_names, type_condition_form, type_condition_shape}
use Rattle.graphql_executable.specs.kinds.FragmentSpreads.{FragmentSpreadTree, fragment_spread_shape, fragment_spread_nesting, fragment_spread_kind}
use Rattle.graphql_executable.specs.kinds.SelectionHeads.{alias_form, alias_shape, field_head_form, field_head_shape, field_head_nesting}
use Rattle.graphql_executable.specs.kinds.SelectionHeads.{field_head_obeys, InlineFragmentHeadTree, inline_fragment_head_form}
use Rattle.graphql_executable.specs.kinds.SelectionHeads.{inline_fragment_head_shape, inline_fragment_head_nesting}
use Rattle.graphql_executable.specs.kinds.SelectionHeads.{inline_fragment_head_obeys}
use Rattle.graphql_executable.specs.lemmas.FlawsTold.{fragment_spread_tells}

-- FRAGMENT SPREADS

-- FragmentSpread, section 2.8, behind `...`
unfoldable pub spread_rest_part :
    Part (λ (fragment : FragmentSpreadTree). name_except not_fragment_names fragment.name ⨟ directives_form NonConst fragment.directives)
    (λ broken fragment. Word (Name fragment.name.text) ∷ directives_shape fragment.directives) fragment_spread_nesting fragment_spread_kind.obeys
    excluded_after_directives (a_name not_fragment_names ∷ []) false [] false
spread_rest_part = retold (λ x. record { name = x.0; directives = x.1 }) (λ fragment. (fragment.name, fragment.directives)) (λ fragment. refl)
    (name_then not_fragment_names (directives_part NonConst))

-- FragmentSpread, section 2.8
unfoldable pub fragment_spread_part : KindPart fragment_spread_kind excluded_after_directives (a_punctuator spread ∷ []) false [] false
unfolding fragment_spread_shape
fragment_spread_part = mark_then spread refl spread_rest_part

pub fragment_spread_laws : Laws fragment_spread_kind
fragment_spread_laws = part_laws fragment_spread_part (λ broken front fragment. refl) fragment_spread_tells

-- INLINE FRAGMENTS WITHOUT THEIR SELECTION SETS

-- TypeCondition, section 2.8
unfoldable pub type_condition_part :
    Part type_condition_form (λ broken. type_condition_shape) (λ name. 0) (λ name. true) [] (a_keyword (codes "on") ∷ []) false [] true
type_condition_part = space_then (word_then (codes "on") refl (space_then name_part))

abbrev pub excluded_after_inline_fragment_head : List TokenClass
excluded_after_inline_fragment_head = a_keyword (codes "on") ∷ excluded_after_directives

-- InlineFragment, section 2.8, between `...` and its selection set
unfoldable pub inline_fragment_rest_part :
    Part (λ (head : InlineFragmentHeadTree). optional type_condition_form head.type_condition ⨟ directives_form NonConst head.directives)
    (λ broken head. optional_shape type_condition_shape head.type_condition ++ directives_shape head.directives)
    inline_fragment_head_nesting inline_fragment_head_obeys
    excluded_after_inline_fragment_head (a_keyword (codes "on") ∷ a_punctuator at ∷ []) true [] true
inline_fragment_rest_part = retold (λ x. record { type_condition = x.0; directives = x.1 }) (λ head. (head.type_condition, head.directives)) (λ head. refl)
    (plain_then (plain_optional_part type_condition_part refl) (directives_part NonConst) refl)

-- InlineFragment, section 2.8, before its selection set
unfoldable pub inline_fragment_head_part :
    Part inline_fragment_head_form (λ broken. inline_fragment_head_shape) inline_fragment_head_nesting inline_fragment_head_obeys
    excluded_after_inline_fragment_head (a_punctuator spread ∷ []) false [] false
unfolding inline_fragment_head_form inline_fragment_head_shape
inline_fragment_head_part = mark_then spread refl inline_fragment_rest_part

-- FIELDS WITHOUT THEIR SELECTION SETS

-- a name with or without an alias before a part
abbrev pub alias_tokens : NameText → Tail
alias_tokens alias rest = Name alias.text ∷ Punctuation colon ∷ rest

module _ {A : Type 0} {f : A → Form} {s : Bool → A → List Item} {n : A → ℕ} {o : A → Bool} {F L : List TokenClass} {b : Bool}
    {S : List TokenClass} (p : Part f s n o F L b S true) where
  unfoldable pub aliased_reader : Parser (Option NameText × (NameText × A))
  aliased_reader =
      parse_name [] >>= λ first. alt (a_punctuator colon ∷ [])
      (accept (a_punctuator colon) >>= λ t. parse_name [] >>= λ name. p.parser >>= λ a. pure (Some first, (name, a)))
      (p.parser >>= λ a. pure (None, (first, a)))

  pub aliased_is_read : {k : ℕ} (alias : Option NameText) (name : NameText) (a : A) → fits (a_punctuator colon ∷ []) L b F ≡ true →
      Reads k aliased_reader (alias, (name, a)) (optional alias_form alias ⨟ name_except [] name ⨟ f a) F (a_name [] ∷ []) false
  unfolding aliased_reader
  aliased_is_read None name a g = via (drop_empty _) (seq _ (name_reads [] name) (alt_1 _ _ (last _ (p.read _ a)) g) (fits_all L b F))
  aliased_is_read (Some alias) name a g =
      via (regroup _ _ _) (seq _ (name_reads [] alias)
      (alt_0 _ _ (seq _ (mark_reads colon) (seq _ (name_reads [] name) (last _ (p.read _ a)) (fits_all L b F)) refl) refl) refl)

  pub aliased_told : (broken : Bool) (alias : Option NameText) (name : NameText) (a : A) →
      Told 0 (optional_shape alias_shape alias ++ (Word (Name name.text) ∷ s broken a))
      (λ rest. optional_tokens alias_tokens alias (Name name.text ∷ p.tokens a rest)) false (n a)
  aliased_told broken None name a = told_name name (p.told broken a)
  aliased_told broken (Some alias) name a = told_name alias (told_mark colon refl (told_space (told_name name (p.told broken a))))

  pub alias_written : (alias : Option NameText) (rest : List Token) → optional alias_form alias (optional_tokens alias_tokens alias rest) rest
  unfolding no_tokens token name_except ◌⨟◌
  alias_written None rest = refl
  alias_written (Some alias) rest = (_, (refl, refl), refl)

  unfoldable pub aliased : fits (a_punctuator colon ∷ []) L b F ≡ true →
      Part (λ (x : Option NameText × (NameText × A)). optional alias_form x.0 ⨟ name_except [] x.1.0 ⨟ f x.1.1)
      (λ broken x. optional_shape alias_shape x.0 ++ (Word (Name x.1.0.text) ∷ s broken x.1.1)) (λ x. n x.1.1) (λ x. o x.1.1) F (a_name [] ∷ []) false S false
  unfolding name_except ◌⨟◌
  aliased g = record {
    tokens = λ x rest. optional_tokens alias_tokens x.0 (Name x.1.0.text ∷ p.tokens x.1.1 rest);
    parser = aliased_reader;
    told = λ broken x. aliased_told broken x.0 x.1.0 x.1.1;
    read = λ k x. aliased_is_read x.0 x.1.0 x.1.1 g;
    written = λ x holds rest stops. (_, alias_written x.0 _, (_, (refl, refl), p.written x.1.1 holds rest stops));
    obeyed = λ x ts rest d. p.obeyed x.1.1 _ _ d.2.2;
  }

abbrev pub excluded_after_field_head : List TokenClass
excluded_after_field_head = a_punctuator colon ∷ excluded_after_directives

-- Field, section 2.5, before its selection set
unfoldable pub field_head_part : Part field_head_form
    (λ broken. field_head_shape) field_head_nesting field_head_obeys excluded_after_field_head (a_name [] ∷ []) false [] false
unfolding field_head_form field_head_shape
field_head_part =
    retold (λ x. record { alias = x.0; name = x.1.0; arguments = x.1.1.0; directives = x.1.1.1 })
    (λ field. (field.alias, (field.name, (field.arguments, field.directives)))) (λ field. refl)
    (aliased (excluding excluded_after_field_head (part_then (arguments_part NonConst) (directives_part NonConst) refl) refl) refl)
