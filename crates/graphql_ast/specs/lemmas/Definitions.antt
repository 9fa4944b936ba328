-- Lemmas, no definitions of the product: definitions as parts, and their laws.
use Rattle.std.proofs.Common.{ℕ, ◌≡◌, ◌∙◌, refl, sym, inl, inr, Bool, true, false, if◌then◌else◌, ◌&&◌, List, [], ◌∷◌, codes, nat_eq}
use Rattle.std.proofs.Common.{Option, Some, None, IsTrue}
use Rattle.std.proofs.lemmas.Bool.{or_cases}
use Rattle.std.proofs.lemmas.Slice.Eq.{bytes_eq-Decides}
use Rattle.std.specs.Cmp.Lexicographic.{pointwise}
use Rattle.graphql_text.specs.parts.Descriptions.{described, description_form}
use Rattle.graphql_text.specs.parts.Extensions.{extension}
use Rattle.graphql_text.specs.grammar.Forms.{TokenClass, a_punctuator, a_keyword, a_name, a_string_value, token, no_tokens, ◌⨟◌, only_if, either, begins}
use Rattle.graphql_text.specs.parts.Members.{has_some}
use Rattle.graphql_text.specs.kinds.Kinds.{Kind}
use Rattle.graphql_text.specs.lexical.Literals.{NameText, StringText}
use Rattle.graphql_text.specs.kinds.Reading.{Laws}
use Rattle.graphql_text.specs.lexical.Tokens.{amp, at, bar, equals, lbrace, lparen, Token, Punctuation, Name, StringValue}
use Rattle.graphql_text.proofs.kinds.KindLaws.{laws_of}
use Rattle.graphql_text.proofs.parts.KindParts.{described_part, extension_part}
use Rattle.graphql_text.proofs.grammar.FormParsers.{Parser, Reads, Opening, ◌>>=◌, pure, fail, last, wider, within}
use Rattle.graphql_text.proofs.parts.Parts.{KindPart, begins_none}
use Rattle.graphql_text.proofs.parts.PartTokens.{Tail}
use Rattle.graphql_text.proofs.parts.ToldShapes.{Told, told_weaker}
use Rattle.graphql_text.proofs.general.BooleanTests.{first_holds, second_holds}
use Rattle.graphql_text.proofs.grammar.TokenClasses.{all_apart, apart-begins, within-none}
use Rattle.graphql_values.specs.kinds.DirectiveDefinitions.{directive_definition_body}
use Rattle.graphql_values.specs.kinds.OperationTypes.{OperationTypeTree, Query, Mutation, Subscription, operation_type_form}
use Rattle.graphql_values.specs.lemmas.DirectiveDefinitions.{directive_definition_body_part}
use Rattle.graphql_executable.specs.kinds.FragmentDefinitions.{fragment_definition_body}
use Rattle.graphql_executable.specs.kinds.OperationDefinitions.{full_operation_kind, is_bare_query, operation_definition_kind, operation_form, operation_shape}
use Rattle.graphql_executable.specs.lemmas.Definitions.{at_front, fragment_definition_body_part, full_operation_part}
use Rattle.graphql_executable.specs.lemmas.Definitions.{operation_definition_part, operation_told, operation_tokens, operation_written}
use Rattle.graphql_executable.specs.lemmas.Selections.{selection_set_part}
use Rattle.graphql_type_system.specs.kinds.BracedTypes.{braced_type_adds}
use Rattle.graphql_type_system.specs.kinds.EnumTypes.{enum_type_body}
use Rattle.graphql_type_system.specs.kinds.EnumValueDefinitions.{enum_value_definition_kind}
use Rattle.graphql_type_system.specs.kinds.ImplementingTypes.{implementing_type_adds}
use Rattle.graphql_type_system.specs.kinds.InputObjectTypes.{input_object_type_body}
use Rattle.graphql_type_system.specs.kinds.InterfaceTypes.{interface_type_body}
use Rattle.graphql_type_system.specs.kinds.ObjectTypes.{object_type_body}
use Rattle.graphql_type_system.specs.kinds.ScalarTypes.{scalar_type_body}
use Rattle.graphql_type_system.specs.kinds.Schemas.{extended_schema_adds, extended_schema_body, extended_schema_name, schema_body}
use Rattle.graphql_type_system.specs.kinds.UnionTypes.{union_type_adds, union_type_body}
use Rattle.graphql_type_system.specs.lemmas.Bodies.{enum_type_body_part, extended_schema_body_part, input_object_type_body_part}
use Rattle.graphql_type_system.specs.lemmas.Bodies.{interface_type_body_part, object_type_body_part, scalar_type_body_part}
use Rattle.graphql_type_system.specs.lemmas.Bodies.{schema_body_part, union_type_body_part}
use Rattle.graphql_values.specs.kinds.InputValueDefinitions.{input_value_definition_kind}
use Rattle.graphql_ast.specs.Definitions.{DefinitionName, OperationDefinition, FragmentDefinition, DirectiveDefinition, SchemaDefinition}
use Rattle.graphql_ast.specs.Definitions.{ScalarTypeDefinition, ObjectTypeDefinition, InterfaceTypeDefinition, UnionTypeDefinition}
use Rattle.graphql_ast.specs.Definitions.{EnumTypeDefinition, InputObjectTypeDefinition, SchemaExtension, ScalarTypeExtension}
use Rattle.graphql_ast.specs.Definitions.{ObjectTypeExtension, InterfaceTypeExtension, UnionTypeExtension, EnumTypeExtension}
use Rattle.graphql_ast.specs.Definitions.{InputObjectTypeExtension, kind_named, DefinitionTree, definition_kind}
use Rattle.graphql_executable.specs.lemmas.Definitions.{fragment_definition_laws, operation_definition_laws}
use Rattle.graphql_values.specs.lemmas.DirectiveDefinitions.{directive_definition_laws}
use Rattle.graphql_type_system.specs.lemmas.Kinds.{schema_definition_laws, scalar_type_definition_laws}
use Rattle.graphql_type_system.specs.lemmas.Kinds.{object_type_definition_laws, interface_type_definition_laws}
use Rattle.graphql_type_system.specs.lemmas.Kinds.{union_type_definition_laws, enum_type_definition_laws}
use Rattle.graphql_type_system.specs.lemmas.Kinds.{input_object_type_definition_laws, schema_extension_laws}
use Rattle.graphql_type_system.specs.lemmas.Kinds.{scalar_type_extension_laws, object_type_extension_laws}
use Rattle.graphql_type_system.specs.lemmas.Kinds.{interface_type_extension_laws, union_type_extension_laws}
use Rattle.graphql_type_system.specs.lemmas.Kinds.{enum_type_extension_laws, input_object_type_extension_laws}

-- what may not follow a definition, what begins one, and before what one isn't printed
abbrev pub excluded_after_definition : List TokenClass
excluded_after_definition =
    a_keyword (codes "implements") ∷ a_punctuator amp ∷ a_punctuator at ∷ a_punctuator lparen ∷ a_punctuator equals ∷ a_punctuator bar ∷ []

abbrev pub definition_first_tokens : List TokenClass
definition_first_tokens = a_punctuator lbrace ∷ a_string_value ∷ a_name (codes "implements" ∷ []) ∷ []

abbrev pub a_brace : List TokenClass
a_brace = a_punctuator lbrace ∷ []

-- WHICH DEFINITION TOKENS BEGIN

unfoldable pub named_by : List (List ℕ × DefinitionName) → List ℕ → Option DefinitionName
named_by [] text = None
named_by (entry ∷ more) text = if pointwise nat_eq entry.0 text then Some entry.1 else named_by more text

unfoldable pub definition_words : List (List ℕ × DefinitionName)
definition_words =
    (codes "query", OperationDefinition) ∷ (codes "mutation", OperationDefinition) ∷ (codes "subscription", OperationDefinition)
    ∷ (codes "fragment", FragmentDefinition) ∷ (codes "directive", DirectiveDefinition) ∷ (codes "schema", SchemaDefinition)
    ∷ (codes "scalar", ScalarTypeDefinition) ∷ (codes "type", ObjectTypeDefinition) ∷ (codes "interface", InterfaceTypeDefinition)
    ∷ (codes "union", UnionTypeDefinition) ∷ (codes "enum", EnumTypeDefinition) ∷ (codes "input", InputObjectTypeDefinition) ∷ []

unfoldable pub extension_words : List (List ℕ × DefinitionName)
extension_words =
    (codes "schema", SchemaExtension) ∷ (codes "scalar", ScalarTypeExtension) ∷ (codes "type", ObjectTypeExtension)
    ∷ (codes "interface", InterfaceTypeExtension)
    ∷ (codes "union", UnionTypeExtension) ∷ (codes "enum", EnumTypeExtension) ∷ (codes "input", InputObjectTypeExtension) ∷ []

unfoldable pub extension_at : List Token → Option DefinitionName
extension_at (Name word ∷ more) = named_by extension_words word
extension_at _ = None

-- behind a description
unfoldable pub definition_at : List Token → Option DefinitionName
definition_at (Punctuation mark ∷ more) = Some OperationDefinition
definition_at (Name word ∷ more) = if pointwise nat_eq (codes "extend") word then extension_at more else named_by definition_words word
definition_at _ = None

unfoldable pub behind_description : List Token → List Token
behind_description (StringValue text ∷ more) = more
behind_description tokens = tokens

unfoldable pub chosen_definition : List Token → Option DefinitionName
chosen_definition tokens = definition_at (behind_description tokens)

-- what begins with a word of the grammar
pub keyword_begins : (word : List ℕ) (tokens : List Token) → begins (a_keyword word ∷ []) tokens ≡ true → (more : List Token) × (tokens ≡ Name word ∷ more)
keyword_begins word [] is = cc
keyword_begins word (Name text ∷ more) is =
    elim (or_cases (pointwise nat_eq word text) false is) [ inl same ↦ (more, rw ((bytes_eq-Decides word text).0 same) refl) | inr none ↦ cc ]
keyword_begins word (Punctuation mark ∷ more) is = cc
keyword_begins word (_ ∷ more) is = cc

pub keyword_opens : (word : List ℕ) (tokens rest : List Token) → Opening (a_keyword word ∷ []) false tokens rest →
    (more : List Token) × (tokens ≡ Name word ∷ more)
keyword_opens word tokens rest (inl is) = keyword_begins word tokens is.0
keyword_opens word tokens rest (inr none) = cc (none.0)

pub behind_it : (description : Option StringText) (word : List ℕ) (tokens between more : List Token) →
    description_form description tokens between → between ≡ Name word ∷ more →
    chosen_definition tokens ≡ definition_at (Name word ∷ more)
unfolding token no_tokens behind_description chosen_definition
behind_it None word tokens between more before is = rw (before, is) refl
behind_it (Some text) word tokens between more before is = rw (before, is) refl

pub behind_extend : (word : List ℕ) (tokens between more : List Token) → token (Name (codes "extend")) tokens between → between ≡ Name word ∷ more →
    chosen_definition tokens ≡ definition_at (Name (codes "extend") ∷ Name word ∷ more)
unfolding token behind_description chosen_definition
behind_extend word tokens between more before is = rw (before, is) refl

pub brace_chosen : (tokens rest : List Token) → Opening a_brace false tokens rest → chosen_definition tokens ≡ Some OperationDefinition
unfolding behind_description chosen_definition definition_at
brace_chosen [] rest (inl is) = cc (is.0)
brace_chosen (Punctuation mark ∷ more) rest (inl is) = refl
brace_chosen (Name text ∷ more) rest (inl is) = cc (is.0)
brace_chosen (_ ∷ more) rest (inl is) = cc (is.0)
brace_chosen tokens rest (inr none) = cc (none.0)

-- A DEFINITION AS A PART

-- A kind of definitions as a part; that its tokens tell which it is; that it begins with no brace where something is written before it;
-- and how it is printed where a print begins.
pub record DefinitionPart (kind : Kind) (name : DefinitionName) : Type 0 where
  pub part : KindPart kind excluded_after_definition definition_first_tokens false a_brace false
  pub chosen : (tree : kind.Tree) (tokens rest : List Token) → kind.form tree tokens rest → chosen_definition tokens ≡ Some name
  pub no_brace : (tree : kind.Tree) → IsTrue (kind.obeys tree) → (rest : List Token) → begins a_brace rest ≡ false →
      begins a_brace (part.tokens tree rest) ≡ false
  pub first_tokens : Bool → kind.Tree → Tail
  pub first_told : (broken front : Bool) (tree : kind.Tree) → Told 0 (kind.shape broken front tree) (first_tokens front tree) false (kind.nesting tree)
  pub first_written : (front : Bool) (tree : kind.Tree) → IsTrue (kind.obeys tree) → (rest : List Token) → begins a_brace rest ≡ false →
      kind.form tree (first_tokens front tree rest) rest

-- whether a part may be a definition, and begins with no brace
abbrev pub is_definition : List TokenClass → List TokenClass → List TokenClass → Bool
is_definition F L S = within F excluded_after_definition && (within L definition_first_tokens && within S a_brace)

module _ (kind : Kind) {F L S : List TokenClass} {opens : Bool} (p : KindPart kind F L false S opens) where
  unfoldable pub as_definition : is_definition F L S ≡ true → KindPart kind excluded_after_definition definition_first_tokens false a_brace false
  as_definition is = record {
    tokens = p.tokens;
    parser = p.parser;
    told = λ broken tree. told_weaker (p.told broken tree);
    read = λ k tree. wider (p.read k tree) (first_holds _ _ is) (first_holds _ _ (second_holds _ _ is)) (λ z. z);
    written = λ tree holds rest stops. p.written tree holds rest (within-none S a_brace rest (second_holds _ _ (second_holds _ _ is)) stops);
    obeyed = p.obeyed;
  }

  pub begins_apart : all_apart a_brace L ≡ true → (tree : kind.Tree) → IsTrue (kind.obeys tree) → (rest : List Token) →
      begins S rest ≡ false → begins a_brace (p.tokens tree rest) ≡ false
  begins_apart apart tree holds rest stops = opening (let x = p.read 0 tree in x.opens _ rest (p.written tree holds rest stops))
    where
      opening : Opening L false (p.tokens tree rest) rest → begins a_brace (p.tokens tree rest) ≡ false
      opening (inl is) = apart-begins a_brace L (p.tokens tree rest) apart is.0
      opening (inr none) = cc (none.0)

  -- a definition that looks alike wherever it stands
  unfoldable pub alike : (name : DefinitionName) → is_definition F L S ≡ true → all_apart a_brace L ≡ true →
      ((broken front : Bool) (tree : kind.Tree) → kind.shape broken false tree ≡ kind.shape broken front tree) →
      ((tree : kind.Tree) (tokens rest : List Token) → kind.form tree tokens rest → chosen_definition tokens ≡ Some name) → DefinitionPart kind name
  unfolding as_definition
  alike name is apart same chosen = let whole_part = as_definition is in record {
    part = whole_part;
    chosen = chosen;
    no_brace = λ tree holds rest stops. begins_apart apart tree holds rest (within-none S a_brace rest (second_holds _ _ (second_holds _ _ is)) stops);
    first_tokens = λ front. p.tokens;
    first_told = λ broken front tree. rw (sym (same broken front tree)) (told_weaker (p.told broken tree));
    first_written = λ front. whole_part.written;
  }

module _ {word : List ℕ} (body : Kind) {F S : List TokenClass} {opens : Bool} (p : KindPart body F (a_keyword word ∷ []) false S opens) where
  pub described_chosen : (tree : (described body).Tree) (tokens rest : List Token) → (described body).form tree tokens rest →
      (more : List Token) × (chosen_definition tokens ≡ definition_at (Name word ∷ more))
  unfolding ◌⨟◌
  described_chosen tree tokens rest d =
      let found = keyword_opens word d.0 rest (let x = p.read 0 tree.body in x.opens d.0 rest d.2) in
      (found.0, behind_it tree.description word tokens d.0 found.0 d.1 found.1)

  -- a definition that a word begins, behind its description
  unfoldable pub described_definition : (name : DefinitionName) → is_definition F (a_string_value ∷ a_keyword word ∷ []) S ≡ true →
      ((more : List Token) → definition_at (Name word ∷ more) ≡ Some name) →
      DefinitionPart (described body) name
  described_definition name is begun = alike (described body) (described_part body p refl) name is refl (λ broken front tree. refl)
      (λ tree tokens rest d. let found = described_chosen tree tokens rest d in found.1 ∙ begun found.0)

  pub extension_chosen : (adds : body.Tree → Bool) (name : body.Tree → Option NameText) (tree : body.Tree) (tokens rest : List Token) →
      (extension body adds name).form tree tokens rest →
      (more : List Token) × (chosen_definition tokens ≡ definition_at (Name (codes "extend") ∷ Name word ∷ more))
  unfolding ◌⨟◌ only_if
  extension_chosen adds name tree tokens rest d =
      let found = keyword_opens word d.1.0 rest (let x = p.read 0 tree in x.opens d.1.0 rest d.1.2) in
      (found.0, behind_extend word tokens d.1.0 found.0 d.1.1 found.1)

  -- an extension of what a word begins
  unfoldable pub extension_definition : (adds : body.Tree → Bool) (extended : body.Tree → Option NameText) (name : DefinitionName) →
      is_definition F (a_keyword (codes "extend") ∷ []) S ≡ true →
      ((more : List Token) → definition_at (Name (codes "extend") ∷ Name word ∷ more) ≡ Some name) →
      DefinitionPart (extension body adds extended) name
  extension_definition adds extended name is begun =
      alike (extension body adds extended) (extension_part body adds extended p) name is refl (λ broken front tree. refl)
      (λ tree tokens rest d. let found = extension_chosen adds extended tree tokens rest d in found.1 ∙ begun found.0)

-- OPERATIONS

pub operation_type_begins : (type : OperationTypeTree) (tokens between more : List Token) (description : Option StringText) →
    description_form description tokens between → operation_type_form type between more →
    chosen_definition tokens ≡ Some OperationDefinition
unfolding token definition_at named_by definition_words
operation_type_begins Query tokens between more description before is = behind_it description (codes "query") tokens between more before is
operation_type_begins Mutation tokens between more description before is = behind_it description (codes "mutation") tokens between more before is
operation_type_begins Subscription tokens between more description before is = behind_it description (codes "subscription") tokens between more before is

pub operation_chosen : (operation : full_operation_kind.Tree) (tokens rest : List Token) → operation_form operation tokens rest →
    chosen_definition tokens ≡ Some OperationDefinition
unfolding operation_form either only_if ◌⨟◌
operation_chosen operation tokens rest (inl d) =
    brace_chosen tokens rest (let x = selection_set_part.read 0 operation.body.selections in x.opens tokens rest d.1)
operation_chosen operation tokens rest (inr d) = operation_type_begins operation.body.operation_type tokens d.0 d.2.0 operation.description d.1 d.2.1

unfoldable pub operation_as_definition : DefinitionPart operation_definition_kind OperationDefinition
unfolding operation_shape operation_tokens as_definition operation_definition_part
operation_as_definition = record {
  part = as_definition operation_definition_kind operation_definition_part refl;
  chosen = operation_chosen;
  no_brace = λ operation holds rest stops. begins_apart full_operation_kind full_operation_part refl operation holds rest (begins_none rest);
  first_tokens = operation_tokens;
  first_told = λ broken front operation. operation_told operation broken front (front && is_bare_query operation) (at_front front (is_bare_query operation));
  first_written = λ front operation holds rest stops.
      operation_written operation (front && is_bare_query operation) (at_front front (is_bare_query operation)) holds rest;
}

-- ALL DEFINITIONS

unfoldable pub definition_parts : (name : DefinitionName) → DefinitionPart (kind_named name) name
unfolding definition_at extension_at named_by definition_words extension_words
definition_parts OperationDefinition = operation_as_definition
definition_parts FragmentDefinition = described_definition fragment_definition_body fragment_definition_body_part FragmentDefinition refl (λ more. refl)
definition_parts DirectiveDefinition = described_definition directive_definition_body directive_definition_body_part DirectiveDefinition refl (λ more. refl)
definition_parts SchemaDefinition = described_definition schema_body schema_body_part SchemaDefinition refl (λ more. refl)
definition_parts ScalarTypeDefinition = described_definition scalar_type_body scalar_type_body_part ScalarTypeDefinition refl (λ more. refl)
definition_parts ObjectTypeDefinition = described_definition object_type_body object_type_body_part ObjectTypeDefinition refl (λ more. refl)
definition_parts InterfaceTypeDefinition = described_definition interface_type_body interface_type_body_part InterfaceTypeDefinition refl (λ more. refl)
definition_parts UnionTypeDefinition = described_definition union_type_body union_type_body_part UnionTypeDefinition refl (λ more. refl)
definition_parts EnumTypeDefinition = described_definition enum_type_body enum_type_body_part EnumTypeDefinition refl (λ more. refl)
definition_parts InputObjectTypeDefinition =
    described_definition input_object_type_body input_object_type_body_part InputObjectTypeDefinition refl (λ more. refl)
definition_parts SchemaExtension =
    extension_definition extended_schema_body extended_schema_body_part
    extended_schema_adds extended_schema_name SchemaExtension refl (λ more. refl)
definition_parts ScalarTypeExtension =
    extension_definition scalar_type_body scalar_type_body_part
    (λ scalar. has_some scalar.directives) (λ scalar. Some scalar.name) ScalarTypeExtension refl (λ more. refl)
definition_parts ObjectTypeExtension =
    extension_definition object_type_body object_type_body_part implementing_type_adds (λ type. Some type.name) ObjectTypeExtension refl (λ more. refl)
definition_parts InterfaceTypeExtension =
    extension_definition interface_type_body interface_type_body_part implementing_type_adds (λ type. Some type.name)
    InterfaceTypeExtension refl (λ more. refl)
definition_parts UnionTypeExtension =
    extension_definition union_type_body union_type_body_part
    union_type_adds (λ union. Some union.name) UnionTypeExtension refl (λ more. refl)
definition_parts EnumTypeExtension =
    extension_definition enum_type_body enum_type_body_part
    (braced_type_adds enum_value_definition_kind) (λ type. Some type.name) EnumTypeExtension refl (λ more. refl)
definition_parts InputObjectTypeExtension =
    extension_definition input_object_type_body input_object_type_body_part
    (braced_type_adds input_value_definition_kind) (λ type. Some type.name) InputObjectTypeExtension refl (λ more. refl)

-- DEFINITIONS

unfoldable pub chosen_reader : Option DefinitionName → Parser DefinitionTree
chosen_reader None = fail
chosen_reader (Some name) = (definition_parts name).part.parser >>= λ tree. pure (record { name = name; tree = tree })

unfoldable pub definition_reader : Parser DefinitionTree
definition_reader tokens = chosen_reader (chosen_definition tokens) tokens

pub definition_is_read : (k : ℕ) (definition : DefinitionTree) →
    Reads k definition_reader definition (definition_kind.form definition) excluded_after_definition definition_first_tokens false
unfolding definition_reader chosen_reader
definition_is_read k definition =
    let parts = definition_parts definition.name in
    let chosen = last (λ (tree : (kind_named definition.name).Tree). record { name = definition.name; tree = tree }) (parts.part.read k definition.tree) in
    record { finds = λ tokens rest d le stop. rw (parts.chosen definition.tree tokens rest d) (chosen.finds tokens rest d le stop); opens = chosen.opens }

-- Definition, section 2.2, where something is written before it
unfoldable pub definition_part : KindPart definition_kind excluded_after_definition definition_first_tokens false a_brace false
definition_part = record {
  tokens = λ definition. (definition_parts definition.name).part.tokens definition.tree;
  parser = definition_reader;
  told = λ broken definition. (definition_parts definition.name).part.told broken definition.tree;
  read = definition_is_read;
  written = λ definition. (definition_parts definition.name).part.written definition.tree;
  obeyed = λ definition. (definition_parts definition.name).part.obeyed definition.tree;
}

unfoldable pub first_definition_tokens : Bool → DefinitionTree → Tail
first_definition_tokens front definition = (definition_parts definition.name).first_tokens front definition.tree

pub first_definition_told : (broken front : Bool) (definition : DefinitionTree) →
    Told 0 (definition_kind.shape broken front definition) (first_definition_tokens front definition) false
    (definition_kind.nesting definition)
unfolding first_definition_tokens
first_definition_told broken front definition = (definition_parts definition.name).first_told broken front definition.tree

pub first_definition_written : (front : Bool) (definition : DefinitionTree) → IsTrue (definition_kind.obeys definition) →
    (rest : List Token) → begins a_brace rest ≡ false →
    definition_kind.form definition (first_definition_tokens front definition rest) rest
unfolding first_definition_tokens
first_definition_written front definition = (definition_parts definition.name).first_written front definition.tree

-- the laws of the kind that is so named
laws_named : (name : DefinitionName) → Laws (kind_named name)
laws_named OperationDefinition = operation_definition_laws
laws_named FragmentDefinition = fragment_definition_laws
laws_named DirectiveDefinition = directive_definition_laws
laws_named SchemaDefinition = schema_definition_laws
laws_named ScalarTypeDefinition = scalar_type_definition_laws
laws_named ObjectTypeDefinition = object_type_definition_laws
laws_named InterfaceTypeDefinition = interface_type_definition_laws
laws_named UnionTypeDefinition = union_type_definition_laws
laws_named EnumTypeDefinition = enum_type_definition_laws
laws_named InputObjectTypeDefinition = input_object_type_definition_laws
laws_named SchemaExtension = schema_extension_laws
laws_named ScalarTypeExtension = scalar_type_extension_laws
laws_named ObjectTypeExtension = object_type_extension_laws
laws_named InterfaceTypeExtension = interface_type_extension_laws
laws_named UnionTypeExtension = union_type_extension_laws
laws_named EnumTypeExtension = enum_type_extension_laws
laws_named InputObjectTypeExtension = input_object_type_extension_laws

pub definition_laws : Laws definition_kind
definition_laws = laws_of {tokens = first_definition_tokens} first_definition_told definition_is_read
    (λ front definition holds. first_definition_written front definition holds [] refl)
    (λ definition. (definition_parts definition.name).part.obeyed definition.tree)
    (λ definition. (laws_named definition.name).tells definition.tree)
