-- Lemmas, no definitions of the product: values as a part, and their laws.
use Rattle.std.proofs.Common.{ℕ, zero, suc, ◌≤◌, refl, List, [], ◌∷◌, Bool, true, false, IsTrue, Option, None, arith, le_refl, codes}
use Rattle.graphql_text.specs.lexical.Literals.{NameText, IntText, FloatText}
use Rattle.graphql_text.specs.lexical.Tokens.{dollar, colon, lbracket, rbracket, lbrace, rbrace, Token, Punctuation, Name, IntValue, FloatValue, StringValue}
use Rattle.graphql_text.specs.grammar.Forms.{token, no_tokens, ◌⨟◌, name_except, only_if, TokenClass, a_punctuator, a_keyword, a_name}
use Rattle.graphql_text.specs.grammar.Forms.{an_int, a_float, a_string_value}
use Rattle.graphql_text.specs.layout.Layout.{AsValue}
use Rattle.graphql_text.specs.kinds.Reading.{Laws}
use Rattle.graphql_text.proofs.lexical.CheckedTexts.{checked_text, checked_text_found}
use Rattle.graphql_text.proofs.parts.KindParts.{got_text, text_reads, part_laws}
use Rattle.graphql_text.proofs.grammar.FormParsers.{Parser, ◌>>=◌, pure, fail, leaf, alt, Reads, seq, seq_in, last, leaf_reads, alt_0}
use Rattle.graphql_text.proofs.grammar.FormParsers.{alt_1, wider, lower, many, many_none, many_more, at_zero, accept, mark_reads}
use Rattle.graphql_text.proofs.grammar.FormParsers.{word_reads, parse_name, name_reads, bounded, bounded_reads}
use Rattle.graphql_text.proofs.parts.Parts.{Part}
use Rattle.graphql_text.proofs.parts.PartTokens.{Tail}
use Rattle.graphql_text.proofs.parts.ToldShapes.{Told, told_nothing, told_weaker, told_mark, told_word, told_name, told_int, told_float}
use Rattle.graphql_text.proofs.parts.ToldShapes.{told_string, told_space, Row, no_row, row_more, told_comma_group}
use Rattle.graphql_text.proofs.general.BooleanTests.{first_holds, second_holds, both_hold, false_of, not_of}
use Rattle.graphql_values.specs.kinds.Values.{Constness, Const, NonConst, ValueTree, ValueTrees, ObjectFieldTrees, null_value, enum_value}
use Rattle.graphql_values.specs.kinds.Values.{variable, string_value, float_value, int_value, boolean_value, list_value, object_value}
use Rattle.graphql_values.specs.kinds.Values.{no_values, more_values, no_fields, more_fields, not_enum_values, value_form, values_form}
use Rattle.graphql_values.specs.kinds.Values.{object_fields_form, value_shape, values_shapes, object_fields_shapes, value_nesting}
use Rattle.graphql_values.specs.kinds.Values.{values_nestings, object_fields_nestings, value_obeys, values_obey, object_fields_obey}
use Rattle.graphql_values.specs.kinds.Values.{value_kind}
use Rattle.graphql_values.specs.lemmas.FlawsTold.{value_tells}

-- THE TOKENS OF A VALUE AS IT IS PRINTED, IN FRONT OF THOSE THAT FOLLOW

unfoldable mutual
  pub value_tokens : ValueTree → Tail
  value_tokens null_value rest = Name (codes "null") ∷ rest
  value_tokens (enum_value name) rest = Name name.text ∷ rest
  value_tokens (variable name) rest = Punctuation dollar ∷ Name name.text ∷ rest
  value_tokens (string_value string) rest = StringValue string.text ∷ rest
  value_tokens (float_value float) rest = FloatValue float.text ∷ rest
  value_tokens (int_value int) rest = IntValue int.text ∷ rest
  value_tokens (boolean_value true) rest = Name (codes "true") ∷ rest
  value_tokens (boolean_value false) rest = Name (codes "false") ∷ rest
  value_tokens (list_value items) rest = Punctuation lbracket ∷ values_tokens items (Punctuation rbracket ∷ rest)
  value_tokens (object_value fields) rest = Punctuation lbrace ∷ object_fields_tokens fields (Punctuation rbrace ∷ rest)

  pub values_tokens : ValueTrees → Tail
  values_tokens no_values rest = rest
  values_tokens (more_values value more) rest = value_tokens value (values_tokens more rest)

  pub object_fields_tokens : ObjectFieldTrees → Tail
  object_fields_tokens no_fields rest = rest
  object_fields_tokens (more_fields name value more) rest = Name name.text ∷ Punctuation colon ∷ value_tokens value (object_fields_tokens more rest)

-- ITS LAYOUT HAS THESE TOKENS

mutual
  unfolding value_tokens

  pub told_value : (broken : Bool) (v : ValueTree) → Told 0 (value_shape broken v) (value_tokens v) false (value_nesting v)
  told_value broken null_value = told_word (codes "null") refl told_nothing
  told_value broken (enum_value s) = told_name s told_nothing
  told_value broken (variable s) = told_weaker (told_mark dollar refl (told_name s told_nothing))
  told_value broken (string_value s) = told_string s AsValue told_nothing
  told_value broken (float_value s) = told_float s told_nothing
  told_value broken (int_value s) = told_int s told_nothing
  told_value broken (boolean_value true) = told_word (codes "true") refl told_nothing
  told_value broken (boolean_value false) = told_word (codes "false") refl told_nothing
  told_value broken (list_value vs) = told_weaker (told_comma_group lbracket rbracket broken refl refl refl (told_values broken vs))
  told_value broken (object_value es) = told_weaker (told_comma_group lbrace rbrace broken refl refl refl (told_object_fields broken es))

  told_values : (broken : Bool) (vs : ValueTrees) → Row (values_shapes broken vs) (values_tokens vs) (values_nestings vs)
  told_values broken no_values = no_row
  told_values broken (more_values v vs) = row_more (told_value broken v) (told_values broken vs)

  told_object_fields : (broken : Bool) (es : ObjectFieldTrees) → Row (object_fields_shapes broken es) (object_fields_tokens es) (object_fields_nestings es)
  told_object_fields broken no_fields = no_row
  told_object_fields broken (more_fields s v es) =
      row_more (told_name s (told_mark colon refl (told_space (told_value broken v)))) (told_object_fields broken es)

-- A READER OF VALUES FINDS IT

abbrev pub value_first_tokens : List TokenClass
value_first_tokens = a_punctuator dollar ∷ an_int ∷ a_float ∷ a_string_value ∷ a_name [] ∷ a_punctuator lbracket ∷ a_punctuator lbrace ∷ []

abbrev pub object_field_first_tokens : List TokenClass
object_field_first_tokens = a_name [] ∷ []

unfoldable pub got_int : Token → Option IntText
got_int (IntValue s) = checked_text s
got_int _ = None

unfoldable pub got_float : Token → Option FloatText
got_float (FloatValue s) = checked_text s
got_float _ = None

-- refused in a const context
unfoldable pub unless_const : {A : Type 0} → Constness → Parser A → Parser A
unless_const Const p = fail
unless_const NonConst p = p

unfoldable pub variable_reader : Constness → Parser ValueTree
variable_reader c = unless_const c (accept (a_punctuator dollar) >>= λ t. parse_name [] >>= λ s. pure (variable s))

unfoldable pub object_field_reader : Parser ValueTree → Parser (NameText × ValueTree)
object_field_reader p = parse_name [] >>= λ s. accept (a_punctuator colon) >>= λ t. p >>= λ v. pure (s, v)

unfoldable pub with_field : NameText × ValueTree → ObjectFieldTrees → ObjectFieldTrees
with_field e es = more_fields e.0 e.1 es

-- one value, with parsers for what stands between its brackets
unfoldable pub value_step : Constness → Parser ValueTrees → Parser ObjectFieldTrees → Parser ValueTree
value_step c pv pe =
    alt (a_punctuator dollar ∷ []) (variable_reader c)
    (alt (an_int ∷ []) (leaf got_int >>= λ s. pure (int_value s))
    (alt (a_float ∷ []) (leaf got_float >>= λ s. pure (float_value s))
    (alt (a_string_value ∷ []) (leaf got_text >>= λ s. pure (string_value s))
    (alt (a_keyword (codes "null") ∷ []) (accept (a_keyword (codes "null")) >>= λ t. pure null_value)
    (alt (a_keyword (codes "true") ∷ []) (accept (a_keyword (codes "true")) >>= λ t. pure (boolean_value true))
    (alt (a_keyword (codes "false") ∷ []) (accept (a_keyword (codes "false")) >>= λ t. pure (boolean_value false))
    (alt (a_name not_enum_values ∷ []) (parse_name not_enum_values >>= λ s. pure (enum_value s))
    (alt (a_punctuator lbracket ∷ []) (accept (a_punctuator lbracket) >>= λ t. pv >>= λ vs. accept (a_punctuator rbracket) >>= λ u. pure (list_value vs))
    (alt (a_punctuator lbrace ∷ []) (accept (a_punctuator lbrace) >>= λ t. pe >>= λ es. accept (a_punctuator rbrace) >>= λ u. pure (object_value es))
    fail)))))))))

unfoldable pub values_reader : ℕ → Parser ValueTree → Parser ValueTrees
values_reader k p = many no_values more_values value_first_tokens k p

unfoldable pub object_fields_reader : ℕ → Parser ValueTree → Parser ObjectFieldTrees
object_fields_reader k p = many no_fields with_field object_field_first_tokens k (object_field_reader p)

-- the parsers of what stands between the brackets of a value of at most that many tokens
abbrev pub part_readers : ℕ → Constness → Parser ValueTrees × Parser ObjectFieldTrees
part_readers zero c = (fail, fail)
part_readers (suc k) c = let p = value_step c (part_readers k c).0 (part_readers k c).1 in (values_reader k p, object_fields_reader k p)

abbrev pub value_reader_of : ℕ → Constness → Parser ValueTree
value_reader_of k c = value_step c (part_readers k c).0 (part_readers k c).1

int_reads : {k : ℕ} (s : IntText) → Reads k (leaf got_int) s (token (IntValue s.text)) [] (an_int ∷ []) false
unfolding got_int
int_reads s = leaf_reads _ (IntValue s.text) an_int (checked_text_found s) refl

float_reads : {k : ℕ} (s : FloatText) → Reads k (leaf got_float) s (token (FloatValue s.text)) [] (a_float ∷ []) false
unfolding got_float
float_reads s = leaf_reads _ (FloatValue s.text) a_float (checked_text_found s) refl

variable_reads : {k : ℕ} (c : Constness) (s : NameText) →
    Reads k (variable_reader c) (variable s) (value_form c (variable s)) [] (a_punctuator dollar ∷ []) false
unfolding variable_reader value_form only_if unless_const
variable_reads NonConst s =
    let x = seq _ (mark_reads dollar) (last (λ s. variable s) (name_reads [] s)) refl in
    record { finds = λ ts r d le stop. x.finds ts r d.1 le stop; opens = λ ts r d. x.opens ts r d.1 }
variable_reads Const s = record {
  finds = λ ts r d le stop. cc (d.0);
  opens = λ ts r d. cc (d.0);
}

object_field_reads : {k : ℕ} {p : Parser ValueTree} (c : Constness) {v : ValueTree} (s : NameText) → Reads k p v (value_form c v) [] value_first_tokens false →
    Reads k (object_field_reader p) (s, v) (name_except [] s ⨟ token (Punctuation colon) ⨟ value_form c v) [] object_field_first_tokens false
unfolding object_field_reader
object_field_reads c s x = seq _ (name_reads [] s) (seq _ (mark_reads colon) (last _ x) refl) refl

-- each value is found on as many tokens as there are, whatever follows it
mutual
  unfolding value_step value_form values_reader object_fields_reader object_field_reader with_field

  pub value_reads : (k : ℕ) (c : Constness) (v : ValueTree) → Reads k (value_reader_of k c) v (value_form c v) [] value_first_tokens false
  value_reads k c (variable s) = wider (alt_0 _ _ (variable_reads c s) refl) refl refl (λ z. z)
  value_reads k c (int_value s) = wider (alt_1 _ _ (alt_0 _ _ (last _ (int_reads s)) refl) refl) refl refl (λ z. z)
  value_reads k c (float_value s) = wider (alt_1 _ _ (alt_1 _ _ (alt_0 _ _ (last _ (float_reads s)) refl) refl) refl) refl refl (λ z. z)
  value_reads k c (string_value s) = wider (alt_1 _ _ (alt_1 _ _ (alt_1 _ _ (alt_0 _ _ (last _ (text_reads s)) refl) refl) refl) refl) refl refl (λ z. z)
  value_reads k c null_value =
      wider (alt_1 _ _ (alt_1 _ _ (alt_1 _ _ (alt_1 _ _ (alt_0 _ _ (last _ (word_reads (codes "null"))) refl) refl) refl) refl) refl) refl refl (λ z. z)
  value_reads k c (boolean_value true) =
      wider
      (alt_1 _ _ (alt_1 _ _
      (alt_1 _ _ (alt_1 _ _ (alt_1 _ _ (alt_0 _ _ (last _ (word_reads (codes "true"))) refl) refl) refl) refl) refl) refl)
      refl refl
      (λ z. z)
  value_reads k c (boolean_value false) =
      wider
      (alt_1 _ _ (alt_1 _ _ (alt_1 _ _
      (alt_1 _ _ (alt_1 _ _ (alt_1 _ _ (alt_0 _ _ (last _ (word_reads (codes "false"))) refl) refl) refl) refl) refl) refl)
      refl) refl refl
      (λ z. z)
  value_reads k c (enum_value s) =
      wider
      (alt_1 _ _ (alt_1 _ _ (alt_1 _ _ (alt_1 _ _
      (alt_1 _ _ (alt_1 _ _ (alt_1 _ _ (alt_0 _ _ (last _ (name_reads not_enum_values s)) refl) refl) refl) refl) refl)
      refl) refl) refl) refl refl
      (λ z. z)
  value_reads zero c (list_value vs) =
      wider
      (at_zero (mark_reads lbracket) (seq (λ vs. accept (a_punctuator rbracket) >>= λ t. pure (list_value vs))
      (values_read 0 0 (le_refl 0) c vs) (last _ (mark_reads rbracket)) refl)) refl refl
      (λ z. z)
  value_reads zero c (object_value es) =
      wider
      (at_zero (mark_reads lbrace) (seq (λ es. accept (a_punctuator rbrace) >>= λ t. pure (object_value es))
      (object_fields_read 0 0 (le_refl 0) c es) (last _ (mark_reads rbrace)) refl)) refl refl
      (λ z. z)
  value_reads (suc k) c (list_value vs) =
      wider (alt_1 _ _ (alt_1 _ _ (alt_1 _ _ (alt_1 _ _ (alt_1 _ _ (alt_1 _ _ (alt_1 _ _ (alt_1 _ _ (alt_0 _ _
      (seq_in _ (mark_reads lbracket) (seq _ (values_read k k (le_refl k) c vs) (last _ (mark_reads rbracket)) refl) refl)
      refl) refl) refl) refl) refl) refl) refl) refl) refl) refl refl (λ z. z)
  value_reads (suc k) c (object_value es) =
      wider (alt_1 _ _ (alt_1 _ _ (alt_1 _ _ (alt_1 _ _ (alt_1 _ _ (alt_1 _ _ (alt_1 _ _ (alt_1 _ _ (alt_1 _ _ (alt_0 _ _
      (seq_in _ (mark_reads lbrace) (seq _ (object_fields_read k k (le_refl k) c es) (last _ (mark_reads rbrace)) refl) refl)
      refl) refl) refl) refl) refl) refl) refl) refl) refl) refl) refl refl (λ z. z)

  values_read : (k j : ℕ) → j ≤ k → (c : Constness) (vs : ValueTrees) →
      Reads j (values_reader j (value_reader_of k c)) vs (values_form c vs) value_first_tokens value_first_tokens true
  values_read k j le c no_values = wider (many_none _ _ value_first_tokens j _) refl refl (λ z. z)
  values_read k zero le c (more_values v vs) = wider (at_zero (lower le (value_reads k c v)) (values_read k zero le c vs)) refl refl (λ z. refl)
  values_read k (suc j) le c (more_values v vs) =
      wider (many_more _ _ value_first_tokens _ (lower le (value_reads k c v)) (values_read k j (omega (arith, le)) c vs) refl refl) refl refl (λ z. refl)

  object_fields_read : (k j : ℕ) → j ≤ k → (c : Constness) (es : ObjectFieldTrees) →
      Reads j (object_fields_reader j (value_reader_of k c)) es
      (object_fields_form c es) object_field_first_tokens object_field_first_tokens true
  object_fields_read k j le c no_fields = wider (many_none _ _ object_field_first_tokens j _) refl refl (λ z. z)
  object_fields_read k zero le c (more_fields s v es) =
      wider (at_zero (object_field_reads c s (lower le (value_reads k c v))) (object_fields_read k zero le c es)) refl refl (λ z. refl)
  object_fields_read k (suc j) le c (more_fields s v es) =
      wider
      (many_more _ _ object_field_first_tokens _ (object_field_reads c s (lower le (value_reads k c v)))
      (object_fields_read k j (omega (arith, le)) c es) refl refl) refl refl
      (λ z. refl)

unfoldable pub value_reader : Constness → Parser ValueTree
value_reader c = bounded (λ k. value_reader_of k c)

pub value_is_read : {k : ℕ} (c : Constness) (v : ValueTree) → Reads k (value_reader c) v (value_form c v) [] value_first_tokens false
unfolding value_reader
value_is_read c v = bounded_reads _ (λ j le. value_reads j c v)

-- ITS TOKENS DERIVE IT

mutual
  unfolding value_form value_tokens token name_except only_if ◌⨟◌ no_tokens

  pub value_written : (c : Constness) (v : ValueTree) → IsTrue (value_obeys c v) → (r : List Token) → value_form c v (value_tokens v r) r
  value_written c null_value o r = refl
  value_written c (enum_value s) o r = (false_of _ o, refl)
  value_written c (variable s) o r = (o, (_, refl, (refl, refl)))
  value_written c (string_value s) o r = refl
  value_written c (float_value s) o r = refl
  value_written c (int_value s) o r = refl
  value_written c (boolean_value true) o r = refl
  value_written c (boolean_value false) o r = refl
  value_written c (list_value vs) o r = (_, refl, (_, values_written c vs o _, refl))
  value_written c (object_value fs) o r = (_, refl, (_, object_fields_written c fs o _, refl))

  values_written : (c : Constness) (vs : ValueTrees) → IsTrue (values_obey c vs) → (r : List Token) → values_form c vs (values_tokens vs r) r
  values_written c no_values o r = refl
  values_written c (more_values v vs) o r =
      (_, value_written c v (first_holds (value_obeys c v) (values_obey c vs) o) _, values_written c vs (second_holds (value_obeys c v) (values_obey c vs) o) r)

  object_fields_written : (c : Constness) (fs : ObjectFieldTrees) → IsTrue (object_fields_obey c fs) → (r : List Token) →
      object_fields_form c fs (object_fields_tokens fs r) r
  object_fields_written c no_fields o r = refl
  object_fields_written c (more_fields s v fs) o r = (
    _,
    (_, (refl, refl), (_, refl, value_written c v (first_holds (value_obeys c v) (object_fields_obey c fs) o) _)),
    object_fields_written c fs (second_holds (value_obeys c v) (object_fields_obey c fs) o) r,
  )

-- WHAT IS DERIVED OBEYS THE SIDE CONDITIONS

mutual
  unfolding value_form name_except only_if ◌⨟◌

  pub value_obeyed : (c : Constness) (v : ValueTree) (ts r : List Token) → value_form c v ts r → IsTrue (value_obeys c v)
  value_obeyed c null_value ts r d = refl
  value_obeyed c (enum_value s) ts r d = not_of _ d.0
  value_obeyed c (variable s) ts r d = d.0
  value_obeyed c (string_value s) ts r d = refl
  value_obeyed c (float_value s) ts r d = refl
  value_obeyed c (int_value s) ts r d = refl
  value_obeyed c (boolean_value b) ts r d = refl
  value_obeyed c (list_value vs) ts r d = values_obeyed c vs _ _ d.2.1
  value_obeyed c (object_value fs) ts r d = object_fields_obeyed c fs _ _ d.2.1

  values_obeyed : (c : Constness) (vs : ValueTrees) (ts r : List Token) → values_form c vs ts r → IsTrue (values_obey c vs)
  values_obeyed c no_values ts r d = refl
  values_obeyed c (more_values v vs) ts r d = both_hold (value_obeys c v) (values_obey c vs) (value_obeyed c v _ _ d.1) (values_obeyed c vs _ _ d.2)

  object_fields_obeyed : (c : Constness) (fs : ObjectFieldTrees) (ts r : List Token) → object_fields_form c fs ts r → IsTrue (object_fields_obey c fs)
  object_fields_obeyed c no_fields ts r d = refl
  object_fields_obeyed c (more_fields s v fs) ts r d =
      both_hold (value_obeys c v) (object_fields_obey c fs) (value_obeyed c v _ _ d.1.2.2) (object_fields_obeyed c fs _ _ d.2)

-- Value, section 2.9
unfoldable pub value_part : (c : Constness) → Part (value_form c) value_shape value_nesting (value_obeys c) [] value_first_tokens false [] false
value_part c = record {
  tokens = value_tokens;
  parser = value_reader c;
  told = told_value;
  read = λ k. value_is_read c;
  written = λ value holds rest stops. value_written c value holds rest;
  obeyed = value_obeyed c;
}

pub value_laws : Laws value_kind
value_laws = part_laws (value_part NonConst) (λ broken front value. refl) (value_tells NonConst)
