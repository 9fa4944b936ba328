-- Parts in a row: between parentheses, between braces, and names that are joined by a punctuator.
use Rattle.std.proofs.Common.{ℕ, refl, inl, ◌≡◌, ◌∙◌, Bool, true, false, if◌then◌else◌, ◌&&◌, List, [], ◌∷◌, map, IsTrue}
use Rattle.std.specs.List.{list_all, list_any}
use Rattle.std.proofs.Math.Dec.{eqb-suc-zero}
use Rattle.graphql_base.specs.Names.{is_name}
use Rattle.graphql_text.specs.lexical.Literals.{NameText}
use Rattle.graphql_text.specs.lexical.Tokens.{Punctuator, lparen, rparen, lbrace, rbrace, Token, Punctuation, Name}
use Rattle.graphql_text.specs.grammar.Forms.{Form, TokenClass, a_punctuator, admits, token, optional_token, ◌⨟◌, name_except, never}
use Rattle.graphql_text.specs.grammar.Forms.{list_of, joined_by, no_tokens, begins, no_brace}
use Rattle.graphql_text.specs.parts.JoinedNames.{joined_names_shape}
use Rattle.graphql_text.specs.kinds.Kinds.{Kind}
use Rattle.graphql_text.specs.layout.Layout.{Item, Word, Space, comma_group, each_after, flat}
use Rattle.graphql_text.specs.parts.Members.{has_some, members_form, members_shape, members_nesting, members_obey, required_members_form}
use Rattle.graphql_text.specs.parts.Members.{required_members_shape, required_members_obey}
use Rattle.graphql_text.specs.parts.Parentheses.{parentheses_form, flat_parentheses_shape, parentheses_shape, parentheses_nesting}
use Rattle.graphql_text.proofs.layout.BracketsByParts.{Passes, punctuator_effect}
use Rattle.graphql_text.proofs.grammar.FormParsers.{◌>>=◌, pure, seq, last, accept, mark_reads, parse_name, name_reads, fits, parse_group}
use Rattle.graphql_text.proofs.grammar.FormParsers.{group_reads, brace_begins, braced_reads, parse_some, some_reads, parse_joined}
use Rattle.graphql_text.proofs.grammar.FormParsers.{joined_reads, all_apart, within, also}
use Rattle.graphql_text.proofs.parts.Parts.{Part, KindPart, begins_none}
use Rattle.graphql_text.proofs.parts.PartTokens.{Tail, list_tokens, group_tokens, joined_tokens}
use Rattle.graphql_text.proofs.parts.ToldShapes.{Told, told_mark, told_word, told_space, told_weaker, told_nothing, told_flat}
use Rattle.graphql_text.proofs.parts.ToldShapes.{told_comma_group, told_curly_group, row_of}
use Rattle.graphql_text.proofs.general.BooleanTests.{first_holds, second_holds, both_hold, not_of}

-- whether parts that begin with some tokens may stand in a row, and before a closing bracket
abbrev pub may_be_row : Punctuator → List TokenClass → List TokenClass → Bool
may_be_row closing F L =
    fits F L true (also L F) && within L (also L F) && all_apart F (also L (a_punctuator closing ∷ []))
    && all_apart (also L F) (a_punctuator closing ∷ [])

module _ {A : Type 0} {f : A → Form} {s : Bool → A → List Item} {n : A → ℕ} {o : A → Bool} {F L : List TokenClass} {opens : Bool} where
  pub list_written : (p : Part f s n o F L false [] opens) (parts : List A) → IsTrue (list_all o parts) → (rest : List Token) →
      list_of f parts (list_tokens (p.tokens) parts rest) rest
  unfolding no_tokens ◌⨟◌
  list_written p [] holds rest = refl
  list_written p (a ∷ more) holds rest = (
    _,
    p.written a (first_holds (o a) (list_all o more) holds) _ (begins_none _),
    list_written p more (second_holds (o a) (list_all o more) holds) rest,
  )

  pub list_obeyed : (p : Part f s n o F L false [] opens) (parts : List A) (ts rest : List Token) → list_of f parts ts rest → IsTrue (list_all o parts)
  unfolding ◌⨟◌
  list_obeyed p [] ts rest d = refl
  list_obeyed p (a ∷ more) ts rest d = both_hold (o a) (list_all o more) (p.obeyed a _ _ d.1) (list_obeyed p more _ _ d.2)

  -- PARENTHESES

  pub parentheses_written : (p : Part f s n o F L false [] opens) (parts : List A) → IsTrue (list_all o parts) → (rest : List Token) →
      parentheses_form f parts (group_tokens lparen (p.tokens) rparen parts rest) rest
  unfolding token no_tokens ◌⨟◌
  parentheses_written p [] holds rest = refl
  parentheses_written p (a ∷ more) holds rest = let all = list_written p (a ∷ more) holds _ in (_, refl, (_, all.1, (_, all.2, refl)))

  pub parentheses_obeyed : (p : Part f s n o F L false [] opens) (parts : List A) (ts rest : List Token) →
      parentheses_form f parts ts rest → IsTrue (list_all o parts)
  unfolding ◌⨟◌
  parentheses_obeyed p [] ts rest d = refl
  parentheses_obeyed p (a ∷ more) ts rest d = both_hold (o a) (list_all o more) (p.obeyed a _ _ d.2.1) (list_obeyed p more _ _ d.2.2.1)

  pub flat_parentheses_told : (p : Part f s n o F L false [] opens) (parts : List A) →
      Told 0 (flat_parentheses_shape (s false) parts) (group_tokens lparen (p.tokens) rparen parts) true (parentheses_nesting n parts)
  flat_parentheses_told p [] = told_nothing
  flat_parentheses_told p (a ∷ more) = told_flat (told_comma_group lparen rparen false refl refl refl (row_of (λ x. told_weaker (p.told false x)) (a ∷ more)))

  pub parentheses_told : (p : Part f s n o F L false [] opens) (wants_lines : A → Bool) (broken : Bool) (parts : List A) →
      Told 0 (parentheses_shape wants_lines s broken parts) (group_tokens lparen (p.tokens) rparen parts) true (parentheses_nesting n parts)
  parentheses_told p wants_lines broken [] = told_nothing
  parentheses_told p wants_lines broken (a ∷ more) = in_mode (list_any wants_lines (a ∷ more))
    where
      in_mode : (b : Bool) →
          Told 0
          (if b then comma_group lparen rparen broken (map (s broken) (a ∷ more))
          else flat (comma_group lparen rparen false (map (s false) (a ∷ more))))
          (group_tokens lparen (p.tokens) rparen (a ∷ more)) true (parentheses_nesting n (a ∷ more))
      in_mode true = told_comma_group lparen rparen broken refl refl refl (row_of (λ x. told_weaker (p.told broken x)) (a ∷ more))
      in_mode false = flat_parentheses_told p (a ∷ more)

  -- parts in parentheses, on one line in every layout
  unfoldable pub flat_parentheses_part : Part f s n o F L false [] opens → may_be_row rparen F L ≡ true →
      Part (parentheses_form f) (λ broken. flat_parentheses_shape (s false)) (parentheses_nesting n) (list_all o) (a_punctuator lparen ∷ [])
      (a_punctuator lparen ∷ []) true [] true
  flat_parentheses_part p e = record {
    tokens = group_tokens lparen (p.tokens) rparen;
    parser = parse_group lparen L (p.parser) rparen;
    told = λ broken. flat_parentheses_told p;
    read = λ k.
        group_reads f (also L F) lparen rparen (p.read k) (second_holds _ _ (first_holds _ _ (first_holds _ _ e)))
        (first_holds _ _ (first_holds _ _ (first_holds _ _ e))) (second_holds _ _ (first_holds _ _ e)) (second_holds _ _ e);
    written = λ parts holds rest stops. parentheses_written p parts holds rest;
    obeyed = parentheses_obeyed p;
  }

  -- parts in parentheses, on one line unless one of them wants lines
  unfoldable pub parentheses_part : (wants_lines : A → Bool) → Part f s n o F L false [] opens → may_be_row rparen F L ≡ true →
      Part (parentheses_form f) (parentheses_shape wants_lines s) (parentheses_nesting n) (list_all o) (a_punctuator lparen ∷ [])
      (a_punctuator lparen ∷ []) true [] true
  unfolding flat_parentheses_part
  parentheses_part wants_lines p e = let on_one_line = flat_parentheses_part p e in record {
    tokens = group_tokens lparen (p.tokens) rparen;
    parser = parse_group lparen L (p.parser) rparen;
    told = parentheses_told p wants_lines;
    read = on_one_line.read;
    written = λ parts holds rest stops. parentheses_written p parts holds rest;
    obeyed = parentheses_obeyed p;
  }

-- MEMBERS

-- whether parts that begin with some tokens may stand in a row between braces
abbrev pub may_be_members : List TokenClass → List TokenClass → Bool
may_be_members = may_be_row rbrace

module _ (kind : Kind) {F L : List TokenClass} {opens : Bool} (p : KindPart kind F L false [] opens) where
  pub group_told : (broken : Bool) (members : List kind.Tree) →
      Told 0 (required_members_shape kind broken members)
      (λ rest. Punctuation lbrace ∷ list_tokens (p.tokens) members (Punctuation rbrace ∷ rest)) true (members_nesting kind members)
  group_told broken members = told_space (told_curly_group (row_of (λ x. told_weaker (p.told broken x)) members))

  pub members_told : (broken : Bool) (members : List kind.Tree) →
      Told 0 (members_shape kind broken members) (group_tokens lbrace (p.tokens) rbrace members) true (members_nesting kind members)
  members_told broken [] = told_nothing
  members_told broken (a ∷ more) = group_told broken (a ∷ more)

  pub members_written : (members : List kind.Tree) → IsTrue (members_obey kind members) → (rest : List Token) →
      begins (a_punctuator lbrace ∷ []) rest ≡ false → members_form kind members (group_tokens lbrace (p.tokens) rbrace members rest) rest
  unfolding token no_brace ◌⨟◌
  members_written [] holds rest stops = (refl, brace_begins rest ∙ stops)
  members_written (a ∷ more) holds rest stops = let all = list_written p (a ∷ more) holds _ in (_, refl, (_, all.1, (_, all.2, refl)))

  pub members_obeyed : (members : List kind.Tree) (ts rest : List Token) → members_form kind members ts rest → IsTrue (members_obey kind members)
  unfolding ◌⨟◌
  members_obeyed [] ts rest d = refl
  members_obeyed (a ∷ more) ts rest d = both_hold (kind.obeys a) (members_obey kind more) (p.obeyed a _ _ d.2.1) (list_obeyed p more _ _ d.2.2.1)

  -- members, which may be left out
  unfoldable pub members_part : may_be_members F L ≡ true →
      Part (members_form kind) (members_shape kind) (members_nesting kind) (members_obey kind) [] (a_punctuator lbrace ∷ []) true
      (a_punctuator lbrace ∷ []) true
  members_part e = record {
    tokens = group_tokens lbrace (p.tokens) rbrace;
    parser = parse_group lbrace L (p.parser) rbrace;
    told = members_told;
    read = λ k.
        braced_reads (kind.form) (also L F) (p.read k) (second_holds _ _ (first_holds _ _ (first_holds _ _ e)))
        (first_holds _ _ (first_holds _ _ (first_holds _ _ e))) (second_holds _ _ (first_holds _ _ e)) (second_holds _ _ e);
    written = members_written;
    obeyed = members_obeyed;
  }

  pub required_written : (members : List kind.Tree) → IsTrue (required_members_obey kind members) → (rest : List Token) →
      required_members_form kind members (Punctuation lbrace ∷ list_tokens (p.tokens) members (Punctuation rbrace ∷ rest)) rest
  unfolding token ◌⨟◌
  required_written [] holds rest = cc
  required_written (a ∷ more) holds rest =
      (_, refl, (_, list_written p (a ∷ more) (second_holds (has_some (a ∷ more)) (members_obey kind (a ∷ more)) holds) _, refl))

  pub required_obeyed : (members : List kind.Tree) (ts rest : List Token) → required_members_form kind members ts rest →
      IsTrue (required_members_obey kind members)
  unfolding ◌⨟◌ never
  required_obeyed [] ts rest d = absurd d.2.1
  required_obeyed (a ∷ more) ts rest d =
      both_hold (has_some (a ∷ more)) (members_obey kind (a ∷ more)) (not_of _ (eqb-suc-zero _)) (list_obeyed p (a ∷ more) _ _ d.2.1)

  -- members, of which there is one at least
  unfoldable pub required_members_part : may_be_members F L ≡ true →
      Part (required_members_form kind) (required_members_shape kind) (members_nesting kind) (required_members_obey kind) []
      (a_punctuator lbrace ∷ []) false [] true
  required_members_part e = record {
    tokens = λ members rest. Punctuation lbrace ∷ list_tokens (p.tokens) members (Punctuation rbrace ∷ rest);
    parser = accept (a_punctuator lbrace) >>= λ t. parse_some L (p.parser) >>= λ members. accept (a_punctuator rbrace) >>= λ u. pure members;
    told = group_told;
    read = λ k members.
        seq _ (mark_reads lbrace) (seq _
        (some_reads (kind.form) (also L F) (p.read k) (second_holds _ _ (first_holds _ _ (first_holds _ _ e)))
        (first_holds _ _ (first_holds _ _ (first_holds _ _ e))) members)
        (last _ (mark_reads rbrace)) (second_holds _ _ e)) refl;
    written = λ members holds rest stops. required_written members holds rest;
    obeyed = required_obeyed;
  }

-- JOINED NAMES

-- a name, or a punctuator that is no bracket
abbrev pub IsNameOrMark : Token → Type 0
IsNameOrMark (Name text) = is_name text ≡ true
IsNameOrMark (Punctuation mark) = punctuator_effect mark ≡ Passes
IsNameOrMark _ = ⊥

told_name_or_mark : {u n : ℕ} {xs : List Item} {w : Tail} (word : Token) → IsNameOrMark word → Told u xs w true n →
    Told u (Word word ∷ xs) (λ ts. word ∷ w ts) false n
told_name_or_mark (Name text) is a = told_word text is a
told_name_or_mark (Punctuation mark) is a = told_weaker (told_mark mark is a)
told_name_or_mark _ is a = absurd is

module _ {A : Type 0} (word : Token) (separator : Punctuator) (name : A → List ℕ) where
  told_more_names : punctuator_effect separator ≡ Passes → ((a : A) → is_name (name a) ≡ true) → (more : List A) →
      Told 0
      (each_after (Space ∷ Word (Punctuation separator) ∷ Space ∷ []) (Space ∷ Word (Punctuation separator) ∷ Space ∷ [])
      (map (λ a. Word (Name (name a)) ∷ []) more))
      (list_tokens (λ a ts. Punctuation separator ∷ Name (name a) ∷ ts) more) true 0
  unfolding each_after
  told_more_names passes are [] = told_nothing
  told_more_names passes are (a ∷ more) = told_space (told_mark separator passes (told_space (told_word (name a) (are a) (told_more_names passes are more))))

  pub told_joined_names : punctuator_effect separator ≡ Passes → ((a : A) → is_name (name a) ≡ true) → IsNameOrMark word → (parts : List A) →
      Told 0 (joined_names_shape word separator name parts) (joined_tokens word separator (λ a ts. Name (name a) ∷ ts) parts) true 0
  unfolding each_after
  told_joined_names passes are is [] = told_nothing
  told_joined_names passes are is (a ∷ more) =
      told_space (told_name_or_mark word is (told_space (told_word (name a) (are a) (told_more_names passes are more))))

  more_names_written : (f : A → Form) → ((a : A) (rest : List Token) → f a (Name (name a) ∷ rest) rest) → (more : List A) (rest : List Token) →
      list_of (λ a. token (Punctuation separator) ⨟ f a) more (list_tokens (λ a after. Punctuation separator ∷ Name (name a) ∷ after) more rest) rest
  unfolding token no_tokens ◌⨟◌
  more_names_written f is [] rest = refl
  more_names_written f is (a ∷ more) rest = (_, (_, refl, is a _), more_names_written f is more rest)

  pub joined_names_written : (f : A → Form) → ((a : A) (rest : List Token) → f a (Name (name a) ∷ rest) rest) → (parts : List A) (rest : List Token) →
      joined_by word separator f parts (joined_tokens word separator (λ a after. Name (name a) ∷ after) parts rest) rest
  unfolding token no_tokens optional_token ◌⨟◌
  joined_names_written f is [] rest = refl
  joined_names_written f is (a ∷ more) rest = (_, refl, (_, inl refl, (_, is a _, more_names_written f is more rest)))

pub name_written : (name : NameText) (rest : List Token) → name_except [] name (Name name.text ∷ rest) rest
unfolding name_except
name_written name rest = (refl, refl)

-- names after a word, with a punctuator between them; nothing where there is no name
unfoldable pub joined_names_part : (word : Token) (separator : Punctuator) (class : TokenClass) → admits class word ≡ true →
    IsNameOrMark word → punctuator_effect separator ≡ Passes →
    Part (joined_by word separator (name_except [])) (λ broken. joined_names_shape word separator (λ name. name.text)) (λ names. 0)
    (λ names. true) (class ∷ a_punctuator separator ∷ []) (class ∷ []) true [] true
joined_names_part word separator class is word_is passes = record {
  tokens = joined_tokens word separator (λ name rest. Name name.text ∷ rest);
  parser = parse_joined class separator (parse_name []);
  told = λ broken. told_joined_names word separator (λ name. name.text) passes (λ name. name.valid) word_is;
  read = λ k. joined_reads (name_except []) class word separator (name_reads []) is refl;
  written = λ names holds rest stops. joined_names_written word separator (λ name. name.text) (name_except []) name_written names rest;
  obeyed = λ names ts rest d. refl;
}
