-- Kinds, put together of parts: a kind by itself, one that is described, and an extension.
use Rattle.std.proofs.Common.{ℕ, refl, subst, codes, ◌≡◌, Bool, true, false, List, [], ◌∷◌, ◌++◌, Option, Some, None}
use Rattle.graphql_text.specs.lexical.Literals.{NameText, StringText}
use Rattle.graphql_text.specs.lexical.Tokens.{Token, StringValue}
use Rattle.graphql_text.specs.parts.Descriptions.{description_form, description_shape, described}
use Rattle.graphql_text.specs.parts.Extensions.{extension}
use Rattle.graphql_text.specs.grammar.Forms.{TokenClass, a_keyword, a_string_value, token, no_tokens, ◌⨟◌}
use Rattle.graphql_text.specs.declared.ill_formed.SideCondition.TheVariants.{AddsSomething}
use Rattle.graphql_text.specs.kinds.Flaws.{TellsFlaws, flaw_unless}
use Rattle.graphql_text.specs.kinds.Kinds.{Kind}
use Rattle.graphql_text.specs.layout.Layout.{Item, AsDescription}
use Rattle.graphql_text.specs.grammar.OneReading.{IsReadOneWay}
use Rattle.graphql_text.specs.kinds.Reading.{Laws}
use Rattle.graphql_text.proofs.lexical.CheckedTexts.{checked_text, checked_text_found}
use Rattle.graphql_text.proofs.kinds.FlawsTold.{both_tell, unless_tells}
use Rattle.graphql_text.proofs.kinds.KindLaws.{laws_of}
use Rattle.graphql_text.proofs.grammar.FormParsers.{Parser, Reads, ◌>>=◌, pure, seq, last, leaf, leaf_reads, parse_maybe, maybe_reads, fits, joined}
use Rattle.graphql_text.proofs.parts.Parts.{Part, KindPart, word_then, space_then, under, part_one_way}
use Rattle.graphql_text.proofs.parts.PartTokens.{Tail, optional_tokens}
use Rattle.graphql_text.proofs.parts.ToldShapes.{Told, told_nothing, told_string, told_soft, told_weaker}

-- a kind is a part that stands alone
pub part_laws : {kind : Kind} {F L : List TokenClass} {b : Bool} {S : List TokenClass} {opens : Bool} → KindPart kind F L b S opens →
    ((broken front : Bool) (tree : kind.Tree) → kind.shape broken false tree ≡ kind.shape broken front tree) →
    TellsFlaws kind.obeys kind.flaws → Laws kind
part_laws {kind} p same tells = laws_of {tokens = λ front. p.tokens} told (p.read) (λ front tree holds. p.written tree holds [] refl) (p.obeyed) tells
  where
    told : (broken front : Bool) (tree : kind.Tree) → Told 0 (kind.shape broken front tree) (p.tokens tree) false (kind.nesting tree)
    told broken front tree = subst (λ items. Told 0 items (p.tokens tree) false (kind.nesting tree)) (same broken front tree) (told_weaker (p.told broken tree))

-- DESCRIPTIONS

unfoldable pub got_text : Token → Option StringText
got_text (StringValue s) = checked_text s
got_text _ = None

pub text_reads : {k : ℕ} (s : StringText) → Reads k (leaf got_text) s (token (StringValue s.text)) [] (a_string_value ∷ []) false
unfolding got_text
text_reads s = leaf_reads _ (StringValue s.text) a_string_value (checked_text_found s) refl

abbrev pub description_tokens : Option StringText → Tail
description_tokens = optional_tokens (λ string rest. StringValue string.text ∷ rest)

unfoldable pub description_reader : Parser (Option StringText)
description_reader = parse_maybe (a_string_value ∷ []) (leaf got_text)

pub description_is_read : {k : ℕ} (d : Option StringText) → Reads k description_reader d (description_form d) (a_string_value ∷ []) (a_string_value ∷ []) true
unfolding description_reader
description_is_read = maybe_reads _ (a_string_value ∷ []) text_reads refl refl

-- a description, where there is one, before what it describes
pub told_described : {n : ℕ} {xs : List Item} {w : Tail} (d : Option StringText) → Told 0 xs w false n →
    Told 0 (description_shape d ++ xs) (λ ts. description_tokens d (w ts)) false n
told_described None a = a
told_described (Some s) a = told_string s AsDescription (told_soft a)

pub description_told : (d : Option StringText) → Told 0 (description_shape d) (description_tokens d) false 0
description_told None = told_weaker told_nothing
description_told (Some s) = told_string s AsDescription (told_soft told_nothing)

pub description_written : (d : Option StringText) (r : List Token) → description_form d (description_tokens d r) r
unfolding token no_tokens
description_written None r = refl
description_written (Some s) r = refl

-- a description by itself
unfoldable pub description_part :
    Part description_form (λ broken. description_shape) (λ d. 0) (λ d. true) (a_string_value ∷ []) (a_string_value ∷ []) true [] false
description_part = record {
  tokens = description_tokens;
  parser = description_reader;
  told = λ broken. description_told;
  read = λ k. description_is_read;
  written = λ d holds rest stops. description_written d rest;
  obeyed = λ d ts rest x. refl;
}

-- the trees of a kind, each after its description
unfoldable pub described_part : (body : Kind) {F L S : List TokenClass} {b opens : Bool} → KindPart body F L b S opens →
    fits (a_string_value ∷ []) L b F ≡ true →
    KindPart (described body) F (joined (a_string_value ∷ []) true L) b S false
unfolding ◌⨟◌
described_part body p e = record {
  tokens = λ tree rest. description_tokens tree.description (p.tokens tree.body rest);
  parser = description_reader >>= λ description. p.parser >>= λ tree. pure (record { description = description; body = tree });
  told = λ broken tree. told_described tree.description (told_weaker (p.told broken tree.body));
  read = λ k tree. seq _ (description_is_read tree.description) (last _ (p.read k tree.body)) e;
  written = λ tree holds rest stops. (_, description_written tree.description _, p.written tree.body holds rest stops);
  obeyed = λ tree ts rest d. p.obeyed tree.body _ _ d.2;
}

pub described_laws : (body : Kind) {F L S : List TokenClass} {b opens : Bool} → KindPart body F L b S opens →
    fits (a_string_value ∷ []) L b F ≡ true → TellsFlaws body.obeys body.flaws → Laws (described body)
described_laws body p e tells = part_laws (described_part body p e) (λ broken front tree. refl) (λ tree. tells tree.body)

pub described_one_way : (body : Kind) {F L S : List TokenClass} {b opens : Bool} → KindPart body F L b S opens →
    fits (a_string_value ∷ []) L b F ≡ true → IsReadOneWay (described body).form F
described_one_way body p e = part_one_way (described_part body p e)

-- EXTENSIONS

-- the extensions of a kind
unfoldable pub extension_part :
    (body : Kind) (adds : body.Tree → Bool) (name : body.Tree → Option NameText) {F L : List TokenClass} {b : Bool} {S : List TokenClass} {opens : Bool} →
    KindPart body F L b S opens →
    KindPart (extension body adds name) F (a_keyword (codes "extend") ∷ []) false S false
extension_part body adds name p = under adds (word_then (codes "extend") refl (space_then p))

pub extension_laws : (body : Kind) (adds : body.Tree → Bool) (name : body.Tree → Option NameText) {F L S : List TokenClass} {b opens : Bool} →
    KindPart body F L b S opens → TellsFlaws body.obeys body.flaws → Laws (extension body adds name)
extension_laws body adds name p tells =
    part_laws (extension_part body adds name p) (λ broken front tree. refl)
    (λ tree. both_tell (flaw_unless (adds tree) AddsSomething (name tree)) (body.flaws tree) (unless_tells (adds tree) AddsSomething (name tree)) (tells tree))

pub extension_one_way : (body : Kind) (adds : body.Tree → Bool) (name : body.Tree → Option NameText) {F L S : List TokenClass} {b opens : Bool} →
    KindPart body F L b S opens → IsReadOneWay (extension body adds name).form F
extension_one_way body adds name p = part_one_way (extension_part body adds name p)
