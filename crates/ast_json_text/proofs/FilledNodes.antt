-- What a node is whose members stand one behind the other, some of them perhaps not there.
use Rattle.std.proofs.Common.{◌≡◌, ℕ, Bool, true, false, ◌&&◌, ◌||◌, not, IsTrue, List, [], ◌∷◌, Option, Some, None}
use Rattle.std.proofs.Common.{option_and_then, MatchOption, codes, refl, sym, ap, ◌∙◌, subst, cond}
use Rattle.std.proofs.Common.{nat_eq, true≢false, Ordering, Less, Equal, Greater, is_eq, nat_cmp}
use Rattle.std.proofs.lemmas.Map.Text.{is_eq-slice_cmp}
use Rattle.std.proofs.lemmas.Slice.Eq.{bytes_eq-Decides}
use Rattle.std.specs.Prelude.{⊤, IsSomeAnd}
use Rattle.std.specs.Ordering.{match_ordering}
use Rattle.std.specs.Cmp.Lexicographic.{pointwise, slice_cmp}
use Rattle.graphql_text.specs.grammar.Forms.{is_one_of}
use Rattle.serde_json.specs.Data.{Data, Items, string, object, Members, member}
use Rattle.serde_json.specs.Find.{as_array, get, get_member}
use Rattle.ast_json_nodes.specs.nodes.Nodes.{present, member_of, items_or_none, names_among, HasOnly, IsLocation, IsNode, Member, ListMember}
use Rattle.ast_json_nodes.specs.nodes.Nodes.{OptionalListMember}
use Rattle.ast_json_nodes.specs.declared.read.Unknown.{Unknown}
use Rattle.ast_json_nodes.specs.declared.read.Unknown.TheVariants.{Refuse, PassOver}
use Rattle.graphql_ast_json.proofs.nodes.DraftsAreNodes.{apart_sym, are_among, are_apart, entry_at}
use Rattle.json_text.specs.Texts.{optional_member}
use Rattle.json_text.proofs.Entries.{Entry, entry_names, filled}
use Rattle.ast_json_text.specs.Members.{WritesMember, WritesOptional}

both_true : (a b : Bool) → IsTrue (a && b) → IsTrue a × IsTrue b
both_true true true h = (refl, refl)
both_true true false h = absurd (true≢false (sym h))
both_true false b h = absurd (true≢false (sym h))

true_both : (a b : Bool) → IsTrue a → IsTrue b → IsTrue (a && b)
true_both true true h k = refl
true_both true false h k = absurd (true≢false (sym k))
true_both false b h k = absurd (true≢false (sym h))

both_false : (a b : Bool) → (a || b) ≡ false → (a ≡ false) × (b ≡ false)
both_false true b h = absurd (true≢false h)
both_false false true h = absurd (true≢false h)
both_false false false h = (refl, refl)

not_true : (a : Bool) → IsTrue (not a) → a ≡ false
not_true true h = absurd (true≢false (sym h))
not_true false h = refl

passed : (o : Ordering) (json : Data) (later : Option Data) → is_eq o ≡ false → match_ordering o later (Some json) later ≡ later
passed Less json later other = refl
passed Equal json later other = absurd (true≢false other)
passed Greater json later other = refl

met : (o : Ordering) (json : Data) (later : Option Data) → is_eq o ≡ true → match_ordering o later (Some json) later ≡ Some json
met Less json later same = absurd (true≢false (sym same))
met Equal json later same = refl
met Greater json later same = absurd (true≢false (sym same))

none_at : (name : List ℕ) (entries : List Entry) → is_one_of (entry_names entries) name ≡ false → entry_at name entries ≡ None
none_at name [] none = refl
none_at name (entry ∷ entries) none =
    let parts = both_false (pointwise nat_eq entry.0 name) (is_one_of (entry_names entries) name) none in
    ap (λ same. cond same entry.1 (entry_at name entries)) parts.0 ∙ none_at name entries parts.1

found_at : (same : Bool) (q name : List ℕ) (json : Option Data) (entries : List Entry) → pointwise nat_eq name q ≡ same →
    is_one_of (entry_names entries) name ≡ false → get_member q (filled entries) ≡ entry_at q entries →
    get_member q (optional_member name json (filled entries)) ≡ cond same json (entry_at q entries)
found_at true q name None entries same fresh later =
    later ∙ subst (λ n. entry_at n entries ≡ None) ((bytes_eq-Decides name q).0 same) (none_at name entries fresh)
found_at true q name (Some json) entries same fresh later =
    met (slice_cmp nat_cmp q name) json (get_member q (filled entries))
    (is_eq-slice_cmp q name ∙ (bytes_eq-Decides q name).1 (sym ((bytes_eq-Decides name q).0 same)))
found_at false q name None entries other fresh later = later
found_at false q name (Some json) entries other fresh later =
    passed (slice_cmp nat_cmp q name) json (get_member q (filled entries)) (is_eq-slice_cmp q name ∙ apart_sym name q other) ∙ later

-- each member is found
pub found : (entries : List Entry) → IsTrue (are_apart (entry_names entries)) → (name : List ℕ) → get name (object (filled entries)) ≡ entry_at name entries
found [] apart name = refl
found (entry ∷ entries) apart name =
    let parts = both_true (not (is_one_of (entry_names entries) entry.0)) (are_apart (entry_names entries)) apart in
    found_at (pointwise nat_eq entry.0 name) name entry.0 entry.1 entries refl
    (not_true (is_one_of (entry_names entries) entry.0) parts.0) (found entries parts.1 name)

optional_among : (names : List (List ℕ)) (name : List ℕ) (json : Option Data) (rest : Members) → IsTrue (is_one_of names name) →
    IsTrue (names_among names rest) → IsTrue (names_among names (optional_member name json rest))
optional_among names name None rest one among = among
optional_among names name (Some json) rest one among = true_both _ _ one among

filled_among : (names : List (List ℕ)) (entries : List Entry) → IsTrue (are_among names (entry_names entries)) →
    IsTrue (names_among names (filled entries))
filled_among names [] all = refl
filled_among names (entry ∷ entries) all =
    let parts = both_true (is_one_of names entry.0) (are_among names (entry_names entries)) all in
    optional_among names entry.0 entry.1 (filled entries) parts.0 (filled_among names entries parts.1)

among_only : (unknown : Unknown) (names : List (List ℕ)) (members : Members) → IsTrue (names_among names members) → HasOnly unknown names (object members)
among_only Refuse names all among = among
among_only PassOver names all among = tt

-- what is present is such
present_is : (entries : List Entry) (name : List ℕ) (json : Data) → IsTrue (are_apart (entry_names entries)) → entry_at name entries ≡ Some json →
    present json ≡ Some json → member_of name (object (filled entries)) ≡ Some json
present_is entries name json apart at there = ap (option_and_then present) (found entries apart name ∙ at) ∙ there

module _ {O : Type 0} {wrote : O → List ℕ → O → Type 0} where
  -- What a member was written as is what it is.
  pub member_is : {a b : O} {key : List ℕ} {Is : Unknown → Data → Type 0} (entries : List Entry) (name : List ℕ)
      (m : WritesMember wrote a key b (λ json. (unknown : Unknown) → Is unknown json)) → IsTrue (are_apart (entry_names entries)) →
      entry_at name entries ≡ Some m.json → (unknown : Unknown) → Member name (object (filled entries)) (Is unknown)
  member_is {Is = Is} entries name m apart at unknown =
      subst (λ o. IsSomeAnd o (Is unknown)) (sym (present_is entries name m.json apart at m.there)) (m.is unknown)

  -- The same of a text or a boolean.
  pub leaf_is : {a b : O} {key : List ℕ} {leaf : Data} (entries : List Entry) (name : List ℕ) (m : WritesMember wrote a key b (λ json. json ≡ leaf)) →
      IsTrue (are_apart (entry_names entries)) → entry_at name entries ≡ Some m.json → member_of name (object (filled entries)) ≡ Some leaf
  leaf_is entries name m apart at = present_is entries name m.json apart at m.there ∙ ap Some m.is

  -- The same of a list.
  pub list_is : {a b : O} {key : List ℕ} {Are : Unknown → Items → Type 0} (entries : List Entry) (name : List ℕ)
      (m : WritesMember wrote a key b (λ json. (unknown : Unknown) → IsSomeAnd (as_array json) (Are unknown))) →
      IsTrue (are_apart (entry_names entries)) → entry_at name entries ≡ Some m.json → (unknown : Unknown) →
      ListMember name (object (filled entries)) (Are unknown)
  list_is {Are = Are} entries name m apart at unknown =
      subst (λ o. IsSomeAnd (option_and_then as_array o) (Are unknown)) (sym (present_is entries name m.json apart at m.there)) (m.is unknown)

  -- The same of a list that may be left out.
  pub optional_list_is : {a b : O} {key : List ℕ} {Are : Unknown → Items → Type 0} (entries : List Entry) (name : List ℕ)
      (m : WritesMember wrote a key b (λ json. (unknown : Unknown) → IsSomeAnd (as_array json) (Are unknown))) →
      IsTrue (are_apart (entry_names entries)) → entry_at name entries ≡ Some m.json → (unknown : Unknown) →
      OptionalListMember name (object (filled entries)) (Are unknown)
  optional_list_is {Are = Are} entries name m apart at unknown =
      subst (λ o. IsSomeAnd (items_or_none o) (Are unknown)) (sym (present_is entries name m.json apart at m.there)) (m.is unknown)

  -- The same of what may not be there.
  pub optional_is : {a b : O} {key after : List ℕ} {Is : Unknown → Option Data → Type 0} (entries : List Entry) (name : List ℕ)
      (m : WritesOptional wrote a key after b (λ json. (unknown : Unknown) → Is unknown json)) → IsTrue (are_apart (entry_names entries)) →
      entry_at name entries ≡ m.json → (unknown : Unknown) → Is unknown (member_of name (object (filled entries)))
  optional_is {Is = Is} entries name m apart at unknown =
      subst (Is unknown) (sym (ap (option_and_then present) (found entries apart name ∙ at) ∙ m.there)) (m.is unknown)

  -- The same of what is this, or not there.
  pub exactly_is : {a b : O} {key after : List ℕ} {told : Option Data} (entries : List Entry) (name : List ℕ)
      (m : WritesOptional wrote a key after b (λ json. json ≡ told)) → IsTrue (are_apart (entry_names entries)) →
      entry_at name entries ≡ m.json → member_of name (object (filled entries)) ≡ told
  exactly_is entries name m apart at = ap (option_and_then present) (found entries apart name ∙ at) ∙ m.there ∙ m.is

-- It is a node: its members have names of their own, each one that such a node has, and tell its kind and where it stands.
pub is_node : (unknown : Unknown) (kind : List ℕ) (names : List (List ℕ)) (entries : List Entry) (location : Option Data) →
    IsTrue (are_apart (entry_names entries)) → IsTrue (are_among (codes "kind" ∷ codes "loc" ∷ names) (entry_names entries)) →
    entry_at (codes "kind") entries ≡ Some (string kind) → entry_at (codes "loc") entries ≡ location →
    MatchOption (option_and_then present location) ⊤ (IsLocation unknown) → IsNode unknown kind names (object (filled entries))
is_node unknown kind names entries location apart among at_kind at_loc located = (
  ap (option_and_then present) (found entries apart (codes "kind") ∙ at_kind),
  among_only unknown (codes "kind" ∷ codes "loc" ∷ names) (filled entries)
      (filled_among (codes "kind" ∷ codes "loc" ∷ names) entries among),
  subst (λ o. MatchOption (option_and_then present o) ⊤ (IsLocation unknown)) (sym (found entries apart (codes "loc") ∙ at_loc)) located,
)
