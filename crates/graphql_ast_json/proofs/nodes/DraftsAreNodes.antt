-- What a node is that was begun and given members.
use Rattle.std.proofs.Common.{◌≡◌, ℕ, ◌<◌, ◌≤◌, ◌^◌, Bool, true, false, ◌&&◌, ◌||◌, not, IsTrue, List, [], ◌∷◌, Option, Some, None}
use Rattle.std.proofs.Common.{option_map, option_and_then, IfSome, MatchOption, codes, refl, sym, ap, ◌∙◌, subst, cond, arith}
use Rattle.std.proofs.Common.{nat_eq, lt-ltb, le-leb, true≢false, Ordering, Less, Equal, Greater}
use Rattle.std.proofs.lemmas.Slice.Eq.{bytes_eq-Decides}
use Rattle.std.specs.Prelude.{⊤, IsSome}
use Rattle.std.specs.Ordering.{match_ordering}
use Rattle.std.specs.Cmp.Lexicographic.{slice_cmp}
use Rattle.std.specs.Ordering.{nat_cmp}
use Rattle.std.specs.Cmp.Lexicographic.{pointwise}
use Rattle.graphql_base.specs.Span.{span_start, span_end}
use Rattle.graphql_base.specs.declared.span.SourceSpan.{SourceSpan}
use Rattle.graphql_text.specs.grammar.Forms.{is_one_of}
use Rattle.serde_json.proofs.Views.{get_member-put, get_member-put_other}
use Rattle.serde_json.specs.Data.{Data, number, string, object, unsigned, Members, no_members, member, put}
use Rattle.serde_json.specs.Find.{get, get_member}
use Rattle.graphql_ast_json.specs.code.Drafts.{location_json, IsBegun, IsGiven, put_optional, beginning}
use Rattle.ast_json_nodes.specs.code.NodeReading.{StandsAt, stretch_of}
use Rattle.ast_json_nodes.specs.declared.read.Unknown.{Unknown}
use Rattle.ast_json_nodes.specs.declared.read.Unknown.TheVariants.{Refuse, PassOver}
use Rattle.ast_json_nodes.specs.nodes.Nodes.{present, member_of, names_among, HasOnly, IsLocation, IsNode, stretch_in}

abbrev pub Entry : Type 0
Entry = List ℕ × Option Data

-- the members with these, of which the first is put last
abbrev pub given : List Entry → Members → Members
given [] members = members
given (entry ∷ entries) members = put_optional entry.0 entry.1 (given entries members)

abbrev pub entry_names : List Entry → List (List ℕ)
entry_names [] = []
entry_names (entry ∷ entries) = entry.0 ∷ entry_names entries

abbrev pub are_apart : List (List ℕ) → Bool
are_apart [] = true
are_apart (name ∷ names) = not (is_one_of names name) && are_apart names

abbrev pub entry_at : List ℕ → List Entry → Option Data
entry_at name [] = None
entry_at name (entry ∷ entries) = cond (pointwise nat_eq entry.0 name) entry.1 (entry_at name entries)

abbrev pub are_among : List (List ℕ) → List (List ℕ) → Bool
are_among names [] = true
are_among names (name ∷ more) = is_one_of names name && are_among names more

-- kind and location are entries too
abbrev pub all_entries : List ℕ → Option SourceSpan → List Entry → List Entry
all_entries kind location [] = (codes "loc", option_map location_json location) ∷ (codes "kind", Some (string kind)) ∷ []
all_entries kind location (entry ∷ entries) = entry ∷ all_entries kind location entries

both_true : (a b : Bool) → IsTrue (a && b) → IsTrue a × IsTrue b
both_true true true h = (refl, refl)
both_true true false h = absurd (true≢false (sym h))
both_true false b h = absurd (true≢false (sym h))

true_both : (a b : Bool) → IsTrue a → IsTrue b → IsTrue (a && b)
true_both true true h k = refl
true_both true false h k = absurd (true≢false (sym k))
true_both false b h k = absurd (true≢false (sym h))

both_false : (a b : Bool) → (a || b) ≡ false → (a ≡ false) × (b ≡ false)
both_false true b h = absurd (true≢false h)
both_false false true h = absurd (true≢false h)
both_false false false h = (refl, refl)

not_true : (a : Bool) → IsTrue (not a) → a ≡ false
not_true true h = absurd (true≢false (sym h))
not_true false h = refl

apart_at : (name q : List ℕ) → pointwise nat_eq name q ≡ false → q ≡ name → ⊥
apart_at name q apart same = true≢false (sym ((bytes_eq-Decides name q).1 (sym same)) ∙ apart)

optional_other : (name q : List ℕ) (json : Option Data) (before : Members) → pointwise nat_eq name q ≡ false →
    get_member q (put_optional name json before) ≡ get_member q before
optional_other name q None before apart = refl
optional_other name q (Some json) before apart = get_member-put_other q name json before (apart_at name q apart)

optional_here : (name : List ℕ) (json : Option Data) (before : Members) → get_member name before ≡ None → get_member name (put_optional name json before) ≡ json
optional_here name None before none = none
optional_here name (Some json) before none = get_member-put name json before

put_among_at : (o : Ordering) (names : List (List ℕ)) (name other : List ℕ) (json with : Data) (before : Members) →
    IsTrue (is_one_of names name) → IsTrue (is_one_of names other) → IsTrue (names_among names before) → IsTrue (names_among names (put name json before)) →
    IsTrue (names_among names (match_ordering o (member name json (member other with before)) (member other json before)
    (member other with (put name json before))))
put_among_at Less names name other json with before one here among later = true_both _ _ one (true_both _ _ here among)
put_among_at Equal names name other json with before one here among later = true_both _ _ here among
put_among_at Greater names name other json with before one here among later = true_both _ _ here later

put_among : (names : List (List ℕ)) (name : List ℕ) (json : Data) (before : Members) → IsTrue (is_one_of names name) →
    IsTrue (names_among names before) → IsTrue (names_among names (put name json before))
put_among names name json no_members one among = true_both _ _ one refl
put_among names name json (member other with before) one among =
    let parts = both_true (is_one_of names other) (names_among names before) among in
    put_among_at (slice_cmp nat_cmp name other) names name other json with before one parts.0 parts.1 (put_among names name json before one parts.1)

optional_among : (names : List (List ℕ)) (name : List ℕ) (json : Option Data) (before : Members) → IsTrue (is_one_of names name) →
    IsTrue (names_among names before) → IsTrue (names_among names (put_optional name json before))
optional_among names name None before one among = among
optional_among names name (Some json) before one among = put_among names name json before one among

given_among : (names : List (List ℕ)) (entries : List Entry) → IsTrue (are_among names (entry_names entries)) →
    IsTrue (names_among names (given entries no_members))
given_among names [] all = refl
given_among names (entry ∷ entries) all =
    let parts = both_true (is_one_of names entry.0) (are_among names (entry_names entries)) all in
    optional_among names entry.0 entry.1 (given entries no_members) parts.0 (given_among names entries parts.1)

none_at : (name : List ℕ) (entries : List Entry) → is_one_of (entry_names entries) name ≡ false → entry_at name entries ≡ None
none_at name [] none = refl
none_at name (entry ∷ entries) none =
    let parts = both_false (pointwise nat_eq entry.0 name) (is_one_of (entry_names entries) name) none in
    ap (λ same. cond same entry.1 (entry_at name entries)) parts.0 ∙ none_at name entries parts.1

find_at : (same : Bool) (name : List ℕ) (entry : Entry) (entries : List Entry) → pointwise nat_eq entry.0 name ≡ same →
    is_one_of (entry_names entries) entry.0 ≡ false →
    ((q : List ℕ) → get_member q (given entries no_members) ≡ entry_at q entries) →
    get_member name (put_optional entry.0 entry.1 (given entries no_members)) ≡ cond same entry.1 (entry_at name entries)
find_at true name entry entries same fresh later =
    subst (λ q. get_member q (put_optional entry.0 entry.1 (given entries no_members)) ≡ entry.1) ((bytes_eq-Decides entry.0 name).0 same)
    (optional_here entry.0 entry.1 (given entries no_members) (later entry.0 ∙ none_at entry.0 entries fresh))
find_at false name entry entries other fresh later = optional_other entry.0 name entry.1 (given entries no_members) other ∙ later name

-- each member is found
pub find : (entries : List Entry) → IsTrue (are_apart (entry_names entries)) → (name : List ℕ) →
    get_member name (given entries no_members) ≡ entry_at name entries
find [] apart name = refl
find (entry ∷ entries) apart name =
    let parts = both_true (not (is_one_of (entry_names entries) entry.0)) (are_apart (entry_names entries)) apart in
    find_at (pointwise nat_eq entry.0 name) name entry entries refl (not_true (is_one_of (entry_names entries) entry.0) parts.0) (find entries parts.1)

given_all : (kind : List ℕ) (location : Option SourceSpan) (entries : List Entry) →
    given (all_entries kind location entries) no_members ≡ given entries (beginning kind location)
unfolding beginning
given_all kind location [] = refl
given_all kind location (entry ∷ entries) = ap (put_optional entry.0 entry.1) (given_all kind location entries)

stretch_there : (start end : ℕ) → start < 2 ^ 32 → end < 2 ^ 32 → start ≤ end →
    stretch_in (object (member (codes "end") (number (unsigned end)) (member (codes "start") (number (unsigned start)) no_members)))
    ≡ Some (record { start = start; end = end })
stretch_there start end start_fits end_fits in_order = rw (lt-ltb start (2 ^ 32) start_fits, lt-ltb end (2 ^ 32) end_fits, le-leb start end in_order) refl

span_there : (span : SourceSpan) → span_end span < 2 ^ 32 → stretch_in (location_json span) ≡ Some (stretch_of span)
span_there span reach = stretch_there (span_start span) (span_end span) (omega (arith, span.ordered)) reach span.ordered

only_offsets : (unknown : Unknown) (span : SourceSpan) → HasOnly unknown (codes "start" ∷ codes "end" ∷ []) (location_json span)
only_offsets Refuse span = refl
only_offsets PassOver span = tt

located : (unknown : Unknown) (location : Option SourceSpan) → IfSome location (λ span. span_end span < 2 ^ 32) →
    MatchOption (option_and_then present (option_map location_json location)) ⊤ (IsLocation unknown)
located unknown None reach = tt
located unknown (Some span) reach = (only_offsets unknown span, subst IsSome (sym (span_there span reach)) refl)

stretch_told : (location : Option SourceSpan) → IfSome location (λ span. span_end span < 2 ^ 32) →
    option_map stretch_of location ≡ option_and_then stretch_in (option_and_then present (option_map location_json location))
stretch_told None reach = refl
stretch_told (Some span) reach = sym (span_there span reach)

among_only : (unknown : Unknown) (names : List (List ℕ)) (members : Members) → IsTrue (names_among names members) → HasOnly unknown names (object members)
among_only Refuse names members among = among
among_only PassOver names members among = tt

-- a node was begun and given these members, the first of them last
pub record IsWritten (kind : List ℕ) (location : Option SourceSpan) (entries : List Entry) (json : Data) : Type 0 where
  pub are : json ≡ object (given entries (beginning kind location))
  pub reach : IfSome location (λ span. span_end span < 2 ^ 32)

pub found : (kind : List ℕ) (location : Option SourceSpan) (entries : List Entry) (json : Data) → IsWritten kind location entries json →
    IsTrue (are_apart (entry_names (all_entries kind location entries))) → (name : List ℕ) → get name json ≡ entry_at name (all_entries kind location entries)
found kind location entries json w apart name =
    ap (get name) w.are ∙ ap (get_member name) (sym (given_all kind location entries)) ∙ find (all_entries kind location entries) apart name

-- It is a node: its members have names of their own, each one that such a node has.
pub is_node : {kind : List ℕ} {location : Option SourceSpan} {entries : List Entry} {json : Data} (unknown : Unknown) (names : List (List ℕ)) →
    IsWritten kind location entries json →
    IsTrue (are_apart (entry_names (all_entries kind location entries))) →
    IsTrue (are_among (codes "kind" ∷ codes "loc" ∷ names) (entry_names (all_entries kind location entries))) →
    entry_at (codes "kind") (all_entries kind location entries) ≡ Some (string kind) →
    entry_at (codes "loc") (all_entries kind location entries) ≡ option_map location_json location →
    IsNode unknown kind names json
is_node {kind = kind} {location = location} {entries = entries} {json = json} unknown names w apart among at_kind at_loc = (
  ap (option_and_then present) (found kind location entries json w apart (codes "kind") ∙ at_kind),
  subst (HasOnly unknown (codes "kind" ∷ codes "loc" ∷ names)) (sym w.are)
      (among_only unknown (codes "kind" ∷ codes "loc" ∷ names) (given entries (beginning kind location))
      (subst (λ ms. IsTrue (names_among (codes "kind" ∷ codes "loc" ∷ names) ms)) (given_all kind location entries)
      (given_among (codes "kind" ∷ codes "loc" ∷ names) (all_entries kind location entries) among))),
  subst (λ o. MatchOption (option_and_then present o) ⊤ (IsLocation unknown))
      (sym (found kind location entries json w apart (codes "loc") ∙ at_loc)) (located unknown location w.reach),
)

-- It stands where it was begun.
pub stands : {kind : List ℕ} {location : Option SourceSpan} {entries : List Entry} {json : Data} → IsWritten kind location entries json →
    IsTrue (are_apart (entry_names (all_entries kind location entries))) →
    entry_at (codes "loc") (all_entries kind location entries) ≡ option_map location_json location → StandsAt location json
stands {kind = kind} {location = location} {entries = entries} {json = json} w apart at_loc =
    stretch_told location w.reach
    ∙ ap (λ o. option_and_then stretch_in (option_and_then present o)) (sym (found kind location entries json w apart (codes "loc") ∙ at_loc))

pub same_name : (name : List ℕ) → pointwise nat_eq name name ≡ true
same_name name = (bytes_eq-Decides name name).1 refl

apart_by : (b : Bool) (name other : List ℕ) → pointwise nat_eq other name ≡ b → pointwise nat_eq name other ≡ false → b ≡ false
apart_by true name other same apart = absurd (apart_at name other apart ((bytes_eq-Decides other name).0 same))
apart_by false name other same apart = refl

pub apart_sym : (name other : List ℕ) → pointwise nat_eq name other ≡ false → pointwise nat_eq other name ≡ false
apart_sym name other apart = apart_by (pointwise nat_eq other name) name other refl apart

-- one member besides
pub record IsWith (kind : List ℕ) (location : Option SourceSpan) (name : List ℕ) (inner json : Data) : Type 0 where
  pub node : (unknown : Unknown) → IsNode unknown kind (name ∷ []) json
  pub stands : StandsAt location json
  pub at : get name json ≡ Some inner

pub one_written : (kind : List ℕ) (location : Option SourceSpan) (name : List ℕ) (inner json : Data) →
    is_one_of (codes "loc" ∷ codes "kind" ∷ []) name ≡ false →
    IsWritten kind location ((name, Some inner) ∷ []) json → IsWith kind location name inner json
one_written kind location name inner json other w =
    let loc_apart = (both_false (pointwise nat_eq (codes "loc") name) (is_one_of (codes "kind" ∷ []) name) other).0 in
    let kind_apart =
    (both_false (pointwise nat_eq (codes "kind") name) false
    (both_false (pointwise nat_eq (codes "loc") name) (is_one_of (codes "kind" ∷ []) name) other).1).0 in
    let apart : IsTrue (are_apart (name ∷ codes "loc" ∷ codes "kind" ∷ [])) = ap (λ one. not one && true) other in
    let among : IsTrue (are_among (codes "kind" ∷ codes "loc" ∷ name ∷ []) (name ∷ codes "loc" ∷ codes "kind" ∷ [])) =
    rw (kind_apart, loc_apart, same_name name) refl in
    let at_kind : entry_at (codes "kind") (all_entries kind location ((name, Some inner) ∷ [])) ≡ Some (string kind) =
    ap (λ same. cond same (Some inner) (Some (string kind))) (apart_sym (codes "kind") name kind_apart) in
    let at_loc : entry_at (codes "loc") (all_entries kind location ((name, Some inner) ∷ [])) ≡ option_map location_json location =
    ap (λ same. cond same (Some inner) (option_map location_json location)) (apart_sym (codes "loc") name loc_apart) in
    let here : entry_at name (all_entries kind location ((name, Some inner) ∷ [])) ≡ Some inner =
    ap (λ same. cond same (Some inner) (entry_at name (all_entries kind location []))) (same_name name) in record {
      node = λ unknown. is_node unknown (name ∷ []) w apart among at_kind at_loc;
      stands = stands w apart at_loc;
      at = found kind location ((name, Some inner) ∷ []) json w apart name ∙ here;
    }

-- A NODE, MEMBER AFTER MEMBER

-- members so far of a node that was begun and given these
pub record IsDraft (kind : List ℕ) (location : Option SourceSpan) (entries : List Entry) (members : Members) : Type 0 where
  pub are : members ≡ given entries (beginning kind location)
  pub reach : IfSome location (λ span. span_end span < 2 ^ 32)

pub begun : {kind : List ℕ} {location : Option SourceSpan} {members : Members} → IsBegun kind location members → IsDraft kind location [] members
begun is = record { are = is.are; reach = is.reach }

pub gained : {kind : List ℕ} {location : Option SourceSpan} {entries : List Entry} {name : List ℕ} {Is : Option Data → Type 0} {before after : Members} →
    IsDraft kind location entries before → (one : IsGiven name Is before after) → IsDraft kind location ((name, one.json) ∷ entries) after
gained {name = name} draft one = record { are = one.made ∙ ap (put_optional name one.json) draft.are; reach = draft.reach }

pub gained_json : {kind : List ℕ} {location : Option SourceSpan} {entries : List Entry} {name : List ℕ} {given_json : Data} {before after : Members} →
    IsDraft kind location entries before → after ≡ put name given_json before → IsDraft kind location ((name, Some given_json) ∷ entries) after
gained_json {name = name} {given_json = json} draft one = record { are = one ∙ ap (put name json) draft.are; reach = draft.reach }

pub ended : {kind : List ℕ} {location : Option SourceSpan} {entries : List Entry} {members : Members} {json : Data} →
    json ≡ object members → IsDraft kind location entries members → IsWritten kind location entries json
ended is draft = record { are = is ∙ ap object draft.are; reach = draft.reach }

-- What a member was given as is what it is.
pub given_member : {kind : List ℕ} {location : Option SourceSpan} {entries : List Entry} {json : Data} {name : List ℕ}
    {Is : Option Data → Type 0} {before after : Members} →
    IsWritten kind location entries json →
    (one : IsGiven name Is before after) → IsTrue (are_apart (entry_names (all_entries kind location entries))) →
    entry_at name (all_entries kind location entries) ≡ one.json → Is (member_of name json)
given_member {kind = kind} {location = location} {entries = entries} {json = json} {name = name} {Is = Is} w one apart at =
    subst Is (sym (ap (option_and_then present) (found kind location entries json w apart name ∙ at) ∙ one.there)) one.is
