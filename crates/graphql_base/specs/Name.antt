-- What contracts see of a name: its text, how that is kept, and its location.
use Rattle.std.specs.Prelude.{◌≡◌, ℕ, Bool, List, length, Option, None, if◌then◌else◌, nat_le}
use Rattle.graphql_base.specs.StoredTexts.{TextForm, SharedForm, InPlaceForm, is_static_form, is_shared_form, is_in_place_form}
use Rattle.graphql_base.specs.declared.span.SourceSpan.{SourceSpan}
use Rattle.graphql_base.specs.declared.name.Name.{Name}
use Rattle.graphql_base.specs.declared.name.TheConstants.Name.{IN_PLACE}

abbrev pub name_text : Name → List ℕ
name_text name = name.text.bytes

abbrev pub name_form : Name → TextForm
name_form name = name.text.form

abbrev pub is_static_name : Name → Bool
is_static_name name = is_static_form (name_form name)

abbrev pub is_shared_name : Name → Bool
is_shared_name name = is_shared_form (name_form name)

abbrev pub is_name_in_place : Name → Bool
is_name_in_place name = is_in_place_form (name_form name)

abbrev pub name_location : Name → Option SourceSpan
name_location name = name.text.location

-- a name just made of this text, which is kept in this form: it has no location
abbrev pub IsNewName : List ℕ → TextForm → Name → Type 0
IsNewName text form name = (name_text name ≡ text) × (name_form name ≡ form) × (name_location name ≡ None)

-- a text that fits stands in place, and any other is shared
abbrev pub compact_form : List ℕ → TextForm
compact_form text = if nat_le (length text) IN_PLACE then InPlaceForm else SharedForm
