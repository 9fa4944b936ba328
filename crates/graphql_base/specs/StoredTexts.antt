-- A text that is static, shared or in place, and where it stands.
use Rattle.std.specs.Prelude.{ℕ, ◌+◌, ◌<◌, ◌^◌, Bool, true, false, List, length, Option, None, ⊤}
use Rattle.std.specs.Rc.{rc_str_bytes}
use Rattle.graphql_base.specs.ShortTexts.{short_bytes}
use Rattle.graphql_base.specs.Stretches.{text_stretch}
use Rattle.graphql_base.specs.declared.located_text.Form.{Form}
use Rattle.graphql_base.specs.declared.located_text.Form.TheVariants.{Static, StaticAt, Shared, SharedAt, InPlace, InPlaceAt}
use Rattle.graphql_base.specs.declared.span.SourceSpan.{SourceSpan}

-- how a text is kept: it lives for the whole program, it has owners that share it, or it stands in its one owner
pub data TextForm : Type 0 where
  StaticForm SharedForm InPlaceForm : TextForm

abbrev pub is_static_form : TextForm → Bool
is_static_form StaticForm = true
is_static_form SharedForm = false
is_static_form InPlaceForm = false

abbrev pub is_shared_form : TextForm → Bool
is_shared_form StaticForm = false
is_shared_form SharedForm = true
is_shared_form InPlaceForm = false

abbrev pub is_in_place_form : TextForm → Bool
is_in_place_form StaticForm = false
is_in_place_form SharedForm = false
is_in_place_form InPlaceForm = true

-- the bytes, how they are kept, and where they stand in a source text
pub record StoredText : Type 0 where
  pub bytes : List ℕ
  pub form : TextForm
  pub location : Option SourceSpan

abbrev pub stored : Form → StoredText
stored (Static text) = record { bytes = text; form = StaticForm; location = None }
stored (StaticAt start text file) = record { bytes = text; form = StaticForm; location = text_stretch file start text }
stored (Shared text) = record { bytes = rc_str_bytes text; form = SharedForm; location = None }
stored (SharedAt start text file) = record { bytes = rc_str_bytes text; form = SharedForm; location = text_stretch file start (rc_str_bytes text) }
stored (InPlace text _) = record { bytes = short_bytes text; form = InPlaceForm; location = None }
stored (InPlaceAt text start file _) = record { bytes = short_bytes text; form = InPlaceForm; location = text_stretch file start (short_bytes text) }

-- a text that stands somewhere ends at an offset below 2 ^ 32, as each span does
abbrev pub EndsInReach : Form → Type 0
EndsInReach (StaticAt start text _) = start + length text < 2 ^ 32
EndsInReach (SharedAt start text _) = start + length (rc_str_bytes text) < 2 ^ 32
EndsInReach (InPlaceAt text start _ _) = start + length (short_bytes text) < 2 ^ 32
EndsInReach (Static _) = ⊤
EndsInReach (Shared _) = ⊤
EndsInReach (InPlace _ _) = ⊤
