-- The texts of breaks at hand, under a prefix of two spaces.
use Rattle.std.specs.Prelude.{ℕ, List, ◌++◌, codes}
use Rattle.graphql_text.specs.layout.Layout.{break_text}
use Rattle.graphql_text.specs.declared.ready_breaks.ReadyBreak.{ReadyBreak}
use Rattle.graphql_text.specs.declared.ready_breaks.ReadyCommaBreak.{ReadyCommaBreak}

abbrev pub ready_text : ReadyBreak → List ℕ
ready_text ready = break_text (codes "  ") ready.level

abbrev pub ready_comma_text : ReadyCommaBreak → List ℕ
ready_comma_text ready = codes "," ++ break_text (codes "  ") ready.level
