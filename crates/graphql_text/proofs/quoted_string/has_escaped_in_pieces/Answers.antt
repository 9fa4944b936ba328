use Rattle.std.proofs.Common.{ℕ, ◌-◌, Bool, nat_lt, ◌∙◌, ap, sym, length}
use Rattle.std.specs.List.{list_any}
use Rattle.std.proofs.lemmas.List.{take_rest}
use Rattle.graphql_text.specs.strings.QuotedForm.{quoted_character}
use Rattle.graphql_text.proofs.general.PiecewiseTests.{last_decides, none_passed, one_found}
use Rattle.graphql_text.proofs.quoted_string.has_escaped_in_pieces.Goals as goal

abbrev test : ℕ → Bool
test byte = nat_lt 1 (length (quoted_character byte))

pub loop-i-preserved : goal.loop-i-preserved
loop-i-preserved c =
    none_passed test c.args.bytes.now c.loop-i.i c.args.size c.loop-i.invariant (sym c.has_escaped_byte.ensures ∙ c.if-has_escaped_byte.false)

pub returns-then-has_escaped_byte : goal.returns-then-has_escaped_byte
returns-then-has_escaped_byte c =
    sym (one_found test c.args.bytes.now c.loop-i.i c.args.size (sym c.has_escaped_byte.ensures ∙ c.if-has_escaped_byte.true))

pub returns : goal.returns
returns c =
    let bytes = c.args.bytes.now in
    let last : ℕ = length bytes - c.args.size in
    c.has_escaped_byte-2.ensures ∙ ap (list_any test) (take_rest bytes last) ∙ last_decides test bytes last c.loop-i.i c.loop-i-test.false c.loop-i.invariant
