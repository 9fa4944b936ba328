use Rattle.std.proofs.Common.{◌≡◌, ◌++◌, true, List, arith, ap, ◌∙◌, sym, subst}
use Rattle.serde_json.specs.Read.{max_depth}
use Rattle.parsed_json.specs.OpenJson.{AreWithin, innermost_takes_value, open_tokens, read_tokens}
use Rattle.parsed_json.specs.declared.parse.Open.{Open}
use Rattle.parsed_json.proofs.OpenJson.{begun, no_open_place, too_deep}
use Rattle.parsed_json.proofs.parse.begin.Goals as goal

pub returns-then-not-innermost_takes_value : goal.returns-then-not-innermost_takes_value
returns-then-not-innermost_takes_value c =
    no_open_place c.args.opened.now.items c.args.empty c.requires.open_within
    (ap innermost_takes_value (sym c.deref.ensures.value) ∙ sym c.innermost_takes_value.ensures ∙ c.if-not-innermost_takes_value.true)

pub returns-then-len-eq-MAX_DEPTH : goal.returns-then-len-eq-MAX_DEPTH
returns-then-len-eq-MAX_DEPTH c =
    let os = c.args.opened.now in
    let takes : innermost_takes_value os.items ≡ true =
    ap innermost_takes_value (sym c.deref.ensures.value) ∙ sym c.innermost_takes_value.ensures ∙ c.if-not-innermost_takes_value.false in
    too_deep os.items c.args.empty c.requires.open_within takes c.requires.empty (omega (arith, os.ok.0, c.len.ensures, c.if-len-eq-MAX_DEPTH.true))

pub returns : goal.returns
returns c =
    let os = c.args.opened.now in
    let takes : innermost_takes_value os.items ≡ true =
    ap innermost_takes_value (sym c.deref.ensures.value) ∙ sym c.innermost_takes_value.ensures ∙ c.if-not-innermost_takes_value.false in
    subst (λ (ps : List Open). (read_tokens os.items ++ open_tokens c.args.empty ≡ read_tokens ps) × AreWithin max_depth ps) (sym c.in_ok-push.ensures.items)
    (begun os.items c.args.empty c.requires.open_within takes (omega (arith, os.ok.0)) c.requires.empty)
