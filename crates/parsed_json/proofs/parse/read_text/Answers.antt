use Rattle.std.proofs.Common.{◌++◌, ◌∷◌, [], subst}
use Rattle.json.specs.Reads.{token_of}
use Rattle.parsed_json.specs.OpenJson.{IsProgress, read_tokens}
use Rattle.parsed_json.proofs.OpenJson.{deep, more, refused, unfinished, whole}
use Rattle.parsed_json.proofs.parse.read_text.Goals as goal

pub returns-in-Refused : goal.returns-in-Refused
returns-in-Refused c =
    let before = c.loop-token in
    let t = token_of c.in-Some.token in
    let ps = c.read_token.new.opened.items in
    refused c.args.text.now before.opened.items ps t c.in_ok-reader.reader c.next.new.self before.reader c.in_ok-reader.ensures.ok
    before.invariant.0 c.in-Some.ensures.value before.invariant.1
    (subst (λ progress. IsProgress (read_tokens before.opened.items ++ t ∷ []) progress ps) c.in-Refused.is c.in_ok-read_token.ensures)

pub returns-in-TooDeep : goal.returns-in-TooDeep
returns-in-TooDeep c =
    let before = c.loop-token in
    let t = token_of c.in-Some.token in
    let ps = c.read_token.new.opened.items in
    deep c.args.text.now before.opened.items ps t c.in_ok-reader.reader c.next.new.self before.reader c.in_ok-reader.ensures.ok
    before.invariant.0 c.in-Some.ensures.value
    (subst (λ progress. IsProgress (read_tokens before.opened.items ++ t ∷ []) progress ps) c.in-TooDeep.is c.in_ok-read_token.ensures)

pub returns : goal.returns
returns c =
    unfinished c.args.text.now c.loop-token.opened.items c.in_ok-reader.reader c.loop-token.reader c.in_ok-reader.ensures.ok
    c.loop-token.invariant.0 c.loop-token.invariant.1 c.in_default.ensures.value.0

pub returns-in-None : goal.returns-in-None
returns-in-None c =
    let before = c.loop-token in
    let t = token_of c.in-Some.token in
    let ps = c.read_token.new.opened.items in
    whole c.args.text.now c.in-Whole.value before.opened.items ps t c.in_ok-reader.reader c.next.new.self before.reader c.in_ok-reader.ensures.ok
    before.invariant.0 c.in-Some.ensures.value
    (subst (λ progress. IsProgress (read_tokens before.opened.items ++ t ∷ []) progress ps) c.in-Whole.is c.in_ok-read_token.ensures)
    c.in-None.ensures.value.0

pub returns-in-Some-next : goal.returns-in-Some-next
returns-in-Some-next c =
    let before = c.loop-token in
    let t = token_of c.in-Some.token in
    let ps = c.read_token.new.opened.items in
    more c.args.text.now c.in-Whole.value before.opened.items ps t (token_of c.in-Some-next.field-0) c.in_ok-reader.reader c.next.new.self
    c.next-in-Whole.new.self before.reader c.in_ok-reader.ensures.ok before.invariant.0 c.in-Some.ensures.value
    (subst (λ progress. IsProgress (read_tokens before.opened.items ++ t ∷ []) progress ps) c.in-Whole.is c.in_ok-read_token.ensures)
    c.in-Some-next.ensures.value
