use Rattle.std.proofs.Common.{◌≡◌, ◌+◌, ◌-◌, ◌*◌, ◌<◌, ◌^◌, ◌∷◌, ◌++◌, [], get_or, length, take, Some, rules, arith, sym, ap, ◌∙◌, subst}
use Rattle.std.proofs.lemmas.Int.Digits.{digits_push, digits_value_push}
use Rattle.std.proofs.lemmas.List.{take_all, take_more}
use Rattle.std.specs.Str.Parse.{AllDigits, digits_value}
use Rattle.serde_json.specs.Data.{unsigned}
use Rattle.parsed_json.proofs.Digits.{digit_is, digits_number, few, ten_times}
use Rattle.parsed_json.proofs.numbers.few_digits.Goals as goal

pub overflow_mul-number : goal.overflow_mul-number
overflow_mul-number c =
    let most = few c.loop-byte.byte-index (omega (arith, c.loop-byte-test.true, c.if-text-gt-DIGITS.false)) in
    omega (arith, most, c.loop-byte.invariant.2)

pub overflow_add-number : goal.overflow_add-number
overflow_add-number c =
    let most = few c.loop-byte.byte-index (omega (arith, c.loop-byte-test.true, c.if-text-gt-DIGITS.false)) in
    omega (arith, most, c.loop-byte.invariant.2, c.if-not-is_ascii_digit.ensures.cases)

pub loop-byte-preserved : goal.loop-byte-preserved
loop-byte-preserved c =
    let i = c.loop-byte.byte-index in
    let digits = take i c.args.text.now in
    let d = get_or c.args.text.now i 0 in
    let range = c.if-not-is_ascii_digit.ensures.cases in
    let is = digit_is d range.0 range.1 in
    let before = c.loop-byte.invariant in
    let more : take (i + 1) c.args.text.now ≡ digits ++ d ∷ [] = take_more c.args.text.now i 0 c.loop-byte-test.true in
    let value : digits_value 10 (take (i + 1) c.args.text.now) ≡ digits_value 10 digits * 10 + (d - 48) =
    ap (digits_value 10) more ∙ digits_value_push 10 digits d ∙ ap (λ n. digits_value 10 digits * 10 + n) is.0 in (
      subst (AllDigits 10) (sym more) (digits_push 10 digits d before.0 is.1),
      omega (arith, value, before.1),
      omega (arith, before.2, ten_times i, range),
    )

pub returns : goal.returns
returns c =
    let text = c.args.text.now in
    let whole : take c.loop-byte.byte-index text ≡ text = take_all c.loop-byte.byte-index text c.loop-byte-test.false in
    let before = c.loop-byte.invariant in
    let value : c.loop-byte.number ≡ digits_value 10 text = before.1 ∙ ap (digits_value 10) whole in
    let some : 0 < length text = search rules in
    let small : digits_value 10 text < 2 ^ 64 = omega (arith, value, c.loop-byte.auto.number-fits) in
    digits_number text (subst (AllDigits 10) whole before.0) some small ∙ ap (λ n. Some (unsigned n)) (sym value)
