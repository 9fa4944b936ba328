use Rattle.std.proofs.Common.{rules, IfOk, ◌≡◌, ℕ, ◌+◌, ◌≤◌, length, List, [], ◌++◌, string_bytes, sym, ap, ◌∙◌, subst, arith}
use Rattle.std.specs.Str.{chars, IsUtf8}
use Rattle.std.proofs.lemmas.Str.{IsUtf8-string_bytes, IsUtf8-past_char, chars-nil}
use Rattle.std.proofs.lemmas.List.{nil_from_length}
use Rattle.std.proofs.lemmas.Grind.{common_steps}
use Rattle.std.specs.Str.Iter.{chars_rest}
use Rattle.ast_json_nodes.proofs.general.Excerpts.{one_char_more, cut_behind, all_told}
use Rattle.ast_json_nodes.proofs.error.Excerpt.new.Goals as goal

pub loop-character-init : goal.loop-character-init
unfolding chars
loop-character-init c =
    let rest : chars_rest c.into_iter-character-iterator.result ≡ c.args.found.now = grind (arith, common_steps) in (
      subst IsUtf8 (sym rest) c.utf8.found,
      sym (ap (λ (bs : List ℕ). chars bs ++ chars (chars_rest c.into_iter-character-iterator.result)) c.new-text.ensures.bytes ∙ ap chars rest),
      ap (λ (bs : List ℕ). length (chars bs)) c.new-text.ensures.bytes,
      omega arith,
    )

pub returns-then-count-eq-EXCERPT : goal.returns-then-count-eq-EXCERPT
returns-then-count-eq-EXCERPT c =
    cut_behind _ _ _ _ _ 60 c.loop-character.invariant.0 c.in-Some.ensures.steps.0 c.loop-character.invariant.1
    (omega (arith, c.loop-character.invariant.2, c.if-count-eq-EXCERPT.true))

pub loop-character-preserved : goal.loop-character-preserved
loop-character-preserved c =
    let more = one_char_more _ (string_bytes c.loop-character.text) _ _ c.in-Some.character (IsUtf8-string_bytes c.loop-character.text)
    c.loop-character.invariant.0 c.in-Some.ensures.steps.0 c.loop-character.invariant.1 in (
      IsUtf8-past_char _ _ c.in-Some.character c.loop-character.invariant.0 c.in-Some.ensures.steps.0,
      subst (λ (bs : List ℕ). chars c.args.found.now ≡ chars bs ++ chars (chars_rest c.next.new.self)) (sym c.in_ok-push.ensures.bytes) more.0,
      ap (λ (bs : List ℕ). length (chars bs)) c.in_ok-push.ensures.bytes ∙ more.1 ∙ ap (λ n. n + 1) c.loop-character.invariant.2,
      omega (arith, c.loop-character.invariant.3, c.if-count-eq-EXCERPT.false),
    )

pub returns : goal.returns
returns c =
    all_told _ _ _ 60 (nil_from_length _ c.in-None.ensures.steps.0.0) c.loop-character.invariant.1
    (omega (arith, c.loop-character.invariant.2, c.loop-character.invariant.3))
