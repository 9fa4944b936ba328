-- A span is the stretch between its offsets, and what `SourceSpan::new` answers is the stretch that it was asked for.
use Rattle.std.proofs.Common.{◌≡◌, ◌≤◌, ◌+◌, ◌↔◌, ◌∙◌, ℕ, List, length, Option, Some, None, ap, sym, refl, arith}
use Rattle.std.specs.Prelude.{IsSome, IfSome}
use Rattle.std.proofs.lemmas.Bool.{false≢true}
use mathlib.Core.HLevel.{is_prop→PathP}
use native.Mathlib.Decide.{dec_le}
use Rattle.std.specs.Coded.{le_prop}
use Rattle.graphql_base.specs.Span.{span_file, span_start, span_end, span_len}
use Rattle.graphql_base.specs.Stretches.{stretch, ordered_stretch, text_stretch}
use Rattle.graphql_base.specs.declared.span.FileId.{FileId}
use Rattle.graphql_base.specs.declared.span.SourceSpan.{SourceSpan}

-- a span is its file and its offsets
pub same_span : (a b : SourceSpan) → span_file a ≡ span_file b → span_start a ≡ span_start b → span_end a ≡ span_end b → a ≡ b
same_span a b file start end = λ i. record {
  file_id = file i;
  start = start i;
  end = end i;
  ordered = is_prop→PathP (λ j. start j ≤ end j) (λ j. le_prop) a.ordered b.ordered i;
}

module _ (file : FileId) (start end : ℕ) where
  found : (span : SourceSpan) (tested : Dec (start ≤ end)) → span_file span ≡ file → span_start span ≡ start → span_end span ≡ end
      → Some span ≡ ordered_stretch file start end tested
  found span (yes ordered) is_file is_start is_end = ap Some (same_span span _ is_file is_start is_end)
  found span (no not_ordered) is_file is_start is_end = absurd (not_ordered (rw (sym is_start, sym is_end) span.ordered))

  not_found : (tested : Dec (start ≤ end)) → (start ≤ end → ⊥) → None ≡ ordered_stretch file start end tested
  not_found (yes ordered) above = absurd (above ordered)
  not_found (no _) above = refl

  -- by what `SourceSpan::new` says of its answer
  pub answered : (answer : Option SourceSpan) → IsSome answer ↔ (start ≤ end) → IfSome answer (λ span. span_file span ≡ file)
      → IfSome answer (λ span. span_start span ≡ start) → IfSome answer (λ span. span_end span ≡ end) → answer ≡ stretch file start end
  answered (Some span) ordered is_file is_start is_end = found span (dec_le start end) is_file is_start is_end
  answered None ordered is_file is_start is_end = not_found (dec_le start end) (λ is_ordered. false≢true (ordered.1 is_ordered))

pub between : (span : SourceSpan) → stretch (span_file span) (span_start span) (span_end span) ≡ Some span
between span = sym (found (span_file span) (span_start span) (span_end span) span (dec_le (span_start span) (span_end span)) refl refl refl)

-- a span as long as a text is the stretch from its start that the text fills
pub filled : (span : SourceSpan) (text : List ℕ) → span_len span ≡ length text → text_stretch (span_file span) (span_start span) text ≡ Some span
filled span text same_length =
    let ordered = span.ordered in
    let end : span_start span + length text ≡ span_end span = omega (arith, ordered, same_length) in
    ap (stretch (span_file span) (span_start span)) end ∙ between span
