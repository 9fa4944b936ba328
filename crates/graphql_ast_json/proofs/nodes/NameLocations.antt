-- A name has the location that its node tells, if that is as long as the name.
use Rattle.std.proofs.Common.{◌≡◌, ◌≢◌, ℕ, Bool, true, false, Option, Some, None, IfSome, option_map, if◌then◌else◌, eqb, refl, sym, ap, ◌∙◌}
use Rattle.std.proofs.lemmas.Bool.{eq-eqb, eqb-true}
use Rattle.graphql_base.specs.Span.{span_len}
use Rattle.graphql_base.specs.declared.span.SourceSpan.{SourceSpan}
use Rattle.ast_json_nodes.specs.code.NodeReading.{stretch_of}
use Rattle.ast_json_nodes.specs.nodes.Nodes.{Stretch, as_long_as}

pub fits : (n : ℕ) (span : SourceSpan) → span_len span ≡ n → Some (stretch_of span) ≡ as_long_as n (Some (stretch_of span))
fits n span long = ap (λ b. if b then Some (stretch_of span) else None) (sym (eq-eqb (span_len span) n long))

unfit_at : (b : Bool) (n : ℕ) (span : SourceSpan) → eqb (span_len span) n ≡ b → span_len span ≢ n → None ≡ (if b then Some (stretch_of span) else None)
unfit_at true n span same long = absurd (long (eqb-true (span_len span) n same))
unfit_at false n span same long = refl

pub unfit : (n : ℕ) (span : SourceSpan) → span_len span ≢ n → None ≡ as_long_as n (Some (stretch_of span))
unfit n span long = unfit_at (eqb (span_len span) n) n span refl long

-- a location as long as the name is kept
kept : (n : ℕ) (span : SourceSpan) (told : Option Stretch) → option_map stretch_of (Some span) ≡ told → span_len span ≡ n →
    option_map stretch_of (Some span) ≡ as_long_as n told
kept n span told stands long = fits n span long ∙ ap (as_long_as n) stands

-- so is what a name has
pub had : (n : ℕ) (location : Option SourceSpan) (told : Option Stretch) → IfSome location (λ span. span_len span ≡ n) →
    option_map stretch_of location ≡ told → option_map stretch_of location ≡ as_long_as n told
had n None told long stands = ap (as_long_as n) stands
had n (Some span) told long stands = kept n span told stands long
