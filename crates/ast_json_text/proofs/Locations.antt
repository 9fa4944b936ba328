-- Where nodes tell that they stand: as those do that are begun as values.
use Rattle.std.proofs.Common.{◌≡◌, ◌<◌, ◌^◌, IsTrue, List, [], ◌∷◌, Option, Some, None, IfSome, MatchOption, codes, option_and_then, option_map, refl, sym}
use Rattle.std.proofs.Common.{ap, ◌∙◌, subst, arith}
use Rattle.std.specs.Prelude.{⊤}
use Rattle.serde_json.specs.Data.{number, object, unsigned}
use Rattle.graphql_base.specs.Span.{span_end, span_start}
use Rattle.graphql_base.specs.declared.span.SourceSpan.{SourceSpan}
use Rattle.ast_json_nodes.specs.code.NodeReading.{StandsAt}
use Rattle.ast_json_nodes.specs.declared.read.Unknown.{Unknown}
use Rattle.ast_json_nodes.specs.nodes.Nodes.{IsLocation, member_of, present, stretch_in}
use Rattle.graphql_ast_json.specs.code.Drafts.{beginning, location_json}
use Rattle.graphql_ast_json.proofs.nodes.DraftsAreNodes.{IsWritten, are_apart, entry_at, is_node, stands}
use Rattle.graphql_ast_json.proofs.nodes.DraftsAreNodes as draft
use Rattle.json_text.specs.Texts.{IsPlain}
use Rattle.json_text.proofs.Entries.{Entry, entry_names, filled, plain_object}
use Rattle.json_text.proofs.PlainTexts.{plain_number}
use Rattle.ast_json_text.proofs.FilledNodes.{found}

begun : (location : Option SourceSpan) → IfSome location (λ span. span_end span < 2 ^ 32) → IsWritten [] location [] (object (beginning [] location))
begun location reach = record { are = refl; reach = reach }

told : (location : Option SourceSpan) → IfSome location (λ span. span_end span < 2 ^ 32) →
    member_of (codes "loc") (object (beginning [] location)) ≡ option_and_then present (option_map location_json location)
told location reach = ap (option_and_then present) (draft.found [] location [] (object (beginning [] location)) (begun location reach) refl (codes "loc"))

pub located : (unknown : Unknown) (location : Option SourceSpan) → IfSome location (λ span. span_end span < 2 ^ 32) →
    MatchOption (option_and_then present (option_map location_json location)) ⊤ (IsLocation unknown)
located unknown location reach =
    subst (λ o. MatchOption o ⊤ (IsLocation unknown)) (told location reach) (is_node unknown [] (begun location reach) refl refl refl refl).2

pub stands_at : (entries : List Entry) (location : Option SourceSpan) → IfSome location (λ span. span_end span < 2 ^ 32) →
    IsTrue (are_apart (entry_names entries)) → entry_at (codes "loc") entries ≡ option_map location_json location →
    StandsAt location (object (filled entries))
stands_at entries location reach apart at =
    stands (begun location reach) refl refl
    ∙ ap (option_and_then stretch_in) (told location reach ∙ sym (ap (option_and_then present) (found entries apart (codes "loc") ∙ at)))

location_plain : (span : SourceSpan) → span_end span < 2 ^ 32 → IsPlain (location_json span)
location_plain span reach =
    let entries : List Entry =
    (codes "end", Some (number (unsigned (span_end span)))) ∷ (codes "start", Some (number (unsigned (span_start span)))) ∷ [] in
    plain_object entries refl
    (plain_number (span_end span) (omega (arith, reach)), (plain_number (span_start span) (omega (arith, span.ordered, reach)), tt))

pub plain_location : (location : Option SourceSpan) → IfSome location (λ span. span_end span < 2 ^ 32) →
    MatchOption (option_map location_json location) ⊤ IsPlain
plain_location None reach = tt
plain_location (Some span) reach = location_plain span reach
