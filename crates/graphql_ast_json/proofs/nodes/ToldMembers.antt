-- Of ToldErrors: what is told of a member that is there, and of one that isn't; and of the first item that is of no tree.
use Rattle.std.proofs.Common.{◌≡◌, ℕ, suc, ◌<◌, List, ◌∷◌, ◌++◌, length, take, drop, get_or, Option, Some, None, IsSomeAnd, MatchOption}
use Rattle.std.proofs.Common.{sym, ap, ◌∙◌, subst, arith, drop-cons}
use Rattle.std.proofs.lemmas.List.{length-take-le, take-append-drop}
use Rattle.serde_json.specs.Data.{Data, null}
use Rattle.serde_json.specs.View.{items_of}
use Rattle.ast_json_nodes.specs.code.Paths.{item_name}
use Rattle.ast_json_nodes.specs.code.ToldErrors.{IsToldFrom, IsToldOfItemBy}
use Rattle.ast_json_nodes.specs.declared.error.AstJsonError.{AstJsonError}
use Rattle.ast_json_nodes.specs.nodes.Nodes.{Each}

pub where_none : {A : Type 0} (found : Option A) (P : Type 0) (Q : A → Type 0) → found ≡ None → P → MatchOption found P Q
where_none found P Q is p = subst (λ o. MatchOption o P Q) (sym is) p

pub where_some : {A : Type 0} (found : Option A) (x : A) (P : Type 0) (Q : A → Type 0) → found ≡ Some x → Q x → MatchOption found P Q
where_some found x P Q is q = subst (λ o. MatchOption o P Q) (sym is) q

pub and_some : {A : Type 0} (found : Option A) (x : A) (P : A → Type 0) → found ≡ Some x → P x → IsSomeAnd found P
and_some found x P is p = subst (λ o. IsSomeAnd o P) (sym is) p

-- the items before this one are of trees, it is of none, and this is told of it
pub first_told : {Tree : Type 0} (Is : Tree → Data → Type 0) (Told : Data → AstJsonError → Type 0) (items : List Data) (i : ℕ) (json : Data)
    (trees : List Tree) (inner error : AstJsonError) → i < length items → json ≡ get_or items i null → Each Is trees (items_of (take i items)) →
    ((tree : Tree) → ¬ Is tree json) → IsToldFrom (item_name i) (λ location told_location. told_location ≡ location) inner error → Told json inner →
    IsToldOfItemBy Is Told (items_of items) error
first_told Is Told items i json trees inner error within at are none told of = (
  record {
    before = take i items;
    json = json;
    after = drop (suc i) items;
    are = ap items_of (sym (take-append-drop i items) ∙ ap (λ (ds : List Data). take i items ++ ds)
        (drop-cons items i null within ∙ ap (λ (d : Data). d ∷ drop (suc i) items) (sym at)));
    trees = trees;
    read = are;
    none = none;
    inner = inner;
    told = subst (λ (n : ℕ). IsToldFrom (item_name n) (λ location told_location. told_location ≡ location) inner error)
        (sym (length-take-le i items (omega (arith, within)))) told;
  },
  of,
)
