-- A comma and a mark as one piece.
use Rattle.std.proofs.Common.{◌≡◌, ℕ, List, Option, [], ◌∷◌, ◌++◌, refl, ap₂, ◌∙◌, encode_utf8_all}
use Rattle.graphql_text.specs.layout.Layout.{Comma, Soft, Tight, item_text, text_of_items, raises, lowers}
use Rattle.graphql_text.specs.code.Writing.{WritesItems}
use Rattle.graphql_text.proofs.layout.TextOfItems.{laid_balanced, laid_one}

comma_soft : (mode : Option (List ℕ)) (level : ℕ) → text_of_items mode level 0 0 (Comma ∷ Soft ∷ []) ≡ 44 ∷ item_text mode level Soft
unfolding raises lowers
comma_soft mode level =
    laid_balanced mode level (Comma ∷ []) (Soft ∷ []) refl
    ∙ ap₂ (λ comma soft. comma ++ soft) (laid_one mode level Comma) (laid_one mode level Soft)

pub writes_comma_soft : {O : Type 0} {wrote : O → List ℕ → O → Type 0} {a b : O} {mode : Option (List ℕ)} {level : ℕ} →
    wrote a (encode_utf8_all (44 ∷ item_text mode level Soft)) b → WritesItems wrote a b mode level (Comma ∷ Soft ∷ [])
unfolding raises lowers
writes_comma_soft {mode = mode} {level = level} written = record { text = rw (comma_soft mode level) written; balanced = refl }

comma_tight : (mode : Option (List ℕ)) (level : ℕ) → text_of_items mode level 0 0 (Comma ∷ Tight ∷ []) ≡ 44 ∷ item_text mode level Tight
unfolding raises lowers
comma_tight mode level =
    laid_balanced mode level (Comma ∷ []) (Tight ∷ []) refl
    ∙ ap₂ (λ comma tight. comma ++ tight) (laid_one mode level Comma) (laid_one mode level Tight)

pub writes_comma_tight : {O : Type 0} {wrote : O → List ℕ → O → Type 0} {a b : O} {mode : Option (List ℕ)} {level : ℕ} →
    wrote a (encode_utf8_all (44 ∷ item_text mode level Tight)) b → WritesItems wrote a b mode level (Comma ∷ Tight ∷ [])
unfolding raises lowers
writes_comma_tight {mode = mode} {level = level} written = record { text = rw (comma_tight mode level) written; balanced = refl }
