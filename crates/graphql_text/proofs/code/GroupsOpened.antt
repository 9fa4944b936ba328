-- Groups are opened and gone through item by item.
use Rattle.std.proofs.Common.{◌≡◌, Bool, true, false, List, [], ◌∷◌, ◌++◌, refl, ap, ◌∙◌, append_assoc}
use Rattle.graphql_text.specs.lexical.Tokens.{Punctuator, lbrace, rbrace, Punctuation}
use Rattle.graphql_text.specs.layout.Layout.{Item, Word, Comma, Soft, Tight, Raise, Lower, each_after, last_comma, comma_group, curly_group}
use Rattle.graphql_text.specs.code.Groups.{comma_rest, curly_rest}

regroup : (x e l m n : List Item) → (((x ++ e) ++ l) ++ m) ++ n ≡ x ++ (((e ++ l) ++ m) ++ n)
regroup x e l m n = ap (λ t. (t ++ m) ++ n) (append_assoc x e l) ∙ ap (λ t. t ++ n) (append_assoc x (e ++ l) m) ∙ append_assoc x ((e ++ l) ++ m) n

module _ (closing : Punctuator) (broken : Bool) where
  rest_is : (xs : List (List Item)) →
      ((each_after (Comma ∷ Soft ∷ []) (Comma ∷ Soft ∷ []) xs ++ last_comma broken) ++ (Lower ∷ []))
      ++ (Tight ∷ Word (Punctuation closing) ∷ [])
      ≡ comma_rest closing broken false xs
  unfolding each_after
  rest_is [] = append_assoc (last_comma broken) (Lower ∷ []) (Tight ∷ Word (Punctuation closing) ∷ [])
  rest_is (x ∷ xs) =
      ap (λ t. Comma ∷ Soft ∷ t) (regroup x (each_after (Comma ∷ Soft ∷ []) (Comma ∷ Soft ∷ []) xs) (last_comma broken) (Lower ∷ [])
      (Tight ∷ Word (Punctuation closing) ∷ [])
      ∙ ap (λ t. x ++ t) (rest_is xs))

  -- a comma group that isn't empty
  pub comma_group_opened : (opening : Punctuator) (x : List Item) (xs : List (List Item)) →
      comma_group opening closing broken (x ∷ xs) ≡ Word (Punctuation opening) ∷ Raise ∷ comma_rest closing broken true (x ∷ xs)
  unfolding each_after
  comma_group_opened opening x xs =
      ap (λ t. Word (Punctuation opening) ∷ Raise ∷ Tight ∷ t)
      (regroup x (each_after (Comma ∷ Soft ∷ []) (Comma ∷ Soft ∷ []) xs) (last_comma broken) (Lower ∷ [])
      (Tight ∷ Word (Punctuation closing) ∷ [])
      ∙ ap (λ t. x ++ t) (rest_is xs))

regroup_lines : (x e m n : List Item) → ((x ++ e) ++ m) ++ n ≡ x ++ ((e ++ m) ++ n)
regroup_lines x e m n = ap (λ t. t ++ n) (append_assoc x e m) ∙ append_assoc x (e ++ m) n

lines_are : (xs : List (List Item)) → (each_after (Soft ∷ []) (Soft ∷ []) xs ++ (Lower ∷ [])) ++ (Soft ∷ Word (Punctuation rbrace) ∷ []) ≡ curly_rest xs
unfolding each_after
lines_are [] = refl
lines_are (x ∷ xs) =
    ap (λ t. Soft ∷ t) (regroup_lines x (each_after (Soft ∷ []) (Soft ∷ []) xs) (Lower ∷ []) (Soft ∷ Word (Punctuation rbrace) ∷ [])
    ∙ ap (λ t. x ++ t) (lines_are xs))

-- a curly group that isn't empty
pub curly_group_opened : (x : List Item) (xs : List (List Item)) → curly_group (x ∷ xs) ≡ Word (Punctuation lbrace) ∷ Raise ∷ curly_rest (x ∷ xs)
unfolding each_after
curly_group_opened x xs = ap (λ t. Word (Punctuation lbrace) ∷ Raise ∷ t) (lines_are (x ∷ xs))
