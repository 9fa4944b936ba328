-- Lemmas, no definitions: how what was written to a text and to a formatter follows on.
use Rattle.std.proofs.Common.{◌≡◌, ℕ, List, [], ◌++◌, refl, ap, sym, ◌∙◌, append_assoc, append-nil, Bool, true, false}
use Rattle.std.specs.declared.fmt.Formatter.{Formatter}
use Rattle.std.proofs.lemmas.Grind.{put_two}
use Rattle.graphql_text.specs.code.Targets.{TextGrew, FormatterTook}

pub grew_nothing : (a : List ℕ) (s : Bool) → TextGrew a s [] a s
grew_nothing a true = tt
grew_nothing a false = sym (append-nil a)

pub grew_idle : (a : List ℕ) (s : Bool) (x : List ℕ) → s ≡ true → TextGrew a s x a s
grew_idle a true x e = tt
grew_idle a false x e = absurd cc

pub grew_more : (a b c : List ℕ) (s t u : Bool) (x y : List ℕ) → TextGrew a s x b t → TextGrew b t y c u → TextGrew a s (x ++ y) c u
grew_more a b c true t true x y h k = tt
grew_more a b c true true false x y h k = absurd k
grew_more a b c true false false x y h k = absurd h
grew_more a b c false t true x y h k = tt
grew_more a b c false true false x y h k = absurd k
grew_more a b c false false false x y h k = k ∙ ap (λ l. l ++ y) h ∙ append_assoc a x y

module _ {W : Type 0} (took : W → List ℕ → W → Type 0) where
  pub formatted_nothing : (a : Formatter W) (s : Bool) → FormatterTook took a s [] a s
  formatted_nothing a true = tt
  formatted_nothing a false = λ plain. record { wrote = record { parts = []; calls = refl; whole = refl }; plain = plain }

  pub formatted_idle : (a : Formatter W) (s : Bool) (x : List ℕ) → s ≡ true → FormatterTook took a s x a s
  formatted_idle a true x e = tt
  formatted_idle a false x e = absurd cc

  pub formatted_more : (a b c : Formatter W) (s t u : Bool) (x y : List ℕ) → FormatterTook took a s x b t → FormatterTook took b t y c u →
      FormatterTook took a s (x ++ y) c u
  formatted_more a b c true t true x y h k = tt
  formatted_more a b c true true false x y h k = absurd k
  formatted_more a b c true false false x y h k = absurd h
  formatted_more a b c false t true x y h k = tt
  formatted_more a b c false true false x y h k = absurd k
  formatted_more a b c false false false x y h k = λ plain. put_two took a b c x y (x ++ y) (h plain) (k (h plain).plain) refl
